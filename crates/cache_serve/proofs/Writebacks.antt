-- What writing back, flushing and a flush of the log are to the queue, on the bytes. Assumes nothing.
use mathlib.Core.Path.{◌≡◌, refl, sym, ap, subst, ◌∙◌}
use mathlib.Core.Logic.{◌≢◌}
use mathlib.Core.Bool.{Bool, true, false, cond, false≢true}
use mathlib.Core.List.{List, [], ◌∷◌}
use Prim.Native.Nat.{ℕ, ◌+◌, ◌*◌, ◌≤◌, ◌<◌}
use native.Mathlib.Nat.{add-zero}
use native.Mathlib.Decide.{ℕ_discrete, dec_lt}
use native.Mathlib.Omega.{arith}
use lib.ListN.{length, get_or, drop}
use lib.Seq.{get_or-set_same, get_or-set_other}
use Rattle.types.specs.declared.Step.TheVariants.{Flush}
use Rattle.landlord.specs.Fold.{fold}
use Rattle.landlord.specs.Catalog.{item_at}
use Rattle.landlord.specs.Slot.{Slot, Split, clean, dirty, held, is_dirty, load_credit, write_credit, split_of, lose, flushed}
use Rattle.landlord.specs.Rule.{wrote_back, flush_step}
use Rattle.landlord.specs.Figures.{Use, use_of, use_at, usage, is_about, no_use, plus_use}
use Rattle.landlord.specs.Valid.{StandingOk}
use Rattle.landlord.specs.Inner.{ItemFacts}
use Rattle.landlord.proofs.Folds.{tab_at}
use Rattle.landlord.proofs.Slots.{flush_kept, flush_held, flush_clean, lose_held, deduction_ok}
use Rattle.landlord.proofs.Ranges.{catalog_facts}
use Rattle.marks.specs.Inner.{marks, first_set}
use Rattle.marks.proofs.Laws.{NextMark, next_is}
use Rattle.queue.specs.Queue.{stored_at, key_at, now_at, reckoned}
use Rattle.queue.specs.Machine.{LazyStanding, LazyOk, moved_in, took_in, step_in}
use Rattle.queue.proofs.Losses.{now_kept, deduction_adds}
use Rattle.queue.proofs.Agrees.{reckon_ok}
use Rattle.cache_state.specs.Cache.{Cache, dirty_at, held_at, catalog_of, slots_of, keys_of, uses_of, lazy, view, Normal, Valid}
use Rattle.cache_state.specs.InnerView.{usage_of, slot_from, queue_of, counts_of, figures_of}
use Rattle.cache_state.specs.InnerWith.{with_dirty}
use Rattle.cache_state.proofs.Views.{size_is, item_is, stored_held, use_is}
use Rattle.cache_state.proofs.Stored.{dirty_here, load_here, write_here}
use Rattle.cache_state.proofs.Normals.{figures_normal}
use Rattle.layout.specs.Layout.{cache_of, ValidBytes}
use Rattle.layout.specs.Inner.{Stands, Readable, BecomesAt}
use Rattle.layout.proofs.Rounds.{whole}
use Rattle.layout.proofs.Places.{valid_reads}
use Rattle.cache_counts.specs.declared.Total.TheVariants.{Flushes}
use Rattle.cache_counts.specs.Inner.{step_counted, PayableAt}
use Rattle.cache_room.specs.Inner.{requeued, ReckonableAt, ReckonedAt}
use Rattle.cache_serve.specs.InnerStores.{wrote_back_of, WroteBackAt}
use Rattle.cache_serve.specs.InnerReady.{SteppableAt, KeyedAt}
use Rattle.cache_serve.proofs.Bounds.{item_writebacks}
use Rattle.cache_serve.proofs.Losses.{Losing, losing, now_is}
use Rattle.cache_serve.proofs.Changes.{plus_none, about_one, counts_lazy, counts_normal, restored, marks_lazy, marks_normal}
use Rattle.cache_serve.proofs.Queues.{under, stored_same, stored_other, reckoned_count, Tallied, valid_tallied, holds_of}
use Rattle.cache_serve.proofs.Flushes.{back_one, flush_from, from_first, from_none}

-- a dirty item is held, and in the catalog
dirty_held_lem : (c : Cache) (i : ℕ) → Normal c → i < c.n → dirty_at c i ≡ true → held_at c i ≡ true
dirty_held_lem c i ok l d = go (held_at c i) refl
  where
    go : (t : Bool) → held_at c i ≡ t → held_at c i ≡ true
    go true e = e
    go false e = absurd (false≢true (sym (ok.absent i l e).dirty ∙ d))

dirty_in : (c : Cache) (i : ℕ) → Normal c → i < 256 → dirty_at c i ≡ true → i < c.n
dirty_in c i ok l d = go (dec_lt i c.n)
  where
    go : Dec (i < c.n) → i < c.n
    go (yes m) = m
    go (no m) = absurd (false≢true (sym (ok.past i (omega arith) l).place.slot.dirty ∙ d))

-- a dirty slot that is written back keeps its load credit as it stands
back_slot : (split : Split) (s loss : ℕ) (d : Bool) (a w : ℕ) → clean (load_credit (lose split s loss (slot_from true d a w))) ≡ flushed (lose split s loss (slot_from true d a w))
back_slot split s loss true a w = refl
back_slot split s loss false a w = refl

-- the writeback of item i is counted
module _ (d : Cache) (i : ℕ) (size : length d.itemwritebacks ≡ 256) (ok : Normal d) (l : i < d.n) (ws : List ℕ) where
  abbrev backed : Cache
  backed = wrote_back_of d i ws

  one : get_or backed.itemwritebacks i 0 ≡ get_or d.itemwritebacks i 0 + 1
  one = get_or-set_same d.itemwritebacks i (get_or d.itemwritebacks i 0 + 1) 0 (omega (arith, ok.few))

  other : (j : ℕ) → j ≢ i → get_or backed.itemwritebacks j 0 ≡ get_or d.itemwritebacks j 0
  other j e = get_or-set_other d.itemwritebacks i j (get_or d.itemwritebacks i 0 + 1) 0 e

  back_lazy : lazy backed ≡ moved_in (lazy (with_dirty d ws)) (record { queue = queue_of (with_dirty d ws); events = wrote_back i ∷ [] }) d.closed
  back_lazy =
      counts_lazy (with_dirty d ws) d.minutes d.itemloads backed.itemwritebacks (counts_of backed) (wrote_back i) (add-zero _)
      (simp (add-zero, item_is (with_dirty d ws) i l))
      (λ j b. about_one (with_dirty d ws) backed i (wrote_back i) (λ k. refl)
      (λ k e. λ z. use_of (get_or d.minutes k 0) (get_or d.itemloads k 0) (other k e z)) (simp (one, add-zero)) j)

  back_normal : Normal (with_dirty d ws) → Normal backed
  back_normal n =
      counts_normal (with_dirty d ws) d.minutes d.itemloads backed.itemwritebacks (counts_of backed) n (λ j b m. (n.past j b m).place.minutes)
      (λ j b m. (n.past j b m).place.loads) (λ j b m. other j (λ q. omega arith) ∙ (n.past j b m).place.writebacks)

-- In a flush of the bytes b, with the items below `at` done: what is left to do leads where the whole leads. An item is written back at
-- most once, so no count has grown by more than `at`.
pub record FlushingAt (b q : List ℕ) (at : ℕ) : Type 0 where
  pub reads : Readable q
  pub normal : Normal (cache_of q)
  pub good : LazyOk (lazy (cache_of q))
  pub tallied : Tallied (lazy (cache_of q))
  pub drops : (cache_of q).evictions ≤ 1000000
  pub within : at ≤ 256
  pub done : (j : ℕ) → j < at → dirty_at (cache_of q) j ≡ false
  pub total : (cache_of q).writebacks ≤ 1000000 + at
  pub own : (j : ℕ) → j < (cache_of q).n → get_or (cache_of q).itemwritebacks j 0 ≤ 1000000 + at
  pub cost : (cache_of q).writecost ≤ 65535 * (1000000 + at)
  pub goal : flush_from (lazy (cache_of q)) ≡ flush_from (lazy (cache_of b))

pub flush_starts : (b : List ℕ) → ValidBytes b → FlushingAt b b 0
flush_starts b p =
    let ok : Valid (cache_of b) = p.cache in
    record {
      reads = valid_reads p;
      normal = ok.fields;
      good = ok.lazy;
      tallied = valid_tallied (cache_of b) ok;
      drops = omega (arith, ok.standing.evictions, ok.standing.steps, ok.standing.taken);
      within = omega arith;
      done = λ j l. absurd (let z : j < 0 = l in omega arith);
      total = omega (arith, ok.standing.writebacks, ok.standing.taken);
      own = λ j l. omega (arith, item_writebacks (cache_of b) ok j l, ok.standing.writebacks, ok.standing.taken);
      cost = omega (arith, ok.standing.write_cost, ok.standing.writebacks, ok.standing.taken);
      goal = refl;
    }

-- i is the lowest dirty item, or 256
module _
    (b q : List ℕ) (at i : ℕ) (words : List ℕ) (f : FlushingAt b q at) (is : words ≡ (cache_of q).dirty)
    (e : i ≡ at + first_set (drop at (marks words))) where
  found : NextMark (cache_of q).dirty at i
  found = next_is (cache_of q).dirty at i f.within (e ∙ ap (λ (ws : List ℕ). at + first_set (drop at (marks ws))) is)

  -- below it every item is clean
  below : (j : ℕ) → j < i → dirty_at (cache_of q) j ≡ false
  below j l = go (dec_lt j at)
    where
      go : Dec (j < at) → dirty_at (cache_of q) j ≡ false
      go (yes m) = f.done j m
      go (no m) = found.before j (omega arith) l

  below_stored : (j : ℕ) → j < i → j < (cache_of q).n → is_dirty (stored_at (queue_of (cache_of q)) j) ≡ false
  below_stored j m l = dirty_here (cache_of q) f.normal j l ∙ below j m

  pub flush_ends : 256 ≤ i → BecomesAt (flush_from (lazy (cache_of b))) q
  flush_ends l =
      record {
        reads = f.reads;
        cache =
            record {
              stands =
                  sym (from_none (lazy (cache_of q)) f.good.queue.slots f.good.queue.keys
                  (λ j m. let n : j < (cache_of q).n = rw (size_is (cache_of q)) at m in below_stored j (omega (arith, f.normal.few)) n))
                  ∙ f.goal;
              fields = f.normal;
            };
      }

  module _ (l : i < 256) where
    here : i < (cache_of q).n
    here = dirty_in (cache_of q) i f.normal l (found.here l)

    inside : i < length (catalog_of (cache_of q))
    inside = rw (size_is (cache_of q)) here

    is_held : held_at (cache_of q) i ≡ true
    is_held = dirty_held_lem (cache_of q) i f.normal here (found.here l)

    pub flush_keyed : KeyedAt q i
    flush_keyed = record { reads = f.reads; fields = f.normal; lazy = f.good; drops = f.drops; known = here; is_held = is_held }

    lost : Losing (cache_of q) i
    lost = losing (cache_of q) f.normal f.good f.drops i here is_held

    facts : ItemFacts (item_at (catalog_of (cache_of q)) i)
    facts = (catalog_facts (catalog_of (cache_of q)) f.good.catalog).each i inside

    stored_kept : held (stored_at (queue_of (cache_of q)) i) ≡ true
    stored_kept = stored_held (cache_of q) i here ∙ is_held

    abbrev now : Slot
    now = now_at (split_of (cache_of q).rule) (queue_of (cache_of q)) i

    module _ (load : ℕ) (el : load ≡ load_credit (now_at (split_of (cache_of q).rule) (queue_of (cache_of q)) i)) where
      pub flush_reckonable : ReckonableAt q i load 0
      flush_reckonable =
          record {
            holds =
                holds_of (lazy (cache_of q)) q i (record { reads = f.reads; cache = record { stands = refl; fields = f.normal } }) f.tallied inside stored_kept;
            clean = λ e. refl;
            some = lost.facts.some;
            fits = omega (arith, el, lost.load_now, lost.load, lost.level);
          }

      module _ (q1 : List ℕ) (s1 : ReckonedAt q i load 0 q1) where
        -- the slot is dirty still, without write credit
        lazy1 : lazy (cache_of q1) ≡ requeued (lazy (cache_of q)) (reckoned (queue_of (cache_of q)) i (dirty load 0))
        lazy1 =
            s1.becomes.stands
            ∙ ap (λ (t : Bool). requeued (lazy (cache_of q)) (reckoned (queue_of (cache_of q)) i (slot_from true t load 0))) (found.here l)

        here1 : i < (cache_of q1).n
        here1 = omega (arith, size_is (cache_of q1), ap (λ (v : LazyStanding). length v.queue.catalog) lazy1, inside)

        stored1 : stored_at (queue_of (cache_of q1)) i ≡ dirty load 0
        stored1 =
            ap (λ (v : LazyStanding). stored_at v.queue i) lazy1 ∙ stored_same (queue_of (cache_of q)) i (dirty load 0) inside f.good.queue.slots

        held1 : held_at (cache_of q1) i ≡ true
        held1 = sym (stored_held (cache_of q1) i here1) ∙ ap held stored1

        load1 : get_or (cache_of q1).loadcredit i 0 ≡ load
        load1 = sym (load_here (cache_of q1) s1.becomes.fields i here1) ∙ ap load_credit stored1

        write1 : get_or (cache_of q1).writecredit i 0 ≡ 0
        write1 = sym (write_here (cache_of q1) s1.becomes.fields i here1) ∙ ap write_credit stored1

        pub flushable : PayableAt q1 i
        flushable =
            record {
              reads = s1.reads;
              counts =
                  record {
                    place = l;
                    total = omega (arith, ap (λ (v : LazyStanding). v.figures.totals.writebacks) lazy1, f.total, f.within);
                    own =
                        omega (
                          arith,
                          ap (λ (u : Use). u.writebacks) (use_is (cache_of q1) i here1),
                          ap (λ (v : LazyStanding). (use_at v.figures i).writebacks) lazy1,
                          ap (λ (u : Use). u.writebacks) (use_is (cache_of q) i here),
                          f.own i here,
                          f.within,
                        );
                    cost = omega (arith, ap (λ (v : LazyStanding). v.figures.totals.write_cost) lazy1, f.cost, f.within);
                  };
            }

        module _ (next : List ℕ) (s2 : WroteBackAt q1 i next) where
          marked_lazy :
              lazy (with_dirty (cache_of q1) (cache_of next).dirty)
              ≡ requeued (lazy (cache_of q1)) (restored (queue_of (cache_of q1)) i (slot_from true false (get_or (cache_of q1).loadcredit i 0) (get_or (cache_of q1).writecredit i 0)))
          marked_lazy = marks_lazy (cache_of q1) i (cache_of next).dirty false s1.becomes.fields here1 held1 s2.cache.mark

          normal2 : Normal (cache_of next)
          normal2 =
              subst Normal (sym s2.cache.store)
              (back_normal (cache_of q1) i (whole q1).itemwritebacks s1.becomes.fields here1 (cache_of next).dirty
              (marks_normal (cache_of q1) i (cache_of next).dirty false s1.becomes.fields here1 held1 s2.cache.mark (λ e. write1)))

          slot : clean load ≡ flushed (now_at (split_of (cache_of q).rule) (queue_of (cache_of q)) i)
          slot =
              let n : now_at (split_of (cache_of q).rule) (queue_of (cache_of q)) i ≡ _ = now_is (cache_of q) f.normal f.good f.drops i here is_held in
              ap clean el
              ∙ ap (λ (x : Slot). clean (load_credit x)) n
              ∙ back_slot (split_of (cache_of q).rule) _ _ (dirty_at (cache_of q) i) _ _
              ∙ sym (ap flushed n)

          lazy2 : lazy (cache_of next) ≡ moved_in (lazy (cache_of q)) (back_one (split_of (cache_of q).rule) i (queue_of (cache_of q))) (cache_of q).closed
          unfolding fold
          lazy2 =
              ap lazy s2.cache.store
              ∙ back_lazy (cache_of q1) i (whole q1).itemwritebacks s1.becomes.fields here1 (cache_of next).dirty
              ∙ ap (λ (v : LazyStanding). moved_in v (record { queue = v.queue; events = wrote_back i ∷ [] }) v.closed) marked_lazy
              ∙ (λ z.
              moved_in (requeued (lazy1 z) (restored (lazy1 z).queue i (clean (load1 z))))
              (record { queue = restored (lazy1 z).queue i (clean (load1 z)); events = wrote_back i ∷ [] }) (lazy1 z).closed)
              ∙ (λ z.
              moved_in (lazy (cache_of q)) (record { queue = under (queue_of (cache_of q)) i (dirty load 0) (clean load) refl z; events = wrote_back i ∷ [] }) (cache_of q).closed)
              ∙ (λ z.
              moved_in (lazy (cache_of q)) (record { queue = reckoned (queue_of (cache_of q)) i (slot z); events = wrote_back i ∷ [] }) (cache_of q).closed)

          abbrev turned : LazyStanding
          turned = moved_in (lazy (cache_of q)) (back_one (split_of (cache_of q).rule) i (queue_of (cache_of q))) (cache_of q).closed

          good2 : LazyOk turned
          unfolding fold
          good2 =
              record {
                catalog = f.good.catalog;
                queue =
                    reckon_ok (split_of (cache_of q).rule) (deduction_ok (cache_of q).rule) (deduction_adds (cache_of q).rule) (queue_of (cache_of q))
                    f.good.catalog f.good.queue i (flushed now) inside
                    (flush_kept (item_at (catalog_of (cache_of q)) i) now
                    (now_kept (split_of (cache_of q).rule) (deduction_ok (cache_of q).rule) (deduction_adds (cache_of q).rule) (item_at (catalog_of (cache_of q)) i)
                    facts.some (cache_of q).level (key_at (queue_of (cache_of q)) i) (stored_at (queue_of (cache_of q)) i) (f.good.queue.slot i inside)
                    (λ h. f.good.queue.key i inside h)))
                    flushed_held;
                level = omega (arith, f.good.level);
              }
            where
              flushed_held : held (flushed now) ≡ true
              flushed_held = flush_held now ∙ lose_held (split_of (cache_of q).rule) _ _ (stored_at (queue_of (cache_of q)) i) ∙ stored_kept

          tallied2 : Tallied turned
          unfolding fold
          tallied2 =
              record {
                count =
                    omega (
                      arith,
                      f.tallied.count,
                      reckoned_count (queue_of (cache_of q)) i (flushed now) inside f.good.queue.slots
                          (flush_held now ∙ lose_held (split_of (cache_of q).rule) _ _ (stored_at (queue_of (cache_of q)) i) ∙ stored_kept),
                      ap {B = ℕ} (λ (t : Bool). cond t 1 0) stored_kept,
                    );
              }

          -- what a writeback adds to a line is at most one
          adds_one : (u : Bool) → (cond u (usage (wrote_back i)) no_use).writebacks ≤ 1
          adds_one true = omega arith
          adds_one false = omega arith

          own2 : (j : ℕ) → j < (cache_of next).n → get_or (cache_of next).itemwritebacks j 0 ≤ 1000000 + (i + 1)
          unfolding fold
          own2 j m =
              let n : j < (cache_of q).n = omega (arith, size_is (cache_of next), size_is (cache_of q), ap (λ (v : LazyStanding). length v.queue.catalog) lazy2) in
              omega (
                arith,
                ap (λ (u : Use). u.writebacks) (use_is (cache_of next) j m),
                ap (λ (v : LazyStanding). (use_at v.figures j).writebacks) lazy2,
                ap (λ (u : Use). u.writebacks)
                    (tab_at (length (catalog_of (cache_of q)) + 0) (λ k. plus_use (use_at (figures_of (cache_of q)) k) (cond (is_about k (wrote_back i)) (usage (wrote_back i)) no_use)) j no_use
                    (omega (arith, size_is (cache_of q), n))),
                ap (λ (u : Use). u.writebacks) (use_is (cache_of q) j n),
                adds_one (is_about j (wrote_back i)),
                f.own j n,
                found.after,
              )

          done2 : (j : ℕ) → j < i + 1 → dirty_at (cache_of next) j ≡ false
          done2 j m = go (dec_lt j (cache_of next).n) (ℕ_discrete j i)
            where
              go : Dec (j < (cache_of next).n) → Dec (j ≡ i) → dirty_at (cache_of next) j ≡ false
              go (no n) d = (normal2.past j (omega arith) (omega arith)).place.slot.dirty
              go (yes n) (yes d) =
                  sym (dirty_here (cache_of next) normal2 j n)
                  ∙ ap (λ (v : LazyStanding). is_dirty (stored_at v.queue j)) lazy2
                  ∙ ap (λ (k : ℕ). is_dirty (stored_at turned.queue k)) d
                  ∙ ap is_dirty (stored_same (queue_of (cache_of q)) i (flushed now) inside f.good.queue.slots)
                  ∙ flush_clean now
              go (yes n) (no d) =
                  let k : j < (cache_of q).n = omega (arith, size_is (cache_of next), size_is (cache_of q), ap (λ (v : LazyStanding). length v.queue.catalog) lazy2) in
                  sym (dirty_here (cache_of next) normal2 j n)
                  ∙ ap (λ (v : LazyStanding). is_dirty (stored_at v.queue j)) lazy2
                  ∙ ap is_dirty (stored_other (queue_of (cache_of q)) i (flushed now) inside f.good.queue.slots j d)
                  ∙ below_stored j (omega arith) k

          pub flush_turn : FlushingAt b next (i + 1)
          unfolding fold
          flush_turn =
              record {
                reads = s2.reads;
                normal = normal2;
                good = subst LazyOk (sym lazy2) good2;
                tallied = subst Tallied (sym lazy2) tallied2;
                drops = omega (arith, ap (λ (v : LazyStanding). v.figures.totals.evictions) lazy2, f.drops);
                within = omega arith;
                done = done2;
                total = omega (arith, ap (λ (v : LazyStanding). v.figures.totals.writebacks) lazy2, f.total, found.after);
                own = own2;
                cost = omega (arith, ap (λ (v : LazyStanding). v.figures.totals.write_cost) lazy2, f.cost, facts.write, found.after);
                goal =
                    ap flush_from lazy2
                    ∙ from_first (lazy (cache_of q)) f.good.queue.slots f.good.queue.keys i inside (dirty_here (cache_of q) f.normal i here ∙ found.here l)
                    (λ j m. below_stored j m (omega (arith, here)))
                    ∙ f.goal;
              }

-- ---- a flush of the log

module _ (b b1 : List ℕ) (p : SteppableAt b) (s : Stands b1 (step_counted (cache_of b) Flushes)) where
  flushed_lazy : lazy (step_counted (cache_of b) Flushes) ≡ moved_in (lazy (cache_of b)) (record { queue = queue_of (cache_of b); events = flush_step ∷ [] }) (cache_of b).closed
  flushed_lazy =
      counts_lazy (cache_of b) (cache_of b).minutes (cache_of b).itemloads (cache_of b).itemwritebacks (counts_of (step_counted (cache_of b) Flushes)) flush_step (add-zero _)
      (simp add-zero) (λ j l. plus_none (usage_of (cache_of b) j))

  flushed_valid : Valid (step_counted (cache_of b) Flushes)
  unfolding catalog_of slots_of keys_of uses_of
  flushed_valid =
      let n : Normal (cache_of b) = p.valid.cache.fields in
      let v : StandingOk (view (cache_of b)) = p.valid.cache.standing in
      record {
        fields =
            figures_normal (cache_of b) (cache_of b).itemwritebacks (counts_of (step_counted (cache_of b) Flushes)) (cache_of b).closed n
            (λ i l m. (n.past i l m).place.writebacks);
        lazy = record { catalog = p.valid.cache.lazy.catalog; queue = p.valid.cache.lazy.queue; level = p.valid.cache.lazy.level };
        standing =
            record {
              capacity = v.capacity;
              kept = v.kept;
              steps = omega (arith, v.steps);
              retirements = v.retirements;
              taken = omega (arith, p.room);
              evictions = v.evictions;
              dirty_evictions = v.dirty_evictions;
              dirty_written = v.dirty_written;
              writebacks = omega (arith, v.writebacks);
              load_cost = v.load_cost;
              write_cost = v.write_cost;
              uses = v.uses;
              loads_add = v.loads_add;
              writebacks_add = v.writebacks_add;
              minutes = λ i l. omega (arith, v.minutes i l);
              closed = v.closed;
            };
      }

  pub flushed_valid_at : ValidBytes b1
  flushed_valid_at = record { size = s.size; allowed = s.allowed; cache = subst Valid (sym s.cache) flushed_valid }

  pub flush_step_at : (next : List ℕ) → BecomesAt (flush_from (lazy (cache_of b1))) next → BecomesAt (took_in (lazy (cache_of b)) Flush) next
  unfolding fold step_in took_in
  flush_step_at next r =
      record {
        reads = r.reads;
        cache =
            record {
              stands = r.cache.stands ∙ ap flush_from (ap lazy s.cache ∙ flushed_lazy);
              fields = r.cache.fields;
            };
      }
