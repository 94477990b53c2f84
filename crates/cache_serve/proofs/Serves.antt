-- What serving a request is to the queue: a read, where the item was held or not, and a write after it. Assumes nothing.
use mathlib.Core.Path.{◌≡◌, refl, sym, ap, subst, ◌∙◌}
use mathlib.Core.Logic.{◌≢◌}
use mathlib.Core.Bool.{Bool, true, false, cond, false≢true}
use mathlib.Core.List.{List, [], ◌∷◌}
use Prim.Native.Nat.{ℕ, ◌+◌, ◌≤◌, ◌<◌}
use native.Mathlib.Nat.{add-zero}
use native.Mathlib.Omega.{arith}
use lib.ListN.{length, get_or, set}
use lib.Seq.{get_or-set_same, get_or-set_other}
use Rattle.landlord.specs.Fold.{fold}
use Rattle.landlord.specs.Catalog.{Item, full, item_at}
use Rattle.landlord.specs.Slot.{Slot, Split, absent, clean, dirty, held, write_credit, split_of, lose, brought, refilled, written}
use Rattle.landlord.specs.Rule.{Event, hit, loaded, wrote}
use Rattle.landlord.specs.Figures.{Use, usage, is_about, plus_use, no_use, use_at, use_of, lines_after}
use Rattle.landlord.specs.Valid.{StandingOk}
use Rattle.landlord.specs.Inner.{ItemFacts}
use Rattle.landlord.proofs.Folds.{tab_at}
use Rattle.landlord.proofs.Slots.{deduction_ok}
use Rattle.landlord.proofs.Ranges.{capacity_facts}
use Rattle.marks.proofs.Laws.{marked_set_same}
use Rattle.queue.specs.Queue.{Queue, stored_at, blocks_of, now_at, reckoned}
use Rattle.queue.specs.Machine.{LazyStanding, moved_in, found_in, read_slot_in, serve_read_in, serve_write_in}
use Rattle.queue.proofs.Losses.{deduction_adds}
use Rattle.queue.proofs.Logs.{sound, used_is}
use Rattle.cache_state.specs.Cache.{Cache, dirty_at, held_at, held_items, catalog_of, lazy, view, Normal, Valid}
use Rattle.cache_state.specs.InnerView.{usage_of, slot_from, item_of, queue_of, counts_of, figures_of}
use Rattle.cache_state.specs.InnerBecomes.{Becomes}
use Rattle.cache_state.specs.InnerWith.{with_dirty}
use Rattle.cache_state.proofs.Views.{size_is, item_is, stored_is, stored_held, use_is, blocks_is}
use Rattle.layout.specs.Layout.{cache_of}
use Rattle.layout.specs.Inner.{Stands, BecomesAt}
use Rattle.layout.proofs.Rounds.{whole}
use Rattle.layout.proofs.Places.{readable, valid_reads}
use Rattle.cache_counts.specs.declared.Total.TheVariants.{Hits}
use Rattle.cache_counts.specs.Inner.{step_counted, StepReady, StepReadyAt}
use Rattle.cache_counts.proofs.Counts.{valid_ready}
use Rattle.cache_room.specs.Inner.{requeued, HoldsAt, ReckonableAt, ReckonedAt}
use Rattle.cache_room.proofs.Rooms.{used_here}
use Rattle.cache_serve.specs.InnerStores.{loss_at, fetched_in, fetched_of, loaded_of, written_of, WroteAt, EnteredAt}
use Rattle.cache_serve.specs.InnerReady.{ServableAt, LoadAt, WritableAt, KeyedAt, EnterableAt}
use Rattle.cache_serve.proofs.Bounds.{item_ok, item_loads, item_minutes}
use Rattle.cache_serve.proofs.Losses.{Losing, losing, now_is}
use Rattle.cache_serve.proofs.Changes.{plus_none, about_one, counts_lazy, counts_normal, restored, marks_lazy, marks_normal}
use Rattle.cache_serve.proofs.Queues.{over, refetched, stored_same, reckoned_count, Tallied, valid_tallied, valid_counted, holds_of}

-- ---- slots

-- a held slot that is read: the load credit full, the write credit as it stands
read_slot_lem :
    (split : Split) (s loss : ℕ) (d : Bool) (a w top : ℕ) →
    slot_from true d top (write_credit (lose split s loss (slot_from true d a w))) ≡ refilled top (brought (lose split s loss (slot_from true d a w)))
read_slot_lem split s loss true a w top = refl
read_slot_lem split s loss false a w top = refl

-- a slot that is written after it was read: both are full
write_slot : (load top : ℕ) (x : Slot) → dirty load top ≡ written top (refilled load (brought x))
write_slot load top absent = refl
write_slot load top (clean a) = refl
write_slot load top (dirty a b) = refl

-- ---- an event of an item

hit_lazy : (d : Cache) (i : ℕ) → lazy (step_counted d Hits) ≡ moved_in (lazy d) (record { queue = queue_of d; events = hit i ∷ [] }) d.closed
hit_lazy d i =
    counts_lazy d d.minutes d.itemloads d.itemwritebacks (counts_of (step_counted d Hits)) (hit i) (add-zero _) (simp add-zero)
    (λ j b. about_one d (step_counted d Hits) i (hit i) (λ k. refl) (λ k e. refl) (plus_none (usage_of d i)) j)

hit_normal : (d : Cache) → Normal d → Normal (step_counted d Hits)
hit_normal d ok =
    counts_normal d d.minutes d.itemloads d.itemwritebacks (counts_of (step_counted d Hits)) ok (λ j b m. (ok.past j b m).place.minutes)
    (λ j b m. (ok.past j b m).place.loads) (λ j b m. (ok.past j b m).place.writebacks)

module _ (d : Cache) (i : ℕ) (size : length d.itemloads ≡ 256) (ok : Normal d) (l : i < d.n) where
  one_load : get_or (set d.itemloads i (get_or d.itemloads i 0 + 1)) i 0 ≡ get_or d.itemloads i 0 + 1
  one_load = get_or-set_same d.itemloads i (get_or d.itemloads i 0 + 1) 0 (omega (arith, ok.few))

  other_loads : (j : ℕ) → j ≢ i → get_or (loaded_of d i).itemloads j 0 ≡ get_or d.itemloads j 0
  other_loads j e = get_or-set_other d.itemloads i j (get_or d.itemloads i 0 + 1) 0 e

  load_lazy : lazy (loaded_of d i) ≡ moved_in (lazy d) (record { queue = queue_of d; events = loaded i ∷ [] }) d.closed
  load_lazy =
      counts_lazy d d.minutes (loaded_of d i).itemloads d.itemwritebacks (counts_of (loaded_of d i)) (loaded i) (add-zero _)
      (simp (add-zero, item_is d i l))
      (λ j b. about_one d (loaded_of d i) i (loaded i) (λ k. refl)
      (λ k e. λ z. use_of (get_or d.minutes k 0) (other_loads k e z) (get_or d.itemwritebacks k 0)) (simp (one_load, add-zero)) j)

  load_normal : Normal (loaded_of d i)
  load_normal =
      counts_normal d d.minutes (loaded_of d i).itemloads d.itemwritebacks (counts_of (loaded_of d i)) ok (λ j b m. (ok.past j b m).place.minutes)
      (λ j b m. other_loads j (λ q. omega arith) ∙ (ok.past j b m).place.loads) (λ j b m. (ok.past j b m).place.writebacks)

-- ---- how many are held

-- an item fetched is held
fetched_held :
    (q : Queue) (i : ℕ) (s : Slot) → i < length q.catalog → length q.slots ≡ length q.catalog → held s ≡ true → (t : Bool) →
    held (stored_at q i) ≡ t → held (stored_at (fetched_in t q i s) i) ≡ true
fetched_held q i s l size h true e = e
fetched_held q i s l size h false e = ap held (stored_same q i s l size) ∙ h

tallied_fetch :
    (v : LazyStanding) (i : ℕ) (s : Slot) →
    i < length v.queue.catalog →
    length v.queue.slots ≡ length v.queue.catalog →
    held s ≡ true →
    Tallied v →
    (t : Bool) →
    held (stored_at v.queue i) ≡ t →
    Tallied (moved_in v (record { queue = fetched_in t v.queue i s; events = cond t (hit i) (loaded i) ∷ [] }) v.closed)
unfolding fold
tallied_fetch v i s l size h was true e = record { count = omega (arith, was.count) }
tallied_fetch v i s l size h was false e =
    record { count = omega (arith, was.count, reckoned_count v.queue i s l size h, ap {B = ℕ} (λ (t : Bool). cond t 1 0) e) }

-- ---- a read

module _ (b : List ℕ) (i : ℕ) (p : ServableAt b i) where
  ok : Valid (cache_of b)
  ok = p.valid.cache

  rule : StandingOk (view (cache_of b))
  rule = ok.standing

  inside : i < length (catalog_of (cache_of b))
  inside = rw (size_is (cache_of b)) p.item

  pub serve_place : i < 256
  serve_place = omega (arith, p.item, ok.fields.few)

  pub serve_facts : ItemFacts (item_of (cache_of b) i)
  serve_facts = item_ok (cache_of b) ok i p.item

  drops : (cache_of b).evictions ≤ 1000000
  drops = omega (arith, rule.evictions, rule.steps, rule.taken)

  pub serve_keyed : {h : Bool} → h ≡ held_at (cache_of b) i → h ≡ true → KeyedAt b i
  serve_keyed is h =
      record { reads = valid_reads p.valid; fields = ok.fields; lazy = ok.lazy; drops = drops; known = p.item; is_held = sym is ∙ h }

  -- where the read leads
  abbrev after : LazyStanding
  after = moved_in (lazy (cache_of b)) (serve_read_in (split_of (cache_of b).rule) i (queue_of (cache_of b))) (cache_of b).closed

  top : full (get_or (cache_of b).load i 0) ≡ full (item_at (catalog_of (cache_of b)) i).load
  top = sym (ap (λ (x : Item). full x.load) (item_is (cache_of b) i p.item))

  -- where a fetch leads
  abbrev fetched : ℕ → LazyStanding
  fetched credit = fetched_of (lazy (cache_of b)) i credit

  told :
      (credit : ℕ) (t : Bool) →
      held_at (cache_of b) i ≡ t →
      moved_in (lazy (cache_of b)) (record { queue = fetched_in t (queue_of (cache_of b)) i (clean credit); events = cond t (hit i) (loaded i) ∷ [] }) (cache_of b).closed
      ≡ fetched credit
  told credit t e =
      ap
      (λ (u : Bool).
      moved_in (lazy (cache_of b)) (record { queue = fetched_in u (queue_of (cache_of b)) i (clean credit); events = cond u (hit i) (loaded i) ∷ [] }) (cache_of b).closed)
      (sym (stored_held (cache_of b) i p.item ∙ e))

  fetch_holds : (credit : ℕ) (next : List ℕ) → BecomesAt (fetched credit) next → HoldsAt next i
  fetch_holds credit next at =
      holds_of (fetched credit) next i at
      (tallied_fetch (lazy (cache_of b)) i (clean credit) inside ok.lazy.queue.slots refl (valid_tallied (cache_of b) ok)
      (held (stored_at (queue_of (cache_of b)) i)) refl)
      inside
      (fetched_held (queue_of (cache_of b)) i (clean credit) inside ok.lazy.queue.slots refl (held (stored_at (queue_of (cache_of b)) i)) refl)

  -- it was held, and a hit is counted
  -- a step can be counted wherever the totals are those of before
  ready_on : {d : Cache} {q : Queue} → lazy d ≡ requeued (lazy (cache_of b)) q → StepReady d
  ready_on e =
      record {
        steps = omega (arith, ap (λ (v : LazyStanding). v.figures.totals.steps) e, rule.taken);
        hits = omega (arith, ap (λ (v : LazyStanding). v.figures.totals.hits) e, rule.steps, rule.taken);
        loads = omega (arith, ap (λ (v : LazyStanding). v.figures.totals.loads) e, rule.steps, rule.taken);
        flushes = omega (arith, ap (λ (v : LazyStanding). v.figures.totals.flushes) e, rule.steps, rule.taken);
        arrivals = omega (arith, ap (λ (v : LazyStanding). v.figures.totals.arrivals) e, rule.steps, rule.taken);
        retirements = omega (arith, ap (λ (v : LazyStanding). v.figures.totals.retirements) e, rule.steps, rule.taken);
      }

  pub fetch_ready : StepReadyAt b
  fetch_ready =
      valid_ready p.valid

  pub fetch_hit : (credit : ℕ) {h : Bool} → h ≡ held_at (cache_of b) i → h ≡ true → (next : List ℕ) → Stands next (step_counted (cache_of b) Hits) → BecomesAt (fetched credit) next
  fetch_hit credit is was next s =
      record {
        reads = readable s;
        cache =
            subst (Becomes (fetched credit)) (sym s.cache)
            (record { stands = hit_lazy (cache_of b) i ∙ told credit true (sym is ∙ was); fields = hit_normal (cache_of b) ok.fields });
      }

  -- the item is held
  module _ {h : Bool} (is : h ≡ held_at (cache_of b) i) (was : h ≡ true) {credit write : ℕ}
      (ec : credit ≡ full (get_or (cache_of b).load i 0)) (ew : write ≡ write_credit (now_at (split_of (cache_of b).rule) (queue_of (cache_of b)) i)) where
    here : held_at (cache_of b) i ≡ true
    here = sym is ∙ was

    lost : Losing (cache_of b) i
    lost = losing (cache_of b) ok.fields ok.lazy drops i p.item here

    pub hit_reckonable : ReckonableAt b i credit write
    hit_reckonable =
        record {
          holds =
              holds_of (lazy (cache_of b)) b i
              (record { reads = valid_reads p.valid; cache = record { stands = refl; fields = ok.fields } })
              (valid_tallied (cache_of b) ok) inside (stored_held (cache_of b) i p.item ∙ here);
          clean = λ d. omega (arith, ew, lost.write_now, ok.fields.clean i p.item d);
          some = serve_facts.some;
          fits = omega (arith, ec, ew, lost.write_now, lost.write, lost.level, serve_facts.load);
        }

    slot : slot_from true (dirty_at (cache_of b) i) credit write ≡ read_slot_in (split_of (cache_of b).rule) (queue_of (cache_of b)) i
    slot =
        let now : now_at (split_of (cache_of b).rule) (queue_of (cache_of b)) i ≡ _ = now_is (cache_of b) ok.fields ok.lazy drops i p.item here in
        (λ z. slot_from true (dirty_at (cache_of b) i) (ec z) (ew z))
        ∙ ap (λ (x : Slot). slot_from true (dirty_at (cache_of b) i) (full (get_or (cache_of b).load i 0)) (write_credit x)) now
        ∙ read_slot_lem (split_of (cache_of b).rule) _ _ (dirty_at (cache_of b) i) _ _ (full (get_or (cache_of b).load i 0))
        ∙ sym (λ z. refilled (sym top z) (brought (now z)))

    module _ (b1 : List ℕ) (s1 : ReckonedAt b i credit write b1) where
      pub hit_ready : StepReadyAt b1
      hit_ready =
          record {
            reads = s1.reads;
            counts =
                ready_on s1.becomes.stands;
          }

      pub hit_becomes : (next : List ℕ) → Stands next (step_counted (cache_of b1) Hits) → BecomesAt after next
      unfolding fold
      hit_becomes next s2 =
          record {
            reads = readable s2;
            cache =
                subst (Becomes after) (sym s2.cache)
                (record {
                  stands =
                      hit_lazy (cache_of b1) i
                      ∙ ap (λ (v : LazyStanding). moved_in v (record { queue = v.queue; events = hit i ∷ [] }) v.closed) s1.becomes.stands
                      ∙ (λ z.
                      moved_in (lazy (cache_of b))
                      (record {
                        queue = reckoned (queue_of (cache_of b)) i (slot z);
                        events = cond (sym (stored_held (cache_of b) i p.item ∙ here) z) (hit i) (loaded i) ∷ [];
                      })
                      (cache_of b).closed);
                  fields = hit_normal (cache_of b1) s1.becomes.fields;
                });
          }

  -- it is not
  module _ {h : Bool} (is : h ≡ held_at (cache_of b) i) (was : h ≡ false) {credit : ℕ} (ec : credit ≡ full (get_or (cache_of b).load i 0)) where
    away : held_at (cache_of b) i ≡ false
    away = sym is ∙ was

    pub load_enterable : EnterableAt b i credit
    load_enterable =
        record {
          counted = valid_counted b p.valid;
          fields = ok.fields;
          known = p.item;
          unheld = away;
          some = serve_facts.some;
          fits = omega (arith, ec, drops, ok.lazy.level, serve_facts.load);
          room =
              omega (
                arith,
                used_here (cache_of b) ok.fields,
                used_is (split_of (cache_of b).rule) (deduction_ok (cache_of b).rule) (deduction_adds (cache_of b).rule) (queue_of (cache_of b)) (sound (lazy (cache_of b)) ok.lazy),
                rule.kept.room,
                (capacity_facts (cache_of b).k rule.capacity).high,
              );
        }

    none : stored_at (queue_of (cache_of b)) i ≡ absent
    none =
        stored_is (cache_of b) i p.item
        ∙ ap (λ (t : Bool). slot_from t (dirty_at (cache_of b) i) (get_or (cache_of b).loadcredit i 0) (get_or (cache_of b).writecredit i 0)) away

    new_slot : clean credit ≡ read_slot_in (split_of (cache_of b).rule) (queue_of (cache_of b)) i
    new_slot =
        ap clean (ec ∙ top)
        ∙ sym (ap
        (λ (x : Slot).
        refilled (full (item_at (catalog_of (cache_of b)) i).load)
        (brought (lose (split_of (cache_of b).rule) (blocks_of (queue_of (cache_of b)) i) (loss_at (queue_of (cache_of b)) i) x))) none)

    module _ (b1 : List ℕ) (s1 : EnteredAt b i credit b1) where
      known1 : i < (cache_of b1).n
      known1 = omega (arith, size_is (cache_of b1), ap (λ (v : LazyStanding). length v.queue.catalog) s1.becomes.stands, inside)

      pub load_ready : LoadAt b1 i
      load_ready =
          record {
            reads = s1.reads;
            counts =
                record {
                  place = serve_place;
                  own =
                      omega (
                        arith,
                        ap (λ (u : Use). u.loads) (use_is (cache_of b1) i known1),
                        ap (λ (v : LazyStanding). (use_at v.figures i).loads) s1.becomes.stands,
                        ap (λ (u : Use). u.loads) (use_is (cache_of b) i p.item),
                        item_loads (cache_of b) ok i p.item,
                        rule.steps,
                        rule.taken,
                      );
                  step = ready_on s1.becomes.stands;
                  cost = omega (arith, ap (λ (v : LazyStanding). v.figures.totals.load_cost) s1.becomes.stands, rule.load_cost, rule.steps, rule.taken);
                };
          }

      pub fetch_load : (next : List ℕ) → Stands next (loaded_of (cache_of b1) i) → BecomesAt (fetched credit) next
      unfolding fold
      fetch_load next s2 =
          record {
            reads = readable s2;
            cache =
                subst (Becomes (fetched credit)) (sym s2.cache)
                (record {
                  stands =
                      load_lazy (cache_of b1) i (whole b1).itemloads s1.becomes.fields known1
                      ∙ ap (λ (v : LazyStanding). moved_in v (record { queue = v.queue; events = loaded i ∷ [] }) v.closed) s1.becomes.stands
                      ∙ told credit false away;
                  fields = load_normal (cache_of b1) i (whole b1).itemloads s1.becomes.fields known1;
                });
          }

      pub load_becomes : (next : List ℕ) → Stands next (loaded_of (cache_of b1) i) → BecomesAt after next
      unfolding fold
      load_becomes next s2 =
          record {
            reads = readable s2;
            cache =
                subst (Becomes after) (sym s2.cache)
                (record {
                  stands =
                      load_lazy (cache_of b1) i (whole b1).itemloads s1.becomes.fields known1
                      ∙ ap (λ (v : LazyStanding). moved_in v (record { queue = v.queue; events = loaded i ∷ [] }) v.closed) s1.becomes.stands
                      ∙ (λ z.
                      moved_in (lazy (cache_of b))
                      (record {
                        queue = reckoned (queue_of (cache_of b)) i (new_slot z);
                        events = cond (sym (stored_held (cache_of b) i p.item ∙ away) z) (hit i) (loaded i) ∷ [];
                      })
                      (cache_of b).closed);
                  fields = load_normal (cache_of b1) i (whole b1).itemloads s1.becomes.fields known1;
                });
          }

  -- ---- a write, of an item that is fetched

  module _ (credit : ℕ) (b1 : List ℕ) (read : BecomesAt (fetched credit) b1) where
    holds : HoldsAt b1 i
    holds = fetch_holds credit b1 read

    same_blocks : get_or (cache_of b1).blocks i 0 ≡ get_or (cache_of b).blocks i 0
    same_blocks =
        sym (blocks_is (cache_of b1) i holds.known) ∙ ap (λ (v : LazyStanding). blocks_of v.queue i) read.cache.stands ∙ blocks_is (cache_of b) i p.item

    same_level : (cache_of b1).level ≡ (cache_of b).level
    same_level = ap (λ (v : LazyStanding). v.queue.level) read.cache.stands

    -- neither a hit nor a load counts minutes
    no_minutes : (t u : Bool) → (cond u (usage (cond t (hit i) (loaded i))) no_use).minutes ≡ 0
    no_minutes true true = refl
    no_minutes true false = refl
    no_minutes false true = refl
    no_minutes false false = refl

    -- and neither is an arrival
    same_lines : (t : Bool) → lines_after (catalog_of (cache_of b)) (cond t (hit i) (loaded i)) ≡ length (catalog_of (cache_of b))
    same_lines true = add-zero _
    same_lines false = add-zero _

    same_minutes : get_or (cache_of b1).minutes i 0 ≡ get_or (cache_of b).minutes i 0
    unfolding fold
    same_minutes =
        let e : Event = found_in (queue_of (cache_of b)) i in
        sym (ap (λ (u : Use). u.minutes) (use_is (cache_of b1) i holds.known))
        ∙ ap (λ (v : LazyStanding). (use_at v.figures i).minutes) read.cache.stands
        ∙ ap (λ (u : Use). u.minutes)
        (tab_at (lines_after (catalog_of (cache_of b)) e) (λ j. plus_use (use_at (figures_of (cache_of b)) j) (cond (is_about j e) (usage e) no_use)) i no_use
        (omega (arith, same_lines (held (stored_at (queue_of (cache_of b)) i)), inside)))
        ∙ (λ z. (use_is (cache_of b) i p.item z).minutes + no_minutes (held (stored_at (queue_of (cache_of b)) i)) (is_about i e) z)
        ∙ add-zero (get_or (cache_of b).minutes i 0)

    pub write_ready : (minutes : ℕ) → minutes ≤ 1440 → WritableAt b1 i minutes
    write_ready minutes short =
        record {
          reads = read.reads;
          counts =
              record {
                place = serve_place;
                short = short;
                sofar = omega (arith, same_minutes, item_minutes (cache_of b) ok i p.item, p.room);
              };
        }

    module _ (minutes : ℕ) (b2 : List ℕ) (s : WroteAt b1 i minutes b2) where
      abbrev marked : Cache
      marked = with_dirty (cache_of b1) (cache_of b2).dirty

      is_dirty : dirty_at (cache_of b2) i ≡ true
      is_dirty = marked_set_same (cache_of b1).dirty (cache_of b2).dirty i true s.cache.mark serve_place

      marked_lazy :
          lazy marked
          ≡ requeued (lazy (cache_of b1)) (restored (queue_of (cache_of b1)) i (slot_from true true (get_or (cache_of b1).loadcredit i 0) (get_or (cache_of b1).writecredit i 0)))
      marked_lazy = marks_lazy (cache_of b1) i (cache_of b2).dirty true holds.fields holds.known holds.is_held s.cache.mark

      marked_normal : Normal marked
      marked_normal =
          marks_normal (cache_of b1) i (cache_of b2).dirty true holds.fields holds.known holds.is_held s.cache.mark (λ e. absurd (false≢true (sym e)))

      abbrev after_write : Cache
      after_write = written_of (cache_of b1) i minutes (cache_of b2).dirty

      more : get_or (set (cache_of b1).minutes i (get_or (cache_of b1).minutes i 0 + minutes)) i 0 ≡ get_or (cache_of b1).minutes i 0 + minutes
      more = get_or-set_same (cache_of b1).minutes i (get_or (cache_of b1).minutes i 0 + minutes) 0 (omega (arith, (whole b1).minutes, serve_place))

      other_minutes : (j : ℕ) → j ≢ i → get_or (set (cache_of b1).minutes i (get_or (cache_of b1).minutes i 0 + minutes)) j 0 ≡ get_or (cache_of b1).minutes j 0
      other_minutes j e = get_or-set_other (cache_of b1).minutes i j (get_or (cache_of b1).minutes i 0 + minutes) 0 e

      wrote_lazy : lazy after_write ≡ moved_in (lazy marked) (record { queue = queue_of marked; events = wrote i minutes ∷ [] }) (cache_of b1).closed
      wrote_lazy =
          counts_lazy marked after_write.minutes (cache_of b1).itemloads (cache_of b1).itemwritebacks (counts_of (cache_of b1)) (wrote i minutes) (add-zero _)
          (simp add-zero)
          (λ j b. about_one marked after_write i (wrote i minutes) (λ k. refl)
          (λ k e. λ z. use_of (other_minutes k e z) (get_or (cache_of b1).itemloads k 0) (get_or (cache_of b1).itemwritebacks k 0)) (simp (more, add-zero)) j)

      wrote_normal : Normal after_write
      wrote_normal =
          let n : Normal marked = marked_normal in
          counts_normal marked after_write.minutes (cache_of b1).itemloads (cache_of b1).itemwritebacks (counts_of (cache_of b1)) n
          (λ j b m. other_minutes j (λ q. let l : i < (cache_of b1).n = holds.known in omega arith) ∙ (n.past j b m).place.minutes)
          (λ j b m. (n.past j b m).place.loads) (λ j b m. (n.past j b m).place.writebacks)

      same_items : held_items after_write ≡ held_items (cache_of b1)
      unfolding held_items
      same_items = refl

      wrote_holds : HoldsAt b2 i
      wrote_holds =
          record {
            counted =
                record {
                  reads = s.reads;
                  count =
                      subst (λ (q : Cache). q.evictions + held_items q ≡ q.loads) (sym s.cache.store) (omega (arith, same_items, holds.counted.count));
                };
            fields = subst Normal (sym s.cache.store) wrote_normal;
            known = subst (λ (q : Cache). i < q.n) (sym s.cache.store) holds.known;
            is_held = subst (λ (q : Cache). held_at q i ≡ true) (sym s.cache.store) holds.is_held;
          }

      module _ {load write : ℕ} (el : load ≡ full (get_or (cache_of b).load i 0)) (ew : write ≡ full (get_or (cache_of b).write i 0)) where
        pub write_reckonable : ReckonableAt b2 i load write
        write_reckonable =
            record {
              holds = wrote_holds;
              clean = λ e. absurd (false≢true (sym e ∙ is_dirty));
              some = omega (arith, ap (λ (q : Cache). get_or q.blocks i 0) s.cache.store, same_blocks, serve_facts.some);
              fits =
                  omega (
                    arith,
                    ap (λ (q : Cache). q.level) s.cache.store,
                    same_level,
                    el,
                    ew,
                    drops,
                    ok.lazy.level,
                    serve_facts.load,
                    serve_facts.write,
                  );
            }

        -- where the write leads
        pub write_becomes :
            (next : List ℕ) →
            ReckonedAt b2 i load write next →
            BecomesAt (moved_in (lazy (cache_of b)) (serve_write_in (split_of (cache_of b).rule) i minutes (queue_of (cache_of b))) (cache_of b).closed) next
        unfolding fold
        write_becomes next s3 =
            record {
              reads = s3.reads;
              cache =
                  record {
                    stands =
                        s3.becomes.stands
                        ∙ (λ z. requeued (before z) (reckoned (before z).queue i (slot_from true (is_dirty z) load write)))
                        ∙ (λ z.
                        moved_in (lazy (cache_of b))
                        (record { queue = (over (fetched_in was q i (clean credit)) i x (dirty load write) ∙ refetched was q i (clean credit) (dirty load write)) z; events = found_in q i ∷ wrote i minutes ∷ [] })
                        (cache_of b).closed)
                        ∙ (λ z. moved_in (lazy (cache_of b)) (record { queue = reckoned q i (full_slot z); events = found_in q i ∷ wrote i minutes ∷ [] }) (cache_of b).closed);
                    fields = s3.becomes.fields;
                  };
            }
          where
            q : Queue
            q = queue_of (cache_of b)

            was : Bool
            was = held (stored_at (queue_of (cache_of b)) i)

            r : Slot
            r = read_slot_in (split_of (cache_of b).rule) (queue_of (cache_of b)) i

            x : Slot
            x = slot_from true true (get_or (cache_of b1).loadcredit i 0) (get_or (cache_of b1).writecredit i 0)

            wrote_over : LazyStanding → LazyStanding
            wrote_over v = moved_in (requeued v (restored v.queue i x)) (record { queue = restored v.queue i x; events = wrote i minutes ∷ [] }) v.closed

            before : lazy (cache_of b2) ≡ wrote_over (fetched credit)
            before =
                ap lazy s.cache.store
                ∙ wrote_lazy
                ∙ ap (λ (v : LazyStanding). moved_in v (record { queue = v.queue; events = wrote i minutes ∷ [] }) v.closed) marked_lazy
                ∙ ap wrote_over read.cache.stands

            full_slot : dirty load write ≡ written (full (item_at (catalog_of (cache_of b)) i).write) r
            full_slot =
                (λ z. dirty ((el ∙ top) z) ((ew ∙ sym (ap (λ (y : Item). full y.write) (item_is (cache_of b) i p.item))) z))
                ∙ write_slot (full (item_at (catalog_of (cache_of b)) i).load) (full (item_at (catalog_of (cache_of b)) i).write) (now_at (split_of (cache_of b).rule) (queue_of (cache_of b)) i)
