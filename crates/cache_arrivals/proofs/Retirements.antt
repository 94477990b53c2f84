-- What a retirement is to the queue: the item is let go if it is held, and then its mark is set. Assumes nothing.
use mathlib.Core.Path.{◌≡◌, refl, sym, ap, ◌∙◌}
use mathlib.Core.Logic.{◌≢◌}
use mathlib.Core.Bool.{Bool, true, false, cond}
use mathlib.Core.List.{List, [], ◌∷◌}
use Prim.Native.Nat.{ℕ, ◌≤◌, ◌<◌}
use native.Mathlib.Nat.{add-zero}
use native.Mathlib.Omega.{arith}
use lib.Dec.{eqb}
use lib.ListN.{length, get_or, set}
use lib.Seq.{set-get_or}
use Rattle.types.specs.declared.Step.TheVariants.{Retire}
use Rattle.landlord.specs.Fold.{fold}
use Rattle.landlord.specs.Catalog.{departed, item_at}
use Rattle.landlord.specs.Slot.{absent, held, is_dirty, split_of}
use Rattle.landlord.specs.Rule.{evicted, retired}
use Rattle.landlord.specs.Figures.{Figures, plus_totals, adds, tally}
use Rattle.landlord.proofs.Folds.{tab_set, fold_append}
use Rattle.marks.specs.Inner.{marks}
use Rattle.marks.proofs.Laws.{marked_set_same, marked_set_other}
use Rattle.queue.specs.Queue.{stored_at, removed}
use Rattle.queue.specs.Machine.{LazyStanding, moved_in, drop_in, leave_in, took_in, step_in}
use Rattle.cache_state.specs.Cache.{Cache, dirty_at, held_at, held_items, held_blocks, left_at, catalog_of, slots_of, keys_of, lazy, Blank, Emptied, Normal}
use Rattle.cache_state.specs.InnerView.{item_of, usage_of, slot_from, queue_of, counts_of}
use Rattle.cache_state.specs.InnerBecomes.{Becomes}
use Rattle.cache_state.proofs.Views.{size_is, item_is, key_is, stored_is, stored_held}
use Rattle.cache_state.proofs.Stored.{dirty_here}
use Rattle.cache_room.specs.Inner.{requeued, counted_of}
use Rattle.cache_room.proofs.Counts.{same_use, counted_normal, counted_lazy}
use Rattle.cache_serve.proofs.Changes.{uses_by}
use Rattle.cache_arrivals.specs.InnerStores.{left_of, Left}

-- ---- the drop

module _ (c : Cache) (i : ℕ) (ok : Normal c) (l : i < c.n) where
  -- where it leads, by whether the item is held
  told :
      (t : Bool) →
      held_at c i ≡ t →
      moved_in (lazy c) (record { queue = removed (queue_of c) i; events = cond t (evicted i (is_dirty (stored_at (queue_of c) i)) ∷ []) [] }) c.closed
      ≡ moved_in (lazy c) (drop_in i (queue_of c)) c.closed
  unfolding drop_in
  told t h =
      ap
      (λ (u : Bool).
      moved_in (lazy c) (record { queue = removed (queue_of c) i; events = cond u (evicted i (is_dirty (stored_at (queue_of c) i)) ∷ []) [] }) c.closed)
      (sym (stored_held c i l ∙ h))

  -- not held: its place is empty already
  pub unheld_becomes : held_at c i ≡ false → Becomes (moved_in (lazy c) (drop_in i (queue_of c)) c.closed) c
  unfolding fold
  unheld_becomes h =
      record {
        stands = sym (λ z. requeued (lazy c) (record { catalog = catalog_of c; slots = slots z; keys = keys z; level = c.level })) ∙ told false h;
        fields = ok;
      }
    where
      none : stored_at (queue_of c) i ≡ absent
      none = stored_is c i l ∙ ap (λ (t : Bool). slot_from t (dirty_at c i) (get_or c.loadcredit i 0) (get_or c.writecredit i 0)) h

      slots : set (slots_of c) i absent ≡ slots_of c
      slots = ap (set (slots_of c) i) (sym none) ∙ set-get_or (slots_of c) i absent

      keys : set (keys_of c) i 0 ≡ keys_of c
      keys = ap (set (keys_of c) i) (sym (key_is c i l ∙ (ok.absent i l h).key)) ∙ set-get_or (keys_of c) i 0

  -- held: q is the cache without it, and d says whether it was dirty
  module _ (q : Cache) (d : Bool) (h : held_at c i ≡ true) (was : d ≡ dirty_at c i) (gone : Becomes (requeued (lazy c) (removed (queue_of c) i)) q) (size : length q.itemwritebacks ≡ 256) where
    known : i < q.n
    known = omega (arith, size_is q, size_is c, ap (λ (v : LazyStanding). length v.queue.catalog) gone.stands)

    pub held_becomes : Becomes (moved_in (lazy c) (drop_in i (queue_of c)) c.closed) (counted_of q i d)
    unfolding fold
    held_becomes =
        record {
          stands =
              counted_lazy q i size gone.fields known d
              ∙ ap (λ (v : LazyStanding). moved_in v (record { queue = v.queue; events = evicted i d ∷ [] }) v.closed) gone.stands
              ∙ (λ z.
              moved_in (lazy c) (record { queue = removed (queue_of c) i; events = evicted i ((was ∙ sym (dirty_here c ok i l)) z) ∷ [] }) c.closed)
              ∙ told true h;
          fields = counted_normal q i size gone.fields known d;
        }

-- ---- the mark

module _ (c : Cache) (i : ℕ) (gone : List ℕ) (ok : Normal c) (l : i < c.n) (m : marks gone ≡ set (marks c.left) i true) where
  abbrev after : Cache
  after = left_of c gone

  left_other : (j : ℕ) → j < 256 → j ≢ i → left_at after j ≡ left_at c j
  left_other j b e = marked_set_other c.left gone i true m j b e

  here : item_of after i ≡ departed (item_at (catalog_of c) i)
  here =
      (λ z. record { blocks = (item_of c i).blocks; load = (item_of c i).load; write = (item_of c i).write; left = marked_set_same c.left gone i true m (omega (arith, ok.few)) z })
      ∙ ap departed (sym (item_is c i l))

  catalog_after : catalog_of after ≡ set (catalog_of c) i (departed (item_at (catalog_of c) i))
  unfolding catalog_of
  catalog_after =
      sym (tab_set c.n (item_of c) (item_of after) i l
      (λ j b e. λ z. record { blocks = (item_of c j).blocks; load = (item_of c j).load; write = (item_of c j).write; left = sym (left_other j (omega (arith, ok.few)) e) z }))
      ∙ ap (set (catalog_of c) i) here

  totals_after : counts_of after ≡ plus_totals (counts_of c) (adds (catalog_of c) (retired i))
  totals_after = simp add-zero

  left_lazy : lazy after ≡ moved_in (lazy c) (leave_in i (queue_of c)) c.closed
  unfolding fold slots_of keys_of
  left_lazy =
      λ z.
      record {
        k = c.k;
        queue = record { catalog = catalog_after z; slots = slots_of c; keys = keys_of c; level = c.level };
        figures =
            record {
              totals = totals_after z;
              uses = uses_by c after (retired i) refl (add-zero (length (catalog_of c))) (λ j b. same_use (eqb j i) (usage_of c j)) z;
            };
        closed = c.closed;
        split = split_of c.rule;
      }

  left_normal : Normal after
  unfolding held_items held_blocks
  left_normal =
      record {
        few = ok.few;
        past = past;
        absent = λ j b h. emptied j (ok.absent j b h);
        clean = ok.clean;
        heap = ok.heap;
        order = ok.order;
        used = ok.used;
      }
    where
      emptied : (j : ℕ) → Emptied c j → Emptied after j
      emptied j x = record { dirty = x.dirty; load_credit = x.load_credit; write_credit = x.write_credit; key = x.key }

      past : (j : ℕ) → c.n ≤ j → j < 256 → Blank after j
      past j b q =
          let x : Blank c j = ok.past j b q in
          record {
            place =
                record {
                  held = x.place.held;
                  slot = emptied j x.place.slot;
                  minutes = x.place.minutes;
                  loads = x.place.loads;
                  writebacks = x.place.writebacks;
                };
            blocks = x.blocks;
            load = x.load;
            write = x.write;
            left = left_other j q (omega arith) ∙ x.left;
          }

  pub leave_becomes : Becomes (moved_in (lazy c) (leave_in i (queue_of c)) c.closed) (left_of c gone)
  leave_becomes = record { stands = left_lazy; fields = left_normal }

-- ---- the retirement: q is the cache when the item is dropped

-- the drop is no step, and no retirement
pub record StillCounted (f g : Figures) : Type 0 where
  pub steps : g.totals.steps ≡ f.totals.steps
  pub hits : g.totals.hits ≡ f.totals.hits
  pub loads : g.totals.loads ≡ f.totals.loads
  pub flushes : g.totals.flushes ≡ f.totals.flushes
  pub arrivals : g.totals.arrivals ≡ f.totals.arrivals
  pub retirements : g.totals.retirements ≡ f.totals.retirements

still : (v : LazyStanding) (i : ℕ) (t d : Bool) → StillCounted v.figures (fold (tally v.queue.catalog) v.figures (cond t (evicted i d ∷ []) []))
unfolding fold
still v i true true = record { steps = omega arith; hits = omega arith; loads = omega arith; flushes = omega arith; arrivals = omega arith; retirements = omega arith }
still v i true false = record { steps = omega arith; hits = omega arith; loads = omega arith; flushes = omega arith; arrivals = omega arith; retirements = omega arith }
still v i false d = record { steps = refl; hits = refl; loads = refl; flushes = refl; arrivals = refl; retirements = refl }

pub drop_still : (v : LazyStanding) (i : ℕ) → StillCounted v.figures (moved_in v (drop_in i v.queue) v.closed).figures
unfolding drop_in
drop_still v i = still v i (held (stored_at v.queue i)) (is_dirty (stored_at v.queue i))

-- the two halves, one after the other
both : (v : LazyStanding) (i : ℕ) → moved_in (moved_in v (drop_in i v.queue) v.closed) (leave_in i (drop_in i v.queue).queue) v.closed ≡ took_in v (Retire i)
unfolding took_in step_in drop_in
both v i =
    λ z.
    record {
      k = v.k;
      queue = (leave_in i (removed v.queue i)).queue;
      figures = sym (fold_append (tally v.queue.catalog) v.figures (drop_in i v.queue).events (retired i ∷ [])) z;
      closed = v.closed;
      split = v.split;
    }

pub retire_becomes :
    (c q r : Cache) (i : ℕ) →
    i < c.n →
    Becomes (moved_in (lazy c) (drop_in i (queue_of c)) c.closed) q →
    Left q i r →
    Becomes (took_in (lazy c) (Retire i)) r
unfolding drop_in
retire_becomes c q r i l dropped s =
    rw s.store
    (record {
      stands = left.stands ∙ ap (λ (v : LazyStanding). moved_in v (leave_in i v.queue) v.closed) dropped.stands ∙ both (lazy c) i;
      fields = left.fields;
    })
  where
    inside : i < q.n
    inside = omega (arith, size_is q, size_is c, ap (λ (v : LazyStanding). length v.queue.catalog) dropped.stands)

    left : Becomes (moved_in (lazy q) (leave_in i (queue_of q)) q.closed) (left_of q r.left)
    left = leave_becomes q i r.left dropped.fields inside s.mark
