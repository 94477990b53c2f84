-- What an arrival is to the queue: the catalog, the slots, the keys and the items' lines grow by one, of an item to which nothing has
-- happened. The heap is as it was. Assumes nothing.
use mathlib.Core.Path.{◌≡◌, refl, sym, ap, ◌∙◌}
use mathlib.Core.Logic.{◌≢◌}
use mathlib.Core.Bool.{Bool, false, cond}
use mathlib.Core.List.{[], ◌∷◌, ◌++◌}
use Prim.Native.Nat.{ℕ, ◌+◌, ◌≤◌, ◌<◌}
use native.Mathlib.Nat.{add-zero, le_refl}
use native.Mathlib.Numerals.{add-one}
use native.Mathlib.Decide.{ℕ_discrete, dec_le}
use native.Mathlib.Omega.{arith}
use lib.Dec.{eqb}
use lib.ListN.{get_or}
use lib.Seq.{get_or-set_same, get_or-set_other}
use Rattle.types.specs.declared.Step.TheVariants.{Arrive}
use Rattle.landlord.specs.Fold.{tab, fold}
use Rattle.landlord.specs.Catalog.{listed}
use Rattle.landlord.specs.Slot.{absent, split_of}
use Rattle.landlord.specs.Rule.{arrived}
use Rattle.landlord.specs.Figures.{Use, use_of, no_use, use_at, plus_use, plus_totals, adds, lines_after}
use Rattle.landlord.proofs.Folds.{tab_eq, tab_more, tab_past}
use Rattle.landlord.proofs.Sums.{sum_eq}
use Rattle.queue.specs.Machine.{took_in, step_in}
use Rattle.cache_state.specs.Cache.{Cache, dirty_at, held_at, held_items, held_blocks, slot_of, catalog_of, slots_of, keys_of, uses_of, lazy, Emptied, Blank, Normal}
use Rattle.cache_state.specs.InnerView.{item_of, usage_of, slot_from, counts_of, figures_of}
use Rattle.cache_state.specs.InnerBecomes.{Becomes}
use Rattle.cache_state.proofs.Views.{size_is, use_is}
use Rattle.layout.specs.InnerRows.{WholeArrays}
use Rattle.cache_room.proofs.Counts.{same_use}
use Rattle.cache_counts.specs.declared.Total.TheVariants.{Arrivals}
use Rattle.cache_counts.specs.Inner.{step_counted}
use Rattle.cache_arrivals.specs.InnerStores.{listed_of}

-- a table with an entry more behind those that it had
grown :
    {A : Type 0} (n : ℕ) (f g : ℕ → A) (a : A) →
    ((i : ℕ) → i < n → f i ≡ g i) →
    f n ≡ a →
    tab (n + 1) f ≡ tab n g ++ (a ∷ [])
grown n f g a below here =
    ap (λ (m : ℕ). tab m f) (add-one n) ∙ tab_more n f ∙ (λ z. tab_eq n f g below z ++ (here z ∷ []))

module _ (c : Cache) (b l w : ℕ) (s : WholeArrays c) (ok : Normal c) (few : c.n < 256) where
  abbrev after : Cache
  after = listed_of (step_counted c Arrivals) b l w

  -- the place of the new item
  here : Blank c c.n
  here = ok.past c.n (le_refl c.n) few

  blocks_other : (i : ℕ) → i ≢ c.n → get_or after.blocks i 0 ≡ get_or c.blocks i 0
  blocks_other i e = get_or-set_other c.blocks c.n i b 0 e

  load_other : (i : ℕ) → i ≢ c.n → get_or after.load i 0 ≡ get_or c.load i 0
  load_other i e = get_or-set_other c.load c.n i l 0 e

  write_other : (i : ℕ) → i ≢ c.n → get_or after.write i 0 ≡ get_or c.write i 0
  write_other i e = get_or-set_other c.write c.n i w 0 e

  catalog_after : tab (c.n + 1) (item_of after) ≡ catalog_of c ++ (listed b l w ∷ [])
  unfolding catalog_of
  catalog_after =
      grown c.n (item_of after) (item_of c) (listed b l w)
      (λ i m. λ z.
      record {
        blocks = blocks_other i (omega arith) z;
        load = load_other i (omega arith) z;
        write = write_other i (omega arith) z;
        left = (item_of c i).left;
      })
      (λ z.
      record {
        blocks = get_or-set_same c.blocks c.n b 0 (omega (arith, s.blocks)) z;
        load = get_or-set_same c.load c.n l 0 (omega (arith, s.load)) z;
        write = get_or-set_same c.write c.n w 0 (omega (arith, s.write)) z;
        left = here.left z;
      })

  slots_after : tab (c.n + 1) (slot_of c) ≡ slots_of c ++ (absent ∷ [])
  unfolding slots_of
  slots_after =
      grown c.n (slot_of c) (slot_of c) absent (λ i m. refl)
      (ap (λ (t : Bool). slot_from t (dirty_at c c.n) (get_or c.loadcredit c.n 0) (get_or c.writecredit c.n 0)) here.place.held)

  keys_after : tab (c.n + 1) (λ i. get_or c.keys i 0) ≡ keys_of c ++ (0 ∷ [])
  unfolding keys_of
  keys_after = grown c.n (λ i. get_or c.keys i 0) (λ i. get_or c.keys i 0) 0 (λ i m. refl) here.place.slot.key

  -- the blocks held are those held before
  same_blocks : held_blocks after ≡ held_blocks c
  unfolding held_blocks
  same_blocks = sum_eq 256 _ _ (λ i m. at i (ℕ_discrete i c.n))
    where
      at : (i : ℕ) → Dec (i ≡ c.n) → cond (held_at c i) (get_or after.blocks i 0) 0 ≡ cond (held_at c i) (get_or c.blocks i 0) 0
      at i (yes e) =
          let h : held_at c i ≡ false = ap (held_at c) e ∙ here.place.held in
          ap (λ (t : Bool). cond t (get_or after.blocks i 0) 0) h ∙ sym (ap (λ (t : Bool). cond t (get_or c.blocks i 0) 0) h)
      at i (no e) = ap (λ (x : ℕ). cond (held_at c i) x 0) (blocks_other i e)

  -- the items' lines: the new one has nothing counted
  abbrev lazy_after : ℕ → Use
  lazy_after i = plus_use (use_at (figures_of c) i) (cond (eqb i c.n) no_use no_use)

  use_lazy : (i : ℕ) → Dec (i ≡ c.n) → i < c.n + 1 → usage_of c i ≡ use_at (figures_of c) i
  unfolding uses_of
  use_lazy i (yes e) m =
      ap (usage_of c) e
      ∙ (λ z. use_of (here.place.minutes z) (here.place.loads z) (here.place.writebacks z))
      ∙ sym (tab_past c.n (usage_of c) i no_use (omega arith))
  use_lazy i (no e) m = sym (use_is c i (omega arith))

  uses_after : tab (c.n + 1) (usage_of c) ≡ tab (lines_after (catalog_of c) (arrived c.n)) lazy_after
  uses_after =
      tab_eq (c.n + 1) (usage_of c) lazy_after (λ i m. use_lazy i (ℕ_discrete i c.n) m ∙ same_use (eqb i c.n) (use_at (figures_of c) i))
      ∙ ap (λ (m : ℕ). tab m lazy_after) (ap (λ (k : ℕ). k + 1) (sym (size_is c)))

  totals_after : counts_of (step_counted c Arrivals) ≡ plus_totals (counts_of c) (adds (catalog_of c) (arrived c.n))
  totals_after = simp add-zero

  stands_after : lazy after ≡ took_in (lazy c) (Arrive c.n b l w)
  unfolding took_in step_in fold catalog_of slots_of keys_of uses_of
  stands_after =
      λ z.
      record {
        k = c.k;
        queue = record { catalog = catalog_after z; slots = slots_after z; keys = keys_after z; level = c.level };
        figures = record { totals = totals_after z; uses = uses_after z };
        closed = c.closed;
        split = split_of c.rule;
      }

  past_after : (i : ℕ) → c.n + 1 ≤ i → i < 256 → Blank after i
  past_after i m q =
      let x : Blank c i = ok.past i (omega arith) q in
      record {
        place =
            record {
              held = x.place.held;
              slot = record { dirty = x.place.slot.dirty; load_credit = x.place.slot.load_credit; write_credit = x.place.slot.write_credit; key = x.place.slot.key };
              minutes = x.place.minutes;
              loads = x.place.loads;
              writebacks = x.place.writebacks;
            };
        blocks = blocks_other i (omega arith) ∙ x.blocks;
        load = load_other i (omega arith) ∙ x.load;
        write = write_other i (omega arith) ∙ x.write;
        left = x.left;
      }

  -- an item that is not held is empty: one that was there before, or the new one
  empty : (i : ℕ) → i < c.n + 1 → get_or c.held i false ≡ false → Dec (c.n ≤ i) → Emptied c i
  empty i m h (yes e) = (ok.past i e (omega arith)).place.slot
  empty i m h (no e) = ok.absent i (omega arith) h

  spent : (i : ℕ) → i < c.n + 1 → dirty_at c i ≡ false → Dec (c.n ≤ i) → get_or c.writecredit i 0 ≡ 0
  spent i m d (yes e) = (ok.past i e (omega arith)).place.slot.write_credit
  spent i m d (no e) = ok.clean i (omega arith) d

  pub arrive_becomes : Becomes (took_in (lazy c) (Arrive c.n b l w)) (listed_of (step_counted c Arrivals) b l w)
  unfolding held_items
  arrive_becomes =
      record {
        stands = stands_after;
        fields =
            record {
              few = omega arith;
              past = past_after;
              absent =
                  λ i m h. let x : Emptied c i = empty i m h (dec_le c.n i) in
                  record { dirty = x.dirty; load_credit = x.load_credit; write_credit = x.write_credit; key = x.key };
              clean = λ i m d. spent i m d (dec_le c.n i);
              heap = ok.heap;
              order = ok.order;
              used = ok.used ∙ sym same_blocks;
            };
      }
