-- The heap's part in the check, and all the parts together: what the tests find is validity, no less and no more. Assumes nothing.
use mathlib.Core.Path.{◌≡◌, refl, sym, ap, subst, ◌∙◌}
use mathlib.Core.Bool.{Bool, true, false, cond}
use mathlib.Core.List.{List}
use Prim.Native.Nat.{ℕ, zero, suc, ◌+◌, ◌*◌, ◌≤◌, ◌<◌}
use native.Mathlib.Decide.{dec_lt}
use native.Mathlib.Omega.{arith}
use lib.ListN.{length, drop, get_or}
use Rattle.fields.specs.Inner.{Below}
use Rattle.landlord.specs.Fold.{sum_to}
use Rattle.landlord.specs.Rule.{used, held_count}
use Rattle.landlord.proofs.Sums.{sum_longer}
use Rattle.heap.specs.InnerMoves.{HeapOk}
use Rattle.basis.specs.InnerDecided.{Decided}
use Rattle.cache_state.specs.Cache.{Cache, held_at, held_items, held_blocks, heap_at, Valid}
use Rattle.cache_state.specs.InnerView.{state_of}
use Rattle.cache_state.specs.InnerParts.{PastOk}
use Rattle.cache_state.proofs.Views.{used_is, count_is}
use Rattle.cache_state.proofs.Checks.{Parts, Costs, parts_of, valid_of}
use Rattle.cache_heap.proofs.Validity.{heap_valid, valid_heap}
use Rattle.layout.specs.Layout.{state_bytes, cache_of, numbers_at}
use Rattle.layout.specs.InnerRows.{at_heap, at_places, at_item_load_costs, at_item_write_costs}
use Rattle.cache_check.specs.Inner.{Zeros, CatalogTests, HeldCounted, HeapTests}
use Rattle.cache_check.proofs.Blanks.{run_zero, zero_run}
use Rattle.cache_check.proofs.Past.{PastBlank, blank_tests, tests_blank}
use Rattle.fields.proofs.Laws.{run_from_lt, below_drop}

-- ---- sums over the catalog are sums over all places, as nothing is held past it

module _ (c : Cache) (few : c.n ≤ 256) (past : PastOk c) where
  pub held_all : held_count (state_of c) ≡ held_items c
  unfolding held_items
  held_all =
      count_is c
      ∙ sym (sum_longer c.n 256 (λ i. cond (held_at c i) 1 0) (λ i. cond (held_at c i) 1 0) few (λ i l. refl)
      (λ i l b. ap (λ (t : Bool). cond t 1 0) (past.each i l b).place.held))

  pub used_all : used (state_of c) ≡ held_blocks c
  unfolding held_blocks
  used_all =
      used_is c
      ∙ sym (sum_longer c.n 256 (λ i. cond (held_at c i) (get_or c.blocks i 0) 0) (λ i. cond (held_at c i) (get_or c.blocks i 0) 0) few (λ i l. refl)
      (λ i l b. ap (λ (t : Bool). cond t (get_or c.blocks i 0) 0) (past.each i l b).place.held))

-- at most 256 are held
few_of : (m : ℕ → Bool) (k : ℕ) → sum_to k (λ i. cond (m i) 1 0) ≤ k
unfolding sum_to
few_of m zero = omega arith
few_of m (suc k) = omega (arith, few_of m k, one (m k))
  where
    one : (t : Bool) → cond t 1 0 ≤ 1
    one true = omega arith
    one false = omega arith

held_few : (c : Cache) → held_items c ≤ 256
unfolding held_items
held_few c = few_of (held_at c) 256

-- ---- what the tests find

-- the places of the heap that are not in use are 0 exactly if their bytes are
module _ (b : List ℕ) (m : ℕ) (few : m ≤ 256) where
  unused_zeros : ((j : ℕ) → m ≤ j → j < 256 → get_or (cache_of b).heap j 0 ≡ 0) → Zeros b (at_heap + m) at_places
  unused_zeros h =
      let e : m * 1 ≡ m = omega arith in
      subst (λ (k : ℕ). Zeros b (at_heap + k) at_places) e (zero_run b at_heap 1 m few (record { each = h }))

  zeros_unused : Zeros b (at_heap + m) at_places → (j : ℕ) → m ≤ j → j < 256 → get_or (cache_of b).heap j 0 ≡ 0
  zeros_unused z =
      let e : m ≡ m * 1 = omega arith in
      (run_zero b at_heap 1 m (subst (λ (k : ℕ). Zeros b (at_heap + k) at_places) e z)).each

module _ {b : List ℕ} (few : (cache_of b).n ≤ 256) (t : CatalogTests b (cache_of b).n) where
  blank : PastBlank (cache_of b)
  blank = tests_blank b (cache_of b).n refl t.past

  pub counted : length b ≡ state_bytes → HeldCounted b
  counted size =
      record {
        size = size;
        count = omega (arith, t.counts.sums.kept, held_all (cache_of b) few blank.past);
        held = held_few (cache_of b);
        taken = omega (arith, t.counts.counts.steps, t.counts.counts.taken);
      }

  -- the places of items that are not held are 0
  places_none : (i : ℕ) → i < 256 → held_at (cache_of b) i ≡ false → get_or (cache_of b).places i 0 ≡ 0
  places_none i l e = go (dec_lt i (cache_of b).n)
    where
      go : Dec (i < (cache_of b).n) → get_or (cache_of b).places i 0 ≡ 0
      go (yes m) = (t.items.each i m).place e
      go (no m) = blank.places i (omega arith) l

  parts : Below 256 b → HeapTests b → Parts (cache_of b)
  parts bytes h =
      record {
        few = few;
        past = blank.past;
        entries = record { each = λ i l. (t.items.each i l).entry };
        keys = record { each = λ i l. (t.items.each i l).key };
        queue = record { heap = ok.contains; order = ok.ordered; used = sym t.counts.used ∙ used_all (cache_of b) few blank.past; level = h.level };
        left = t.left;
        sums = t.counts.sums;
        counts = t.counts.counts;
      }
    where
      ok : HeapOk (held_at (cache_of b)) (cache_of b).keys (heap_at (cache_of b))
      ok =
          heap_valid b bytes (held_items (cache_of b)) (held_few (cache_of b)) refl h.spots
          (zeros_unused b (held_items (cache_of b)) (held_few (cache_of b)) h.unused) places_none

-- ---- what a valid cache has

module _ (b : List ℕ) (v : Valid (cache_of b)) where
  pub catalog_fine : CatalogTests b (cache_of b).n
  catalog_fine =
      record {
        past =
            blank_tests b (cache_of b).n refl v.fields.few
            (record { past = past; places = λ i l m. v.fields.heap.none i m (v.fields.past i l m).place.held });
        items =
            record {
              each = λ i l.
                  record {
                    entry = parts_fine.entries.each i l;
                    key = parts_fine.keys.each i l;
                    place = λ e. v.fields.heap.none i (omega (arith, v.fields.few)) e;
                  };
            };
        left = parts_fine.left;
        counts = record { used = used_all (cache_of b) v.fields.few past ∙ sym v.fields.used; sums = parts_fine.sums; counts = parts_fine.counts };
      }
    where
      past : PastOk (cache_of b)
      past = record { each = v.fields.past }

      parts_fine : Parts (cache_of b)
      parts_fine = parts_of (cache_of b) v

  pub heap_fine : HeapTests b
  heap_fine =
      record {
        level = v.lazy.level;
        unused = unused_zeros b (held_items (cache_of b)) (held_few (cache_of b)) (λ j l m. v.fields.heap.past j l);
        spots = valid_heap b (record { contains = v.fields.heap; ordered = v.fields.order });
      }

-- ---- the tests together

-- a cost is of two bytes
costs : (b : List ℕ) → Below 256 b → Costs (cache_of b)
unfolding numbers_at
costs b h =
    record {
      load = λ i. omega (arith, run_from_lt 2 256 (drop at_item_load_costs b) (below_drop 256 at_item_load_costs b h) i);
      write = λ i. omega (arith, run_from_lt 2 256 (drop at_item_write_costs b) (below_drop 256 at_item_write_costs b h) i);
    }

pub whole_so : {b : List ℕ} {r : Bool} → Below 256 b → (cache_of b).n ≤ 256 → CatalogTests b (cache_of b).n → Decided (HeapTests b) r → Decided (Valid (cache_of b)) r
whole_so {b} bytes few t d =
    record { yes = λ e. valid_of (cache_of b) (costs b bytes) (parts few t bytes (d.yes e)); only = λ v. d.only (heap_fine b v) }
