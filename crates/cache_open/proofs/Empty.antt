-- The cache of an opening: nothing is held and nothing counted, and it stands where the queue starts. Assumes nothing.
use mathlib.Core.Path.{◌≡◌, sym, ap, subst, ◌∙◌}
use mathlib.Core.Bool.{Bool, false, cond}
use mathlib.Core.List.{List}
use Prim.Native.Nat.{ℕ, ◌/◌, ◌%◌, ◌^◌, ◌≤◌, ◌<◌}
use native.Mathlib.Nat.{zero-div}
use native.Mathlib.Decide.{dec_lt}
use native.Mathlib.Omega.{arith}
use lib.Dec.{eqb}
use lib.ListN.{length, get_or, replicate, get_or-replicate, length-replicate, get_or-eq_default}
use Rattle.types.specs.declared.Deduction.{Deduction}
use Rattle.landlord.specs.Fold.{tab, sum_to}
use Rattle.landlord.specs.Catalog.{Catalog, Item}
use Rattle.landlord.specs.Slot.{absent, split_of}
use Rattle.landlord.specs.Figures.{nothing, no_use, totals_of}
use Rattle.landlord.proofs.Folds.{tab_length, tab_eq}
use Rattle.landlord.proofs.Sums.{sum_longer}
use Rattle.queue.specs.Machine.{LazyStanding, empty_queue}
use Rattle.heap.specs.Heap.{heap_of, weight_at, Contains, Ordered}
use Rattle.basis.proofs.Decides.{clash}
use Rattle.marks.specs.Marks.{bit, marked}
use Rattle.cache_state.specs.Cache.{Cache, slot_of, held_at, held_items, held_blocks, heap_at, catalog_of, slots_of, keys_of, uses_of, EmptyPlace, Blank}
use Rattle.cache_state.specs.InnerView.{usage_of}
use Rattle.cache_state.specs.InnerBecomes.{Becomes}
use Rattle.cache_open.specs.Inner.{empty_with, Column}

-- no mark is set in words that are 0
unmarked : (i : ℕ) → i < 256 → marked (replicate 4 0) i ≡ false
unfolding marked bit
unmarked i l =
    ap (λ (w : ℕ). eqb (w / 2 ^ (i % 64) % 2) 1) (get_or-replicate 4 (i / 64) 0 0 (omega arith)) ∙ ap (λ (w : ℕ). eqb (w % 2) 1) (zero-div (2 ^ (i % 64)))

pub empty_place : (k n : ℕ) (blocks load write : List ℕ) (is_closed : Bool) (r : Deduction) (i : ℕ) → i < 256 → EmptyPlace (empty_with k n blocks load write is_closed r) i
empty_place k n blocks load write is_closed r i l =
    record {
      held = get_or-replicate 256 i false false l;
      slot =
          record {
            dirty = unmarked i l;
            load_credit = get_or-replicate 256 i 0 0 l;
            write_credit = get_or-replicate 256 i 0 0 l;
            key = get_or-replicate 256 i 0 0 l;
          };
      minutes = get_or-replicate 256 i 0 0 l;
      loads = get_or-replicate 256 i 0 0 l;
      writebacks = get_or-replicate 256 i 0 0 l;
    }

-- a heap of no items
zero_at : (j : ℕ) → ◌≡◌ {A = ℕ} (get_or (replicate 256 0) j 0) 0
zero_at j = go (dec_lt j 256)
  where
    go : Dec (j < 256) → ◌≡◌ {A = ℕ} (get_or (replicate 256 0) j 0) 0
    go (yes l) = get_or-replicate 256 j 0 0 l
    go (no l) = get_or-eq_default (replicate 256 0) 0 {n = j} (omega (arith, length-replicate {A = ℕ} 256 0))

no_heap : (m : ℕ → Bool) → ((i : ℕ) → i < 256 → m i ≡ false) → Contains m (heap_of (replicate 256 0) (replicate 256 0) 0)
no_heap m none =
    record {
      small = omega arith;
      placed = λ j l. absurd (let q : j < 0 = l in omega arith);
      only = λ j l. absurd (let q : j < 0 = l in omega arith);
      low = λ i l e. clash (m i) e (none i l);
      all = λ i l e. clash (m i) e (none i l);
      past = λ j l. zero_at j;
      none = λ i l e. zero_at i;
    }

-- where the queue starts, and a closed cache as empty
abbrev pub started : ℕ → Catalog → Bool → Deduction → LazyStanding
started k cat is_closed r = record { k = k; queue = empty_queue cat; figures = nothing cat; closed = is_closed; split = split_of r }

-- the empty cache with n items stands where the queue starts with their catalog
module _ (k n : ℕ) (item : ℕ → Item) (is_closed : Bool) (r : Deduction) (blocks load write : List ℕ) (few : n ≤ 256) (b : Column n (λ i. (item i).blocks) blocks) (l : Column n (λ i. (item i).load) load) (w : Column n (λ i. (item i).write) write) (stays : (i : ℕ) → (item i).left ≡ false) where
  abbrev new : Cache
  new = empty_with k n blocks load write is_closed r

  place : (i : ℕ) → i < 256 → EmptyPlace new i
  place = empty_place k n blocks load write is_closed r

  same_catalog : catalog_of new ≡ tab n item
  unfolding catalog_of
  same_catalog = tab_eq n _ _ (λ i m z. record { blocks = b.front i m z; load = l.front i m z; write = w.front i m z; left = (unmarked i (omega (arith, few)) ∙ sym (stays i)) z })

  same_length : n ≡ length (tab n item)
  same_length = sym (tab_length n item)

  slots : tab n (slot_of new) ≡ tab n (λ i. absent)
  slots = tab_eq n _ _ (λ i m. rw (place i (omega (arith, few))).held)

  uses : tab n (usage_of new) ≡ tab n (λ i. no_use)
  uses =
      tab_eq n _ _
      (λ i m z.
      let p = place i (omega (arith, few)) in
      record { minutes = p.minutes z; loads = p.loads z; writebacks = p.writebacks z })

  past : (i : ℕ) → n ≤ i → i < 256 → Blank new i
  past i m u = record { place = place i u; blocks = b.rest i m u; load = l.rest i m u; write = w.rest i m u; left = unmarked i u }

  keys : tab n (λ i. get_or new.keys i 0) ≡ tab n (λ i. 0)
  keys = tab_eq n _ _ (λ i m. (place i (omega (arith, few))).slot.key)

  -- nothing is held, so the heap has no place in use
  no_items : held_items new ≡ 0
  unfolding held_items sum_to
  no_items =
      sum_longer 0 256 (λ i. 0) (λ i. cond (held_at new i) 1 0) (omega arith) (λ i m. absurd (let q : i < 0 = m in omega arith))
      (λ i m u. ap (λ (t : Bool). cond t 1 0) (place i u).held)

  no_used : held_blocks new ≡ 0
  unfolding held_blocks sum_to
  no_used =
      sum_longer 0 256 (λ i. 0) (λ i. cond (held_at new i) (get_or new.blocks i 0) 0) (omega arith) (λ i m. absurd (let q : i < 0 = m in omega arith))
      (λ i m u. ap (λ (t : Bool). cond t (get_or new.blocks i 0) 0) (place i u).held)

  heap : Contains (held_at new) (heap_at new)
  heap = subst (λ (s : ℕ). Contains (held_at new) (heap_of (replicate 256 0) (replicate 256 0) s)) (sym no_items) (no_heap (held_at new) (λ i u. (place i u).held))

  order : Ordered (weight_at new.keys (heap_at new)) (heap_at new).size
  order = record { each = λ j p q. absurd (let u : j < held_items new = q in omega (arith, no_items)) }

  pub empty_becomes : Becomes (started k (tab n item) is_closed r) (empty_with k n blocks load write is_closed r)
  unfolding slots_of keys_of uses_of
  empty_becomes =
      record {
        stands = λ z. record {
          k = k;
          queue =
              record {
                catalog = same_catalog z;
                slots = (slots ∙ ap (λ (m : ℕ). tab m (λ i. absent)) same_length) z;
                keys = (keys ∙ ap (λ (m : ℕ). tab m (λ i. 0)) same_length) z;
                level = 0;
              };
          figures = record { totals = totals_of 0 0 0 0 0 0 0 0 0 0 0; uses = (uses ∙ ap (λ (m : ℕ). tab m (λ i. no_use)) same_length) z };
          closed = is_closed;
          split = split_of r;
        };
        fields =
            record {
              few = few;
              past = past;
              absent = λ i m e. (place i (omega (arith, few))).slot;
              clean = λ i m e. (place i (omega (arith, few))).slot.write_credit;
              heap = heap;
              order = order;
              used = sym no_used;
            };
      }
