-- The part of a state that is lent to the heap: it is the heap of the cache that the bytes are, and what comes back is that cache with
-- the heap arranged otherwise. Assumes nothing.
use mathlib.Core.Path.{◌≡◌, refl, sym, ap, subst, ◌∙◌}
use mathlib.Core.List.{List, [], ◌∷◌, ◌++◌, append_assoc}
use Prim.Native.Nat.{ℕ, zero, suc, ◌+◌, ◌*◌, ◌-◌, ◌%◌, ◌≤◌}
use native.Mathlib.Omega.{arith}
use lib.ListN.{length, get_or, take, drop, length-drop, take-append-drop}
use lib.Seq.{sets, sets-eq, length-take-le, take-take, take_at, drop_at, drop-drop, take-add, take_all}
use Rattle.fields.specs.LittleEndian.{from_bytes, to_bytes, run_from_bytes}
use Rattle.fields.specs.Inner.{Below, run_of}
use mir.Syntax.{w8}
use mir.Val.{Fits}
use Rattle.std.proofs.Math.Facts.{Fits-of_lt}
use Rattle.fields.proofs.Laws.{byte_fits, below_drop, below_take, below_append, sets_append}
use Rattle.heap.specs.Heap.{Heap, heap_of}
use Rattle.heap.specs.InnerPart.{part_bytes, keys_in, items_in, places_in, heap_in, Kept}
use Rattle.heap.specs.InnerMoves.{Filled, FilledIn, RemovedIn, Roomy, RoomyIn, InsertedIn, UnsettledIn, SiftedIn, Removed, Inserted, Sifted, Unsettled}
use Rattle.heap.proofs.Parts.{run_take, drop_take, items_long, places_long}
use Rattle.cache_state.specs.Cache.{Cache}
use Rattle.cache_state.specs.InnerWith.{with_arrangement}
use Rattle.layout.specs.Layout.{state_bytes, cache_of, numbers_at}
use Rattle.layout.specs.InnerRows.{at_keys, at_heap, at_places}
use Rattle.layout.specs.Inner.{Stands, Readable}
use Rattle.layout.proofs.Stores.{heap_stored, places_stored}
use Rattle.layout.proofs.Places.{readable, stands_as}
use Rattle.cache_heap.specs.Inner.{heap_with, Rearranged, FilledAt, RemovedAt, RoomyAt, InsertedAt, UnsettledAt, SiftedAt}

-- ---- numbers of one byte

pub run_one : (xs : List ℕ) → Below 256 xs → run_of 1 xs ≡ xs
unfolding run_of to_bytes
run_one [] h = refl
run_one (x ∷ xs) h = λ z. (let e : x % 256 ≡ x = omega (arith, h 0) in e) z ∷ run_one xs (λ i. h (suc i)) z

unrun_one : (n : ℕ) (xs : List ℕ) → n ≤ length xs → run_from_bytes 1 n xs ≡ take n xs
unfolding run_from_bytes from_bytes
unrun_one zero xs l = refl
unrun_one (suc n) [] l = absurd (omega arith)
unrun_one (suc n) (x ∷ xs) l = λ z. (let e : 0 * 256 + x ≡ x = omega arith in e) z ∷ unrun_one n xs (omega arith) z

-- the part of `w` elements at the place `at`
part : {A : Type 0} (xs ys zs : List A) (at w : ℕ) → length xs ≡ at → length ys ≡ w → take w (drop at (xs ++ (ys ++ zs))) ≡ ys
part xs ys zs at w p q = rw (drop_at xs (ys ++ zs) at p) (take_at ys zs w q)

-- ---- the part that is lent

abbrev pub part_of : List ℕ → List ℕ
part_of b = take (state_bytes - at_keys) (drop at_keys b)

module _ (b : List ℕ) (size : length b ≡ state_bytes) where
  pub part_size : length (part_of b) ≡ part_bytes
  part_size = length-take-le 2560 (drop at_keys b) (omega (arith, length-drop at_keys b))

  pub part_keys : keys_in (part_of b) ≡ (cache_of b).keys
  unfolding keys_in numbers_at
  part_keys =
      sym (run_take 256 (part_of b))
      ∙ ap (run_from_bytes 8 256) (take-take 2048 2560 (drop at_keys b) (omega arith))
      ∙ run_take 256 (drop at_keys b)

  -- a row of the part is that row of the state
  row_part : (at w : ℕ) → at + w ≤ 2560 → take w (drop at (part_of b)) ≡ take w (drop (at_keys + at) b)
  row_part at w l =
      let e : 2560 ≡ at + (2560 - at) = omega arith in
      ap (λ (k : ℕ). take w (drop at (take k (drop at_keys b)))) e
      ∙ ap (take w) (drop_take at (2560 - at) (drop at_keys b))
      ∙ take-take w (2560 - at) (drop at (drop at_keys b)) (omega arith)
      ∙ ap (take w) (drop-drop at at_keys b)

  pub part_items : items_in (part_of b) ≡ (cache_of b).heap
  unfolding items_in numbers_at
  part_items = row_part 2048 256 (omega arith) ∙ sym (unrun_one 256 (drop at_heap b) (omega (arith, length-drop at_heap b)))

  pub part_places : places_in (part_of b) ≡ (cache_of b).places
  unfolding places_in numbers_at
  part_places = row_part 2304 256 (omega arith) ∙ sym (unrun_one 256 (drop at_places b) (omega (arith, length-drop at_places b)))

  pub part_heap : (n : ℕ) → heap_in n (part_of b) ≡ heap_with n (cache_of b)
  part_heap n = λ z. heap_of (part_items z) (part_places z) n

-- ---- what comes back

module _ (b next ys : List ℕ) (bytes : (j : ℕ) → Fits w8 (get_or b j 0)) (after : Below 256 next) (s : Readable b) (kept : Kept (part_of b) ys) (is : next ≡ take at_keys b ++ (ys ++ drop 2560 (drop at_keys b))) where
  low : Below 256 b
  low j = byte_fits (bytes j)

  ys_below : Below 256 ys
  ys_below =
      subst (Below 256)
      (ap (λ (l : List ℕ). take 2560 (drop at_keys l)) is
      ∙ part (take at_keys b) ys (drop 2560 (drop at_keys b)) at_keys 2560 (length-take-le at_keys b (omega (arith, s.size))) kept.size)
      (below_take 256 2560 (drop at_keys next) (below_drop 256 at_keys next after))

  items_below : Below 256 (items_in ys)
  unfolding items_in
  items_below = below_take 256 256 (drop 2048 ys) (below_drop 256 2048 ys ys_below)

  places_below : Below 256 (places_in ys)
  unfolding places_in
  places_below = below_take 256 256 (drop 2304 ys) (below_drop 256 2304 ys ys_below)

  -- the two rows, stored one after the other
  both : items_in ys ++ places_in ys ≡ drop 2048 ys
  unfolding items_in places_in
  both =
      ap (λ (t : List ℕ). take 256 (drop 2048 ys) ++ t) (ap (take 256) (sym (drop-drop 256 2048 ys)))
      ∙ sym (take-add 256 256 (drop 2048 ys))
      ∙ take_all 512 (drop 2048 ys) (omega (arith, length-drop 2048 ys, kept.size))

  stored : next ≡ sets (sets b at_heap (items_in ys)) at_places (places_in ys)
  stored =
      is
      ∙ ap (λ (t : List ℕ). take at_keys b ++ (t ++ drop 2560 (drop at_keys b))) halves
      ∙ ap (λ (t : List ℕ). take at_keys b ++ t) (append_assoc (take 2048 (drop at_keys b)) (items_in ys ++ places_in ys) (drop 2560 (drop at_keys b)))
      ∙ sym (append_assoc (take at_keys b) (take 2048 (drop at_keys b)) ((items_in ys ++ places_in ys) ++ drop 2560 (drop at_keys b)))
      ∙ (λ z. sym (take-add at_keys 2048 b) z ++ ((items_in ys ++ places_in ys) ++ rest z))
      ∙ ap (λ (k : ℕ). take k b ++ ((items_in ys ++ places_in ys) ++ drop (at_heap + length (items_in ys ++ places_in ys)) b)) (let e : at_keys + 2048 ≡ at_heap = omega arith in e)
      ∙ sym (append_assoc (take at_heap b) (items_in ys ++ places_in ys) (drop (at_heap + length (items_in ys ++ places_in ys)) b))
      ∙ sym (sets-eq (items_in ys ++ places_in ys) b at_heap (omega (arith, s.size, ap length both, length-drop 2048 ys, kept.size)))
      ∙ sets_append b at_heap (items_in ys) (places_in ys)
      ∙ ap (λ (p : ℕ). sets (sets b at_heap (items_in ys)) p (places_in ys)) (let e : at_heap + length (items_in ys) ≡ at_places = omega (arith, items_long ys kept.size) in e)
    where
      halves : ys ≡ take 2048 (drop at_keys b) ++ (items_in ys ++ places_in ys)
      halves =
          sym (take-append-drop 2048 ys)
          ∙ (λ z. (kept.head ∙ take-take 2048 2560 (drop at_keys b) (omega arith)) z ++ sym both z)

      rest : drop 2560 (drop at_keys b) ≡ drop (at_heap + length (items_in ys ++ places_in ys)) b
      rest =
          drop-drop 2560 at_keys b
          ∙ ap (λ (k : ℕ). drop k b)
          (let e : at_keys + 2560 ≡ at_heap + length (items_in ys ++ places_in ys) = omega (arith, ap length both, length-drop 2048 ys, kept.size) in e)

  pub part_back : Stands next (with_arrangement (cache_of b) (items_in ys) (places_in ys))
  part_back =
      stands_as
      (places_stored (λ j. Fits-of_lt (mid_below j)) (readable first) (places_in ys) (places_long ys kept.size) places_below
      (stored ∙ ap (sets mid at_places) (sym (run_one (places_in ys) places_below))))
      (ap (λ (q : Cache). with_arrangement q q.heap (places_in ys)) first.cache)
    where
      mid : List ℕ
      mid = sets b at_heap (items_in ys)

      first : Stands mid (with_arrangement (cache_of b) (items_in ys) (cache_of b).places)
      first =
          heap_stored bytes s (items_in ys) (items_long ys kept.size) items_below (ap (sets b at_heap) (sym (run_one (items_in ys) items_below)))

      mid_below : Below 256 mid
      mid_below =
          subst (Below 256) (sym (sets-eq (items_in ys) b at_heap (omega (arith, s.size, items_long ys kept.size)) ∙ append_assoc (take at_heap b) (items_in ys) (drop (at_heap + length (items_in ys)) b)))
          (below_append 256 (take at_heap b) (items_in ys ++ drop (at_heap + length (items_in ys)) b) (below_take 256 at_heap b low)
          (below_append 256 (items_in ys) (drop (at_heap + length (items_in ys)) b) items_below (below_drop 256 (at_heap + length (items_in ys)) b low)))

  pub rearranged : Rearranged b next
  rearranged =
      record {
        reads = readable part_back;
        rest =
            part_back.cache
            ∙ (λ z. with_arrangement (cache_of b) (sym (ap (λ (q : Cache). q.heap) part_back.cache) z) (sym (ap (λ (q : Cache). q.places) part_back.cache) z));
      }

  pub heap_back : (n : ℕ) → heap_in n ys ≡ heap_with n (cache_of next)
  heap_back n = λ z. heap_of (sym (ap (λ (q : Cache). q.heap) part_back.cache) z) (sym (ap (λ (q : Cache). q.places) part_back.cache) z) n

  -- the three functions
  pub removed_back : (n at : ℕ) → RemovedIn n (part_of b) at ys → RemovedAt b n at next
  removed_back n at r =
      record {
        only = rearranged;
        removed =
            subst (λ (h : Heap). Removed (cache_of b).keys (heap_with n (cache_of b)) at h) (heap_back (n - 1))
            (subst (λ (h : Heap). Removed (cache_of b).keys h at (heap_in (n - 1) ys)) (part_heap b s.size n)
            (subst (λ (keys : List ℕ). Removed keys (heap_in n (part_of b)) at (heap_in (n - 1) ys)) (part_keys b s.size) r.removed));
      }

  pub inserted_back : (n item : ℕ) → InsertedIn n (part_of b) item ys → InsertedAt b n item next
  inserted_back n item r =
      record {
        only = rearranged;
        inserted =
            subst (λ (h : Heap). Inserted (cache_of b).keys (heap_with n (cache_of b)) item h) (heap_back (suc n))
            (subst (λ (h : Heap). Inserted (cache_of b).keys h item (heap_in (suc n) ys)) (part_heap b s.size n)
            (subst (λ (keys : List ℕ). Inserted keys (heap_in n (part_of b)) item (heap_in (suc n) ys)) (part_keys b s.size) r.inserted));
      }

  pub sifted_back : (n : ℕ) → SiftedIn n (part_of b) ys → SiftedAt b n next
  sifted_back n r =
      record {
        only = rearranged;
        sifted =
            subst (λ (h : Heap). Sifted (cache_of b).keys (heap_with n (cache_of b)) h) (heap_back n)
            (subst (λ (h : Heap). Sifted (cache_of b).keys h (heap_in n ys)) (part_heap b s.size n)
            (subst (λ (keys : List ℕ). Sifted keys (heap_in n (part_of b)) (heap_in n ys)) (part_keys b s.size) r.sifted));
      }

-- what they ask for
pub filled_in : (b : List ℕ) (n at : ℕ) → FilledAt b n at → FilledIn n (part_of b) at
filled_in b n at p =
    record {
      size = part_size b p.reads.size;
      filled =
          subst (λ (keys : List ℕ). Filled keys (heap_in n (part_of b)) at) (sym (part_keys b p.reads.size))
          (subst (λ (h : Heap). Filled (cache_of b).keys h at) (sym (part_heap b p.reads.size n)) p.filled);
    }

pub roomy_in : (b : List ℕ) (n item : ℕ) → RoomyAt b n item → RoomyIn n (part_of b) item
roomy_in b n item p =
    record {
      size = part_size b p.reads.size;
      known = p.known;
      roomy =
          subst (λ (keys : List ℕ). Roomy keys (heap_in n (part_of b))) (sym (part_keys b p.reads.size))
          (subst (λ (h : Heap). Roomy (cache_of b).keys h) (sym (part_heap b p.reads.size n)) p.roomy);
    }

pub unsettled_in : (b : List ℕ) (n at : ℕ) → UnsettledAt b n at → UnsettledIn n (part_of b) at
unsettled_in b n at p =
    record {
      size = part_size b p.reads.size;
      unsettled =
          subst (λ (keys : List ℕ). Unsettled keys (heap_in n (part_of b)) at) (sym (part_keys b p.reads.size))
          (subst (λ (h : Heap). Unsettled (cache_of b).keys h at) (sym (part_heap b p.reads.size n)) p.unsettled);
    }
