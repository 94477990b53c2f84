-- What a caller has of a heap: the root goes before every other item, and an item whose key changes is the only one that may be
-- out of order. Assumes nothing.
use mathlib.Core.Path.{◌≡◌}
use mathlib.Core.Logic.{◌≢◌}
use mathlib.Core.Bool.{Bool, true}
use mathlib.Core.List.{List}
use Prim.Native.Nat.{ℕ, ◌≤◌, ◌<◌}
use native.Mathlib.Omega.{arith}
use lib.ListN.{get_or, set}
use lib.Seq.{get_or-set_other}
use Rattle.heap.specs.Heap.{Heap, item_at, place_of, weight, weight_at, Ordered, Contains}
use Rattle.heap.specs.InnerMoves.{Unsettled}
use Rattle.heap.proofs.Orders.{root_least}

module _ (keys : List ℕ) (m : ℕ → Bool) (h : Heap) (c : Contains m h) (ok : Ordered (weight_at keys h) h.size) where
  -- no item of the set goes before the root
  pub root_first : (i : ℕ) → i < 256 → m i ≡ true → weight keys (item_at h 0) ≤ weight keys i
  root_first i l e =
      let p : weight_at keys h 0 ≤ weight_at keys h (place_of h i) = root_least (weight_at keys h) h.size ok (place_of h i) (c.low i l e) in
      rw (c.all i l e) at p

  -- by the key
  pub root_key : (i : ℕ) → i < 256 → item_at h 0 < 256 → m i ≡ true → get_or keys (item_at h 0) 0 ≤ get_or keys i 0
  root_key i l r e = omega (arith, root_first i l e)

  -- and of equal keys the lowest number
  pub root_number : (i : ℕ) → i < item_at h 0 → item_at h 0 < 256 → m i ≡ true → get_or keys (item_at h 0) 0 < get_or keys i 0
  root_number i l r e = omega (arith, root_first i (omega arith) e)

  -- a set that is not empty has a heap that is not empty, and its root is in the set
  pub root_member : (i : ℕ) → i < 256 → m i ≡ true → m (item_at h 0) ≡ true
  root_member i l e = grind arith

  -- the key of one item of the set changes
  pub rekeyed : (other : List ℕ) (i : ℕ) → i < 256 → m i ≡ true → ((j : ℕ) → j ≢ i → get_or other j 0 ≡ get_or keys j 0) → Unsettled other h (place_of h i)
  rekeyed other i l e rest = grind arith

  pub rekeyed_set : (i key : ℕ) → i < 256 → m i ≡ true → Unsettled (set keys i key) h (place_of h i)
  rekeyed_set i key l e = rekeyed (set keys i key) i l e (λ j ne. get_or-set_other keys i j key 0 ne)

-- a key that no item of the set has does not matter
pub other_key :
    (keys other : List ℕ) (m : ℕ → Bool) (h : Heap) →
    Contains m h →
    ((j : ℕ) → m j ≡ true → get_or other j 0 ≡ get_or keys j 0) →
    Ordered (weight_at keys h) h.size →
    Ordered (weight_at other h) h.size
other_key keys other m h c same ok = grind arith
