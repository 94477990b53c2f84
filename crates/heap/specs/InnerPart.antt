-- Where a heap stands in lent bytes: the keys of 256 items, 8 bytes each; the items by their places, a byte each; the place of each
-- item, a byte each. How many places are in use is told by the caller. Assumes nothing.
use Rattle.std.specs.Prelude.{◌≡◌, List, ℕ, length, take, drop}
use Rattle.fields.specs.LittleEndian.{run_from_bytes}
use Rattle.heap.specs.Heap.{Heap, heap_of}

abbrev pub part_bytes : ℕ
part_bytes = 2560

abbrev pub at_items : ℕ
at_items = 2048

abbrev pub at_places : ℕ
at_places = 2304

-- behind names of their own, so that nothing counts up to their places (proofs/Parts.antt has their laws)
unfoldable pub keys_in : List ℕ → List ℕ
keys_in s = run_from_bytes 8 256 s

unfoldable pub items_in : List ℕ → List ℕ
items_in s = take 256 (drop at_items s)

unfoldable pub places_in : List ℕ → List ℕ
places_in s = take 256 (drop at_places s)

abbrev pub heap_in : ℕ → List ℕ → Heap
heap_in n s = heap_of (items_in s) (places_in s) n

-- what every function on lent bytes leaves: how many they are, and the keys
pub record Kept (s r : List ℕ) : Type 0 where
  pub size : length r ≡ part_bytes
  pub head : take at_items r ≡ take at_items s
