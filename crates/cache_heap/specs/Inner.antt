-- What the functions on the heap of a state ask for and hand back: in terms of the cache that the bytes are. Assumes nothing.
use mathlib.Core.{Path.◌≡◌, List.List}
use Rattle.std.specs.Prelude.{ℕ, suc, ◌-◌, ◌<◌}
use Rattle.heap.specs.Heap.{Heap, heap_of}
use Rattle.heap.specs.InnerMoves.{Filled, Removed, Roomy, Inserted, Unsettled, Sifted, SpotsOn}
use Rattle.cache_state.specs.{Cache.{Cache, held_at}, InnerWith.with_arrangement}
use Rattle.layout.specs.{Layout.cache_of, Inner.{Readable}}

-- the heap of a cache, of which n places are in use
abbrev pub heap_with : ℕ → Cache → Heap
heap_with n c = heap_of c.heap c.places n

-- nothing but the heap's arrangement is changed
pub record Rearranged (b next : List ℕ) : Type 0 where
  pub reads : Readable next
  pub rest : cache_of next ≡ with_arrangement (cache_of b) (cache_of next).heap (cache_of next).places

pub record FilledAt (b : List ℕ) (n at : ℕ) : Type 0 where
  pub reads : Readable b
  pub filled : Filled (cache_of b).keys (heap_with n (cache_of b)) at

pub record RemovedAt (b : List ℕ) (n at : ℕ) (next : List ℕ) : Type 0 where
  pub only : Rearranged b next
  pub removed : Removed (cache_of b).keys (heap_with n (cache_of b)) at (heap_with (n - 1) (cache_of next))

pub record RoomyAt (b : List ℕ) (n item : ℕ) : Type 0 where
  pub reads : Readable b
  pub known : item < 256
  pub roomy : Roomy (cache_of b).keys (heap_with n (cache_of b))

pub record InsertedAt (b : List ℕ) (n item : ℕ) (next : List ℕ) : Type 0 where
  pub only : Rearranged b next
  pub inserted : Inserted (cache_of b).keys (heap_with n (cache_of b)) item (heap_with (suc n) (cache_of next))

pub record UnsettledAt (b : List ℕ) (n at : ℕ) : Type 0 where
  pub reads : Readable b
  pub unsettled : Unsettled (cache_of b).keys (heap_with n (cache_of b)) at

pub record SiftedAt (b : List ℕ) (n : ℕ) (next : List ℕ) : Type 0 where
  pub only : Rearranged b next
  pub sifted : Sifted (cache_of b).keys (heap_with n (cache_of b)) (heap_with n (cache_of next))

-- the first n places of the heap are as they should be
abbrev pub SpotsAt : Cache → ℕ → Type 0
SpotsAt c n = SpotsOn (held_at c) c.keys c.heap c.places n
