-- What the functions on heaps ask for and hand back. Assumes nothing.
use Rattle.std.specs.Prelude.{◌≡◌, ◌≢◌, Bool, true, false, not, List, ℕ, suc, ◌-◌, ◌≤◌, ◌<◌, eqb, length, get_or}
pub use Rattle.basis.specs.InnerDecided.{Decided}
use Rattle.heap.specs.InnerPart.{keys_in, items_in, places_in, heap_in, Kept, part_bytes}
use Rattle.heap.specs.Heap.{Heap, item_at, place_of, weight_at, weight_of, above, Ordered, But, Up, Down, Contains, Put}

-- the items at places i and j have changed places
pub record Exchanged (h : Heap) (i j : ℕ) (r : Heap) : Type 0 where
  pub size : r.size ≡ h.size
  pub one : item_at r i ≡ item_at h j
  pub two : item_at r j ≡ item_at h i
  pub rest : (k : ℕ) → k ≢ i → k ≢ j → item_at r k ≡ item_at h k
  pub one_at : item_at h i ≢ item_at h j → place_of r (item_at h j) ≡ i
  pub two_at : place_of r (item_at h i) ≡ j
  pub rest_at : (x : ℕ) → x ≢ item_at h i → x ≢ item_at h j → place_of r x ≡ place_of h x

-- bytes of a heap, and two places
pub record Swappable (s : List ℕ) (i j : ℕ) : Type 0 where
  pub size : length s ≡ part_bytes
  pub one : i < 256
  pub two : j < 256

-- the exchange, of a heap of any size
pub record Swapping (s : List ℕ) (i j : ℕ) (r : List ℕ) : Type 0 where
  pub each : (n : ℕ) → Exchanged (heap_in n s) i j (heap_in n r)
  pub kept : Kept s r

-- whether the item at a place goes before the one above
pub record Rises (v : ℕ → ℕ) (at : ℕ) (r : Bool) : Type 0 where
  pub some : r ≡ true → 1 ≤ at
  pub yes : r ≡ true → v at < v (above at)
  pub no : r ≡ false → 1 ≤ at → v (above at) ≤ v at

-- the place of i and j whose item goes first, where only places below n count and i is one
pub record Lower (v : ℕ → ℕ) (n i j r : ℕ) : Type 0 where
  pub here : r < n
  pub first : v r ≤ v i
  pub second : j < n → v r ≤ v j
  pub either : r ≢ i → (r ≡ j) × (v r < v i)

-- the place of at and those below it whose item goes first
pub record Lowest (v : ℕ → ℕ) (n at r : ℕ) : Type 0 where
  pub here : r < n
  pub least : (j : ℕ) → 1 ≤ j → j < n → above j ≡ at → v r ≤ v j
  pub same : r ≡ at → (j : ℕ) → 1 ≤ j → j < n → above j ≡ at → v at ≤ v j
  pub child : r ≢ at → (above r ≡ at) × (1 ≤ r) × (v r < v at)

-- an item that may have to rise, or to sink, or either
pub record Climbing (keys : List ℕ) (h : Heap) (at : ℕ) : Type 0 where
  pub here : at < h.size
  pub small : h.size ≤ 256
  pub up : Up (weight_at keys h) h.size at

pub record Sinking (keys : List ℕ) (h : Heap) (at : ℕ) : Type 0 where
  pub here : at < h.size
  pub small : h.size ≤ 256
  pub down : Down (weight_at keys h) h.size at

pub record Unsettled (keys : List ℕ) (h : Heap) (at : ℕ) : Type 0 where
  pub here : at < h.size
  pub small : h.size ≤ 256
  pub but : But (weight_at keys h) h.size at

-- what a heap contains, another contains as well
pub record Same (h r : Heap) : Type 0 where
  pub size : r.size ≡ h.size
  pub keeps : (m : ℕ → Bool) → Contains m h → Contains m r

-- put in order, with the same items
pub record Sifted (keys : List ℕ) (h r : Heap) : Type 0 where
  pub same : Same h r
  pub ordered : Ordered (weight_at keys r) r.size

-- the same on lent bytes
pub record SiftedIn (n : ℕ) (s r : List ℕ) : Type 0 where
  pub sifted : Sifted (keys_in s) (heap_in n s) (heap_in n r)
  pub kept : Kept s r

-- an item stands at a new last place
pub record Appended (h : Heap) (item : ℕ) (r : Heap) : Type 0 where
  pub size : r.size ≡ suc h.size
  pub here : item_at r h.size ≡ item
  pub rest : (j : ℕ) → j ≢ h.size → item_at r j ≡ item_at h j
  pub at : place_of r item ≡ h.size
  pub rest_at : (x : ℕ) → x ≢ item → place_of r x ≡ place_of h x

-- the last place, of this number, is gone
pub record Cut (h : Heap) (last : ℕ) (r : Heap) : Type 0 where
  pub size : r.size ≡ last
  pub here : item_at r last ≡ 0
  pub rest : (j : ℕ) → j ≢ last → item_at r j ≡ item_at h j
  pub at : place_of r (item_at h last) ≡ 0
  pub rest_at : (x : ℕ) → x ≢ item_at h last → place_of r x ≡ place_of h x

-- a heap in order with room for one item more
pub record Roomy (keys : List ℕ) (h : Heap) : Type 0 where
  pub room : h.size < 256
  pub ordered : Ordered (weight_at keys h) h.size

-- an item put in
pub record Inserted (keys : List ℕ) (h : Heap) (item : ℕ) (r : Heap) : Type 0 where
  pub size : r.size ≡ suc h.size
  pub ordered : Ordered (weight_at keys r) r.size
  pub contains : (m s : ℕ → Bool) → Contains m h → m item ≡ false → Put m item true s → Contains s r

-- a heap in order that has an item at a place
pub record Filled (keys : List ℕ) (h : Heap) (at : ℕ) : Type 0 where
  pub here : at < h.size
  pub small : h.size ≤ 256
  pub ordered : Ordered (weight_at keys h) h.size

-- the item of a place taken out
pub record Removed (keys : List ℕ) (h : Heap) (at : ℕ) (r : Heap) : Type 0 where
  pub size : suc r.size ≡ h.size
  pub ordered : Ordered (weight_at keys r) r.size
  pub contains : (m s : ℕ → Bool) → Contains m h → Put m (item_at h at) false s → Contains s r

-- ---- on lent bytes

pub record ClimbingIn (n : ℕ) (s : List ℕ) (at : ℕ) : Type 0 where
  pub size : length s ≡ part_bytes
  pub climbs : Climbing (keys_in s) (heap_in n s) at

pub record SinkingIn (n : ℕ) (s : List ℕ) (at : ℕ) : Type 0 where
  pub size : length s ≡ part_bytes
  pub sinks : Sinking (keys_in s) (heap_in n s) at

pub record UnsettledIn (n : ℕ) (s : List ℕ) (at : ℕ) : Type 0 where
  pub size : length s ≡ part_bytes
  pub unsettled : Unsettled (keys_in s) (heap_in n s) at

pub record AppendedIn (n : ℕ) (s : List ℕ) (item : ℕ) (r : List ℕ) : Type 0 where
  pub appended : Appended (heap_in n s) item (heap_in (suc n) r)
  pub kept : Kept s r

pub record CutIn (n : ℕ) (s : List ℕ) (last : ℕ) (r : List ℕ) : Type 0 where
  pub cut : Cut (heap_in n s) last (heap_in last r)
  pub kept : Kept s r

-- a heap in order with room for one item more, and a number of an item
pub record RoomyIn (n : ℕ) (s : List ℕ) (item : ℕ) : Type 0 where
  pub size : length s ≡ part_bytes
  pub known : item < 256
  pub roomy : Roomy (keys_in s) (heap_in n s)

pub record InsertedIn (n : ℕ) (s : List ℕ) (item : ℕ) (r : List ℕ) : Type 0 where
  pub inserted : Inserted (keys_in s) (heap_in n s) item (heap_in (suc n) r)
  pub kept : Kept s r

pub record FilledIn (n : ℕ) (s : List ℕ) (at : ℕ) : Type 0 where
  pub size : length s ≡ part_bytes
  pub filled : Filled (keys_in s) (heap_in n s) at

pub record RemovedIn (n : ℕ) (s : List ℕ) (at : ℕ) (r : List ℕ) : Type 0 where
  pub removed : Removed (keys_in s) (heap_in n s) at (heap_in (n - 1) r)
  pub kept : Kept s r

-- a heap that has each item of a set once and nothing else, in order: what is asked of a lent state
pub record HeapOk (m : ℕ → Bool) (keys : List ℕ) (h : Heap) : Type 0 where
  pub contains : Contains m h
  pub ordered : Ordered (weight_at keys h) h.size

-- ---- the heap's part in what a valid state is

-- the items whose flag is not 0
abbrev pub flagged : List ℕ → ℕ → Bool
flagged held i = not (eqb (get_or held i 0) 0)

-- bytes of a heap, and a place below the root
pub record Spot (s : List ℕ) (j : ℕ) : Type 0 where
  pub size : length s ≡ part_bytes
  pub below : 1 ≤ j
  pub here : j < 256

-- bytes of a heap, the flags of the items, and how many places are in use
pub record Spots (s held : List ℕ) (n : ℕ) : Type 0 where
  pub size : length s ≡ part_bytes
  pub flags : length held ≡ 256
  pub few : n ≤ 256

-- what is asked of the root, of any items and places
pub record RootOn (m : ℕ → Bool) (items places : List ℕ) : Type 0 where
  pub is_held : m (get_or items 0 0) ≡ true
  pub placed : get_or places (get_or items 0 0) 0 ≡ 0

-- of another place in use
pub record SpotOn (keys items places : List ℕ) (j : ℕ) : Type 0 where
  pub placed : get_or places (get_or items j 0) 0 ≡ j
  pub order : weight_of keys items (above j) ≤ weight_of keys items j

-- and of all n: an item that is not held has place 0, so that it could stand at the root alone
pub record SpotsOn (m : ℕ → Bool) (keys items places : List ℕ) (n : ℕ) : Type 0 where
  pub root : 1 ≤ n → RootOn m items places
  pub each : (j : ℕ) → 1 ≤ j → j < n → SpotOn keys items places j

-- of those in lent bytes
abbrev pub RootOk : (ℕ → Bool) → List ℕ → Type 0
RootOk m s = RootOn m (items_in s) (places_in s)

abbrev pub SpotOk : List ℕ → ℕ → Type 0
SpotOk s j = SpotOn (keys_in s) (items_in s) (places_in s) j

abbrev pub SpotsOk : (ℕ → Bool) → List ℕ → ℕ → Type 0
SpotsOk m s n = SpotsOn m (keys_in s) (items_in s) (places_in s) n
