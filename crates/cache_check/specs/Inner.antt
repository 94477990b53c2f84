-- What the tests on a state's bytes decide, and what they ask. Assumes nothing.
use mathlib.Core.{Path.◌≡◌, Bool.false, List.List}
use Rattle.std.specs.Prelude.{ℕ, ◌+◌, ◌*◌, ◌≤◌, ◌<◌, length, get_or}
use Rattle.marks.specs.{Marks.{marked}, Inner.{marks, count_set}}
use Rattle.landlord.specs.{Fold.{sum_to}, Rule.{used, held_count}}
use Rattle.queue.specs.Queue.{most_rise}
use Rattle.validity.specs.{declared.{Totals.Totals, Sums.Sums}, Inner.{CountsOk}}
use Rattle.cache_state.specs.{Cache.{Cache, held_at, held_items}, InnerView.{state_of, counts_of}, InnerParts.{EntryAt, KeyAt, LeftOk, SumsOf}}
use Rattle.cache_heap.specs.Inner.{SpotsAt}
use Rattle.layout.specs.{Layout.{state_bytes, cache_of}, InnerRows.{at_load_credits, at_write_credits, at_keys, at_minutes, at_item_loads, at_item_writebacks, at_item_load_costs, at_item_write_costs, at_blocks, at_held, at_places, at_heap}}

-- every byte from one place to another is 0
pub record Zeros (b : List ℕ) (from to : ℕ) : Type 0 where
  pub each : (j : ℕ) → from ≤ j → j < to → get_or b j 0 ≡ 0

-- three stretches of bytes lie inside a state
pub record ThreeAt (b : List ℕ) (x y z from to : ℕ) : Type 0 where
  pub size : length b ≡ state_bytes
  pub some : from ≤ to
  pub first : x + to ≤ state_bytes
  pub second : y + to ≤ state_bytes
  pub third : z + to ≤ state_bytes

-- and every byte of them is 0
pub record ZerosThree (b : List ℕ) (x y z from to : ℕ) : Type 0 where
  pub first : Zeros b (x + from) (x + to)
  pub second : Zeros b (y + from) (y + to)
  pub third : Zeros b (z + from) (z + to)

-- of 256 marks in four words, those from n on are not set
pub record BlankMarks (ws : List ℕ) (n : ℕ) : Type 0 where
  pub each : (i : ℕ) → n ≤ i → i < 256 → marked ws i ≡ false

-- bytes of n items
pub record CountedItems (b : List ℕ) (n : ℕ) : Type 0 where
  pub size : length b ≡ state_bytes
  pub count : n ≡ (cache_of b).n
  pub few : n ≤ 256

-- what is looked for past the catalog, on the bytes: rows of one width go together
pub record PastTests (b : List ℕ) (n : ℕ) : Type 0 where
  pub eights : ZerosThree b at_load_credits at_write_credits at_keys (n * 8) 2048
  pub fours : ZerosThree b at_minutes at_item_loads at_item_writebacks (n * 4) 1024
  pub twos : ZerosThree b at_item_load_costs at_item_write_costs at_item_write_costs (n * 2) 512
  pub ones : ZerosThree b at_blocks at_held at_places n 256
  pub dirty : BlankMarks (cache_of b).dirty n
  pub left : BlankMarks (cache_of b).left n

-- all that is asked of the item at place i
pub record ItemAt (c : Cache) (i : ℕ) : Type 0 where
  pub entry : EntryAt c i
  pub key : KeyAt c i
  pub place : held_at c i ≡ false → get_or c.places i 0 ≡ 0

-- every item of the catalog is as it should be
pub record ItemsOk (c : Cache) : Type 0 where
  pub each : (i : ℕ) → i < c.n → ItemAt c i

-- what is asked of the blocks in use, of the sums over the items, and of the totals
pub record CountsTests (c : Cache) : Type 0 where
  pub used : used (state_of c) ≡ c.used
  pub sums : SumsOf c
  pub counts : CountsOk c.k (counts_of c)

-- what is looked for before the heap
pub record CatalogTests (b : List ℕ) (n : ℕ) : Type 0 where
  pub past : PastTests b n
  pub items : ItemsOk (cache_of b)
  pub left : LeftOk (cache_of b)
  pub counts : CountsTests (cache_of b)

-- bytes of which it is known how many items are held
pub record HeldCounted (b : List ℕ) : Type 0 where
  pub size : length b ≡ state_bytes
  pub count : (cache_of b).evictions + held_items (cache_of b) ≡ (cache_of b).loads
  pub held : held_items (cache_of b) ≤ 256
  pub taken : (cache_of b).loads ≤ 1000000

-- what is looked for in the level and in the heap: nothing stands behind the items that are held
pub record HeapTests (b : List ℕ) : Type 0 where
  pub level : (cache_of b).level ≤ (cache_of b).evictions * most_rise
  pub unused : Zeros b (at_heap + held_items (cache_of b)) at_places
  pub spots : SpotsAt (cache_of b) (held_items (cache_of b))

-- what a cache has counted, as the tests take it
abbrev pub totals_in : Cache → Totals
totals_in c =
    record {
      steps = c.steps;
      hits = c.hits;
      loads = c.loads;
      load_cost = c.loadcost;
      evictions = c.evictions;
      dirty_evictions = c.dirtyevictions;
      writebacks = c.writebacks;
      write_cost = c.writecost;
      flushes = c.flushes;
      arrivals = c.arrivals;
      retirements = c.retirements;
    }

-- what the items of a cache come to
abbrev pub sums_in : Cache → Sums
sums_in c =
    record {
      blocks = used (state_of c);
      held = held_count (state_of c);
      marked = count_set (marks c.dirty);
      left = count_set (marks c.left);
      loads = sum_to c.n (λ i. get_or c.itemloads i 0);
      writebacks = sum_to c.n (λ i. get_or c.itemwritebacks i 0);
    }
