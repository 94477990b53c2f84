-- What a caller must have shown before a step is counted or an item's fields are stored. Assumes nothing.
use mathlib.Core.{Path.◌≡◌, Bool.{true, false}, List.List}
use Rattle.std.specs.Prelude.{ℕ, ◌+◌, ◌*◌, ◌<◌, ◌≤◌, ◌^◌, get_or}
use Rattle.queue.specs.Machine.{LazyOk}
use Rattle.cache_state.specs.Cache.{Cache, Normal, held_at, lazy}
use Rattle.layout.specs.{Layout.{cache_of, ValidBytes}, Inner.Readable}
use Rattle.cache_counts.specs.Inner.{StepReady}
use Rattle.cache_room.specs.Inner.{CountedHeld}

-- a load of item i can be counted
pub record LoadReady (c : Cache) (i : ℕ) : Type 0 where
  pub place : i < 256
  pub own : get_or c.itemloads i 0 ≤ 1000000
  pub step : StepReady c
  pub cost : c.loadcost ≤ 65535 * 1000000

-- a write of item i can be counted: "a write with minutes 0 to 1,440", and those so far at most 1,440 × steps
pub record Writable (c : Cache) (i minutes : ℕ) : Type 0 where
  pub place : i < 256
  pub short : minutes ≤ 1440
  pub sofar : get_or c.minutes i 0 ≤ 1440000000

-- ---- of the bytes of a state

-- one step more can be counted: "at most 1,000,000"
pub record SteppableAt (b : List ℕ) : Type 0 where
  pub valid : ValidBytes b
  pub room : (cache_of b).steps < 1000000

-- and item i is in the catalog
pub record ServableAt (b : List ℕ) (i : ℕ) : Type 0 where
  pub valid : ValidBytes b
  pub item : i < (cache_of b).n
  pub room : (cache_of b).steps < 1000000

pub record LoadAt (b : List ℕ) (i : ℕ) : Type 0 where
  pub reads : Readable b
  pub counts : LoadReady (cache_of b) i

pub record WritableAt (b : List ℕ) (i minutes : ℕ) : Type 0 where
  pub reads : Readable b
  pub counts : Writable (cache_of b) i minutes

-- tidy bytes that hold item i, with a key that it can have: its credits as they stand can be read
pub record KeyedAt (b : List ℕ) (i : ℕ) : Type 0 where
  pub reads : Readable b
  pub fields : Normal (cache_of b)
  pub lazy : LazyOk (lazy (cache_of b))
  pub drops : (cache_of b).evictions ≤ 1000000
  pub known : i < (cache_of b).n
  pub is_held : held_at (cache_of b) i ≡ true

-- tidy bytes that do not hold item i, and a credit with which it can come in: the key and the blocks held have room in their words
pub record EnterableAt (b : List ℕ) (i credit : ℕ) : Type 0 where
  pub counted : CountedHeld b
  pub fields : Normal (cache_of b)
  pub known : i < (cache_of b).n
  pub unheld : held_at (cache_of b) i ≡ false
  pub some : 1 ≤ get_or (cache_of b).blocks i 0
  pub fits : (cache_of b).level + credit < 2 ^ 64
  pub room : (cache_of b).used ≤ 65536
