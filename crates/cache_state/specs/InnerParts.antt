-- What the parts of the check of validity decide, on the fields of a cache: that the places past the catalog are blank, and what the
-- tests of the crate `validity` find. proofs/Checks.antt shows that together they are validity. Assumes nothing.
use Rattle.std.specs.Prelude.{ℕ, ◌+◌, ◌*◌, ◌≤◌, ◌<◌}
use mathlib.Core.{Path.◌≡◌, Bool.{true, false}}
use Rattle.queue.specs.Queue.{most_rise}
use Rattle.heap.specs.Heap.{weight_at, Contains, Ordered}
use Rattle.std.specs.Prelude.{get_or}
use Rattle.landlord.specs.{Fold.sum_to, Rule.{used, held_count}}
use Rattle.marks.specs.Inner.{marks, count_set}
use Rattle.validity.specs.Inner.{EntryOk, KeyFits, SumsOk}
use Rattle.cache_state.specs.{Cache.{Cache, Blank, dirty_at, left_at, held_at, held_blocks, heap_at}, InnerView.state_of}

-- every place past the catalog is blank
pub record PastOk (c : Cache) : Type 0 where
  pub each : (i : ℕ) → c.n ≤ i → i < 256 → Blank c i

-- all that is asked of the item at place i: what `entry_ok` decides of its numbers
abbrev pub EntryAt : Cache → ℕ → Type 0
EntryAt c i =
    EntryOk (get_or c.blocks i 0) (get_or c.load i 0) (get_or c.write i 0) (get_or c.held i false) (dirty_at c i) c.closed
    (get_or c.loadcredit i 0) (get_or c.writecredit i 0) (get_or c.minutes i 0) c.steps

-- every item of the catalog is as it should be
pub record EntriesOk (c : Cache) : Type 0 where
  pub each : (i : ℕ) → i < c.n → EntryAt c i

-- what is asked of the key of the item at place i: what `key_ok` decides of its numbers
abbrev pub KeyAt : Cache → ℕ → Type 0
KeyAt c i = KeyFits (held_at c i) c.level (get_or c.keys i 0) (get_or c.loadcredit i 0 + get_or c.writecredit i 0) (get_or c.blocks i 0)

-- the key of every item of the catalog is as it should be
pub record KeysOk (c : Cache) : Type 0 where
  pub each : (i : ℕ) → i < c.n → KeyAt c i

-- the heap, the level and the blocks held
pub record QueueParts (c : Cache) : Type 0 where
  pub heap : Contains (held_at c) (heap_at c)
  pub order : Ordered (weight_at c.keys (heap_at c)) (heap_at c).size
  pub used : c.used ≡ held_blocks c
  pub level : c.level ≤ c.evictions * most_rise

-- no item that has left is held
pub record LeftOk (c : Cache) : Type 0 where
  pub each : (i : ℕ) → i < c.n → left_at c i ≡ true → get_or c.held i false ≡ false

-- what is asked of the sums over the items: what `balanced` decides of them. The dirty items and those that have left are counted by
-- their marks.
abbrev pub SumsOf : Cache → Type 0
SumsOf c =
    SumsOk c.k (used (state_of c)) c.evictions (held_count (state_of c)) c.loads c.writebacks (count_set (marks c.dirty)) c.steps
    (sum_to c.n (λ i. get_or c.itemloads i 0)) (sum_to c.n (λ i. get_or c.itemwritebacks i 0)) c.retirements
    (count_set (marks c.left))
