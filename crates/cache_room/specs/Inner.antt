-- What the functions of this crate ask for, and the caches that they hand back, field by field. Assumes nothing.
use mathlib.Core.{Path.◌≡◌, Bool.{Bool, true, false}, List.List}
use Rattle.std.specs.Prelude.{ℕ, ◌+◌, ◌-◌, ◌≤◌, ◌<◌, ◌^◌, get_or, set}
use Rattle.marks.specs.Inner.{marks}
use Rattle.queue.specs.{Queue.{Queue, removed, reckoned}, Machine.{LazyStanding, used_in}}
use Rattle.cache_state.specs.{Cache.{Cache, Normal, lazy, held_at, dirty_at, held_items}, InnerView.{queue_of, slot_from}, InnerBecomes.Becomes}
use Rattle.layout.specs.{Layout.{cache_of, ValidBytes}, Inner.Readable}
use Rattle.cache_counts.specs.Inner.{writeback_counted, Payable}
use Rattle.cache_state.specs.InnerWith.{with_slots, with_evictions, with_dirty_evictions, with_queue, with_arrangement, with_key}

-- where the lazy form stands, with another queue
abbrev pub requeued : LazyStanding → Queue → LazyStanding
requeued v q = record { k = v.k; queue = q; figures = v.figures; closed = v.closed; split = v.split }

-- item v is dropped; d are the words of the dirty marks
abbrev pub dropped_of : Cache → ℕ → List ℕ → Cache
dropped_of c v d = with_slots c (set c.held v false) (set c.loadcredit v 0) (set c.writecredit v 0) d

pub record Dropped (c : Cache) (v : ℕ) (r : Cache) : Type 0 where
  pub fields : r ≡ dropped_of c v r.dirty
  pub unmarked : marks r.dirty ≡ set (marks c.dirty) v false

-- item v is gone: from the heap, of which hs and ps are the arrangement then, and from its slot
abbrev pub gone_of : Cache → ℕ → List ℕ → List ℕ → List ℕ → Cache
gone_of c v d hs ps = dropped_of (with_queue c c.level (set c.keys v 0) hs ps (c.used - get_or c.blocks v 0)) v d

-- the eviction of item v is counted, and if it was dirty its writeback
abbrev pub counted_of : Cache → ℕ → Bool → Cache
counted_of c v false = with_evictions c (c.evictions + 1)
counted_of c v true = writeback_counted (with_dirty_evictions (with_evictions c (c.evictions + 1)) (c.dirtyevictions + 1)) v

-- counts that can grow by one: in a valid cache none is above the steps, of which there are at most 1,000,000
pub record Countable (c : Cache) (v : ℕ) : Type 0 where
  pub evictions : c.evictions ≤ 1000000
  pub dirty_evictions : c.dirtyevictions ≤ 1000000
  pub writeback : Payable v c.writebacks (get_or c.itemwritebacks v 0) c.writecost

-- ---- of the bytes of a state

-- bytes whose figures tell how many items are held
pub record CountedHeld (b : List ℕ) : Type 0 where
  pub reads : Readable b
  pub count : (cache_of b).evictions + held_items (cache_of b) ≡ (cache_of b).loads

-- item v is dropped
pub record DroppedAt (b : List ℕ) (v : ℕ) (after : List ℕ) : Type 0 where
  pub reads : Readable after
  pub cache : Dropped (cache_of b) v (cache_of after)

-- the eviction of item v can be counted
pub record CountableAt (b : List ℕ) (v : ℕ) : Type 0 where
  pub reads : Readable b
  pub counts : Countable (cache_of b) v

-- tidy bytes that hold item v
pub record HoldsAt (b : List ℕ) (v : ℕ) : Type 0 where
  pub counted : CountedHeld b
  pub fields : Normal (cache_of b)
  pub known : v < (cache_of b).n
  pub is_held : held_at (cache_of b) v ≡ true

-- item v is gone, and nothing else has changed
pub record LetGo (c : Cache) (v : ℕ) (r : Cache) : Type 0 where
  pub fields : r ≡ gone_of c v r.dirty r.heap r.places
  pub becomes : Becomes (requeued (lazy c) (removed (queue_of c) v)) r

pub record LetGoAt (b : List ℕ) (v : ℕ) (next : List ℕ) : Type 0 where
  pub reads : Readable next
  pub cache : LetGo (cache_of b) v (cache_of next)

-- valid bytes of which something is held
pub record CrowdedAt (b : List ℕ) : Type 0 where
  pub valid : ValidBytes b
  pub some : 1 ≤ used_in (queue_of (cache_of b))

-- valid bytes, and an item that such a cache can hold
pub record WantedAt (b : List ℕ) (i : ℕ) : Type 0 where
  pub valid : ValidBytes b
  pub known : i < (cache_of b).n
  pub fits : get_or (cache_of b).blocks i 0 ≤ (cache_of b).k

-- a queue with another key of item i
abbrev pub rekeyed : Queue → ℕ → ℕ → Queue
rekeyed q i key = record { catalog = q.catalog; slots = q.slots; keys = set q.keys i key; level = q.level }

-- the key of item i is another, the heap is in order, and nothing else has changed
pub record RekeyedAt (b : List ℕ) (i key : ℕ) (next : List ℕ) : Type 0 where
  pub reads : Readable next
  pub fields : cache_of next ≡ with_arrangement (with_key (cache_of b) i key) (cache_of next).heap (cache_of next).places
  pub becomes : Becomes (requeued (lazy (cache_of b)) (rekeyed (queue_of (cache_of b)) i key)) (cache_of next)

-- tidy bytes that hold item i, and credits that it can have: a clean item has no write credit, and the key has room in its word
pub record ReckonableAt (b : List ℕ) (i load write : ℕ) : Type 0 where
  pub holds : HoldsAt b i
  pub clean : dirty_at (cache_of b) i ≡ false → write ≡ 0
  pub some : 1 ≤ get_or (cache_of b).blocks i 0
  pub fits : (cache_of b).level + (load + write) < 2 ^ 64

-- the credits of item i are reckoned anew, and nothing else has changed
pub record ReckonedAt (b : List ℕ) (i load write : ℕ) (next : List ℕ) : Type 0 where
  pub reads : Readable next
  pub becomes : Becomes (requeued (lazy (cache_of b)) (reckoned (queue_of (cache_of b)) i (slot_from true (dirty_at (cache_of b) i) load write))) (cache_of next)
