-- What each small store leaves: the cache that it hands back, field by field. Assumes nothing.
use mathlib.Core.{Path.◌≡◌, Bool.{Bool, true, false, cond}, List.{List, [], ◌∷◌}}
use Rattle.std.specs.Prelude.{ℕ, ◌+◌, ◌*◌, get_or, set}
use Rattle.landlord.specs.Slot.{Slot, clean, held}
use Rattle.marks.specs.Inner.{marks}
use Rattle.queue.specs.{Queue.{Queue, reckoned, blocks_of, key_at, key_now, stored_at, loss_since}, Machine.{LazyStanding, moved_in, found_in}}
use Rattle.cache_state.specs.{Cache.{Cache, lazy}, InnerView.{counts_of, queue_of}, InnerBecomes.Becomes}
use Rattle.layout.specs.{Layout.cache_of, Inner.Readable}
use Rattle.cache_room.specs.Inner.{requeued}
use Rattle.cache_counts.specs.{declared.Total.TheVariants.{Loads}, Inner.{step_counted, writeback_counted}}
use Rattle.cache_state.specs.InnerWith.{with_slots, with_figures, with_queue, with_dirty, with_item_loads, with_load_cost}

-- what the credits of item i have lost since they were reckoned
abbrev pub loss_at : Queue → ℕ → ℕ
loss_at q i = blocks_of q i * loss_since (blocks_of q i) q.level (key_at q i) (stored_at q i)

-- item i is held from here on, with this slot if it was not (`was`)
abbrev pub fetched_in : Bool → Queue → ℕ → Slot → Queue
fetched_in was q i s =
    record {
      catalog = q.catalog;
      slots = cond was q.slots (set q.slots i s);
      keys = cond was q.keys (set q.keys i (key_now (blocks_of q i) q.level s));
      level = q.level;
    }

-- and that is counted
abbrev pub fetched_of : LazyStanding → ℕ → ℕ → LazyStanding
fetched_of v i credit =
    moved_in v
    (record { queue = fetched_in (held (stored_at v.queue i)) v.queue i (clean credit); events = found_in v.queue i ∷ [] }) v.closed

-- a load of item i counted: one step, one load, which costs the item's load cost
abbrev pub loaded_of : Cache → ℕ → Cache
loaded_of c i =
    with_load_cost (with_item_loads (step_counted c Loads) i (get_or c.itemloads i 0 + 1)) (c.loadcost + get_or c.load i 0)

-- item i held with this load credit and this key, its blocks used, and the heap arranged so
abbrev pub entered_of : Cache → ℕ → ℕ → ℕ → List ℕ → List ℕ → Cache
entered_of c i credit key hs ps =
    with_queue (with_slots c (set c.held i true) (set c.loadcredit i credit) c.writecredit c.dirty)
    c.level (set c.keys i key) hs ps (c.used + get_or c.blocks i 0)

-- item i written for so many minutes: these are counted, and these are the marks
abbrev pub written_of : Cache → ℕ → ℕ → List ℕ → Cache
written_of c i minutes marked =
    with_figures (with_dirty c marked) (set c.minutes i (get_or c.minutes i 0 + minutes)) c.itemloads c.itemwritebacks (counts_of c)

-- item i written back, and that counted, with these marks
abbrev pub wrote_back_of : Cache → ℕ → List ℕ → Cache
wrote_back_of c i marked = with_dirty (writeback_counted c i) marked

-- A store that sets or clears a mark: which words hold the marks is left to crate marks.
pub record Wrote (c : Cache) (i minutes : ℕ) (r : Cache) : Type 0 where
  pub store : r ≡ written_of c i minutes r.dirty
  pub mark : marks r.dirty ≡ set (marks c.dirty) i true

pub record WroteBack (c : Cache) (i : ℕ) (r : Cache) : Type 0 where
  pub store : r ≡ wrote_back_of c i r.dirty
  pub mark : marks r.dirty ≡ set (marks c.dirty) i false

-- the same of the bytes of a state
pub record WroteAt (b : List ℕ) (i minutes : ℕ) (after : List ℕ) : Type 0 where
  pub reads : Readable after
  pub cache : Wrote (cache_of b) i minutes (cache_of after)

pub record WroteBackAt (b : List ℕ) (i : ℕ) (next : List ℕ) : Type 0 where
  pub reads : Readable next
  pub cache : WroteBack (cache_of b) i (cache_of next)

-- item i has come in, clean, and nothing else has changed
pub record EnteredAt (b : List ℕ) (i credit : ℕ) (next : List ℕ) : Type 0 where
  pub reads : Readable next
  pub becomes : Becomes (requeued (lazy (cache_of b)) (reckoned (queue_of (cache_of b)) i (clean credit))) (cache_of next)
