-- The parts of where the rule stands in a cache (specs/Cache.antt), by names of their own. Assumes nothing.
use Rattle.std.specs.Prelude.{get_or}
use Rattle.landlord.specs.{Catalog.Item, Figures.{Use, use_of, Totals, Figures}, Slot.{Slot, absent, clean, dirty}, Rule.State}
use Rattle.queue.specs.Queue.{Queue}
use Rattle.std.specs.Prelude.{Bool, cond, ℕ}
use Rattle.cache_state.specs.Cache.{Cache, left_at, lazy, view}

-- item i of the catalog
abbrev pub item_of : Cache → ℕ → Item
item_of c i = record { blocks = get_or c.blocks i 0; load = get_or c.load i 0; write = get_or c.write i 0; left = left_at c i }

-- the report's line of item i
abbrev pub usage_of : Cache → ℕ → Use
usage_of c i = use_of (get_or c.minutes i 0) (get_or c.itemloads i 0) (get_or c.itemwritebacks i 0)

-- a slot from its marks and credits
abbrev pub slot_from : Bool → Bool → ℕ → ℕ → Slot
slot_from is_held is_dirty a b = cond is_held (cond is_dirty (dirty a b) (clean a)) absent

abbrev pub queue_of : Cache → Queue
queue_of c = (lazy c).queue

abbrev pub state_of : Cache → State
state_of c = (view c).state

abbrev pub figures_of : Cache → Figures
figures_of c = (view c).figures

abbrev pub counts_of : Cache → Totals
counts_of c = (figures_of c).totals
