-- A cache with some of its fields replaced, from which the functions above it say what they store. First the four groups of fields,
-- then each field by itself. Assumes nothing.
use mathlib.Core.{Bool.Bool, List.List}
use Rattle.std.specs.Prelude.{ℕ, set}
use Rattle.types.specs.declared.Deduction.{Deduction}
use Rattle.landlord.specs.Figures.{Totals, totals_of}
use Rattle.cache_state.specs.{Cache.Cache, InnerView.counts_of}

-- a cache with another capacity and catalog: sizes, load and write costs, and the marks of the items that have left
abbrev pub with_catalog : Cache → ℕ → ℕ → List ℕ → List ℕ → List ℕ → List ℕ → Cache
with_catalog c capacity count sizes loads writes gone =
    record {
      k = capacity;
      n = count;
      blocks = sizes;
      load = loads;
      write = writes;
      held = c.held;
      loadcredit = c.loadcredit;
      writecredit = c.writecredit;
      dirty = c.dirty;
      minutes = c.minutes;
      itemloads = c.itemloads;
      itemwritebacks = c.itemwritebacks;
      steps = c.steps;
      hits = c.hits;
      loads = c.loads;
      loadcost = c.loadcost;
      evictions = c.evictions;
      dirtyevictions = c.dirtyevictions;
      writebacks = c.writebacks;
      writecost = c.writecost;
      flushes = c.flushes;
      closed = c.closed;
      rule = c.rule;
      left = gone;
      arrivals = c.arrivals;
      retirements = c.retirements;
      level = c.level;
      keys = c.keys;
      heap = c.heap;
      places = c.places;
      used = c.used;
    }

-- a cache with other slots: which items are held, the two credits, and the marks of the dirty ones
abbrev pub with_slots : Cache → List Bool → List ℕ → List ℕ → List ℕ → Cache
with_slots c holds loads writes marked =
    record {
      k = c.k;
      n = c.n;
      blocks = c.blocks;
      load = c.load;
      write = c.write;
      held = holds;
      loadcredit = loads;
      writecredit = writes;
      dirty = marked;
      minutes = c.minutes;
      itemloads = c.itemloads;
      itemwritebacks = c.itemwritebacks;
      steps = c.steps;
      hits = c.hits;
      loads = c.loads;
      loadcost = c.loadcost;
      evictions = c.evictions;
      dirtyevictions = c.dirtyevictions;
      writebacks = c.writebacks;
      writecost = c.writecost;
      flushes = c.flushes;
      closed = c.closed;
      rule = c.rule;
      left = c.left;
      arrivals = c.arrivals;
      retirements = c.retirements;
      level = c.level;
      keys = c.keys;
      heap = c.heap;
      places = c.places;
      used = c.used;
    }

-- a cache with other figures: minutes, loads and writebacks of each item, and the totals
abbrev pub with_figures : Cache → List ℕ → List ℕ → List ℕ → Totals → Cache
with_figures c minutes_now loads writes t =
    record {
      k = c.k;
      n = c.n;
      blocks = c.blocks;
      load = c.load;
      write = c.write;
      held = c.held;
      loadcredit = c.loadcredit;
      writecredit = c.writecredit;
      dirty = c.dirty;
      minutes = minutes_now;
      itemloads = loads;
      itemwritebacks = writes;
      steps = t.steps;
      hits = t.hits;
      loads = t.loads;
      loadcost = t.load_cost;
      evictions = t.evictions;
      dirtyevictions = t.dirty_evictions;
      writebacks = t.writebacks;
      writecost = t.write_cost;
      flushes = t.flushes;
      closed = c.closed;
      rule = c.rule;
      left = c.left;
      arrivals = t.arrivals;
      retirements = t.retirements;
      level = c.level;
      keys = c.keys;
      heap = c.heap;
      places = c.places;
      used = c.used;
    }

-- a cache closed or not, and of a rule of deduction
abbrev pub with_mode : Cache → Bool → Deduction → Cache
with_mode c is_closed r =
    record {
      k = c.k;
      n = c.n;
      blocks = c.blocks;
      load = c.load;
      write = c.write;
      held = c.held;
      loadcredit = c.loadcredit;
      writecredit = c.writecredit;
      dirty = c.dirty;
      minutes = c.minutes;
      itemloads = c.itemloads;
      itemwritebacks = c.itemwritebacks;
      steps = c.steps;
      hits = c.hits;
      loads = c.loads;
      loadcost = c.loadcost;
      evictions = c.evictions;
      dirtyevictions = c.dirtyevictions;
      writebacks = c.writebacks;
      writecost = c.writecost;
      flushes = c.flushes;
      closed = is_closed;
      rule = r;
      left = c.left;
      arrivals = c.arrivals;
      retirements = c.retirements;
      level = c.level;
      keys = c.keys;
      heap = c.heap;
      places = c.places;
      used = c.used;
    }

-- a cache with another queue: the level, the keys, the heap with the place of each item, and the blocks held
abbrev pub with_queue : Cache → ℕ → List ℕ → List ℕ → List ℕ → ℕ → Cache
with_queue c level_now keys_now heap_now places_now used_now =
    record {
      k = c.k;
      n = c.n;
      blocks = c.blocks;
      load = c.load;
      write = c.write;
      held = c.held;
      loadcredit = c.loadcredit;
      writecredit = c.writecredit;
      dirty = c.dirty;
      minutes = c.minutes;
      itemloads = c.itemloads;
      itemwritebacks = c.itemwritebacks;
      steps = c.steps;
      hits = c.hits;
      loads = c.loads;
      loadcost = c.loadcost;
      evictions = c.evictions;
      dirtyevictions = c.dirtyevictions;
      writebacks = c.writebacks;
      writecost = c.writecost;
      flushes = c.flushes;
      closed = c.closed;
      rule = c.rule;
      left = c.left;
      arrivals = c.arrivals;
      retirements = c.retirements;
      level = level_now;
      keys = keys_now;
      heap = heap_now;
      places = places_now;
      used = used_now;
    }

abbrev pub with_level : Cache → ℕ → Cache
with_level c v = with_queue c v c.keys c.heap c.places c.used

-- the key of item i
abbrev pub with_key : Cache → ℕ → ℕ → Cache
with_key c i v = with_queue c c.level (set c.keys i v) c.heap c.places c.used

-- the heap arranged otherwise
abbrev pub with_arrangement : Cache → List ℕ → List ℕ → Cache
with_arrangement c items places = with_queue c c.level c.keys items places c.used

-- the item at place i of the heap
abbrev pub with_heap_item : Cache → ℕ → ℕ → Cache
with_heap_item c i v = with_arrangement c (set c.heap i v) c.places

-- the place of item i
abbrev pub with_place : Cache → ℕ → ℕ → Cache
with_place c i v = with_arrangement c c.heap (set c.places i v)

abbrev pub with_used : Cache → ℕ → Cache
with_used c v = with_queue c c.level c.keys c.heap c.places v

abbrev pub with_closed : Cache → Bool → Cache
with_closed c is_closed = with_mode c is_closed c.rule

abbrev pub with_rule : Cache → Deduction → Cache
with_rule c r = with_mode c c.closed r

-- ---- capacity and catalog

abbrev pub with_capacity : Cache → ℕ → Cache
with_capacity c v = with_catalog c v c.n c.blocks c.load c.write c.left

abbrev pub with_count : Cache → ℕ → Cache
with_count c v = with_catalog c c.k v c.blocks c.load c.write c.left

-- of item i
abbrev pub with_blocks : Cache → ℕ → ℕ → Cache
with_blocks c i v = with_catalog c c.k c.n (set c.blocks i v) c.load c.write c.left

abbrev pub with_item_load_cost : Cache → ℕ → ℕ → Cache
with_item_load_cost c i v = with_catalog c c.k c.n c.blocks (set c.load i v) c.write c.left

abbrev pub with_item_write_cost : Cache → ℕ → ℕ → Cache
with_item_write_cost c i v = with_catalog c c.k c.n c.blocks c.load (set c.write i v) c.left

-- the marks of those that have left
abbrev pub with_left : Cache → List ℕ → Cache
with_left c words = with_catalog c c.k c.n c.blocks c.load c.write words

-- ---- slots, of item i, and the marks

abbrev pub with_held : Cache → ℕ → Bool → Cache
with_held c i f = with_slots c (set c.held i f) c.loadcredit c.writecredit c.dirty

abbrev pub with_load_credit : Cache → ℕ → ℕ → Cache
with_load_credit c i v = with_slots c c.held (set c.loadcredit i v) c.writecredit c.dirty

abbrev pub with_write_credit : Cache → ℕ → ℕ → Cache
with_write_credit c i v = with_slots c c.held c.loadcredit (set c.writecredit i v) c.dirty

abbrev pub with_dirty : Cache → List ℕ → Cache
with_dirty c words = with_slots c c.held c.loadcredit c.writecredit words

-- ---- what is counted for item i

abbrev pub with_minutes : Cache → ℕ → ℕ → Cache
with_minutes c i v = with_figures c (set c.minutes i v) c.itemloads c.itemwritebacks (counts_of c)

abbrev pub with_item_loads : Cache → ℕ → ℕ → Cache
with_item_loads c i v = with_figures c c.minutes (set c.itemloads i v) c.itemwritebacks (counts_of c)

abbrev pub with_item_writebacks : Cache → ℕ → ℕ → Cache
with_item_writebacks c i v = with_figures c c.minutes c.itemloads (set c.itemwritebacks i v) (counts_of c)

-- ---- the totals

abbrev pub with_totals : Cache → Totals → Cache
with_totals c t = with_figures c c.minutes c.itemloads c.itemwritebacks t

abbrev pub with_steps : Cache → ℕ → Cache
with_steps c v =
    with_totals c
    (totals_of v c.hits c.loads c.loadcost c.evictions c.dirtyevictions c.writebacks c.writecost c.flushes c.arrivals
    c.retirements)

abbrev pub with_hits : Cache → ℕ → Cache
with_hits c v =
    with_totals c
    (totals_of c.steps v c.loads c.loadcost c.evictions c.dirtyevictions c.writebacks c.writecost c.flushes c.arrivals
    c.retirements)

abbrev pub with_loads : Cache → ℕ → Cache
with_loads c v =
    with_totals c
    (totals_of c.steps c.hits v c.loadcost c.evictions c.dirtyevictions c.writebacks c.writecost c.flushes c.arrivals
    c.retirements)

abbrev pub with_load_cost : Cache → ℕ → Cache
with_load_cost c v =
    with_totals c
    (totals_of c.steps c.hits c.loads v c.evictions c.dirtyevictions c.writebacks c.writecost c.flushes c.arrivals
    c.retirements)

abbrev pub with_evictions : Cache → ℕ → Cache
with_evictions c v =
    with_totals c
    (totals_of c.steps c.hits c.loads c.loadcost v c.dirtyevictions c.writebacks c.writecost c.flushes c.arrivals
    c.retirements)

abbrev pub with_dirty_evictions : Cache → ℕ → Cache
with_dirty_evictions c v =
    with_totals c
    (totals_of c.steps c.hits c.loads c.loadcost c.evictions v c.writebacks c.writecost c.flushes c.arrivals
    c.retirements)

abbrev pub with_writebacks : Cache → ℕ → Cache
with_writebacks c v =
    with_totals c
    (totals_of c.steps c.hits c.loads c.loadcost c.evictions c.dirtyevictions v c.writecost c.flushes c.arrivals
    c.retirements)

abbrev pub with_write_cost : Cache → ℕ → Cache
with_write_cost c v =
    with_totals c
    (totals_of c.steps c.hits c.loads c.loadcost c.evictions c.dirtyevictions c.writebacks v c.flushes c.arrivals
    c.retirements)

abbrev pub with_flushes : Cache → ℕ → Cache
with_flushes c v =
    with_totals c
    (totals_of c.steps c.hits c.loads c.loadcost c.evictions c.dirtyevictions c.writebacks c.writecost v c.arrivals
    c.retirements)

abbrev pub with_arrivals : Cache → ℕ → Cache
with_arrivals c v =
    with_totals c
    (totals_of c.steps c.hits c.loads c.loadcost c.evictions c.dirtyevictions c.writebacks c.writecost c.flushes v c.retirements)

abbrev pub with_retirements : Cache → ℕ → Cache
with_retirements c v =
    with_totals c
    (totals_of c.steps c.hits c.loads c.loadcost c.evictions c.dirtyevictions c.writebacks c.writecost c.flushes c.arrivals v)
