-- What the rule pays and counts: a table of what each event adds, and the sums over a log from an empty cache.
-- Paper 01, 'The step rule' and the report's names, and paper 02, 'Four' and 'Six'. Assumes nothing.
use mathlib.Core.{Bool.{Bool, true, false, cond}, List.List}
use Rattle.std.specs.Prelude.{ℕ, ◌+◌, ◌*◌, ◌-◌, ◌/◌}
use lib.{ListN.{length, get_or}, Dec.eqb}
use Rattle.types.specs.declared.Step.{Step}
use Rattle.landlord.specs.{Fold.{tab, fold}, Catalog.{Catalog, item_at}, Slot.Split, Rule.{State, Event, hit, loaded, evicted, wrote_back, wrote, flush_step, arrived, retired, Moved, emptied, flush, step}}

-- The totals of paper 01's report, with the steps, the flushes (landings), the arrivals and the retirements. The closing is none of these.
pub record Totals : Type 0 where
  pub steps : ℕ
  pub hits : ℕ
  pub loads : ℕ
  pub load_cost : ℕ
  pub evictions : ℕ
  pub dirty_evictions : ℕ
  pub writebacks : ℕ
  pub write_cost : ℕ
  pub flushes : ℕ
  pub arrivals : ℕ
  pub retirements : ℕ

-- what is counted for an item
pub record Use : Type 0 where
  pub minutes : ℕ
  pub loads : ℕ
  pub writebacks : ℕ

-- all that the report is made of, and the steps, the flushes, the arrivals and the retirements
pub record Figures : Type 0 where
  pub totals : Totals
  pub uses : List Use

-- the totals from eleven numbers, in the order of the fields
abbrev pub totals_of : ℕ → ℕ → ℕ → ℕ → ℕ → ℕ → ℕ → ℕ → ℕ → ℕ → ℕ → Totals
totals_of s h l lc e de w wc f a r =
    record {
      steps = s;
      hits = h;
      loads = l;
      load_cost = lc;
      evictions = e;
      dirty_evictions = de;
      writebacks = w;
      write_cost = wc;
      flushes = f;
      arrivals = a;
      retirements = r;
    }

-- What an event adds, in the order: steps, hits, loads, load cost, evictions, dirty evictions, writebacks, write cost,
-- flushes, arrivals, retirements. A dirty eviction is a writeback, whatever its cost.
abbrev pub adds : Catalog → Event → Totals
adds cat (hit i) = totals_of 1 1 0 0 0 0 0 0 0 0 0
adds cat (loaded i) = totals_of 1 0 1 (item_at cat i).load 0 0 0 0 0 0 0
adds cat (evicted i false) = totals_of 0 0 0 0 1 0 0 0 0 0 0
adds cat (evicted i true) = totals_of 0 0 0 0 1 1 1 (item_at cat i).write 0 0 0
adds cat (wrote_back i) = totals_of 0 0 0 0 0 0 1 (item_at cat i).write 0 0 0
adds cat (wrote i minutes) = totals_of 0 0 0 0 0 0 0 0 0 0 0
adds cat flush_step = totals_of 1 0 0 0 0 0 0 0 1 0 0
adds cat (arrived i) = totals_of 1 0 0 0 0 0 0 0 0 1 0
adds cat (retired i) = totals_of 1 0 0 0 0 0 0 0 0 0 1

-- what is counted for an item, from its three numbers
abbrev pub use_of : ℕ → ℕ → ℕ → Use
use_of m l w = record { minutes = m; loads = l; writebacks = w }

-- What an event adds for the item that it is about: minutes, loads, writebacks. A write adds its minutes: "The class rule is now to add
-- minutes and divide once".
abbrev pub usage : Event → Use
usage (hit i) = use_of 0 0 0
usage (loaded i) = use_of 0 1 0
usage (evicted i false) = use_of 0 0 0
usage (evicted i true) = use_of 0 0 1
usage (wrote_back i) = use_of 0 0 1
usage (wrote i minutes) = use_of minutes 0 0
usage flush_step = use_of 0 0 0
usage (arrived i) = use_of 0 0 0
usage (retired i) = use_of 0 0 0

-- whether an event is about item i
abbrev pub is_about : ℕ → Event → Bool
is_about i (hit j) = eqb i j
is_about i (loaded j) = eqb i j
is_about i (evicted j d) = eqb i j
is_about i (wrote_back j) = eqb i j
is_about i (wrote j minutes) = eqb i j
is_about i flush_step = false
is_about i (arrived j) = eqb i j
is_about i (retired j) = eqb i j

-- totals added up, each by itself
abbrev pub plus_totals : Totals → Totals → Totals
plus_totals a b =
    totals_of (a.steps + b.steps) (a.hits + b.hits) (a.loads + b.loads) (a.load_cost + b.load_cost)
    (a.evictions + b.evictions) (a.dirty_evictions + b.dirty_evictions) (a.writebacks + b.writebacks)
    (a.write_cost + b.write_cost) (a.flushes + b.flushes) (a.arrivals + b.arrivals) (a.retirements + b.retirements)

-- what is counted for an item that nothing has happened to
abbrev pub no_use : Use
no_use = use_of 0 0 0

-- what is counted for an item of that number
abbrev pub use_at : Figures → ℕ → Use
use_at f i = get_or f.uses i no_use

-- two such added up, each number by itself
abbrev pub plus_use : Use → Use → Use
plus_use a b = use_of (a.minutes + b.minutes) (a.loads + b.loads) (a.writebacks + b.writebacks)

-- how many items are counted for after an event: an arrival has a line of its own from then on. "Left sails stay in the report."
abbrev pub lines_after : Catalog → Event → ℕ
lines_after cat e = length cat + (adds cat e).arrivals

-- the figures after one event more
abbrev pub tally : Catalog → Figures → Event → Figures
tally cat f e =
    record {
      totals = plus_totals f.totals (adds cat e);
      uses = tab (lines_after cat e) (λ i. plus_use (use_at f i) (cond (is_about i e) (usage e) no_use));
    }

-- "The state keeps minutes per sail; tenths are total minutes / 6 rounded down, at print"
abbrev pub tenths_of : ℕ → ℕ
tenths_of minutes = minutes / 6

-- at opening nothing is counted
abbrev pub nothing : Catalog → Figures
nothing cat = record { totals = totals_of 0 0 0 0 0 0 0 0 0 0 0; uses = tab (length cat) (λ i. no_use) }

-- "Total is loadcost + writecost"
abbrev pub total_cost : Figures → ℕ
total_cost f = f.totals.load_cost + f.totals.write_cost

-- "left is (k − h + 1) × total"
abbrev pub left_side : ℕ → ℕ → ℕ → ℕ
left_side k h total = (k - h + 1) * total

-- "right is k × rival"
abbrev pub right_side : ℕ → ℕ → ℕ
right_side k cost = k * cost

-- Where the rule stands in a season: the capacity, the cache, what it has counted, whether the log is closed, and how a loss is split.
-- "The state keeps its rule" (paper 02, 'Three'): the split is that of the opening's rule of deduction, and no step changes it.
pub record Standing : Type 0 where
  pub k : ℕ
  pub state : State
  pub figures : Figures
  pub closed : Bool
  pub split : Split

-- what a season starts with: the capacity, the catalog, and how a loss is split
pub record Start : Type 0 where
  pub k : ℕ
  pub catalog : Catalog
  pub split : Split

abbrev pub start : Split → ℕ → Catalog → Start
start split k cat = record { k = k; catalog = cat; split = split }

-- at opening: "empty", nothing counted
abbrev pub opened : Start → Standing
opened o = record { k = o.k; state = emptied o.catalog; figures = nothing o.catalog; closed = false; split = o.split }

-- a standing with another state and other figures, closed or not; what else it has stays
abbrev pub changed : Standing → State → Figures → Bool → Standing
changed v x f is_closed = record { k = v.k; state = x; figures = f; closed = is_closed; split = v.split }

-- a standing moved on: the next state, and the events counted
abbrev pub moved : Standing → Moved → Bool → Standing
moved v m is_closed = changed v m.state (fold (tally v.state.catalog) v.figures m.events) is_closed

-- one step more
unfoldable pub took : Standing → Step → Standing
took v s = moved v (step v.split v.k s v.state) v.closed

-- "Closing does what a landing does, is not counted as a step, and closes the locker"
unfoldable pub closes : Standing → Standing
closes v = moved v (flush v.state) true

-- the rule over a list of steps, from an empty cache
abbrev pub ran : Start → List Step → Standing
ran o steps = fold took (opened o) steps

-- the rule over a list of steps and the closing
abbrev pub season : Start → List Step → Standing
season o steps = closes (ran o steps)
