-- The caches that the two counts leave, and what a writeback asks. Assumes nothing.
use Rattle.std.specs.Prelude.{List, ℕ, ◌+◌, ◌*◌, ◌≤◌, ◌<◌, get_or}
use Rattle.cache_state.specs.{Cache.Cache, InnerWith.{with_steps, with_hits, with_loads, with_flushes, with_arrivals, with_retirements, with_writebacks, with_write_cost, with_item_writebacks}}
use Rattle.layout.specs.{Layout.cache_of, Inner.Readable}
use Rattle.cache_counts.specs.declared.Total.{Total, TheVariants.{Hits, Loads, Flushes, Arrivals, Retirements}}

-- one step more, counted in a total
abbrev pub total_counted : Cache → Total → Cache
total_counted c Hits = with_hits c (c.hits + 1)
total_counted c Loads = with_loads c (c.loads + 1)
total_counted c Flushes = with_flushes c (c.flushes + 1)
total_counted c Arrivals = with_arrivals c (c.arrivals + 1)
total_counted c Retirements = with_retirements c (c.retirements + 1)

abbrev pub step_counted : Cache → Total → Cache
step_counted c total = with_steps (total_counted c total) (c.steps + 1)

-- a writeback of item i, which costs the item's write cost
abbrev pub writeback_counted : Cache → ℕ → Cache
writeback_counted c i =
    with_write_cost (with_writebacks (with_item_writebacks c i (get_or c.itemwritebacks i 0 + 1)) (c.writebacks + 1))
    (c.writecost + get_or c.write i 0)

-- A writeback of item i can be counted. Writebacks are at most 1,000,000, one for each step, before a flush, which adds at most one for
-- each of the 256 numbers.
pub record Payable (i writebacks item_writebacks write_cost : ℕ) : Type 0 where
  pub place : i < 256
  pub total : writebacks ≤ 1000256
  pub own : item_writebacks ≤ 1000256
  pub cost : write_cost ≤ 65535 * 1000256

-- the same of the bytes of a state
pub record PayableAt (b : List ℕ) (i : ℕ) : Type 0 where
  pub reads : Readable b
  pub counts : Payable i (cache_of b).writebacks (get_or (cache_of b).itemwritebacks i 0) (cache_of b).writecost

-- One step more can be counted, in any total: neither the steps nor a total that adds up to them is above 1,000,000.
pub record StepReady (c : Cache) : Type 0 where
  pub steps : c.steps ≤ 1000000
  pub hits : c.hits ≤ 1000000
  pub loads : c.loads ≤ 1000000
  pub flushes : c.flushes ≤ 1000000
  pub arrivals : c.arrivals ≤ 1000000
  pub retirements : c.retirements ≤ 1000000

pub record StepReadyAt (b : List ℕ) : Type 0 where
  pub reads : Readable b
  pub counts : StepReady (cache_of b)
