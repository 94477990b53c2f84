-- `cache_value::bytes::own` meets its contract: each field is what its getter found. Assumes nothing.
use Rattle.cache_state.specs.InnerWith.{with_capacity, with_count, with_closed, with_steps, with_hits, with_loads, with_evictions, with_dirty_evictions, with_writebacks, with_flushes, with_load_cost, with_write_cost, with_dirty, with_rule, with_left, with_arrivals, with_retirements, with_used, with_level}
use Rattle.layout.specs.Inner.{cleared}
use Rattle.cache_value.specs.Inner.{first_of}
use Rattle.cache_value.proofs.Places.{reads_on}
use Rattle.cache_value.proofs.bytes.own.Goals as goal

pub returns : goal.returns
unfolding first_of
returns c =
    reads_on with_level c.level.ensures
    (reads_on with_used c.used.ensures
    (reads_on with_retirements c.retirements.ensures
    (reads_on with_arrivals c.arrivals.ensures
    (reads_on with_left c.left.ensures
    (reads_on with_rule c.rule.ensures
    (reads_on with_dirty c.dirty.ensures
    (reads_on with_write_cost c.write_cost.ensures
    (reads_on with_load_cost c.load_cost.ensures
    (reads_on with_closed c.closed.ensures
    (reads_on with_flushes c.flushes.ensures
    (reads_on with_writebacks c.writebacks.ensures
    (reads_on with_dirty_evictions c.dirty_evictions.ensures
    (reads_on with_evictions c.evictions.ensures
    (reads_on with_loads c.loads.ensures
    (reads_on with_hits c.hits.ensures
    (reads_on with_steps c.steps.ensures
    (reads_on with_count c.count.ensures.0
    (reads_on with_capacity c.capacity.ensures (λ j. cleared)))))))))))))))))))
