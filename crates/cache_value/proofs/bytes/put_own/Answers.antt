-- `cache_value::bytes::put_own` meets its contract: one store after the other, over cleared bytes. Assumes nothing.
use mathlib.Core.Path.{sym, ◌∙◌}
use Rattle.cache_state.specs.InnerWith.{with_capacity, with_count, with_closed, with_steps, with_hits, with_loads, with_evictions, with_dirty_evictions, with_writebacks, with_flushes, with_load_cost, with_write_cost, with_dirty, with_rule, with_left, with_arrivals, with_retirements, with_used, with_level}
use Rattle.layout.proofs.Places.{stands_on}
use Rattle.cache_value.specs.Inner.{first_of}
use Rattle.cache_value.proofs.bytes.put_own.Goals as goal

pub shape_of-b : goal.shape_of-b
shape_of-b c =
    c.put_level.ensures.size ∙ sym c.requires.0

pub returns : goal.returns
unfolding first_of
returns c =
    stands_on with_level c.put_level.ensures
    (stands_on with_used c.put_used.ensures
    (stands_on with_retirements c.put_retirements.ensures
    (stands_on with_arrivals c.put_arrivals.ensures
    (stands_on with_left c.put_left.ensures
    (stands_on with_rule c.put_rule.ensures
    (stands_on with_dirty c.put_dirty.ensures
    (stands_on with_write_cost c.put_write_cost.ensures
    (stands_on with_load_cost c.put_load_cost.ensures
    (stands_on with_flushes c.put_flushes.ensures
    (stands_on with_writebacks c.put_writebacks.ensures
    (stands_on with_dirty_evictions c.put_dirty_evictions.ensures
    (stands_on with_evictions c.put_evictions.ensures
    (stands_on with_loads c.put_loads.ensures
    (stands_on with_hits c.put_hits.ensures
    (stands_on with_steps c.put_steps.ensures
    (stands_on with_closed c.put_closed.ensures
    (stands_on with_count c.put_count.ensures
    (stands_on with_capacity c.put_capacity.ensures c.clear.ensures))))))))))))))))))
