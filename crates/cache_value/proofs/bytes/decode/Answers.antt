-- `cache_value::bytes::decode` meets its contract: after i turns the first i places are those of the bytes. Assumes nothing.
use mathlib.Core.Path.{◌∙◌}
use native.Mathlib.Omega.{arith}
use Rattle.cache_state.specs.InnerWith.{with_load_credit, with_write_credit, with_minutes, with_item_loads, with_item_writebacks, with_item_load_cost, with_item_write_cost, with_blocks, with_held, with_key, with_heap_item, with_place}
use Rattle.layout.specs.Layout.{cache_of}
use Rattle.layout.proofs.Rounds.{whole}
use Rattle.cache_value.proofs.Places.{reads_on, place_more, place_all}
use Rattle.cache_value.proofs.bytes.decode.Goals as goal

pub loop-i-preserved : goal.loop-i-preserved
loop-i-preserved c =
    let b = c.args.b.now in
    let i = c.loop-i.i in
    reads_on (λ d v. with_place d i v) c.place.ensures
    (reads_on (λ d v. with_heap_item d i v) c.heap_item.ensures
    (reads_on (λ d v. with_key d i v) c.key.ensures
    (reads_on (λ d v. with_held d i v) c.held.ensures
    (reads_on (λ d v. with_blocks d i v) c.blocks-in-loop-i.ensures
    (reads_on (λ d v. with_item_write_cost d i v) c.item_write_cost.ensures
    (reads_on (λ d v. with_item_load_cost d i v) c.item_load_cost.ensures
    (reads_on (λ d v. with_item_writebacks d i v) c.item_writebacks.ensures
    (reads_on (λ d v. with_item_loads d i v) c.item_loads.ensures
    (reads_on (λ d v. with_minutes d i v) c.minutes.ensures
    (reads_on (λ d v. with_write_credit d i v) c.write_credit.ensures
    (reads_on (λ d v. with_load_credit d i v) c.load_credit.ensures c.loop-i.invariant)))))))))))
    ∙ place_more (cache_of b) (whole b) i c.loop-i-test.true

pub returns : goal.returns
returns c =
    let b = c.args.b.now in
    c.loop-i.invariant ∙ place_all (cache_of b) (whole b) c.loop-i.i (omega arith)
