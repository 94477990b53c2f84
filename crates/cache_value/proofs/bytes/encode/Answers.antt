-- `cache_value::bytes::encode` meets its contract: after i turns the first i places stand in the bytes. Assumes nothing.
use native.Mathlib.Omega.{arith}
use borrow.Author.Rules.{rules}
use Rattle.cache_state.specs.InnerWith.{with_load_credit, with_write_credit, with_minutes, with_item_loads, with_item_writebacks, with_item_load_cost, with_item_write_cost, with_blocks, with_held, with_key, with_heap_item, with_place}
use Rattle.layout.specs.InnerRows.{WholeArrays}
use Rattle.layout.proofs.Places.{stands_as, stands_on}
use Rattle.cache_value.specs.Contract.{record_of}
use Rattle.cache_value.proofs.Places.{place_more, place_all}
use Rattle.cache_value.proofs.bytes.encode.Goals as goal

pub loop-i-preserved : goal.loop-i-preserved
loop-i-preserved c =
    let whole : WholeArrays (record_of c.args.c) = search rules in
    let i = c.loop-i.i in
    stands_as
    (stands_on (λ d v. with_place d i v) c.put_place.ensures
    (stands_on (λ d v. with_heap_item d i v) c.put_heap_item.ensures
    (stands_on (λ d v. with_key d i v) c.put_key.ensures
    (stands_on (λ d v. with_held d i v) c.put_held.ensures
    (stands_on (λ d v. with_blocks d i v) c.put_blocks.ensures
    (stands_on (λ d v. with_item_write_cost d i v) c.put_item_write_cost.ensures
    (stands_on (λ d v. with_item_load_cost d i v) c.put_item_load_cost.ensures
    (stands_on (λ d v. with_item_writebacks d i v) c.put_item_writebacks.ensures
    (stands_on (λ d v. with_item_loads d i v) c.put_item_loads.ensures
    (stands_on (λ d v. with_minutes d i v) c.put_minutes.ensures
    (stands_on (λ d v. with_write_credit d i v) c.put_write_credit.ensures
    (stands_on (λ d v. with_load_credit d i v) c.put_load_credit.ensures c.loop-i.invariant))))))))))))
    (place_more (record_of c.args.c) whole i c.loop-i-test.true)

pub returns : goal.returns
returns c =
    let whole : WholeArrays (record_of c.args.c) = search rules in
    stands_as c.loop-i.invariant (place_all (record_of c.args.c) whole c.loop-i.i (omega arith))
