-- `cache_open::put_items` meets its contract: after i turns the first i items stand in their places. Assumes nothing.
use Rattle.std.proofs.Common.{◌≡◌, arith}
use Rattle.layout.specs.Layout.{cache_of}
use Rattle.cache_open.proofs.Openings.{entered_none, entered_more}
use Rattle.cache_open.proofs.put_items.Goals as goal

pub loop-i-init : goal.loop-i-init
loop-i-init c =
    entered_none c.args.catalog.now c.requires.reads

pub loop-i-preserved : goal.loop-i-preserved
loop-i-preserved c =
    let a = c.args in
    let w = c.loop-i in
    entered_more (cache_of a.b.now) a.catalog.now w.i w.invariant
    c.get-item.ensures.blocks c.get-item.ensures.load c.get-item.ensures.write
    c.put_blocks.ensures c.put_item_load_cost.ensures c.put_item_write_cost.ensures

pub returns : goal.returns
returns c =
    let e : c.loop-i.i ≡ c.args.n = omega arith in
    rw e at c.loop-i.invariant
