-- `cache_value::put_catalog` meets its contract: after i turns the first i items stand in the bytes. Assumes nothing.
use mathlib.Core.Path.{◌≡◌}
use native.Mathlib.Omega.{arith}
use Rattle.cache_value.proofs.Openings.{catalog_none, catalog_more}
use Rattle.cache_value.proofs.put_catalog.Goals as goal

pub loop-i-init : goal.loop-i-init
loop-i-init c =
    let a = c.args in
    catalog_none a.blocks a.load a.write a.catalog.now

pub loop-i-preserved : goal.loop-i-preserved
loop-i-preserved c =
    let a = c.args in
    let w = c.loop-i in
    catalog_more a.blocks a.load a.write w.catalog w.i (omega arith) w.invariant c.put.ensures

pub returns : goal.returns
returns c =
    let e : c.loop-i.i ≡ c.args.n = omega arith in
    rw e at c.loop-i.invariant
