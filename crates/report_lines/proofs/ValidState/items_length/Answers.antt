-- `report_lines::ValidState::items_length` meets its contract. Assumes nothing.
use mathlib.Core.Path.{ap}
use native.Mathlib.Omega.{arith}
use lib.ListN.{length}
use Rattle.layout.specs.Layout.{cache_of}
use Rattle.report_lines.proofs.Laws.{items_count, items_end}
use Rattle.report_lines.proofs.ValidState.items_length.Goals as goal

pub loop-i-preserved : goal.loop-i-preserved
loop-i-preserved c =
    omega (arith, items_count (cache_of c.args.self.now.bytes.now) c.loop-i.i _ (omega (arith, c.count-i-end.ensures.0)) c.item_numbers.ensures)

pub returns : goal.returns
returns c =
    let e = ap length (items_end (cache_of c.args.self.now.bytes.now) c.loop-i.i (omega (arith, c.count-i-end.ensures.0))) in
    omega arith
