-- `layout::held` meets its contract: one flag is the byte at its place. Assumes nothing.
use mathlib.Core.Path.{sym}
use native.Mathlib.Omega.{arith}
use Rattle.layout.specs.InnerRows.{at_held}
use Rattle.layout.proofs.Places.{flag_at}
use Rattle.layout.proofs.held.Goals as goal

pub returns : goal.returns
returns c =
    sym (flag_at 256 at_held c.args.b.now c.args.i (omega arith))
