-- `Copies::clean` meets its contract: the items below `i` are clean. Assumes nothing.
use native.Mathlib.Omega.{arith}
use Rattle.season_plan.proofs.Flushes.{clean_all}
use Rattle.season_plan.proofs.Copies.clean.Goals as goal

pub returns : goal.returns
returns c = clean_all c.args.self.now c.loop-i.self c.loop-i.i c.loop-i.invariant (omega arith)
