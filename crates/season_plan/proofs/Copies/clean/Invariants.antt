-- `Copies::clean` meets its contract: the items below `i` are clean. Assumes nothing.
use Rattle.season_plan.proofs.Flushes.{Cleaning}
use Rattle.season_plan.proofs.Copies.clean.Given as goal

abbrev pub invariant-loop-i : goal.invariant-loop-i
invariant-loop-i l = Cleaning l.initial.self l.self l.i
