-- `Copies::owed` meets its contract: the sum over the items below `i`. Assumes nothing.
use Rattle.season_plan.proofs.Flushes.{Owed}
use Rattle.season_plan.proofs.Copies.owed.Given as goal

abbrev pub invariant-loop-i : goal.invariant-loop-i
invariant-loop-i l = Owed l.catalog l.self l.i l.sum
