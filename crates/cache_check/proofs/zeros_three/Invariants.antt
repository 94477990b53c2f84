-- `cache_check::zeros_three` meets its contract. The loop's invariant: `all` is 0 exactly if every byte passed is. Assumes nothing.
use Rattle.cache_check.proofs.Blanks.{PassedThree}
use Rattle.cache_check.proofs.zeros_three.Given as goal

abbrev pub invariant-loop-i : goal.invariant-loop-i
invariant-loop-i l = PassedThree l.b l.x l.y l.z l.from l.i l.all
