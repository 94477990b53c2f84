-- `heap::sift_up` meets its contract: the loop keeps that only the item at `i` may be out of order, upwards. Assumes nothing.
use Rattle.heap.proofs.Moving.{Rising}
use Rattle.heap.proofs.sift_up.Given as goal

abbrev pub invariant-loop-up : goal.invariant-loop-up
invariant-loop-up l = Rising l.n l.initial.s l.s l.i

abbrev pub decreases-loop-up : goal.decreases-loop-up
decreases-loop-up l = l.i
