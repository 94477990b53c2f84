-- `heap::sift_down` meets its contract: the loop keeps that only the item at `i` may be out of order, downwards. Assumes nothing.
use Rattle.heap.proofs.Moving.{Falling}
use Prim.Native.Nat.{◌-◌}
use Rattle.heap.proofs.sift_down.Given as goal

abbrev pub invariant-loop-next : goal.invariant-loop-next
invariant-loop-next l = Falling l.n l.initial.s l.s l.i l.next

abbrev pub decreases-loop-next : goal.decreases-loop-next
decreases-loop-next l = l.n - l.i
