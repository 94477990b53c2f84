-- `heap::sift_down` meets its contract: the loop keeps that only the item at `i` may be out of order, downwards. Assumes nothing.
use Rattle.heap.proofs.Moving.{falling_on}
use native.Mathlib.Omega.{arith}
use Rattle.heap.proofs.sift_down.Goals as goal

pub loop-next-preserved : goal.loop-next-preserved
loop-next-preserved c =
    falling_on c.args.n c.args.s.now c.loop-next.s c.loop-next.i c.loop-next.next c.loop-next.invariant _ c.lowest-next-in-loop-next.result (omega arith) c.swap.ensures c.lowest-next-in-loop-next.ensures
