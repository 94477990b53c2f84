-- `heap::sift_up` meets its contract: the loop keeps that only the item at `i` may be out of order, upwards. Assumes nothing.
use Rattle.heap.proofs.Moving.{rising_on, rising_ends}
use Rattle.heap.proofs.sift_up.Goals as goal

pub loop-up-preserved : goal.loop-up-preserved
loop-up-preserved c =
    rising_on c.args.n c.args.s.now c.loop-up.s c.loop-up.i c.loop-up.invariant _ (rw c.loop-up-test.true at c.rises.ensures) c.swap.ensures

pub returns : goal.returns
returns c =
    rising_ends c.args.n c.args.s.now c.loop-up.s c.loop-up.i c.loop-up.invariant (rw c.loop-up-test.false at c.rises.ensures)
