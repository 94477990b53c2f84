-- `heap::remove` meets its contract: the last item takes the place, from which it may have to move either way. Assumes nothing.
use Rattle.heap.proofs.Moving.{removes_last, remove_unsettled, removes}
use native.Mathlib.Omega.{arith}
use Rattle.heap.proofs.remove.Goals as goal

pub fix-requires : goal.fix-requires
fix-requires c =
    remove_unsettled c.args.n c.args.s.now c.args.at c.requires _ _ (omega arith) c.swap.ensures c.cut-else-at-last.ensures

pub returns-then-at-last : goal.returns-then-at-last
returns-then-at-last c =
    removes_last c.args.n c.args.s.now c.args.at c.requires _ (omega arith) c.cut.ensures

pub returns-else-at-last : goal.returns-else-at-last
returns-else-at-last c =
    removes c.args.n c.args.s.now c.args.at c.requires _ _ (omega arith) c.swap.ensures c.cut-else-at-last.ensures _ c.fix.ensures
