-- `heap::cut` meets its contract: two stores of 0. Assumes nothing.
use Rattle.heap.proofs.Moving.{cut_put}
use Prim.Native.Nat.{◌+◌}
use Rattle.heap.proofs.cut.Goals as goal

pub returns : goal.returns
returns c =
    cut_put (c.args.last + 1) c.args.s.now c.args.last c.item-gone.result c.requires.0 c.requires.1 c.item-gone.ensures.1 c.item-gone.ensures.0
