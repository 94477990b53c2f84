-- `heap::append` meets its contract: two stores, at the new last place and at the item's own. Assumes nothing.
use Rattle.heap.proofs.Moving.{append_put}
use Rattle.heap.proofs.append.Goals as goal

pub returns : goal.returns
returns c =
    append_put c.args.n c.args.s.now c.args.item c.requires.0 c.requires.1 c.requires.2
