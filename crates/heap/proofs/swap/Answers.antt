-- `heap::swap` meets its contract: four stores, of which the last decides where both items are one. Assumes nothing.
use Rattle.heap.proofs.Moving.{swap_stores}
use Rattle.heap.proofs.swap.Goals as goal

pub returns : goal.returns
returns c =
    swap_stores c.args.s.now c.args.i c.args.j c.item-a.result c.item-b.result c.requires.size c.requires.one c.requires.two c.item-a.ensures.1 c.item-b.ensures.1 c.item-a.ensures.0 c.item-b.ensures.0
