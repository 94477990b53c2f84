-- `heap::insert` meets its contract: appended, it is the one item that may have to rise. Assumes nothing.
use Rattle.heap.proofs.Moving.{insert_up, inserts}
use Rattle.heap.proofs.insert.Goals as goal

pub sift_up-requires : goal.sift_up-requires
sift_up-requires c =
    insert_up c.args.n c.args.s.now c.args.item c.requires _ c.append.ensures

pub returns : goal.returns
returns c =
    inserts c.args.n c.args.s.now c.args.item c.requires _ c.append.ensures _ c.sift_up.ensures
