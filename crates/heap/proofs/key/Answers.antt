-- `heap::key` meets its contract: one number of the row. Assumes nothing.
use Rattle.heap.proofs.Parts.{key_at_lem}
use Rattle.fields.specs.LittleEndian.{number_at}
use Rattle.heap.proofs.key.Goals as goal

pub returns : goal.returns
unfolding number_at
returns c =
    key_at_lem c.args.s.now c.args.i c.get.result c.requires.1 c.get.ensures.0
