-- `cache::item_checked` meets its contract: each answer is a law of proofs/Table.antt. Assumes nothing.
use Rattle.std.proofs.Common.{arith}
use Rattle.layout.specs.Layout.{cache_of}
use Rattle.cache.proofs.Table.{tells, misnumbered, numbered}
use Rattle.cache.proofs.item_checked.Goals as goal

pub returns-then-item-count : goal.returns-then-item-count
returns-then-item-count c =
    let a = c.in-Arrive in
    rw a.is (tells a.item (misnumbered (cache_of c.args.b.now) a.item a.blocks a.load a.write (omega arith)))

pub returns-else-item-count : goal.returns-else-item-count
returns-else-item-count c =
    let a = c.in-Arrive in
    rw a.is (tells a.item (numbered (cache_of c.args.b.now) a.item a.blocks a.load a.write (omega arith)))
