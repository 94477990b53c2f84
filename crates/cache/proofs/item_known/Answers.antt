-- `cache::item_known` meets its contract: each answer is a law of proofs/Table.antt. Assumes nothing.
use Rattle.std.proofs.Common.{sym, arith}
use Rattle.layout.specs.Layout.{cache_of}
use Rattle.cache.proofs.Table.{tells, unknown, retired, there}
use Rattle.cache.proofs.item_known.Goals as goal

pub returns-then-count-i : goal.returns-then-count-i
returns-then-count-i c =
    tells c.args.item (unknown (cache_of c.args.b.now) c.args.item 0 (omega arith))

pub returns-then-is_left : goal.returns-then-is_left
returns-then-is_left c =
    tells c.args.item (retired (cache_of c.args.b.now) c.args.item 0 (omega arith) (sym c.if-is_left.ensures))

pub returns : goal.returns
returns c =
    tells c.args.item (there (cache_of c.args.b.now) c.args.item 0 (record { below = omega arith; stays = sym c.if-is_left.ensures }))
