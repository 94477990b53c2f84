-- `cache_check::left_count` meets its contract: where no mark is set none is counted. Assumes nothing.
use Rattle.std.proofs.Common.{arith}
use Rattle.cache_check.proofs.Gone.{none_left_lem}
use Rattle.cache_check.proofs.left_count.Goals as goal

pub returns-then-next-ge256 : goal.returns-then-next-ge256
returns-then-next-ge256 c =
    rw c.left-left.ensures
    at (none_left_lem c.left-left.result c.next.result (omega (arith, c.if-next-ge256.true)) c.next.ensures)
