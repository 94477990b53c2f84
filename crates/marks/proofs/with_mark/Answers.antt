-- `marks::with_mark` meets its contract: the word of mark `i` with that digit set, or cleared. Assumes nothing.
use Rattle.std.proofs.Common.{◌≡◌, length, arith, rules}
use Rattle.marks.proofs.Laws.{set_past, mark_stored, unmark_stored}
use Rattle.marks.proofs.with_mark.Goals as goal

pub returns-then-marked : goal.returns-then-marked
returns-then-marked c =
    let n : length c.args.words ≡ 4 = search rules in
    rw c.if-marked.true (mark_stored c.args.words c.args.i n (omega arith))

pub returns-else-marked : goal.returns-else-marked
returns-else-marked c =
    let n : length c.args.words ≡ 4 = search rules in
    rw c.if-marked.false (unmark_stored c.args.words c.args.i n (omega arith))

pub returns-else-i-lt256 : goal.returns-else-i-lt256
returns-else-i-lt256 c =
    set_past c.args.words c.args.i _ (omega arith)
