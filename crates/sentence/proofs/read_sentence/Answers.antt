-- `sentence::read_sentence` meets its contract. Assumes nothing.
use Rattle.std.proofs.Common.{None}
use Rattle.sentence.specs.Sentences.{SaysThat}
use Rattle.sentence.proofs.Readings.{reading_done, reading_stray}
use Rattle.sentence.proofs.read_sentence.Goals as goal

pub returns-in_err-number : goal.returns-in_err-number
returns-in_err-number c =
    let none : SaysThat c.args.s.now None = reading_stray c.args.s.now c.piece-n.ensures.value c.in_err-number.ensures in
    rw c.from_residual.ensures none

pub returns : goal.returns
returns c =
    reading_done c.args.s.now c.piece-n.ensures.value c.in_ok-number.ensures.1 c.read_behind.ensures
