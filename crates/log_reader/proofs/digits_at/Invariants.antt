-- `log_reader::digits_at` meets its contract: what was passed are digits, and their value was kept. Assumes nothing.
use Rattle.log_reader.specs.Inner.{DigitsAt}
use Rattle.log_reader.proofs.digits_at.Given as goal

abbrev pub invariant-loop-at : goal.invariant-loop-at
invariant-loop-at l = DigitsAt l.text l.from l.value l.at
