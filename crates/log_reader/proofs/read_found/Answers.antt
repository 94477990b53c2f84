-- `log_reader::read_found` meets its contract: a line that is found leads on. Assumes nothing.
use Rattle.log_reader.proofs.Reading.{going_on}
use Rattle.log_reader.proofs.read_found.Goals as goal

pub loop-place-preserved : goal.loop-place-preserved
loop-place-preserved c =
    going_on {f = c.in-Some.found} c.loop-place.invariant c.loop-place-test.true c.in-Some.ensures c.numbers.ensures c.put_numbers.ensures
