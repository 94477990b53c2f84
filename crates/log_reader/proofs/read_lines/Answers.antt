-- `log_reader::read_lines` meets its contract: a line that is no step ends the reading. Assumes nothing.
use Rattle.std.proofs.lemmas.Result.{err_from_is_err_and}
use Rattle.log_reader.proofs.Reading.{read_stops}
use Rattle.log_reader.proofs.read_lines.Goals as goal

pub returns-in_err-first : goal.returns-in_err-first
returns-in_err-first c =
    let p = c.loop-place.place in
    let e = err_from_is_err_and c.from_residual.result c.from_residual.ensures.1 in
    rw (e.1, e.2) (read_stops c.args.heading c.args.text.now p.at p.count c.loop-place-test.true c.in_err-first.ensures c.loop-place.invariant)
