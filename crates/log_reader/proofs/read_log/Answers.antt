-- `log_reader::read_log` meets its contract: the answer, and the list then. Assumes nothing.
use mathlib.Core.Path.{sym}
use native.Mathlib.Omega.{arith}
use lib.Seq.{length-take-le}
use Rattle.std.proofs.lemmas.Result.{err_from_is_err_and}
use Rattle.log_reader.proofs.Answers.{answer_long, answer_refused, answer_short, answer_stored, read_few}
use Rattle.log_reader.proofs.read_log.Goals as goal

pub returns-then-text-gt-LIMIT : goal.returns-then-text-gt-LIMIT
returns-then-text-gt-LIMIT c = answer_long c.args.text.now c.args.list.now c.if-text-gt-LIMIT.true

pub returns-in_err-steps : goal.returns-in_err-steps
returns-in_err-steps c =
    let p = err_from_is_err_and c.from_residual.result c.from_residual.ensures.1 in
    rw (p.1, p.2) (answer_refused c.args.text.now c.args.list.now _ _ c.if-text-gt-LIMIT.false _ c.in_err-steps.ensures)

pub overflow_mul-bytes : goal.overflow_mul-bytes
overflow_mul-bytes c =
    omega (arith, read_few c.args.text.now _ _ c.in_ok-steps.steps c.in_ok-steps.ensures)

pub returns-then-list-bytes : goal.returns-then-list-bytes
returns-then-list-bytes c =
    answer_short c.args.text.now c.args.list.now _ _ c.if-text-gt-LIMIT.false c.in_ok-steps.steps c.in_ok-steps.ensures c.if-list-bytes.true

pub slice_bounds-room-end : goal.slice_bounds-room-end
slice_bounds-room-end c =
    omega (arith, read_few c.args.text.now _ _ c.in_ok-steps.steps c.in_ok-steps.ensures)

pub slice_bounds-put_text-end : goal.slice_bounds-put_text-end
slice_bounds-put_text-end c =
    let few = read_few c.args.text.now _ _ c.in_ok-steps.steps c.in_ok-steps.ensures in
    sym (length-take-le _ _ (omega (arith, few)))

pub returns : goal.returns
returns c =
    answer_stored c.args.text.now c.args.list.now _ _ c.if-text-gt-LIMIT.false c.in_ok-steps.steps c.in_ok-steps.ensures c.if-list-bytes.false c.put_text.ensures.page_after
