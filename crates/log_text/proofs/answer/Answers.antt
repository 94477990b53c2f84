-- `log_text::answer` meets its contract: the steps that were read are within the list, and are written again. Assumes nothing.
use mathlib.Core.Path.{refl, sym}
use native.Mathlib.Omega.{arith}
use lib.Seq.{length-take-le}
use Rattle.std.proofs.lemmas.Result.{err_from_is_err_and}
use Rattle.log_text.proofs.Answers.{not_read, list_long, log_again}
use Rattle.log_text.proofs.answer.Goals as goal

pub returns-in_err-log : goal.returns-in_err-log
returns-in_err-log c =
    let p = err_from_is_err_and c.from_residual.result c.from_residual.ensures.1 in
    rw (p.1, p.2) (not_read c.args.text.now _ c.args.page.now _ _ refl c.in_err-log.ensures)

pub overflow_mul-bytes : goal.overflow_mul-bytes
overflow_mul-bytes c =
    let within = list_long c.args.text.now _ _ c.in_ok-log.log c.in_ok-log.ensures in
    omega (arith, within, c.read_log.auto.list)

pub slice_bounds-list-end : goal.slice_bounds-list-end
slice_bounds-list-end c =
    list_long c.args.text.now _ _ c.in_ok-log.log c.in_ok-log.ensures

pub slice_bounds-write_log-end : goal.slice_bounds-write_log-end
slice_bounds-write_log-end c =
    sym (length-take-le _ _ (list_long c.args.text.now _ _ c.in_ok-log.log c.in_ok-log.ensures))

pub returns : goal.returns
returns c =
    log_again c.args.text.now _ _ c.args.page.now _ c.in_ok-log.log c.write_log.result c.in_ok-log.ensures c.write_log.ensures
