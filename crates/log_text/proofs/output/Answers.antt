-- `log_text::output` meets its contract: it prints what `answer` answers. Assumes nothing.
use native.Mathlib.Omega.{arith}
use Rattle.printed.proofs.Prints.{answer_printed}
use Rattle.log_text.specs.Answer.{log_outcome}
use Rattle.log_text.proofs.Answers.{log_fits}
use Rattle.log_text.proofs.output.Goals as goal

pub returns : goal.returns
returns c =
    let a = c.args in
    let p = c.print.ensures in
    let both = answer_printed 65536 (log_outcome a.text.now) a.page.now c.answer-answered.result c.answer-answered.new.page _ _ (omega arith) (log_fits a.text.now) c.answer-answered.ensures p.refusal_fits p.value p.page_after in
    record { printed = both.0; upper_bound = both.1 }
