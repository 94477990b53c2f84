-- `season_text::output` meets its contract: it prints what `answer` answers. Assumes nothing.
use native.Mathlib.Omega.{arith}
use Rattle.report.specs.Report.{longest}
use Rattle.printed.proofs.Prints.{answer_printed}
use Rattle.season_text.specs.Answer.{outcome_of}
use Rattle.season_text.proofs.output.Goals as goal

pub returns : goal.returns
returns c =
    let a = c.args in
    let r = c.answer-answered in
    let p = c.print in
    let both =
    answer_printed longest (outcome_of a.text.now) a.page.now r.result r.new.page _ _ (omega arith) r.ensures.outcome_fits r.ensures.yields p.ensures.refusal_fits p.ensures.value p.ensures.page_after in
    record { printed = both.0; upper_bound = both.1 }
