-- `report::refusal_length` meets its contract. Assumes nothing.
use native.Mathlib.Omega.{arith}
use Rattle.sentence.proofs.Sentences.{sentence_fits}
use Rattle.report.proofs.Laws.{refused_count}
use Rattle.report.proofs.Longest.{refusal_no_longer}
use Rattle.report.proofs.refusal_length.Goals as goal

pub overflow_add-result-2 : goal.overflow_add-result-2
overflow_add-result-2 c =
    omega (arith, sentence_fits c.number-number.result c.line-line.result c.item-item.result (omega arith) (omega arith))

pub returns : goal.returns
returns c =
    let counted = refused_count c.args.r c.number-number.ensures c.line-line.ensures c.item-item.ensures in
    let short = refusal_no_longer c.args.r (omega (arith, c.line-line.ensures)) (omega (arith, c.item-item.ensures)) in
    record { value = omega arith; upper_bound = omega arith }
