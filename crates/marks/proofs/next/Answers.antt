-- `marks::next` meets its contract. The loop keeps what is found from where it stands; the measure is what is left of the marks. Assumes nothing.
use Rattle.std.proofs.Common.{◌/◌, ◌∙◌, sym, get_or, arith, rules, Fits, w64}
use Rattle.marks.proofs.Laws.{next_hit, next_skip, next_done}
use Rattle.marks.proofs.next.Goals as goal

pub returns-then-rest-ne0 : goal.returns-then-rest-ne0
returns-then-rest-ne0 c =
    let f : Fits w64 (get_or c.args.words (c.loop-at.at / 64) 0) = search rules in
    next_hit c.args.words c.loop-at.at (omega arith) f.fits (omega arith) ∙ c.loop-at.invariant

pub loop-at-preserved : goal.loop-at-preserved
loop-at-preserved c =
    next_skip c.args.words c.loop-at.at (omega arith) (omega arith) ∙ c.loop-at.invariant

pub returns : goal.returns
returns c =
    sym (next_done c.args.words c.loop-at.at (omega arith)) ∙ c.loop-at.invariant
