-- `decimal::well_shaped` meets its contract: a zero that leads is no number's; else the digits decide. Assumes nothing.
use mathlib.Core.Path.{◌≡◌, sym, ◌∙◌}
use mathlib.Core.Bool.{false}
use native.Mathlib.Omega.{arith}
use Rattle.std.proofs.Common.{rules, tests}
use Rattle.std.proofs.lemmas.Iterator.{YieldsList-from_slice}
use Rattle.std.proofs.lemmas.Iterator.Search.{all_from_yields_List}
use Rattle.decimal.specs.Decimal.{leading_zero}
use Rattle.decimal.specs.InnerReads.{is_digit}
use Rattle.decimal.proofs.Laws.{no_text, no_zero, lead_none, lead_other, all_tested, shape_led}
use Rattle.decimal.proofs.well_shaped.Goals as goal

pub returns-then-s-eq48 : goal.returns-then-s-eq48
returns-then-s-eq48 c =
    sym (no_zero c.args.s.now (omega arith) c.if-s-eq48.true)

pub returns-then-not-is_empty : goal.returns-then-not-is_empty
returns-then-not-is_empty c =
    let s = c.args.s.now in
    let led : leading_zero s ≡ false = grind (arith, lead_other, lead_none) in
    all_from_yields_List is_digit _ _ _ c.all.ensures.ran (YieldsList-from_slice s cc) (λ x b q k. search (rules, tests))
    ∙ all_tested s
    ∙ shape_led s (grind arith) led

pub returns-else-not-is_empty : goal.returns-else-not-is_empty
returns-else-not-is_empty c =
    grind (arith, no_text)
