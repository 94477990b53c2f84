-- `season_plan::price_plan` meets its contract: the rest of the plan, with what is paid, leads to its price. Assumes nothing.
use mathlib.Core.Path.{refl}
use native.Mathlib.Omega.{arith}
use Rattle.std.proofs.lemmas.Result.{err_from_is_err_and}
use Rattle.season_plan.proofs.Pricing.{pricing_few, pricing_starts, pricing_ready, pricing_acts, pricing_act_fails, pricing_serves, pricing_step_fails, pricing_turn, pricing_ends}
use Rattle.season_plan.proofs.price_plan.Goals as goal

pub loop-s-init : goal.loop-s-init
loop-s-init c = pricing_starts c.requires _ refl refl refl refl

pub acts_before-requires : goal.acts_before-requires
acts_before-requires c = pricing_acts c.requires c.loop-s.invariant c.loop-s-test.true

pub returns-in_err-next-clause-priced_as : goal.returns-in_err-next-clause-priced_as
returns-in_err-next-clause-priced_as c =
    let p = err_from_is_err_and c.from_residual.result c.from_residual.ensures.1 in
    rw (p.1, p.2) (pricing_act_fails c.requires c.loop-s.invariant c.loop-s-test.true _ _ c.in_err-next.ensures.runs_acts)

pub overflow_add-line : goal.overflow_add-line
overflow_add-line c = omega (arith, pricing_few c.requires, c.requires.few.steps)

pub overflow_add-line-in-loop-s : goal.overflow_add-line-in-loop-s
overflow_add-line-in-loop-s c = omega (arith, pricing_few c.requires, c.requires.few.steps)

pub overflow_cast-line : goal.overflow_cast-line
overflow_cast-line c = omega (arith, pricing_few c.requires, c.requires.few.steps)

pub serve-requires : goal.serve-requires
serve-requires c =
    let acts = c.in_ok-next.ensures in
    pricing_serves c.requires c.loop-s.invariant c.loop-s-test.true _ _ acts.runs_acts acts.within acts.low _ c.noted_step.ensures

pub returns-in_err-serve-clause-priced_as : goal.returns-in_err-serve-clause-priced_as
returns-in_err-serve-clause-priced_as c =
    let acts = c.in_ok-next.ensures in
    let p = err_from_is_err_and c.from_residual-in_err-serve.result c.from_residual-in_err-serve.ensures.1 in
    rw (p.1, p.2) (pricing_step_fails c.requires c.loop-s.invariant c.loop-s-test.true _ _ acts.runs_acts acts.within acts.low _ c.noted_step.ensures _ _ _ refl c.in_err-serve.ensures)

pub loop-s-preserved : goal.loop-s-preserved
loop-s-preserved c =
    let acts = c.in_ok-next.ensures in
    pricing_turn c.requires c.loop-s.invariant c.loop-s-test.true _ _ acts.runs_acts acts.within acts.low _ c.noted_step.ensures _ _ c.in_ok-serve.ensures

pub owed-requires : goal.owed-requires
owed-requires c = pricing_ready c.requires c.loop-s.invariant

pub returns-clause-priced_as : goal.returns-clause-priced_as
returns-clause-priced_as c = pricing_ends c.requires c.loop-s.invariant c.owed.result _ c.loop-s-test.false c.owed.ensures refl
