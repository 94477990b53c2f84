-- `Copies::acts_before` meets its contract: the acts that are left lead where all of them lead. Assumes nothing.
use mathlib.Core.Path.{refl}
use native.Mathlib.Omega.{arith}
use Rattle.std.proofs.lemmas.Result.{err_from_is_err_and}
use Rattle.season_plan.proofs.Acting.{acting_line, acting_starts, acting_known, acting_turn, acting_fails, acting_ends, acting_stops}
use Rattle.season_plan.proofs.Copies.acts_before.Goals as goal

pub loop-a-init : goal.loop-a-init
loop-a-init c = acting_starts c.requires

pub returns-then-acts-a-clause-runs_acts : goal.returns-then-acts-a-clause-runs_acts
returns-then-acts-a-clause-runs_acts c = acting_stops c.requires c.loop-a.invariant c.loop-a-test.true c.if-acts-a.true

pub overflow_add-line : goal.overflow_add-line
overflow_add-line c = omega (arith, acting_line c.requires)

pub overflow_add-line-in-loop-a : goal.overflow_add-line-in-loop-a
overflow_add-line-in-loop-a c = omega (arith, acting_line c.requires)

pub overflow_add-line-in-loop-a-2 : goal.overflow_add-line-in-loop-a-2
overflow_add-line-in-loop-a-2 c = omega (arith, acting_line c.requires)

pub overflow_cast-line : goal.overflow_cast-line
overflow_cast-line c = omega (arith, acting_line c.requires)

pub act-requires : goal.act-requires
act-requires c = acting_known c.requires c.loop-a.invariant c.loop-a-test.true c.if-acts-a.false c.noted_act.ensures

pub returns-in_err-act-clause-runs_acts : goal.returns-in_err-act-clause-runs_acts
returns-in_err-act-clause-runs_acts c =
    let p = err_from_is_err_and c.from_residual.result c.from_residual.ensures.1 in
    rw (p.1, p.2) (acting_fails c.requires c.loop-a.invariant c.loop-a-test.true c.if-acts-a.false c.noted_act.ensures _ _ _ _ refl c.in_err-act.ensures)

pub loop-a-preserved : goal.loop-a-preserved
loop-a-preserved c = acting_turn c.requires c.loop-a.invariant c.loop-a-test.true c.if-acts-a.false c.noted_act.ensures _ _ c.in_ok-act.ensures

pub returns-clause-runs_acts : goal.returns-clause-runs_acts
returns-clause-runs_acts c = acting_ends c.requires c.loop-a.invariant c.loop-a-test.false
