-- `Seen::take_step` meets its contract: the step is refused, or noted. Assumes nothing.
use Rattle.std.proofs.lemmas.Result.{err_from_is_err_and}
use Rattle.season_tables.proofs.Held.{step_refuses, step_noted, step_past}
use Rattle.season_tables.proofs.Seen.take_step.Goals as goal

pub returns-in_err-step_refused-clause-notes_step : goal.returns-in_err-step_refused-clause-notes_step
returns-in_err-step_refused-clause-notes_step c =
    let a = c.args in
    let p = err_from_is_err_and c.from_residual.result c.from_residual.ensures.1 in
    rw (p.1, p.2) (step_refuses a.self.now a.catalog.now a.calls.now a.step a.line _ c.in_err-step_refused.ensures)

pub returns-clause-notes_step : goal.returns-clause-notes_step
returns-clause-notes_step c =
    let a = c.args in
    step_noted a.self.now a.catalog.now a.calls.now a.step a.line c.in_ok-step_refused.ensures c.requires _ c.advance.ensures _ _ c.put_arrival.ensures c.put_step.ensures

pub returns-clause-keeps_past : goal.returns-clause-keeps_past
returns-clause-keeps_past c =
    let a = c.args in
    ((step_past a.self.now a.catalog.now a.calls.now a.step a.line c.in_ok-step_refused.ensures c.requires _ c.advance.ensures _ _ c.put_arrival.ensures c.put_step.ensures).0, tt)

pub returns-clause-keeps_past_2 : goal.returns-clause-keeps_past_2
returns-clause-keeps_past_2 c =
    let a = c.args in
    ((step_past a.self.now a.catalog.now a.calls.now a.step a.line c.in_ok-step_refused.ensures c.requires _ c.advance.ensures _ _ c.put_arrival.ensures c.put_step.ensures).1, tt)
