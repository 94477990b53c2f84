-- `recorder::recorder_report` meets its contract: each arm is the law of proofs/Reported.antt. Assumes nothing.
use Rattle.std.specs.Prelude.{Ok, Err}
use Rattle.recorder.proofs.Reported.{lent_report}
use Rattle.recorder.proofs.recorder_report.Goals as goal

pub returns-in-Ok : goal.returns-in-Ok
returns-in-Ok c =
    let a = c.args in
    lent_report a.state.now a.page.now _ a.written.now (Ok c.in-Ok.n) c.in-Ok.ensures

pub returns-in-Err : goal.returns-in-Err
returns-in-Err c =
    let a = c.args in
    rw c.number.ensures (lent_report a.state.now a.page.now _ a.written.now (Err c.in-Err.refusal) c.in-Err.ensures)
