-- `recorder::recorder_log` meets its contract: each arm is the law of proofs/Logged.antt. Assumes nothing.
use Rattle.std.proofs.Common.{refl, arith}
use Rattle.std.specs.Prelude.{Ok, Err}
use Rattle.recorder.proofs.Logged.{lent_written}
use Rattle.recorder.proofs.recorder_log.Goals as goal

pub returns-in-Ok : goal.returns-in-Ok
returns-in-Ok c =
    let a = c.args in
    lent_written a.heading a.list.now a.page.now _ a.written.now 0 (Ok c.in-Ok.length) refl c.in-Ok.ensures

pub returns-in-Err : goal.returns-in-Err
returns-in-Err c =
    let a = c.args in
    lent_written a.heading a.list.now a.page.now _ a.written.now _ (Err c.in-Err.refusal) (omega arith) c.in-Err.ensures
