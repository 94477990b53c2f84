-- `decimal::read` meets its contract: a digit that leads above the limit decides. Assumes nothing.
use mathlib.Core.Path.{sym}
use native.Mathlib.Omega.{arith}
use Rattle.decimal.proofs.Laws.{from_above, read_above}
use Rattle.decimal.proofs.read.Goals as goal

pub returns-then-limit-v : goal.returns-then-limit-v
returns-then-limit-v c =
    let a = c.args in
    let at = c.loop-b in
    let above = from_above at.v a.s.now at.b-index a.limit (omega arith) (omega arith) in
    sym (read_above a.s.now a.limit at.invariant.shape (omega arith))

pub returns-then-limit-tens : goal.returns-then-limit-tens
returns-then-limit-tens c =
    let a = c.args in
    let at = c.loop-b in
    let above = from_above at.v a.s.now at.b-index a.limit (omega arith) (omega arith) in
    sym (read_above a.s.now a.limit at.invariant.shape (omega arith))
