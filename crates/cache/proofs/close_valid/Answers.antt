-- `cache::close_valid` meets its contract: closed, the bytes stay; else it flushes and closes. Assumes nothing.
use Rattle.std.proofs.Common.{sym}
use Rattle.cache.proofs.Calls.{closed_answers, closing_answers}
use Rattle.cache.proofs.close_valid.Goals as goal

pub returns-then-closed-clause-answers : goal.returns-then-closed-clause-answers
returns-then-closed-clause-answers c =
    closed_answers c.args.b.now c.requires (sym c.if-closed.ensures)

pub returns-clause-answers : goal.returns-clause-answers
returns-clause-answers c =
    closing_answers c.args.b.now _ _ c.requires (sym c.if-closed.ensures) c.flush.ensures c.put_closed.ensures
