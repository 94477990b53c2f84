-- `Copies::serve` meets its contract: a law for each of its ways. Assumes nothing.
use mathlib.Core.Path.{refl}
use native.Mathlib.Omega.{arith}
use Rattle.std.proofs.lemmas.Result.{err_from_is_err_and}
use Rattle.season_plan.proofs.Deeds.{few_items_lem}
use Rattle.season_plan.proofs.Serving.{serve_missing, serve_over, serve_read, serve_write, serve_flush, serve_arrive, serve_retire}
use Rattle.season_plan.proofs.Copies.serve.Goals as goal

pub request-requires : goal.request-requires
request-requires c = (few_items_lem c.args.catalog.now c.args.self.now c.requires.ready, c.requires.known)

pub returns-in_err-request : goal.returns-in_err-request
returns-in_err-request c =
    let p = err_from_is_err_and c.from_residual.result c.from_residual.ensures.1 in
    rw (p.1, p.2) (serve_missing c.args.h c.args.line c.args.self.now c.args.catalog.now c.args.step _ _ c.requires.known c.in_err-request.ensures)

pub returns-then-h-self : goal.returns-then-h-self
returns-then-h-self c =
    serve_over c.args.h c.args.line c.args.self.now c.args.catalog.now c.args.step c.requires.known _ c.in_ok-request.ensures c.if-h-self.true

pub clean-requires : goal.clean-requires
clean-requires c = few_items_lem c.args.catalog.now c.args.self.now c.requires.ready

pub overflow_add-self-in-Arrive : goal.overflow_add-self-in-Arrive
overflow_add-self-in-Arrive c = omega (arith, few_items_lem c.args.catalog.now c.args.self.now c.requires.ready)

pub returns-in-Read : goal.returns-in-Read
returns-in-Read c =
    rw c.in-Read.is (serve_read c.args.catalog.now c.args.h c.args.line c.args.self.now c.args.self.now c.if-h-self.false c.in-Read.item (rw c.in-Read.is at c.requires.known) (rw c.in-Read.is at c.in_ok-request.ensures))

pub returns-in-Write : goal.returns-in-Write
returns-in-Write c =
    let known = rw c.in-Write.is at c.requires.known in
    rw c.in-Write.is (serve_write c.args.catalog.now c.args.h c.args.line c.args.self.now _ c.if-h-self.false c.in-Write.item c.in-Write.minutes known (rw c.in-Write.is at c.in_ok-request.ensures) (omega (arith, known, few_items_lem c.args.catalog.now c.args.self.now c.requires.ready)) refl refl refl refl)

pub returns-in-Flush : goal.returns-in-Flush
returns-in-Flush c =
    rw c.in-Flush.is (serve_flush c.args.catalog.now c.args.h c.args.line c.args.self.now _ c.if-h-self.false _ c.owed.result c.owed.ensures refl refl refl refl c.clean.ensures)

pub returns-in-Arrive : goal.returns-in-Arrive
returns-in-Arrive c =
    rw c.in-Arrive.is (serve_arrive c.args.catalog.now c.args.h c.args.line c.args.self.now _ c.if-h-self.false _ _ _ _ refl refl refl refl)

pub returns-in-Retire : goal.returns-in-Retire
returns-in-Retire c =
    rw c.in-Retire.is (serve_retire c.args.catalog.now c.args.h c.args.line c.args.self.now _ c.if-h-self.false c.in-Retire.item (rw c.in-Retire.is at c.requires.known) c.lose.ensures)
