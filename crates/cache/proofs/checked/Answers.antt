-- `cache::checked` meets its contract: each answer is a law of proofs/Table.antt. Assumes nothing.
use Rattle.std.proofs.Common.{◌≡◌, sym, arith, rules}
use Rattle.types.specs.Types.{answer_told, told}
use Rattle.layout.specs.Layout.{cache_of}
use Rattle.cache.proofs.Table.{Ranged, tells, table_closed, table_full, table_range, table_tells}
use Rattle.cache.proofs.checked.Goals as goal

pub returns-then-closed-clause-tells : goal.returns-then-closed-clause-tells
returns-then-closed-clause-tells c =
    tells c.args.n.item (table_closed (cache_of c.args.b.now) c.args.n (sym c.if-closed.ensures))

pub returns-then-steps-ge1000000-clause-tells : goal.returns-then-steps-ge1000000-clause-tells
returns-then-steps-ge1000000-clause-tells c =
    tells c.args.n.item (table_full (cache_of c.args.b.now) c.args.n (sym c.if-closed.ensures) (omega arith))

pub returns-then-not-in_range-clause-tells : goal.returns-then-not-in_range-clause-tells
returns-then-not-in_range-clause-tells c =
    tells c.args.n.item (table_range (cache_of c.args.b.now) c.args.n (sym c.if-closed.ensures) (omega arith) (sym c.if-not-in_range.ensures))

pub returns-in_err-item_checked-clause-tells : goal.returns-in_err-item_checked-clause-tells
returns-in_err-item_checked-clause-tells c =
    let s : Ranged (cache_of c.args.b.now) c.args.n = record { is_open = sym c.if-closed.ensures; few = omega arith; ranged = sym c.if-not-in_range.ensures } in
    let same : answer_told c.from_residual.result ≡ told c.in_err-item_checked.field-0.0 = search rules in
    rw same (table_tells (cache_of c.args.b.now) c.args.n _ s c.step_of-step.ensures c.in_err-item_checked.ensures)

pub returns-clause-tells : goal.returns-clause-tells
returns-clause-tells c =
    let s : Ranged (cache_of c.args.b.now) c.args.n = record { is_open = sym c.if-closed.ensures; few = omega arith; ranged = sym c.if-not-in_range.ensures } in
    table_tells (cache_of c.args.b.now) c.args.n _ s c.step_of-step.ensures c.in_ok-item_checked.ensures
