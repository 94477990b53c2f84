-- `log_reader::short_number` meets its contract: more digits than one begin with no zero. Assumes nothing.
use mathlib.Core.Path.{sym, ◌∙◌}
use Prim.Native.Nat.{◌<◌}
use borrow.Author.Tests.{eqb-false}
use native.Mathlib.Omega.{arith}
use Rattle.log_reader.proofs.Finding.{number_one, number_more}
use Rattle.log_reader.proofs.short_number.Goals as goal
use Rattle.log_reader.proofs.short_number.Goals.{then-from-found, else-from-found}

pub returns : goal.returns
returns c =
    let d = c.digits_at-found.ensures in
    let some : c.args.from < c.digits_at-found.result.end = omega (arith, d.onward) in
    elim c.if-from-found.branch [ then-from-found w ↦ number_more d some (eqb-false _ 48 (sym w.value-is ∙ c.if-text-from-eq48.false)) | else-from-found w ↦ number_one d some (omega arith) ]
