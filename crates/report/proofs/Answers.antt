-- An answer is determined by what it tells and by its length. Assumes nothing.
use mathlib.Core.Path.{◌≡◌, sym, ap}
use Rattle.std.specs.Prelude.{ℕ, Result, Ok, Err}
use Rattle.types.specs.declared.Refusal.{Refusal}
use Rattle.types.specs.Types.{Told, answer_told}
use Rattle.types.proofs.Refusals.{refusal_one, refused_some}
use Rattle.report.specs.Report.{written_length}

-- two answers that tell the same, of one length, are the same
pub written_one : (w z : Result ℕ Refusal) → answer_told w ≡ answer_told z → written_length w ≡ written_length z → w ≡ z
written_one (Ok n) (Ok m) a s = ap Ok s
written_one (Ok n) (Err r) a s = absurd (refused_some r (ap (λ (t : Told). t.number) (sym a)))
written_one (Err r) (Ok n) a s = absurd (refused_some r (ap (λ (t : Told). t.number) a))
written_one (Err r) (Err z) a s = ap Err (refusal_one r z a)
