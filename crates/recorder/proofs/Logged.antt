-- The law of the exported log: the writer's answer, told as one number and a length. Assumes nothing.
use mathlib.Core.Path.{◌≡◌, ap, ◌∙◌}
use mathlib.Core.List.{List}
use Prim.Native.Nat.{ℕ}
use Rattle.std.specs.Prelude.{Result}
use Rattle.types.specs.declared.Refusal.{Refusal}
use Rattle.season_log.specs.Log.{lent_log, LogWritten}
use Rattle.season_log.proofs.Answers.{log_one}
use Rattle.recorder.specs.Reports.{both_halves, length_told, LoggedLent}

pub lent_written :
    (heading : ℕ) (list before after : List ℕ) (was answer : ℕ) (r : Result ℕ Refusal) →
    answer ≡ both_halves r →
    LogWritten (lent_log heading list) before r after →
    LoggedLent heading list before was answer after (length_told r was)
lent_written heading list before after was answer r e h =
    record { tells = e ∙ ap both_halves (log_one h); page = h.page; size = ap (λ (x : Result ℕ Refusal). length_told x was) (log_one h) }
