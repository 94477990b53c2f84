-- An answer of `season_log` is determined by what it tells and by its count. Assumes nothing.
use mathlib.Core.Path.{◌≡◌, sym, ap}
use mathlib.Core.List.{List}
use Prim.Native.Nat.{ℕ}
use Rattle.std.specs.Prelude.{Result, Ok, Err}
use Rattle.types.specs.declared.Refusal.{Refusal}
use Rattle.types.specs.Types.{Told, answer_told}
use Rattle.types.proofs.Refusals.{refusal_one, refused_some}
use Rattle.season_log.specs.Log.{Logged, log_count, write_answer, written_page, LogWritten}

-- two answers that tell the same, of one count, are the same
answer_one : (a b : Result ℕ Refusal) → answer_told a ≡ answer_told b → log_count a ≡ log_count b → a ≡ b
answer_one (Ok n) (Ok m) t c = ap Ok c
answer_one (Ok n) (Err r) t c = absurd (refused_some r (ap (λ (t : Told). t.number) (sym t)))
answer_one (Err r) (Ok n) t c = absurd (refused_some r (ap (λ (t : Told). t.number) t))
answer_one (Err r) (Err q) t c = ap Err (refusal_one r q t)

-- so the promise of the writer gives its answer, and the answer the promise
pub log_one : {x : Logged} {page : List ℕ} {r : Result ℕ Refusal} {after : List ℕ} → LogWritten x page r after → r ≡ write_answer x page
log_one {x = x} {page = page} {r = r} h = answer_one r (write_answer x page) h.tells h.count

pub log_written :
    {x : Logged} {page : List ℕ} {r : Result ℕ Refusal} {after : List ℕ} → r ≡ write_answer x page → after ≡ written_page x page → LogWritten x page r after
log_written a p = record { tells = ap answer_told a; count = ap log_count a; page = p }
