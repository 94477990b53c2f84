-- Laws of the exported report: a report's answer, told as a number and a length. Assumes nothing.
use mathlib.Core.Path.{◌≡◌, refl, ap}
use mathlib.Core.Bool.{Bool, true, false, cond}
use mathlib.Core.List.{List}
use Prim.Native.Nat.{ℕ}
use native.Mathlib.Omega.{arith}
use lib.ListN.{length}
use Rattle.std.specs.Prelude.{Result, Ok, Err, None}
use Rattle.cache_state.specs.Cache.{view}
use Rattle.decimal.specs.Decimal.{fits, wrote_of}
use Rattle.layout.specs.Layout.{cache_of}
use Rattle.report.specs.Report.{report_of, written_length, Reported}
use Rattle.types.specs.declared.Refusal.{Refusal}
use Rattle.types.specs.Types.{Told, answer_number}
use Rattle.types.proofs.Refusals.{refused_some}
use Rattle.recorder.specs.Reports.{length_told, ReportedLent}

number_is : {t u : Told} → t ≡ u → t.number ≡ u.number
number_is e = ap (λ (t : Told). t.number) e

-- the length of a text that fits, else what was there
told_size :
    (b : Bool) (r : Result ℕ Refusal) (n was : ℕ) → answer_number r ≡ cond b 0 15 → written_length r ≡ cond b n 0 → length_told r was ≡ cond b n was
told_size true (Ok m) n was a s = s
told_size false (Ok m) n was a s = absurd (omega arith)
told_size true (Err r) n was a s = absurd (refused_some r a)
told_size false (Err r) n was a s = refl

told_none : (r : Result ℕ Refusal) (was : ℕ) → answer_number r ≡ 17 → length_told r was ≡ was
told_none (Ok n) was a = absurd (omega arith)
told_none (Err r) was a = refl

-- a report of the lent bytes
pub lent_report :
    (b before after : List ℕ) (was : ℕ) (r : Result ℕ Refusal) → Reported b None before r after → ReportedLent b before was (answer_number r) after (length_told r was)
unfolding wrote_of
lent_report b before after was r h =
    record {
      fine = λ valid.
          let p = h.fine valid in
          let t = report_of (view (cache_of b)) None in
          record { answer = number_is p.tells; page = p.page; size = told_size (fits t before) r (length t) was (number_is p.tells) p.size };
      invalid = λ bad.
          let f = h.invalid bad in
          (number_is f.0, f.1, told_none r was (number_is f.0));
    }
