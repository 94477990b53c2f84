-- A refusal of a text names a line of the text, or the one behind its last. Assumes nothing.
use mathlib.Core.Path.{◌≡◌, refl, sym, ap, subst}
use mathlib.Core.Bool.{Bool, true, false, cond}
use mathlib.Core.List.{List}
use Prim.Native.Nat.{ℕ, ◌+◌, ◌≤◌}
use native.Mathlib.Omega.{arith}
use lib.ListN.{length}
use lib.Dec.{leb}
use Rattle.std.specs.Prelude.{Result, Ok, Err}
use Rattle.types.specs.declared.Refusal.{Refusal}
use Rattle.types.specs.declared.Refusal.TheVariants.{InputTooLong}
use Rattle.types.specs.Types.{Told, refusal_line}
use Rattle.landlord.proofs.Faults.{fault_tells}
use Rattle.landlord.specs.Plan.{Priced, costs, fault}
use Rattle.season_tables.specs.Tables.{Tables, reading_of}
use Rattle.season_tables.proofs.LineNumbers.{stop_line}
use Rattle.season_plan.specs.Plans.{fault_line, price_of}
use Rattle.season_plan.proofs.FaultLines.{fault_line_lem}
use Rattle.printed.specs.Printed.{Outcome, refused}
use Rattle.season_text.specs.Answer.{priced, reading_outcome, outcome_of}
use Rattle.season_text.specs.Inner.{outcome_line}

-- there are no more line feeds than bytes, and a text that is too long names no line
lines_few : (s : List ℕ) → outcome_line (outcome_of s) ≤ length s + 1
unfolding outcome_of
lines_few s = whole (leb (length s) 65536) (reading_outcome (reading_of s)) (reading (reading_of s) refl)
  where
    price : (v : Tables) → reading_of s ≡ Ok v → (p : Priced) → price_of v ≡ p → outcome_line (priced v p) ≤ length s + 1
    price v is (costs c) same = omega arith
    price v is (fault f) same = subst (λ (n : ℕ). n ≤ length s + 1) (ap (λ (t : Told). t.line) (sym (fault_tells f (fault_line v f)))) (fault_line_lem s v f is same)

    reading : (led : Result Tables Refusal) → reading_of s ≡ led → outcome_line (reading_outcome led) ≤ length s + 1
    reading (Ok v) is = price v is (price_of v) refl
    reading (Err r) is = stop_line s r is

    whole : (b : Bool) (o : Outcome) → outcome_line o ≤ length s + 1 → outcome_line (cond b o (refused (InputTooLong 0))) ≤ length s + 1
    whole true o h = h
    whole false o h = omega arith

pub refusal_line_lem : (s : List ℕ) (r : Refusal) → outcome_of s ≡ refused r → refusal_line r ≤ length s + 1
refusal_line_lem s r e = subst (λ (o : Outcome). outcome_line o ≤ length s + 1) e (lines_few s)
