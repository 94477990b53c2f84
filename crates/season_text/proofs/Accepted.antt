-- Every report that is given is that of an accepted text, of which the claims hold. Assumes nothing.
use mathlib.Core.Path.{◌≡◌, refl, sym, ap, subst}
use mathlib.Core.Bool.{Bool, true, false, cond}
use mathlib.Core.List.{List, []}
use Prim.Native.Nat.{ℕ, ◌≤◌}
use lib.ListN.{length}
use lib.Dec.{leb}
use borrow.Author.Tests.{leb-true}
use Rattle.std.specs.Prelude.{Result, Ok, Err}
use Rattle.types.specs.declared.Refusal.{Refusal}
use Rattle.types.specs.declared.Refusal.TheVariants.{InputTooLong}
use Rattle.landlord.specs.Plan.{Priced, costs, fault}
use Rattle.season_tables.specs.Tables.{Tables, reading_of}
use Rattle.season_tables.proofs.Sound.{accepted_sound}
use Rattle.season_plan.specs.Plans.{price_of}
use Rattle.printed.specs.Printed.{Outcome, refused, prints}
use Rattle.season_text.specs.Answer.{priced, reading_outcome, outcome_of, Accepted}
use Rattle.season_text.proofs.Season.{calls_accepted, text_compared}

-- what an outcome holds, told apart by its case
abbrev text_of : Outcome → List ℕ
text_of (refused r) = []
text_of (prints t) = t

abbrev is_reported : Outcome → Type 0
is_reported (refused r) = ⊥
is_reported (prints t) = Unit {0}

not_refused : (r : Refusal) (t : List ℕ) → refused r ≡ prints t → ⊥
not_refused r t e = subst is_reported (sym e) tt

-- a report is only of a text that is short enough
short : (b : Bool) (o : Outcome) (t : List ℕ) → cond b o (refused (InputTooLong 0)) ≡ prints t → (b ≡ true) × (o ≡ prints t)
short true o t e = (refl, e)
short false o t e = absurd (not_refused (InputTooLong 0) t e)

pub report_accepted : (s t : List ℕ) → outcome_of s ≡ prints t → Accepted s t
unfolding outcome_of
report_accepted s t e =
    let fits = short (leb (length s) 65536) (reading_outcome (reading_of s)) t e in
    read (reading_of s) refl (leb-true (length s) 65536 fits.0) fits.1
  where
    price : (v : Tables) → reading_of s ≡ Ok v → length s ≤ 65536 → (p : Priced) → price_of v ≡ p → priced v p ≡ prints t → Accepted s t
    price v is few (costs c) same h =
        let ok = accepted_sound s v few is in
        record {
          text = v;
          cost = c;
          reads = is;
          price = same;
          report = sym (ap text_of h);
          calls = calls_accepted v ok;
          compared = text_compared v c ok same;
        }
    price v is few (fault f) same h = absurd (not_refused _ t h)

    read : (led : Result Tables Refusal) → reading_of s ≡ led → length s ≤ 65536 → reading_outcome led ≡ prints t → Accepted s t
    read (Ok v) is few h = price v is few (price_of v) refl h
    read (Err r) is few h = absurd (not_refused r t h)
