-- A refusal is told by its number, its line and its item, and its number is one of the table's. Assumes nothing.
use mathlib.Core.Path.{◌≡◌, sym, ap, ◌∙◌}
use Prim.Native.Nat.{◌≤◌}
use native.Mathlib.Omega.{arith}
use Rattle.types.specs.declared.Refusal.{Refusal}
use Rattle.types.specs.Types.{Told, told, refusal_number, refusal_line, refusal_from}

refusal_back : (r : Refusal) → refusal_from (told r) ≡ r
unfolding refusal_from
refusal_back r = grind arith

-- a refusal is the one that tells what it tells
pub refusal_is : (r : Refusal) (t : Told) → told r ≡ t → r ≡ refusal_from t
refusal_is r t e = sym (refusal_back r) ∙ ap refusal_from e

-- so two refusals that tell the same are the same
pub refusal_one : (r z : Refusal) → told r ≡ told z → r ≡ z
refusal_one r z e = refusal_is r (told z) e ∙ refusal_back z

-- the refusal that tells a line is told on it, whatever its number
pub refusal_line_lem : (t : Told) → refusal_line (refusal_from t) ≡ t.line
unfolding refusal_from
refusal_line_lem t = grind arith

-- a refusal's number is one of the table's
pub refusal_range : (r : Refusal) → (1 ≤ refusal_number r) × (refusal_number r ≤ 20)
refusal_range r = grind arith

-- so it is not 0
pub refused_some : (r : Refusal) → refusal_number r ≡ 0 → ⊥
refused_some r e = omega (arith, (refusal_range r).0)
