-- A rule of deduction and its number: each tells the other. Assumes nothing.
use mathlib.Core.Path.{◌≡◌}
use mathlib.Core.Bool.{true}
use Prim.Native.Nat.{ℕ, ◌<◌}
use native.Mathlib.Omega.{arith}
use Rattle.types.specs.declared.Deduction.{Deduction}
use Rattle.types.specs.Types.{deduction_number, deduction_of, is_deduction}

-- a rule is that of its number, and the number of a rule is one
pub deduction_number_lem : (r : Deduction) → (deduction_of (deduction_number r) ≡ r) × (is_deduction (deduction_number r) ≡ true)
deduction_number_lem r = grind arith

pub deduction_lt : (r : Deduction) → deduction_number r < 2
deduction_lt r = grind arith

pub number_deduction : (n : ℕ) → n < 2 → deduction_number (deduction_of n) ≡ n
number_deduction n l = grind arith
