-- A fault of a plan as a refusal: its number, its line and its item. Assumes nothing.
use mathlib.Core.Path.{◌≡◌}
use Prim.Native.Nat.{ℕ, ◌≤◌}
use native.Mathlib.Omega.{arith}
use Rattle.types.specs.Types.{telling, told}
use Rattle.types.proofs.Refusals.{refusal_range}
use Rattle.landlord.specs.Plan.{Fault, unknown_item, retired_item, not_held, already_held, request_not_held, over_capacity, fault_refusal, fault_number}

-- the item that a fault is about; a plan that holds too much names none
abbrev pub fault_item : Fault → ℕ
fault_item (unknown_item s a i) = i
fault_item (retired_item s a i) = i
fault_item (not_held s a i) = i
fault_item (already_held s a i) = i
fault_item (request_not_held s i) = i
fault_item (over_capacity s) = 0

-- a fault of a plan is told by its number and its item, on the line where it is told
pub fault_tells : (f : Fault) (n : ℕ) → told (fault_refusal f n) ≡ telling (fault_number f) n (fault_item f)
fault_tells f n = grind arith

-- so its number is one of the table's
pub fault_range : (f : Fault) → (1 ≤ fault_number f) × (fault_number f ≤ 20)
fault_range f = refusal_range (fault_refusal f 0)
