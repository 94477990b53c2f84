-- Numbers as bytes, the low byte first; numbers one after another, each in the same count of bytes; flags, a byte each.
-- A list of bytes is a list of numbers below 256.
use mathlib.Core.{List.{List, [], ◌∷◌}, Bool.{Bool, not}}
use Rattle.std.specs.Prelude.{ℕ, zero, suc, ◌+◌, ◌*◌, ◌/◌, ◌%◌}
use lib.{Dec.eqb, ListN.{take, drop, get_or}}

-- the number that bytes stand for, the low byte first
unfoldable pub from_bytes : List ℕ → ℕ
from_bytes [] = 0
from_bytes (b ∷ bs) = from_bytes bs * 256 + b

-- the number of the `w` bytes at the place `at` of `bs`; no abbreviation, or the prover would count up to a place far behind
unfoldable pub number_at : List ℕ → ℕ → ℕ → ℕ
number_at bs at w = from_bytes (take w (drop at bs))

-- the `w` low bytes of `v`, the low byte first
unfoldable pub to_bytes : ℕ → ℕ → List ℕ
to_bytes zero v = []
to_bytes (suc w) v = v % 256 ∷ to_bytes w (v / 256)

-- `n` numbers of `w` bytes each, read off the front of `bs`
unfoldable pub run_from_bytes : ℕ → ℕ → List ℕ → List ℕ
run_from_bytes w zero bs = []
run_from_bytes w (suc n) bs = from_bytes (take w bs) ∷ run_from_bytes w n (drop w bs)

-- `n` flags read off the front of `bs`: a byte is true exactly if it is not 0
unfoldable pub flags_from_bytes : ℕ → List ℕ → List Bool
flags_from_bytes zero bs = []
flags_from_bytes (suc n) bs = not (eqb (get_or bs 0 0) 0) ∷ flags_from_bytes n (drop 1 bs)
