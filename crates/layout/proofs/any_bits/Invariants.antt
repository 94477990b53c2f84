-- The bits so far have room in so many places exactly if those of each byte passed have. Assumes nothing.
use Rattle.std.proofs.Common.{ℕ, ◌^◌, ◌<◌, ◌↔◌, get_or}
use Rattle.layout.proofs.any_bits.Given as goal

abbrev pub invariant-loop-x : goal.invariant-loop-x
invariant-loop-x l = (k : ℕ) → (l.all < 2 ^ k) ↔ ((i : ℕ) → i < l.x-index → get_or l.bytes i 0 < 2 ^ k)
