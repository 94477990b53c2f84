-- `heap::spots_ok` meets its contract: the loop keeps that the root and the places so far are as they should be. Assumes nothing.
use Rattle.std.proofs.Common.{ℕ, ◌≤◌, ◌<◌}
use Rattle.heap.specs.InnerMoves.{SpotOk}
use Rattle.heap.proofs.spots_ok.Given as goal

abbrev pub invariant-loop-j : goal.invariant-loop-j
invariant-loop-j l = (i : ℕ) → 1 ≤ i → i < l.j → SpotOk l.s i
