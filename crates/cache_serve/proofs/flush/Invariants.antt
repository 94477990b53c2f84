-- `cache_serve::flush` meets its contract. What is left to do leads where the whole leads; the measure is what is left of the
-- marks. Assumes nothing.
use Prim.Native.Nat.{◌-◌}
use Rattle.cache_serve.proofs.Writebacks.{FlushingAt}
use Rattle.cache_serve.proofs.flush.Given as goal

abbrev pub invariant-loop-at : goal.invariant-loop-at
invariant-loop-at l = FlushingAt l.initial.b l.b l.at

abbrev pub decreases-loop-at : goal.decreases-loop-at
decreases-loop-at l = 256 - l.at
