-- `cache_check::left_ok` meets its contract. The loop's invariant: of the items before the mark none that has left is held. Assumes nothing.
use Prim.Native.Nat.{◌-◌}
use Rattle.layout.specs.Layout.{cache_of}
use Rattle.cache_check.proofs.Gone.{Passed}
use Rattle.cache_check.proofs.left_ok.Given as goal

abbrev pub invariant-loop-i : goal.invariant-loop-i
invariant-loop-i l = Passed (cache_of l.b) l.i

abbrev pub decreases-loop-i : goal.decreases-loop-i
decreases-loop-i l = l.n - l.i
