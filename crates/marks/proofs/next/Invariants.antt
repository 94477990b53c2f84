-- `marks::next` meets its contract. The loop keeps what is found from where it stands; the measure is what is left of the marks. Assumes nothing.
use Prim.Native.Nat.{◌+◌, ◌-◌}
use mathlib.Core.Path.{◌≡◌}
use lib.ListN.{drop}
use Rattle.marks.specs.Inner.{marks, first_set}
use Rattle.marks.proofs.next.Given as goal

abbrev pub invariant-loop-at : goal.invariant-loop-at
invariant-loop-at l = l.at + first_set (drop l.at (marks l.words)) ≡ l.from + first_set (drop l.from (marks l.words))

abbrev pub decreases-loop-at : goal.decreases-loop-at
decreases-loop-at l = 256 - l.at
