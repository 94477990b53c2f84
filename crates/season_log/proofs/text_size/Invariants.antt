-- `season_log::text_size` meets its contract. The loop's invariant: the size of what is left leads to that of the whole. Assumes nothing.
use Prim.Native.Nat.{◌-◌}
use Rattle.season_log.proofs.Writing.{Counting}
use Rattle.season_log.proofs.text_size.Given as goal

abbrev pub invariant-loop-at : goal.invariant-loop-at
invariant-loop-at l = Counting l.heading l.list l.at l.bytes

abbrev pub decreases-loop-at : goal.decreases-loop-at
decreases-loop-at l = l.whole - l.at
