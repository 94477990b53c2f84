-- `season_log::put_lines` meets its contract. The loop's invariant: the lines of the steps that are left are left to write. Assumes nothing.
use Prim.Native.Nat.{◌-◌}
use lib.ListN.{length}
use Rattle.season_log.proofs.Writing.{Putting}
use Rattle.season_log.proofs.put_lines.Given as goal

abbrev pub invariant-loop-at : goal.invariant-loop-at
invariant-loop-at l = Putting l.heading l.list l.initial.page l.at l.to l.page

abbrev pub decreases-loop-at : goal.decreases-loop-at
decreases-loop-at l = length l.list - l.at
