-- `season_scan::scan` meets its contract. The invariants are `Lined` where a line begins and `Fielded` where a field does; the laws
-- of proofs/Turns.antt lead from each turn to the next and to the ways out. Assumes nothing.
use Prim.Native.Nat.{◌+◌, ◌-◌}
use lib.ListN.{length}
use Rattle.season_scan.proofs.Turns.{Lined, Fielded}
use Rattle.season_scan.proofs.scan.Given as goal

abbrev pub invariant-loop-more : goal.invariant-loop-more
invariant-loop-more l = Fielded l.upto l.s l.stage l.seen l.at l.end l.names l.fields l.count l.i l.more

abbrev pub decreases-loop-more : goal.decreases-loop-more
decreases-loop-more l = l.end + 1 - l.i

abbrev pub invariant-lines : goal.invariant-lines
invariant-lines l = Lined l.upto l.s l.initial.catalog l.initial.calls l.initial.acts l.catalog l.calls l.acts l.stage l.seen l.at l.line

abbrev pub decreases-lines : goal.decreases-lines
decreases-lines l = length l.s - l.at
