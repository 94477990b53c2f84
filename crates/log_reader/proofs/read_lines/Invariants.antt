-- `log_reader::read_lines` meets its contract. The loop's invariant: so many steps are read. Assumes nothing.
use Prim.Native.Nat.{◌-◌}
use lib.ListN.{length}
use Rattle.log_reader.specs.Inner.{ReadSoFar}
use Rattle.log_reader.proofs.read_lines.Given as goal

abbrev pub invariant-loop-place : goal.invariant-loop-place
invariant-loop-place l = ReadSoFar l.heading l.text l.fn.list l.place.at l.place.count l.list

abbrev pub decreases-loop-place : goal.decreases-loop-place
decreases-loop-place l = length l.text - l.place.at
