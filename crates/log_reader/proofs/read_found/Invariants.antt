-- `log_reader::read_found` meets its contract. The loop's invariant is `Going`, of proofs/Reading.antt. Assumes nothing.
use Prim.Native.Nat.{◌-◌}
use lib.ListN.{length}
use Rattle.log_reader.proofs.Reading.{Going}
use Rattle.log_reader.proofs.read_found.Given as goal

abbrev pub invariant-loop-place : goal.invariant-loop-place
invariant-loop-place l = Going l.heading l.text l.initial.list l.initial.place.at l.initial.place.count l.list l.place.at l.place.count

abbrev pub decreases-loop-place : goal.decreases-loop-place
decreases-loop-place l = length l.text - l.place.at
