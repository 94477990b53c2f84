-- `log_reader::judge` meets its contract. The loop's invariant is `Fielded`, of proofs/Judging.antt. Assumes nothing.
use lib.ListN.{length}
use Rattle.log_reader.proofs.Judging.{Fielded, fields_left}
use Rattle.log_reader.proofs.judge.Given as goal

abbrev pub invariant-loop-more : goal.invariant-loop-more
invariant-loop-more l = Fielded l.l l.fields l.count l.at l.more

abbrev pub decreases-loop-more : goal.decreases-loop-more
decreases-loop-more l = fields_left (length l.l) l.at l.more
