-- `cache_run::run_calls` meets its contract: what is left to do leads to the answers from the start. Assumes nothing.
use Rattle.std.proofs.Common.{arith}
use Rattle.landlord.specs.CallNumbers.{calls_of}
use Rattle.landlord.proofs.CallNumbers.{count_is}
use Rattle.cache.specs.Contract.{lent}
use Rattle.cache_run.proofs.Runs.{call_seven, going_on, going_ends}
use Rattle.cache_run.proofs.run_calls.Goals as goal

pub loop-i-preserved : goal.loop-i-preserved
loop-i-preserved c =
    let xs = c.args.calls.now in
    let w = c.loop-i in
    going_on lent c.args.b.now w.b _ (calls_of xs) c.args.answers.now w.answers _ w.i _ _
    (omega (arith, count_is xs))
    (rw c.as_chunks.ensures.front (call_seven xs w.i (omega arith)))
    c.call-answer.ensures (rw (← c.number_of.ensures) c.note.ensures) w.invariant

pub returns-clause-ran_calls : goal.returns-clause-ran_calls
returns-clause-ran_calls c =
    let xs = c.args.calls.now in
    let w = c.loop-i in
    going_ends lent c.args.b.now w.b (calls_of xs) c.args.answers.now w.answers w.i (omega (arith, count_is xs)) w.invariant
