-- `cache_run::run_calls` meets its contract: what is left to do leads to the answers from the start. Assumes nothing.
use Rattle.cache.specs.Contract.{lent}
use Rattle.landlord.specs.CallNumbers.{calls_of}
use Rattle.cache_run.proofs.Runs.{CallsGoing}
use Rattle.cache_run.proofs.run_calls.Given as goal

abbrev pub invariant-loop-i : goal.invariant-loop-i
invariant-loop-i l = CallsGoing lent l.initial.b (calls_of l.calls) l.initial.answers l.i l.b l.answers
