-- `cache_run::run` meets its contract: the season theorem of its arguments. Assumes nothing.
use Rattle.landlord.specs.Calls.{opening}
use Rattle.landlord.specs.CallNumbers.{calls_of}
use Rattle.cache_run.proofs.Runs.{run_taken}
use Rattle.cache_run.proofs.run.Goals as goal

pub returns-clause-ran : goal.returns-clause-ran
returns-clause-ran c = let h = c.in_ok-open.ensures in
    let a = c.args in
    run_taken a.b.now _ (opening a.k a.rule a.catalog.now) (calls_of a.calls.now) a.answers.now _ _ h.opened c.run_calls.ensures.ran_calls
