-- `cache_value::run` meets its contract: the season theorem of its arguments. Assumes nothing.
use Rattle.landlord.specs.CallNumbers.{calls_of}
use Rattle.cache_value.proofs.Runs.{run_taken}
use Rattle.cache_value.proofs.run.Goals as goal

pub returns : goal.returns
returns c =
    let a = c.args in
    run_taken _ (calls_of a.calls.now) a.answers.now c.open-first.result c.decode-end.result c.open-first.ensures c.if-is_err.ensures.negation
    c.encode.ensures c.run_calls.ensures.ran_calls c.decode-end.ensures
