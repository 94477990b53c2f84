-- `cache_value::Cache::step` meets its contract: what is made of the bytes is the step. Assumes nothing.
use Rattle.std.proofs.Common.{rules}
use Rattle.landlord.specs.Calls.{call_of}
use Rattle.cache_value.proofs.Cache.step.Goals as goal

pub returns : goal.returns
returns c =
    c.call.ensures (call_of c.args.s) (λ b r d made. search rules)
