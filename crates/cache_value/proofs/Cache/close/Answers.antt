-- `cache_value::Cache::close` meets its contract: what is made of the bytes is the closing. Assumes nothing.
use Rattle.std.proofs.Common.{rules}
use Rattle.landlord.specs.Calls.{close}
use Rattle.cache_value.proofs.Cache.close.Goals as goal

pub returns : goal.returns
returns c =
    c.call.ensures close (λ b r d made. search rules)
