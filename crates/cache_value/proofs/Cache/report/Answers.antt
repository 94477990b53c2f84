-- `cache_value::Cache::report` meets its contract: the report of the struct's bytes, as that of the struct. Assumes nothing.
use Rattle.cache_value.proofs.Calls.{reported_by}
use Rattle.cache_value.proofs.Cache.report.Goals as goal

pub returns : goal.returns
returns c =
    reported_by c.args.self c.encode.ensures c.report.result c.report.ensures
