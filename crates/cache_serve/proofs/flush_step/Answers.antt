-- `cache_serve::flush_step` meets its contract: the flush's law after the count's. Assumes nothing.
use Rattle.cache_serve.proofs.Writebacks.{flushed_valid_at, flush_step_at}
use Rattle.cache_serve.proofs.flush_step.Goals as goal

pub flush-requires : goal.flush-requires
flush-requires c =
    flushed_valid_at c.args.b.now _ c.requires c.count_step.ensures

pub returns : goal.returns
returns c =
    flush_step_at c.args.b.now _ c.requires c.count_step.ensures _ c.flush.ensures
