-- `cache_check::sums` meets its contract: `n` is the count of items. Assumes nothing.
use Rattle.cache_check.proofs.sums.Goals as goal

pub returns : goal.returns
returns c =
    rw (c.used.ensures, c.held_count.ensures, c.count.ensures, c.dirty.ensures, c.left_count.ensures, c.loads_counted.ensures, c.writebacks_counted.ensures, c.requires.count)
