-- `cache_open::blocks_ok` meets its contract: the items passed are in range. Assumes nothing.
use Rattle.catalog_bytes.specs.Catalogs.{item_in}
use Rattle.cache_open.specs.Inner.{BlocksOk}
use Rattle.cache_open.proofs.blocks_ok.Given as goal

abbrev pub invariant-loop-i : goal.invariant-loop-i
invariant-loop-i l = BlocksOk l.i (λ j. (item_in l.catalog j).blocks)
