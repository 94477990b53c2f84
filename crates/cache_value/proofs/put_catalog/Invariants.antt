-- `cache_value::put_catalog` meets its contract: after i turns the first i items stand in the bytes. Assumes nothing.
use mathlib.Core.Path.{◌≡◌}
use Rattle.catalog_bytes.specs.Inner.{catalog_of_first}
use Rattle.cache_value.specs.Contract.{catalog_from}
use Rattle.cache_value.proofs.put_catalog.Given as goal

abbrev pub invariant-loop-i : goal.invariant-loop-i
invariant-loop-i l = catalog_of_first l.i l.catalog ≡ catalog_from l.i l.blocks l.load l.write
