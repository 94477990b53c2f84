-- `cache_open::put_items` meets its contract: after i turns the first i items stand in their places. Assumes nothing.
use Rattle.layout.specs.Layout.{cache_of}
use Rattle.layout.specs.Inner.{Stands}
use Rattle.cache_open.specs.Inner.{entered_of}
use Rattle.cache_open.proofs.put_items.Given as goal

abbrev pub invariant-loop-i : goal.invariant-loop-i
invariant-loop-i l = Stands l.b (entered_of (cache_of l.initial.b) l.catalog l.i)
