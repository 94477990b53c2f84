-- `cache_heap::place` meets its contract: one byte of the part that is lent. Assumes nothing.
use Rattle.cache_heap.proofs.Bridges.{part_places}
use lib.ListN.{get_or}
use Prim.Native.Nat.{ℕ}
use mathlib.Core.List.{List}
use mathlib.Core.Path.{ap, ◌∙◌}
use Rattle.cache_heap.proofs.place.Goals as goal

pub returns : goal.returns
returns c =
    (c.place.ensures.0 ∙ ap (λ (xs : List ℕ). get_or xs c.args.i 0) (part_places c.args.b.now c.requires.0), c.place.ensures.1)
