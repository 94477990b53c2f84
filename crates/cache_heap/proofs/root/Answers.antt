-- `cache_heap::root` meets its contract: the first byte of the heap. Assumes nothing.
use Rattle.cache_heap.proofs.Bridges.{part_items}
use lib.ListN.{get_or}
use Prim.Native.Nat.{ℕ}
use mathlib.Core.List.{List}
use mathlib.Core.Path.{ap, ◌∙◌}
use Rattle.cache_heap.proofs.root.Goals as goal

pub returns : goal.returns
returns c =
    (c.item.ensures.0 ∙ ap (λ (xs : List ℕ). get_or xs 0 0) (part_items c.args.b.now c.requires), c.item.ensures.1)
