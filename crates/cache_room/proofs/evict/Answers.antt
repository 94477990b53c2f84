-- `cache_room::evict` meets its contract: the root of the heap is the item that goes, and the level is its key then. Assumes nothing.
use Rattle.cache_room.proofs.Bytes.{crowded_holds, root_first, evict_countable, evicted_at}
use Rattle.layout.specs.Layout.{cache_of}
use lib.ListN.{get_or}
use Prim.Native.Nat.{ℕ}
use mathlib.Core.Path.{ap, sym, ◌∙◌}
use Rattle.cache_room.proofs.evict.Goals as goal

pub let_go-blocks-requires : goal.let_go-blocks-requires
let_go-blocks-requires c =
    crowded_holds c.args.b.now c.requires c.root-v.ensures.0

pub count_eviction-requires : goal.count_eviction-requires
count_eviction-requires c =
    evict_countable c.args.b.now _ _ c.requires c.root-v.ensures.0 c.key-key.ensures c.is_dirty-dirty.ensures c.let_go-blocks.ensures.let_go_at c.put_level.ensures

pub returns : goal.returns
returns c =
    record {
      value = c.let_go-blocks.ensures.value ∙ ap (λ (i : ℕ). get_or (cache_of c.args.b.now).blocks i 0) (sym (root_first c.args.b.now c.requires c.root-v.ensures.0));
      becomes_at = evicted_at c.args.b.now _ _ c.requires c.root-v.ensures.0 c.key-key.ensures c.is_dirty-dirty.ensures c.let_go-blocks.ensures.let_go_at c.put_level.ensures _ c.count_eviction.ensures;
    }
