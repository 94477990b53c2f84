-- `cache_room::let_go` meets its contract: out of the heap, then its key, its blocks and its slot. Assumes nothing.
use native.Mathlib.Omega.{arith}
use Rattle.cache_room.proofs.Bytes.{holds_used, let_go_at}
use Rattle.cache_room.proofs.let_go.Goals as goal

pub overflow_sub-used : goal.overflow_sub-used
overflow_sub-used c =
    omega (arith, c.used-used.ensures, c.blocks-blocks.ensures, holds_used c.args.b.now c.args.v c.requires)

pub returns-clause-let_go_at : goal.returns-clause-let_go_at
returns-clause-let_go_at c =
    let_go_at c.args.b.now c.args.v c.requires _ _ _ _ _ _ _ _ c.held_items-n.ensures c.place-at.ensures.0 c.used-used.ensures c.blocks-blocks.ensures c.remove.ensures c.put_used.ensures c.put_key.ensures c.drop_item.ensures
