-- `cache_serve::enter` meets its contract: four stores, and the heap takes the item in. Assumes nothing.
use Prim.Native.Nat.{◌+◌, ◌/◌}
use Rattle.cache_serve.proofs.Enters.{enter_roomy, entered_at}
use Rattle.cache_serve.proofs.enter.Goals as goal

pub insert-requires : goal.insert-requires
insert-requires c =
    enter_roomy c.args.b.now c.args.i c.args.credit c.requires _ _ _ _ _ _ _ _ c.held_items-n.ensures
    c.blocks-blocks.ensures c.used-used.ensures c.put_held.ensures c.put_load_credit.ensures
    c.put_used.ensures c.put_key.ensures

pub returns : goal.returns
returns c =
    entered_at c.args.b.now c.args.i c.args.credit c.requires _ _ _ _ _ _ _ _ c.held_items-n.ensures
    c.blocks-blocks.ensures c.used-used.ensures c.put_held.ensures c.put_load_credit.ensures
    c.put_used.ensures c.put_key.ensures _
    (λ z. c.level.ensures z + c.args.credit / c.blocks-blocks.result) c.insert.ensures
