-- `cache_room::rekey` meets its contract: only this item can be out of order in the heap. Assumes nothing.
use Rattle.cache_room.proofs.Rekeys.{rekey_unsettled, rekeyed_at}
use Rattle.cache_room.proofs.rekey.Goals as goal

pub fix-requires : goal.fix-requires
fix-requires c =
    rekey_unsettled c.args.b.now c.args.i c.args.key c.requires _ _ _ c.held_items-n.ensures c.place-at.ensures.0 c.put_key.ensures

pub returns : goal.returns
returns c =
    rekeyed_at c.args.b.now c.args.i c.args.key c.requires _ _ _ c.held_items-n.ensures c.place-at.ensures.0 c.put_key.ensures _ c.fix.ensures
