-- `cache_room::reckon` meets its contract: both credits are stored, and the key is theirs. Assumes nothing.
use Rattle.cache_room.proofs.Reckons.{reckon_holds, reckoned_at}
use Prim.Native.Nat.{◌+◌, ◌/◌}
use Rattle.cache_room.proofs.reckon.Goals as goal

pub rekey-requires : goal.rekey-requires
rekey-requires c =
    reckon_holds c.args.b.now c.args.i c.args.load c.args.write c.requires _ _ c.put_load_credit.ensures c.put_write_credit.ensures

pub returns : goal.returns
returns c =
    reckoned_at c.args.b.now c.args.i c.args.load c.args.write c.requires _ _ c.put_load_credit.ensures c.put_write_credit.ensures _ _ (λ z. c.level.ensures z + (c.args.load + c.args.write) / c.blocks-blocks.ensures z) c.rekey.ensures
