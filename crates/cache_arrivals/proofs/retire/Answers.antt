-- `cache_arrivals::retire` meets its contract: the mark's law after the drop's. Assumes nothing.
use Rattle.cache_arrivals.proofs.InPlace.{retirement_at, retire_at}
use Rattle.cache_arrivals.proofs.retire.Goals as goal

pub mark_left-requires : goal.mark_left-requires
mark_left-requires c =
    retirement_at c.args.b.now c.args.i c.requires _ c.drop_held.ensures

pub returns : goal.returns
returns c =
    retire_at c.args.b.now c.args.i c.requires _ c.drop_held.ensures _ c.mark_left.ensures
