-- `cache_arrivals::arrive` meets its contract: an item listed in the bytes in which its arrival is counted. Assumes nothing.
use Rattle.cache_arrivals.proofs.InPlace.{arrive_at}
use Rattle.cache_arrivals.proofs.arrive.Goals as goal

pub returns : goal.returns
returns c =
    arrive_at c.args.b.now c.requires _ c.count_step.ensures _ c.args.blocks c.args.load c.args.write c.list_item.ensures
