-- `cache_heap::spots_ok` meets its contract: two parts are lent, that of the heap and the held flags. Assumes nothing.
use Rattle.cache_heap.proofs.Validity.{spots_decided}
use Rattle.cache_heap.proofs.Bridges.{part_keys, part_items, part_places}
use Rattle.cache_heap.proofs.spots_ok.Goals as goal

pub returns : goal.returns
returns c =
    spots_decided c.args.b.now c.requires.0 c.args.n c.spots_ok.result _ _ _ (part_keys c.args.b.now c.requires.0) (part_items c.args.b.now c.requires.0) (part_places c.args.b.now c.requires.0) c.spots_ok.ensures
