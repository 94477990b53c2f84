-- `cache_heap::insert` meets its contract: the part is lent, and what comes back is the cache with another arrangement. Assumes nothing.
use Rattle.cache_heap.proofs.Bridges.{roomy_in, inserted_back}
use mathlib.Core.Path.{refl}
use Rattle.fields.proofs.Laws.{byte_fits}
use Rattle.cache_heap.proofs.insert.Goals as goal

pub insert-requires : goal.insert-requires
insert-requires c =
    roomy_in c.args.b.now c.args.n c.args.i c.requires

pub returns : goal.returns
returns c =
    inserted_back c.args.b.now _ _ c.slice_known-1.given (λ j. byte_fits (c.type_inv.b j)) c.requires.reads c.insert.ensures.kept refl c.args.n c.args.i c.insert.ensures
