-- `cache_heap::remove` meets its contract: the part is lent, and what comes back is the cache with another arrangement. Assumes nothing.
use Rattle.cache_heap.proofs.Bridges.{filled_in, removed_back}
use mathlib.Core.Path.{refl}
use Rattle.fields.proofs.Laws.{byte_fits}
use Rattle.cache_heap.proofs.remove.Goals as goal

pub remove-requires : goal.remove-requires
remove-requires c =
    filled_in c.args.b.now c.args.n c.args.at c.requires

pub returns : goal.returns
returns c =
    removed_back c.args.b.now _ _ c.slice_known-1.given (λ j. byte_fits (c.type_inv.b j)) c.requires.reads c.remove.ensures.kept refl c.args.n c.args.at c.remove.ensures
