-- `cache_heap::fix` meets its contract: the part is lent, and what comes back is the cache with another arrangement. Assumes nothing.
use Rattle.cache_heap.proofs.Bridges.{unsettled_in, sifted_back}
use mathlib.Core.Path.{refl}
use Rattle.fields.proofs.Laws.{byte_fits}
use Rattle.cache_heap.proofs.fix.Goals as goal

pub fix-requires : goal.fix-requires
fix-requires c =
    unsettled_in c.args.b.now c.args.n c.args.at c.requires

pub returns : goal.returns
returns c =
    sifted_back c.args.b.now _ _ c.slice_known-1.given (λ j. byte_fits (c.type_inv.b j)) c.requires.reads c.fix.ensures.kept refl c.args.n c.fix.ensures
