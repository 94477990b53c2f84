-- `cache_arrivals::drop_held` meets its contract: a law for each of its two ways. Assumes nothing.
use Rattle.cache_arrivals.proofs.InPlace.{retire_holds, countable_at, held_at, unheld_at}
use Rattle.cache_arrivals.proofs.drop_held.Goals as goal

pub let_go-requires : goal.let_go-requires
let_go-requires c =
    retire_holds c.args.b.now c.args.i c.requires c.held.ensures c.if-held.true

pub count_eviction-requires : goal.count_eviction-requires
count_eviction-requires c =
    countable_at c.args.b.now c.args.i c.requires _ c.let_go.ensures.let_go_at

pub returns-then-held : goal.returns-then-held
returns-then-held c =
    held_at c.args.b.now c.args.i c.requires _ c.let_go.ensures.let_go_at _ c.held.ensures c.if-held.true c.is_dirty-dirty.ensures
    c.count_eviction.ensures

pub returns-else-held : goal.returns-else-held
returns-else-held c =
    unheld_at c.args.b.now c.args.i c.requires c.held.ensures c.if-held.false
