-- `cache_serve::fetch` meets its contract: a law for each of its two ways. Assumes nothing.
use Rattle.cache_serve.proofs.Serves.{fetch_hit, load_enterable, load_ready, fetch_load}
use Rattle.cache_serve.proofs.fetch.Goals as goal

pub returns-then-held : goal.returns-then-held
returns-then-held c =
    fetch_hit c.args.b.now c.args.i c.requires.0 c.args.credit c.held.ensures c.if-held.true _ c.count_step.ensures

pub enter-requires : goal.enter-requires
enter-requires c =
    load_enterable c.args.b.now c.args.i c.requires.0 c.held.ensures c.if-held.false c.requires.1

pub count_load-requires : goal.count_load-requires
count_load-requires c =
    load_ready c.args.b.now c.args.i c.requires.0 c.held.ensures c.if-held.false c.requires.1 _ c.enter.ensures

pub returns : goal.returns
returns c =
    fetch_load c.args.b.now c.args.i c.requires.0 c.held.ensures c.if-held.false c.requires.1 _ c.enter.ensures _
    c.count_load.ensures
