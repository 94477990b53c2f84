-- `cache_check::heap_ok` meets its contract: as many places are in use as items are held. Assumes nothing.
use Rattle.std.proofs.Common.{◌≡◌, ◌-◌, arith}
use Rattle.std.proofs.lemmas.Grind.{common_steps}
use Rattle.cache_state.specs.Cache.{held_items}
use Rattle.layout.specs.Layout.{cache_of}
use Rattle.cache_check.proofs.heap_ok.Goals as goal

pub returns-then-zeros : goal.returns-then-zeros
returns-then-zeros c =
    let held : c.loads.result - c.evictions-evictions.result ≡ held_items (cache_of c.args.b.now) = omega (arith, c.loads.ensures, c.evictions-evictions.ensures, c.requires.count) in
    grind (arith, common_steps)
