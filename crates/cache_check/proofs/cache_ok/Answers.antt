-- `cache_check::cache_ok` meets its contract: the tests find the parts of which validity is made. Assumes nothing.
use Rattle.std.proofs.Common.{sym, subst, arith, rules}
use Rattle.fields.proofs.Laws.{byte_fits}
use Rattle.cache_state.specs.Cache.{Valid}
use Rattle.layout.specs.Layout.{cache_of}
use Rattle.cache_check.specs.Inner.{CatalogTests}
use Rattle.cache_check.proofs.Whole.{counted, whole_so, catalog_fine}
use Rattle.cache_check.proofs.cache_ok.Goals as goal

pub heap_ok-requires : goal.heap_ok-requires
heap_ok-requires c =
    let found : CatalogTests c.args.b.now (cache_of c.args.b.now).n = rw c.count-n.ensures.0 at (c.catalog_ok.ensures.yes c.if-catalog_ok.true) in
    counted (omega (arith, c.count-n.ensures.0)) found c.requires

pub returns-then-catalog_ok : goal.returns-then-catalog_ok
returns-then-catalog_ok c =
    let found : CatalogTests c.args.b.now (cache_of c.args.b.now).n = rw c.count-n.ensures.0 at (c.catalog_ok.ensures.yes c.if-catalog_ok.true) in
    whole_so (λ j. byte_fits (search rules)) (omega (arith, c.count-n.ensures.0)) found c.heap_ok.ensures

pub returns-else-catalog_ok : goal.returns-else-catalog_ok
returns-else-catalog_ok c =
    let tests = λ (v : Valid (cache_of c.args.b.now)). subst (CatalogTests c.args.b.now) (sym c.count-n.ensures.0) (catalog_fine c.args.b.now v) in
    record { yes = λ e. absurd cc; only = λ v. c.catalog_ok.ensures.only (tests v) }
