use Rattle.std.proofs.Common.{ℕ, false, cond, get_or, rules, tests, arith, sym, ◌∙◌}
use Rattle.cache_state.proofs.Views.{used_is}
use Rattle.layout.specs.Layout.{cache_of}
use Rattle.cache_check.proofs.Adding.{summable, summed}
use Rattle.cache_check.proofs.used.Goals as goal

pub sum-requires-clause-fits : goal.sum-requires-clause-fits
sum-requires-clause-fits c = summable _ c.args.n c.map.ensures.source c.map.ensures.closure c.requires.few _ (omega arith) (λ x r q k. search (rules, tests))

pub returns : goal.returns
returns c =
    let each : ℕ → ℕ = λ i. cond (get_or (cache_of c.args.b.now).held i false) (get_or (cache_of c.args.b.now).blocks i 0) 0 in
    rw c.requires.count at (summed _ c.args.n c.map.ensures.source c.map.ensures.closure each (λ x r q k. search rules) c.sum.result c.sum.ensures.ran)
    ∙ sym (used_is (cache_of c.args.b.now))
