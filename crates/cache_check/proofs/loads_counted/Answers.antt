use Rattle.std.proofs.Common.{rules, tests, arith}
use Rattle.cache_check.proofs.Adding.{summable, summed}
use Rattle.cache_check.proofs.loads_counted.Goals as goal

pub sum-requires-clause-fits : goal.sum-requires-clause-fits
sum-requires-clause-fits c = summable _ c.args.n c.map.ensures.source c.map.ensures.closure c.requires.few _ (omega arith) (λ x r q k. search (rules, tests))

pub returns : goal.returns
returns c = summed _ c.args.n c.map.ensures.source c.map.ensures.closure _ (λ x r q k. search rules) c.sum.result c.sum.ensures.ran
