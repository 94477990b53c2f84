use Rattle.std.proofs.Common.{rules, arith}
use Rattle.layout.specs.Layout.{cache_of}
use Rattle.cache_check.specs.Inner.{ItemAt}
use Rattle.cache_check.proofs.Items.{all_below}
use Rattle.cache_check.proofs.items_ok.Goals as goal

pub returns : goal.returns
returns c =
    let items = all_below _ _ c.args.n c.all.result (ItemAt (cache_of c.args.b.now)) (search rules) c.all.ensures.ran (λ x b q k. search rules) in
    record {
      yes = λ t. record { each = λ i l. items.yes t i (omega (arith, c.requires.count)) };
      only = λ p. items.only (λ i l. p.each i (omega (arith, c.requires.count)));
    }
