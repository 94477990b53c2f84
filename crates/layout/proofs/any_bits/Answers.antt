use Rattle.std.proofs.Common.{arith, below_more}
use Rattle.layout.proofs.Tests.{or_below}
use Rattle.layout.proofs.any_bits.Goals as goal

pub loop-x-preserved : goal.loop-x-preserved
loop-x-preserved c = λ k.
    let before = c.loop-x.invariant k in
    let both = or_below k c.loop-x.all _ in
    (λ h. below_more _ _ (before.0 (both.0 h).0) (both.0 h).1, λ h. both.1 (before.1 (λ i l. h i (omega arith)), h c.loop-x.x-index (omega arith)))
