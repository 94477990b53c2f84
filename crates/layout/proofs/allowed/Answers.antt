-- `layout::allowed` meets its contract: where the numbers pass, the items' flags decide. Assumes nothing.
use Rattle.std.proofs.Common.{arith, rules}
use Rattle.layout.proofs.Tests.{allowed_so}
use Rattle.layout.proofs.allowed.Goals as goal
use Rattle.layout.proofs.allowed.Goals.{then-get-eq-FORMAT, else-get-eq-FORMAT, then-get-lt2, else-get-lt2}

pub returns-then-get-lt2-2 : goal.returns-then-get-lt2-2
returns-then-get-lt2-2 c =
    elim c.if-get-lt2.branch [
      | then-get-lt2 w ↦
          elim c.if-get-eq-FORMAT.branch [
            | then-get-eq-FORMAT v ↦ allowed_so c.args.b.now _ c.requires c.any_bits.ensures (omega arith) (search rules) (search rules)
            | else-get-eq-FORMAT v ↦ absurd (search rules)
          ]
      | else-get-lt2 w ↦ absurd (search rules)
    ]
