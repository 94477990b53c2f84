-- That nothing is left over is what it is to be a multiple. Assumes nothing.
use Rattle.std.proofs.Common.{rules}
use Rattle.std.proofs.lemmas.Nat.Gcd.{mod-eq-zero_of_dvd}
use Rattle.validity.proofs.credit_ok.Goals as goal

pub returns-else-credit-blocks-eq0 : goal.returns-else-credit-blocks-eq0
returns-else-credit-blocks-eq0 c = record { yes = search rules; only = λ h. absurd (c.if-credit-blocks-eq0.false (mod-eq-zero_of_dvd c.args.blocks h.whole)) }
