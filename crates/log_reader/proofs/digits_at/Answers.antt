-- `log_reader::digits_at` meets its contract: what was passed are digits, and their value was kept. Assumes nothing.
use native.Mathlib.Omega.{arith}
use Rattle.log_reader.proofs.Finding.{digits_none, digits_next}
use Rattle.log_reader.proofs.digits_at.Goals as goal

pub loop-at-init : goal.loop-at-init
loop-at-init c =
    digits_none c.args.text.now c.args.from c.requires

pub loop-at-preserved : goal.loop-at-preserved
loop-at-preserved c =
    rw c.from.ensures (digits_next c.loop-at.invariant (omega arith) (omega arith) (grind arith) (grind arith))
