-- `sentence::read_part` meets its contract: a number within the limit has room in 32 bits. Assumes nothing.
use mathlib.Core.Path.{sym}
use native.Mathlib.Omega.{arith}
use Rattle.sentence.proofs.Readings.{read_small}
use Rattle.sentence.proofs.read_part.Goals as goal

pub overflow_cast-result : goal.overflow_cast-result
overflow_cast-result c = omega (arith, read_small _ 4294967295 c.in_ok-value.value c.read.result c.read.ensures (sym c.in_ok-value.ensures.value))
