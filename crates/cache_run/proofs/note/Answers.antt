-- `cache_run::note` meets its contract: past the end there is no place. Assumes nothing.
use mathlib.Core.Path.{sym}
use native.Mathlib.Omega.{arith}
use lib.Seq.{set_out}
use Rattle.cache_run.proofs.note.Goals as goal

pub returns-else-i-answers : goal.returns-else-i-answers
returns-else-i-answers c =
    sym (set_out c.args.answers.now c.args.i c.args.number (omega arith))
