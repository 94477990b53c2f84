-- `log_reader::step_in` meets its contract. Assumes nothing.
use native.Mathlib.Omega.{arith}
use Rattle.std.proofs.lemmas.Grind.{common_steps}
use Rattle.log_reader.proofs.Finding.{flush_begins}
use Rattle.log_reader.proofs.step_in.Goals as goal

pub returns-in_ok-bytes-in-76 : goal.returns-in_ok-bytes-in-76
returns-in_ok-bytes-in-76 c =
    flush_begins c.args.heading c.args.text.now c.in_ok-bytes-in-76.bytes (grind (arith, common_steps)) c.in_ok-bytes-in-76.ensures
