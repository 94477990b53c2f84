-- `heap::place` meets its contract: one byte of the row. Assumes nothing.
use Prim.Native.Nat.{◌+◌}
use Rattle.heap.proofs.Parts.{places_at}
use mathlib.Core.Path.{sym}
use native.Mathlib.Omega.{arith}
use Rattle.heap.proofs.place.Goals as goal

pub returns : goal.returns
returns c =
    (sym (places_at c.args.s.now c.args.i c.requires.1), omega (arith, c.type_inv.s (2304 + c.args.i)))
