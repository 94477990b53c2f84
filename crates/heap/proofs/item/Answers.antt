-- `heap::item` meets its contract: one byte of the row. Assumes nothing.
use Prim.Native.Nat.{◌+◌}
use Rattle.heap.proofs.Parts.{items_at}
use mathlib.Core.Path.{sym}
use native.Mathlib.Omega.{arith}
use Rattle.heap.proofs.item.Goals as goal

pub returns : goal.returns
returns c =
    (sym (items_at c.args.s.now c.args.j c.requires.1), omega (arith, c.type_inv.s (2048 + c.args.j)))
