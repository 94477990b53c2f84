-- `catalog_bytes::put` meets its contract. Assumes nothing.
use mathlib.Core.Path.{◌≡◌, ap, ◌∙◌}
use Prim.Native.Nat.{◌*◌, ◌/◌, ◌%◌}
use native.Mathlib.Omega.{arith}
use lib.ListN.{length}
use lib.Seq.{sets}
use Rattle.catalog_bytes.proofs.Places.{put_mid-sets}
use Rattle.catalog_bytes.proofs.put.Goals as goal

pub returns : goal.returns
returns c =
    let at = 5 * c.args.i in
    let load : c.args.item.load / 256 % 256 ≡ c.args.item.load / 256 = omega arith in
    let write : c.args.item.write / 256 % 256 ≡ c.args.item.write / 256 = omega arith in
    let stored = rw (c.to_le_bytes.ensures, c.to_le_bytes-2.ensures, load, write) at c.copy_from_slice.ensures.after in
    put_mid-sets at _ c.args.catalog.now _ (omega (arith, ap length stored)) (omega arith) ∙ ap (sets c.args.catalog.now at) stored
