-- `log_reader::read_in` meets its contract: what was tested, one behind the other, is the line of the read. Assumes nothing.
use Prim.Native.Nat.{◌+◌}
use Rattle.log_reader.proofs.Finding.{stands_byte, read_begins}
use Rattle.log_reader.proofs.read_in.Goals as goal

pub returns : goal.returns
returns c =
    let text = c.args.text.now in
    let end = c.in_ok-item.item.end in
    read_begins c.args.heading text c.in_ok-item.item.value end c.in_ok-bytes.bytes c.requires c.in_ok-item.ensures c.if-item-gt255.false
    (stands_byte text end 32 _ c.is_byte.ensures c.if-not-is_byte.false)
    (stands_byte text (end + 1) 45 _ c.is_byte-else-not-is_byte.ensures c.if-not-is_byte-2.false)
    c.in_ok-bytes.ensures
