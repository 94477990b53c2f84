-- `log_reader::write_in` meets its contract: what was tested, one behind the other, is the line of the write. Assumes nothing.
use Rattle.log_reader.proofs.Finding.{stands_byte, write_begins}
use Rattle.log_reader.proofs.write_in.Goals as goal

pub returns : goal.returns
returns c =
    let text = c.args.text.now in
    let item = c.in_ok-item.item in
    let minutes = c.in_ok-minutes.minutes in
    write_begins c.args.heading text item.value item.end minutes.value minutes.end c.in_ok-bytes.bytes c.requires c.in_ok-item.ensures c.if-item-gt255.false
    (stands_byte text item.end 32 _ c.is_byte.ensures c.if-not-is_byte.false)
    c.in_ok-minutes.ensures c.if-minutes-gt1440.false c.in_ok-bytes.ensures
