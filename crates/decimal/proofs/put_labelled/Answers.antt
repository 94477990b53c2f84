-- `decimal::put_labelled` meets its contract: the number is written behind the label. Assumes nothing.
use native.Mathlib.Omega.{arith}
use Rattle.decimal.proofs.Pages.{label_put}
use Rattle.decimal.proofs.put_labelled.Goals as goal

pub overflow_add-result : goal.overflow_add-result
overflow_add-result c =
    let label = c.put_text-at.ensures in
    let number = c.write.ensures in
    omega (arith, c.requires, (label_put c.args.label.now c.args.v c.args.page.now c.requires (label.value, label.page_after) (number.value, number.page_after)).0)

pub returns : goal.returns
returns c =
    let label = c.put_text-at.ensures in
    let number = c.write.ensures in
    let both = label_put c.args.label.now c.args.v c.args.page.now c.requires (label.value, label.page_after) (number.value, number.page_after) in
    record { value = both.0; page_after = both.1 }
