-- `report::put_refusal` meets its contract: the names and the two numbers first, then the sentence into the rest. Assumes nothing.
use mathlib.Core.Path.{refl, ◌∙◌}
use mathlib.Core.List.{[]}
use native.Mathlib.Omega.{arith}
use Rattle.decimal.proofs.Laws.{page_all}
use Rattle.decimal.proofs.Pages.{go_room, go_next, go_end}
use Rattle.report.proofs.Laws.{refused_count, numbers_written}
use Rattle.report.proofs.put_refusal.Goals as goal

pub put_table-requires : goal.put_table-requires
put_table-requires c =
    omega (arith, c.requires, refused_count c.args.r c.number-number.ensures c.line-line.ensures refl)

pub returns : goal.returns
returns c =
    let numbers = numbers_written c.args.r c.number-number.ensures c.line-line.ensures c.item-item.ensures c.requires c.line_length-at.ensures.value c.put_table.ensures in
    let fits = go_room c.requires _ _ [] _ numbers in
    (go_end (go_next c.requires _ [] numbers refl (c.write_sentence.ensures.page_after ∙ page_all _ _ fits))).1
