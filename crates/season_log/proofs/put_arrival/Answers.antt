-- `season_log::put_arrival` meets its contract: each part is written behind the one before it. Assumes nothing.
use mathlib.Core.List.{◌++◌}
use Rattle.decimal.specs.Decimal.{text_of, digits_of}
use Rattle.decimal.specs.InnerPages.{labelled}
use Rattle.decimal.proofs.Pages.{go_first, go_next}
use Rattle.season_log.proofs.Sizes.{go_last}
use Rattle.season_log.proofs.put_arrival.Goals as goal

pub returns-clause-page_after : goal.returns-clause-page_after
returns-clause-page_after c =
    let n = c.args.n in
    let room = c.requires in
    let behind-load = text_of " " ++ (digits_of n.write ++ text_of "\n") in
    let behind-blocks = text_of " " ++ (digits_of n.load ++ behind-load) in
    let behind-item = text_of " - " ++ (digits_of n.blocks ++ behind-blocks) in
    let named = go_first (labelled (text_of "A ") n.item) behind-item c.args.page.now room c.put_value-at.ensures.value c.put_value-at.ensures.page_after in
    let sized = go_next room (labelled (text_of " - ") n.blocks) behind-blocks named c.put_value-at-2.ensures.value c.put_value-at-2.ensures.page_after in
    let loaded = go_next room (labelled (text_of " ") n.load) behind-load sized c.put_value-at-3.ensures.value c.put_value-at-3.ensures.page_after in
    let costed = go_next room (labelled (text_of " ") n.write) (text_of "\n") loaded c.put_value-at-4.ensures.value c.put_value-at-4.ensures.page_after in
    go_last room (text_of "\n") costed c.put_text.ensures.value c.put_text.ensures.page_after
