-- `season_log::put_named` meets its contract: each part is written behind the one before it. Assumes nothing.
use mathlib.Core.List.{◌++◌}
use Rattle.decimal.specs.Decimal.{text_of, digits_of}
use Rattle.decimal.proofs.Pages.{go_start, go_byte, go_next}
use Rattle.season_log.specs.Log.{no_values}
use Rattle.season_log.proofs.Sizes.{go_last}
use Rattle.season_log.proofs.put_named.Goals as goal

pub returns-clause-page_after : goal.returns-clause-page_after
returns-clause-page_after c =
    let room = c.requires.1 in
    let end = no_values c.args.heading in
    let lettered = go_byte room (go_byte room (go_start _ c.args.page.now)) in
    let numbered = go_next room (digits_of c.args.item) (text_of " -" ++ end) lettered c.put_short-at.ensures.value c.put_short-at.ensures.page_after in
    let dashed = go_next room (text_of " -") end numbered c.put_text-at.ensures.value c.put_text-at.ensures.page_after in
    go_last room end dashed c.put_end.ensures.value c.put_end.ensures.page_after
