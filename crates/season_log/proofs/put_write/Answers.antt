-- `season_log::put_write` meets its contract: each part is written behind the one before it. Assumes nothing.
use mathlib.Core.List.{◌++◌}
use Rattle.decimal.specs.Decimal.{text_of, digits_of}
use Rattle.decimal.proofs.Pages.{go_first, go_next}
use Rattle.season_log.specs.Log.{no_values, step_text}
use Rattle.season_log.proofs.Sizes.{go_last}
use Rattle.season_log.proofs.put_write.Goals as goal

pub returns-clause-page_after : goal.returns-clause-page_after
unfolding step_text
returns-clause-page_after c =
    let room = c.requires.2 in
    let end = no_values c.args.heading in
    let late = digits_of c.args.minutes ++ end in
    let lettered = go_first (text_of "W ") (digits_of c.args.item ++ (text_of " " ++ late)) c.args.page.now room c.put_text-at.ensures.value c.put_text-at.ensures.page_after in
    let numbered = go_next room (digits_of c.args.item) (text_of " " ++ late) lettered c.put_short-at.ensures.value c.put_short-at.ensures.page_after in
    let spaced = go_next room (text_of " ") late numbered c.put_text-at-2.ensures.value c.put_text-at-2.ensures.page_after in
    let timed = go_next room (digits_of c.args.minutes) end spaced c.put_short-at-2.ensures.value c.put_short-at-2.ensures.page_after in
    go_last room end timed c.put_end.ensures.value c.put_end.ensures.page_after
