-- `report::put_report` meets its contract: each part is written behind the one before it. Assumes nothing.
use mathlib.Core.Path.{refl}
use mathlib.Core.List.{[], ◌∷◌}
use native.Mathlib.Omega.{arith}
use Rattle.decimal.proofs.Pages.{go_room, go_next, go_end}
use Rattle.cache_state.specs.Cache.{view}
use Rattle.layout.specs.Layout.{cache_of}
use Rattle.report.proofs.Laws.{report_count, names_written}
use Rattle.report.proofs.put_report.Goals as goal

pub put_text-at-requires : goal.put_text-at-requires
put_text-at-requires c = omega (arith, c.requires.room, report_count (view (cache_of c.args.state.now.bytes.now)) c.args.rival)

pub put_items-at-requires : goal.put_items-at-requires
put_items-at-requires c =
    let names = names_written (view (cache_of c.args.state.now.bytes.now)) c.args.rival c.requires.room c.put_text-at.ensures.value c.put_text-at.ensures.page_after in
    go_room c.requires.room _ _ _ _ names

pub put_text-at-requires-2 : goal.put_text-at-requires-2
put_text-at-requires-2 c =
    let names = names_written (view (cache_of c.args.state.now.bytes.now)) c.args.rival c.requires.room c.put_text-at.ensures.value c.put_text-at.ensures.page_after in
    let items = go_next c.requires.room _ _ names c.put_items-at.ensures.value c.put_items-at.ensures.page_after in
    go_room c.requires.room _ (10 ∷ []) _ _ items

pub put_totals-requires : goal.put_totals-requires
put_totals-requires c =
    let names = names_written (view (cache_of c.args.state.now.bytes.now)) c.args.rival c.requires.room c.put_text-at.ensures.value c.put_text-at.ensures.page_after in
    let items = go_next c.requires.room _ _ names c.put_items-at.ensures.value c.put_items-at.ensures.page_after in
    let blank = go_next c.requires.room (10 ∷ []) _ items c.put_text-at-2.ensures.value c.put_text-at-2.ensures.page_after in
    record { fair = c.requires.fair; room = go_room c.requires.room _ _ [] _ blank }

pub returns : goal.returns
returns c =
    let names = names_written (view (cache_of c.args.state.now.bytes.now)) c.args.rival c.requires.room c.put_text-at.ensures.value c.put_text-at.ensures.page_after in
    let items = go_next c.requires.room _ _ names c.put_items-at.ensures.value c.put_items-at.ensures.page_after in
    let blank = go_next c.requires.room (10 ∷ []) _ items c.put_text-at-2.ensures.value c.put_text-at-2.ensures.page_after in
    (go_end (go_next c.requires.room _ _ blank refl c.put_totals.ensures)).1
