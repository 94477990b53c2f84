-- `report_lines::ValidState::put_items` meets its contract. Assumes nothing.
use native.Mathlib.Omega.{arith}
use Rattle.decimal.proofs.Pages.{go_start, go_as, go_room, go_next, go_end}
use Rattle.cache_state.specs.Cache.{uses_of}
use Rattle.layout.specs.Layout.{cache_of}
use Rattle.report_lines.specs.Lines.{line_of, item_lines}
use Rattle.report_lines.proofs.Laws.{items_as, items_end}
use Rattle.report_lines.proofs.ValidState.put_items.Goals as goal

pub loop-i-init : goal.loop-i-init
loop-i-init c = go_start (item_lines 0 (uses_of (cache_of c.args.self.now.bytes.now))) c.args.page.now

pub put_line-at-requires : goal.put_line-at-requires
put_line-at-requires c =
    let l = c.loop-i in
    go_room c.requires l.at _ _ l.page
    (items_as (cache_of c.args.self.now.bytes.now) l.i c.item_numbers.result (omega (arith, c.count-i-end.ensures.0)) c.item_numbers.ensures l.invariant)

pub loop-i-preserved : goal.loop-i-preserved
loop-i-preserved c =
    let l = c.loop-i in
    go_next c.requires (line_of c.item_numbers.result) _
    (items_as (cache_of c.args.self.now.bytes.now) l.i c.item_numbers.result (omega (arith, c.count-i-end.ensures.0)) c.item_numbers.ensures l.invariant)
    c.put_line-at.ensures.value c.put_line-at.ensures.page_after

pub returns : goal.returns
returns c =
    let l = c.loop-i in
    let both = go_end (go_as (items_end (cache_of c.args.self.now.bytes.now) l.i (omega (arith, c.count-i-end.ensures.0))) l.invariant) in
    record { value = both.0; page_after = both.1 }
