-- `report_lines::ValidState::put_items` meets its contract. The loop's invariant: the lines from the next item on are left to write. Assumes nothing.
use lib.ListN.{drop}
use Rattle.decimal.proofs.Pages.{TextGoing}
use Rattle.cache_state.specs.Cache.{uses_of}
use Rattle.layout.specs.Layout.{cache_of}
use Rattle.report_lines.specs.Lines.{item_lines}
use Rattle.report_lines.proofs.ValidState.put_items.Given as goal

abbrev pub invariant-loop-i : goal.invariant-loop-i
invariant-loop-i l = let uses = uses_of (cache_of l.self.bytes.now) in
    TextGoing (item_lines 0 uses) l.initial.page l.at (item_lines l.i (drop l.i uses)) l.page
