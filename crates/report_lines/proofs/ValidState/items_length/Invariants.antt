-- `report_lines::ValidState::items_length` meets its contract. The loop's invariant: what is counted and the lines that are left are all lines.
-- Assumes nothing.
use mathlib.Core.Path.{◌≡◌}
use Prim.Native.Nat.{◌+◌, ◌*◌, ◌≤◌}
use lib.ListN.{length, drop}
use Rattle.cache_state.specs.Cache.{uses_of}
use Rattle.layout.specs.Layout.{cache_of}
use Rattle.report_lines.specs.Lines.{item_lines}
use Rattle.report_lines.proofs.ValidState.items_length.Given as goal

abbrev pub invariant-loop-i : goal.invariant-loop-i
invariant-loop-i l = let uses = uses_of (cache_of l.self.bytes.now) in
    (l.sum ≤ 231 * l.i) × (l.sum + length (item_lines l.i (drop l.i uses)) ≡ length (item_lines 0 uses))
