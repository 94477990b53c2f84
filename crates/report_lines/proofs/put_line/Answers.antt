-- `report_lines::put_line` meets its contract. Assumes nothing.
use mathlib.Core.Path.{◌≡◌}
use Prim.Native.Nat.{◌+◌}
use native.Mathlib.Omega.{arith}
use lib.ListN.{drop}
use Rattle.decimal.proofs.Pages.{go_start, go_as, go_byte, go_end}
use Rattle.report_lines.specs.Lines.{separator, line_of}
use Rattle.report_lines.proofs.Laws.{number_written, line_end, space_next, feed_last}
use Rattle.report_lines.proofs.put_line.Goals as goal
use Rattle.report_lines.proofs.put_line.Goals.{then-i-numbers, else-i-numbers}

pub loop-i-init : goal.loop-i-init
loop-i-init c = go_start (line_of c.args.numbers.now) c.args.page.now

pub overflow_add-at : goal.overflow_add-at
overflow_add-at c =
    let l = c.loop-i in
    let written = number_written c.args.numbers.now c.requires l.i (omega arith) l.invariant c.write.ensures.value c.write.ensures.page_after in
    omega (arith, written.count)

pub bounds-page-at : goal.bounds-page-at
bounds-page-at c =
    let l = c.loop-i in
    omega (arith, number_written c.args.numbers.now c.requires l.i (omega arith) l.invariant c.write.ensures.value c.write.ensures.page_after)

pub overflow_add-at-in-loop-i : goal.overflow_add-at-in-loop-i
overflow_add-at-in-loop-i c =
    let l = c.loop-i in
    let written = number_written c.args.numbers.now c.requires l.i (omega arith) l.invariant c.write.ensures.value c.write.ensures.page_after in
    omega (arith, written.count)

pub loop-i-preserved : goal.loop-i-preserved
loop-i-preserved c =
    let l = c.loop-i in
    let ns = c.args.numbers.now in
    let byte : c.if-i-numbers.page ≡ separator (drop (l.i + 1) ns) =
    elim c.if-i-numbers.branch [ then-i-numbers w ↦ omega (arith, space_next ns (l.i + 1) w.if-i-numbers.true) | else-i-numbers w ↦ omega (arith, feed_last ns (l.i + 1) w.if-i-numbers.false) ] in
    rw byte (go_byte c.requires (number_written c.args.numbers.now c.requires l.i (omega arith) l.invariant c.write.ensures.value c.write.ensures.page_after))

pub returns : goal.returns
returns c =
    let l = c.loop-i in
    let both = go_end (go_as (line_end c.args.numbers.now l.i (omega arith)) l.invariant) in
    record { value = both.0; page_after = both.1 }
