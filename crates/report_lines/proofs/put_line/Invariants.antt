-- `report_lines::put_line` meets its contract. The loop's invariant: the line from the next number on is left to write. Assumes nothing.
use lib.ListN.{drop}
use Rattle.decimal.proofs.Pages.{TextGoing}
use Rattle.report_lines.specs.Lines.{line_of}
use Rattle.report_lines.proofs.put_line.Given as goal

abbrev pub invariant-loop-i : goal.invariant-loop-i
invariant-loop-i l = TextGoing (line_of l.numbers) l.initial.page l.at (line_of (drop l.i l.numbers)) l.page
