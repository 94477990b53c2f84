-- `decimal::put_text` meets its contract. The loop's invariant: the bytes so far stand at the page's start. Assumes nothing.
use mathlib.Core.Path.{◌≡◌}
use mathlib.Core.List.{◌++◌}
use lib.ListN.{take, drop}
use Rattle.decimal.proofs.put_text.Given as goal

abbrev pub invariant-loop-i : goal.invariant-loop-i
invariant-loop-i l = l.page ≡ take l.i l.text ++ drop l.i l.initial.page
