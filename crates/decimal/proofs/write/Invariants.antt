-- `decimal::write` meets its contract. The loop's invariant: with the digits still to go written at its front, the page is
-- the page that the contract asks for. Assumes nothing.
use mathlib.Core.Path.{◌≡◌}
use Rattle.decimal.specs.Decimal.{digits_of, page_of}
use Rattle.decimal.proofs.Laws.{to_go}
use Rattle.decimal.proofs.write.Given as goal

abbrev pub invariant-loop-i : goal.invariant-loop-i
invariant-loop-i l = to_go l.i l.rest l.page ≡ page_of (digits_of l.v) l.initial.page
