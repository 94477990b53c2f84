-- `decimal::read` meets its contract. The loop's invariant: the text is shaped, what was read is at most the limit, and
-- with the digits still to come it makes the text's value. Assumes nothing.
use Prim.Native.Nat.{◌≤◌}
use mathlib.Core.Path.{◌≡◌}
use mathlib.Core.Bool.{true}
use lib.ListN.{drop}
use Rattle.decimal.specs.Decimal.{shaped, value_of}
use Rattle.decimal.proofs.Laws.{value_from}
use Rattle.decimal.proofs.read.Given as goal

abbrev pub invariant-loop-b : goal.invariant-loop-b
invariant-loop-b l = record {
  shape : shaped l.s ≡ true;
  within : l.v ≤ l.limit;
  to_come : value_from l.v (drop l.b-index l.s) ≡ value_of l.s;
}
