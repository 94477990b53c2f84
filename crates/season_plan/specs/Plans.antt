-- The plan of a text, priced by the definition that the wear bound cites, and the line of its first fault. Paper 01, 'The rival
-- plan' and 'When the library says no', and paper 02, 'Six'. Assumes nothing.
use mathlib.Core.{Path.◌≡◌, Bool.cond, List.{List, [], ◌∷◌}}
use Rattle.std.specs.Prelude.{ℕ, suc, ◌+◌, Result, Ok, Err}
use lib.{ListN.length, Dec.{ltb, eqb}}
use Rattle.types.specs.declared.{Act.Act, Refusal.Refusal}
use Rattle.landlord.specs.Plan.{Fault, unknown_item, retired_item, not_held, already_held, request_not_held, over_capacity, fault_refusal, Priced, costs, fault, price}
use Rattle.season_tables.specs.Tables.{Placed, Tables}

-- the acts that stand before step i, in order
unfoldable pub acts_at : ℕ → List Placed → List Act
acts_at i [] = []
acts_at i (a ∷ acts) = cond (eqb a.place i) (a.act ∷ acts_at i acts) (acts_at i acts)

-- how many acts stand before those of step i
unfoldable pub acts_before : ℕ → List Placed → ℕ
acts_before i [] = 0
acts_before i (a ∷ acts) = cond (ltb a.place i) (suc (acts_before i acts)) (acts_before i acts)

-- Step i's line: above it stand the names, sizes and blank line of `locker rival`, the names, items and blank line of the
-- catalogue, the names of its own table, and the steps before it. The items are table 2's: one that arrives has a step's line.
abbrev pub line_of_step : Tables → ℕ → ℕ
line_of_step v i = 7 + length v.catalog + i

-- the line of the text's act a: below the steps, a blank line and the names
abbrev pub line_of_act : Tables → ℕ → ℕ
line_of_act v a = 9 + length v.catalog + length v.steps + a

-- "11 and 12 with the act's line, 14 before 13 with the step's line"
abbrev pub fault_line : Tables → Fault → ℕ
fault_line v (unknown_item s a i) = line_of_act v (acts_before s v.acts + a)
fault_line v (retired_item s a i) = line_of_act v (acts_before s v.acts + a)
fault_line v (not_held s a i) = line_of_act v (acts_before s v.acts + a)
fault_line v (already_held s a i) = line_of_act v (acts_before s v.acts + a)
fault_line v (request_not_held s i) = line_of_step v s
fault_line v (over_capacity s) = line_of_step v s

-- the price of the text's acts, as a plan, over its steps
abbrev pub price_of : Tables → Priced
price_of v = price v.catalog v.h (λ i. acts_at i v.acts) v.steps

-- "the plan runs; its first fault decides": its price is answered, or that fault's refusal on its line
abbrev pub PricedBy : Tables → Priced → Result ℕ Refusal → Type 0
PricedBy v (costs c) r = r ≡ Ok c
PricedBy v (fault f) r = r ≡ Err (fault_refusal f (fault_line v f))
