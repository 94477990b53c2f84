-- A rival plan, run over a log and priced. Paper 01, 'The rival plan', and paper 02, 'Six'. Assumes nothing.
use mathlib.Core.{Bool.{Bool, true, false, cond}, List.{List, [], ◌∷◌, ◌++◌}}
use Rattle.std.specs.Prelude.{ℕ, suc, ◌+◌}
use lib.{ListN.{length, get_or, set}, Dec.{leb, ltb}}
use Rattle.types.specs.declared.{Step.{Step, TheVariants.{Read, Write, Flush, Arrive, Retire}}, Act.{Act, TheVariants.{Evict, Fetch}}, Refusal.{Refusal, TheVariants.{UnknownItem, NotHeld, AlreadyHeld, OverCapacity, RequestNotHeld, RetiredItem}}}
use Rattle.types.specs.Types.{refusal_number}
use Rattle.landlord.specs.{Fold.{sum_to, tab}, Catalog.{Catalog, item_at, catalog_next}}

-- the acts before each step, by the step's place in the log, from 0; there is no limit on their number
abbrev pub Plan : Type 0
Plan = ℕ → List Act

-- what the plan has of one item
pub data Copy : Type 0 where
  no_copy : Copy
  clean_copy : Copy
  dirty_copy : Copy

-- paper 01: the plan holds it
abbrev pub has : Copy → Bool
has no_copy = false
has clean_copy = true
has dirty_copy = true

-- and it is dirty there
abbrev pub is_changed : Copy → Bool
is_changed no_copy = false
is_changed clean_copy = false
is_changed dirty_copy = true

-- a landing cleans it
abbrev pub cleaned : Copy → Copy
cleaned no_copy = no_copy
cleaned clean_copy = clean_copy
cleaned dirty_copy = clean_copy

-- the plan's copy of a sail number
abbrev pub copy_at : List Copy → ℕ → Copy
copy_at q i = get_or q i no_copy

-- the blocks that the plan holds
unfoldable pub plan_used : Catalog → List Copy → ℕ
plan_used cat q = sum_to (length cat) (λ i. cond (has (copy_at q i)) (item_at cat i).blocks 0)

-- the write costs that a flush would make it pay
unfoldable pub owed : Catalog → List Copy → ℕ
owed cat q = sum_to (length cat) (λ i. cond (is_changed (copy_at q i)) (item_at cat i).write 0)

-- What is wrong with a plan: at which step, both places from 0, at which act before it, and with which item.
pub data Fault : Type 0 where
  unknown_item : (at_step at_act item : ℕ) → Fault
  retired_item : (at_step at_act item : ℕ) → Fault
  not_held : (at_step at_act item : ℕ) → Fault
  already_held : (at_step at_act item : ℕ) → Fault
  request_not_held : (at_step item : ℕ) → Fault
  over_capacity : (at_step : ℕ) → Fault

-- its refusal, told on a line: stranger, gone, not aboard, aboard, missing, overstowed
abbrev pub fault_refusal : Fault → ℕ → Refusal
fault_refusal (unknown_item s a i) n = UnknownItem n i
fault_refusal (retired_item s a i) n = RetiredItem n i
fault_refusal (not_held s a i) n = NotHeld n i
fault_refusal (already_held s a i) n = AlreadyHeld n i
fault_refusal (request_not_held s i) n = RequestNotHeld n i
fault_refusal (over_capacity s) n = OverCapacity n

-- its number in the table of refusals
abbrev pub fault_number : Fault → ℕ
fault_number f = refusal_number (fault_refusal f 0)

-- a part of a plan is done, at a cost, or ends in a fault
pub data Done : Type 0 where
  done : (copies : List Copy) (paid : ℕ) → Done
  faulty : Fault → Done

-- the answer to a plan: its cost, or its first fault
pub data Priced : Type 0 where
  costs : (paid : ℕ) → Priced
  fault : Fault → Priced

-- D drops a held sail, "paying its write cost if dirty"
abbrev pub plan_evicts : Catalog → ℕ → ℕ → ℕ → List Copy → Done
plan_evicts cat s a i q =
    cond (has (copy_at q i))
    (done (set q i no_copy) (cond (is_changed (copy_at q i)) (item_at cat i).write 0))
    (faulty (not_held s a i))

-- F fetches "a sail not held, clean, paying its load cost, requested or not"
abbrev pub plan_fetches : Catalog → ℕ → ℕ → ℕ → List Copy → Done
plan_fetches cat s a i q =
    cond (has (copy_at q i))
    (faulty (already_held s a i))
    (done (set q i clean_copy) (item_at cat i).load)

-- An act's item must be in the catalog as the steps before have left it: "to acts at or before it, a sail is a stranger", and 20 "when a
-- step or act names a sail whose Q is at an earlier step, straight after 6".
abbrev pub if_present : Catalog → ℕ → ℕ → ℕ → Done → Done
if_present cat s a i d =
    cond (ltb i (length cat)) (cond (item_at cat i).left (faulty (retired_item s a i)) d) (faulty (unknown_item s a i))

-- one act; capacity is not looked at
unfoldable pub plan_acts : Catalog → ℕ → ℕ → Act → List Copy → Done
plan_acts cat s a (Evict i) q = if_present cat s a i (plan_evicts cat s a i q)
plan_acts cat s a (Fetch i) q = if_present cat s a i (plan_fetches cat s a i q)

-- what follows, with what has been paid already
abbrev pub and_paid : ℕ → Done → Done
and_paid c (done q d) = done q (c + d)
and_paid c (faulty f) = faulty f

-- one part of a plan after another; the first fault decides
abbrev pub and_then : Done → (List Copy → Done) → Done
and_then (done q c) next = and_paid c (next q)
and_then (faulty f) next = faulty f

-- the acts of one list, in order
unfoldable pub all_acts : Catalog → ℕ → ℕ → List Act → List Copy → Done
all_acts cat s a [] q = done q 0
all_acts cat s a (act ∷ acts) q = and_then (plan_acts cat s a act q) (all_acts cat s (suc a) acts)

-- "after the acts it holds at most h blocks"
abbrev pub within_capacity : Catalog → ℕ → ℕ → List Copy → Done → Done
within_capacity cat h s q d = cond (leb (plan_used cat q) h) d (faulty (over_capacity s))

-- "for a read or write it must hold that sail"; this is looked at before the capacity
abbrev pub if_held : ℕ → ℕ → List Copy → Done → Done
if_held s i q d = cond (has (copy_at q i)) d (faulty (request_not_held s i))

-- "a write makes the sail dirty; a landing cleans"; and at Q "a rival loses its copy at the same Q and pays if dirty"
unfoldable pub plan_serves : Catalog → ℕ → ℕ → Step → List Copy → Done
plan_serves cat h s (Read i) q = if_held s i q (within_capacity cat h s q (done q 0))
plan_serves cat h s (Write i minutes) q = if_held s i q (within_capacity cat h s q (done (set q i dirty_copy) 0))
plan_serves cat h s Flush q = within_capacity cat h s q (done (tab (length cat) (λ i. cleaned (copy_at q i))) (owed cat q))
plan_serves cat h s (Arrive i b l w) q = within_capacity cat h s q (done (q ++ (no_copy ∷ [])) 0)
plan_serves cat h s (Retire i) q =
    within_capacity cat h s q (done (set q i no_copy) (cond (is_changed (copy_at q i)) (item_at cat i).write 0))

-- the price of what follows, with what has been paid already
abbrev pub priced_with : ℕ → Priced → Priced
priced_with c (costs d) = costs (c + d)
priced_with c (fault f) = fault f

-- the rest of the plan priced, after a part of it
abbrev pub price_then : Done → (List Copy → Priced) → Priced
price_then (done q c) next = priced_with c (next q)
price_then (faulty f) next = fault f

-- the plan from step s on, the catalog being as the steps before have left it; "after the last step a closing landing is paid"
unfoldable pub price_from : Catalog → ℕ → Plan → ℕ → List Step → List Copy → Priced
price_from cat h plan s [] q = costs (owed cat q)
price_from cat h plan s (step ∷ steps) q =
    price_then (and_then (all_acts cat s 0 (plan s) q) (plan_serves cat h s step)) (price_from (catalog_next cat step) h plan (suc s) steps)

-- The price of a plan with h blocks over a log: it starts empty. A plan is legal over a log when the answer is a cost.
abbrev pub price : Catalog → ℕ → Plan → List Step → Priced
price cat h plan steps = price_from cat h plan 0 steps (tab (length cat) (λ i. no_copy))
