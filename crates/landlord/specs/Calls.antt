-- Calls on a cache, what the table of refusals says to each, and the log of a list of calls.
-- Paper 01, 'The season as one list' and 'When the library says no', and paper 02, 'Three' and 'Six'. Assumes nothing.
use mathlib.Core.{Bool.{Bool, true, false, cond, ◌&&◌}, List.{List, [], ◌∷◌, ◌++◌}}
use Rattle.std.specs.Prelude.{ℕ}
use lib.{ListN.length, Dec.eqb}
use Rattle.types.specs.declared.{Step.Step, Numbers.Numbers}
use Rattle.types.specs.Types.{numbers_of, step_of, is_deduction, deduction_of}
use Rattle.landlord.specs.{Fold.fold, Catalog.{Catalog, catalog_after, catalog_in_range, none_left, capacity_in_range}, Slot.split_of, Figures.{Standing, Start, opened, took, closes, ran, season}, Steps.step_refusal}

-- What an opening is given: the capacity, the number of a rule of deduction, and the catalog, in the form in which it is handed over.
pub record Opening (C : Type 0) : Type 0 where
  pub k : ℕ
  pub rule : ℕ
  pub catalog : C

abbrev pub opening : {C : Type 0} → ℕ → ℕ → C → Opening C
opening k rule cat = record { k = k; rule = rule; catalog = cat }

-- "Opening by call checks k and catalogue (3)", then the rule's number: "any other number is 18" (paper 02, 'Three'). The refusal's
-- number, 0 if there is none. No item of an opening has left.
unfoldable pub opening_refusal : Opening Catalog → ℕ
opening_refusal o = cond (capacity_in_range o.k && catalog_in_range o.catalog && none_left o.catalog) (cond (is_deduction o.rule) 0 18) 3

-- a call, with any numbers: a step's kind is the code of its letter
pub data Call : Type 0 where
  step_call : Numbers → Call
  close : Call

-- a step as a call
abbrev pub call_of : Step → Call
call_of s = step_call (numbers_of s)

-- the item that a call is about; the closing is about none
abbrev pub call_item : Call → ℕ
call_item (step_call n) = n.item
call_item close = 0

-- The refusal's number, 0 if there is none, when so many steps are taken and the log is closed or not, and the catalog is as those steps
-- have left it: "A step checks 9, 8, 3, 6, 7; closing 9", with 19 for an arrival and 20 straight after 6.
unfoldable pub refusal_at : ℕ → Catalog → ℕ → Bool → Call → ℕ
refusal_at k cat taken is_closed (step_call n) = cond is_closed 9 (step_refusal k cat taken n)
refusal_at k cat taken is_closed close = cond is_closed 9 0

-- the steps taken, in order, and whether a closing has ended the log
pub record Log : Type 0 where
  pub steps : List Step
  pub closed : Bool

-- the log at opening
abbrev pub no_log : Log
no_log = record { steps = []; closed = false }

-- what the table says to a call after a log
abbrev pub refusal_in : ℕ → Catalog → Log → Call → ℕ
refusal_in k cat l call = refusal_at k (catalog_after cat l.steps) (length l.steps) l.closed call

-- a log that a call joins: a step at its end, or the closing
abbrev pub logged : Log → Call → Log
logged l (step_call n) = record { steps = l.steps ++ (step_of n ∷ []); closed = l.closed }
logged l close = record { steps = l.steps; closed = true }

-- "what the table refuses moves nothing, each step that it does not refuse joins the log, and the first closing that it
-- does not refuse ends the log" (after it every call is refused)
unfoldable pub joins : ℕ → Catalog → Log → Call → Log
joins k cat l call = cond (eqb (refusal_in k cat l call) 0) (logged l call) l

-- the log of a list of calls, from the opening's arguments and the table alone
abbrev pub log_of : ℕ → Catalog → List Call → Log
log_of k cat calls = fold (joins k cat) no_log calls

-- the number with which a call is refused after these calls, or 0
abbrev pub refusal : ℕ → Catalog → List Call → Call → ℕ
refusal k cat before call = refusal_in k cat (log_of k cat before) call

-- where the rule stands after a log, from an empty cache: over its steps, and over its closing if it has one
unfoldable pub rule_over : Start → Log → Standing
rule_over o l = cond l.closed (season o l.steps) (ran o l.steps)

-- what a season starts with from an opening: a loss is split by the opening's rule
abbrev pub start_of : Opening Catalog → Start
start_of o = record { k = o.k; catalog = o.catalog; split = split_of (deduction_of o.rule) }

-- where the rule stands at an opening, after a log from there, and after a season
abbrev pub starts_at : Opening Catalog → Standing
starts_at o = opened (start_of o)

abbrev pub rule_from : Opening Catalog → Log → Standing
rule_from o l = rule_over (start_of o) l

abbrev pub season_from : Opening Catalog → List Step → Standing
season_from o steps = season (start_of o) steps

-- where the rule stands after a call that is not refused
abbrev pub accepted : Standing → Call → Standing
accepted v (step_call n) = took v (step_of n)
accepted v close = closes v

-- the same table, asked where the rule stands
abbrev pub refusal_now : Standing → Call → ℕ
refusal_now v call = refusal_at v.k v.state.catalog v.figures.totals.steps v.closed call

-- where the rule stands after a call: a refused one changes nothing
unfoldable pub after : Standing → Call → Standing
after v call = cond (eqb (refusal_now v call) 0) (accepted v call) v
