-- What the office answers to a text: a refusal, or the report of the closed season against the text's plan; and what is claimed of every
-- accepted text. Paper 01, 'The text input', 'When the library says no' and 'The season as one list'. Assumes nothing.
use mathlib.Core.{Path.◌≡◌, Bool.cond, List.{List, ◌++◌, [], ◌∷◌, map}}
use Rattle.std.specs.Prelude.{ℕ, ◌≤◌, ◌<◌, Some, Result, Ok, Err}
use lib.{ListN.{length, get_or, take}, Dec.leb}
use Rattle.types.specs.declared.Refusal.{Refusal, TheVariants.{InputTooLong}}
use Rattle.types.specs.Types.{deduction_number}
use Rattle.landlord.specs.{Slot.split_of, Figures.{Standing, start, season, total_cost, left_side, right_side}, Plan.{fault_refusal, Priced, costs, fault}, Calls.{Opening, opening, Call, close, call_of, opening_refusal, refusal}}
use Rattle.report.specs.Report.{report_of}
use Rattle.printed.specs.Printed.{Outcome, refused, prints}
use Rattle.season_tables.specs.Tables.{Tables, reading_of}
use Rattle.season_plan.specs.Plans.{fault_line, price_of}
use Rattle.catalog_bytes.specs.Catalogs.{catalog_in}
use Rattle.cache.specs.Contract.{lent}
use Rattle.cache_run.specs.Season.{ChainLent}

-- where the text's rule stands over its steps; "The program closes the log itself"
abbrev pub closed_season : Tables → Standing
closed_season v = season (start (split_of v.rule) v.k v.catalog) v.steps

-- the report of an accepted text whose plan costs so much
abbrev pub report_against : Tables → ℕ → List ℕ
report_against v cost = report_of (closed_season v) (Some (record { blocks = v.h; cost = cost }))

-- "Once all lines pass, the plan runs; its first fault decides"
abbrev pub priced : Tables → Priced → Outcome
priced v (costs c) = prints (report_against v c)
priced v (fault f) = refused (fault_refusal f (fault_line v f))

-- a text whose lines all pass, or that stops at a faulty one
abbrev pub reading_outcome : Result Tables Refusal → Outcome
reading_outcome (Ok v) = priced v (price_of v)
reading_outcome (Err r) = refused r

-- "Text: 16 first. Then the first faulty line decides"
unfoldable pub outcome_of : List ℕ → Outcome
outcome_of s = cond (leb (length s) 65536) (reading_outcome (reading_of s)) (refused (InputTooLong 0))

-- ---- what is claimed of every accepted text: "The steps of an accepted text, with its closing, are such a list"

-- the calls made of its steps, and one closing
abbrev pub calls_in : Tables → List Call
calls_in v = map call_of v.steps ++ (close ∷ [])

-- its opening, with the catalog in any form
abbrev pub opening_for : {C : Type 0} → Tables → C → Opening C
opening_for v cat = opening v.k (deduction_number v.rule) cat

-- the opening and each of these calls is accepted
pub record AllAccepted (v : Tables) : Type 0 where
  pub opening : opening_refusal (opening_for v v.catalog) ≡ 0
  pub each : (i : ℕ) → i < length (calls_in v) → refusal v.k v.catalog (take i (calls_in v)) (get_or (calls_in v) i close) ≡ 0

-- The figures reported are those of the state that any chain of these calls ends in, from any bytes of the same catalog, of which the
-- season theorem speaks; the capacity reported is the text's; and left is at most right.
pub record Compared (v : Tables) (cost : ℕ) : Type 0 where
  pub figures :
      (xs numbers d : List ℕ) →
      catalog_in xs ≡ v.catalog →
      ChainLent (opening_for v xs) (calls_in v) numbers d →
      lent.view d ≡ closed_season v
  pub capacity : (closed_season v).k ≡ v.k
  pub bound : left_side (closed_season v).k v.h (total_cost (closed_season v).figures) ≤ right_side (closed_season v).k cost

-- What a report stands for: the text was accepted and its plan costs so much, the report is of these, and both claims hold of them.
pub record Accepted (s t : List ℕ) : Type 0 where
  pub text : Tables
  pub cost : ℕ
  pub reads : reading_of s ≡ Ok text
  pub price : price_of text ≡ costs cost
  pub report : t ≡ report_against text cost
  pub calls : AllAccepted text
  pub compared : Compared text cost
