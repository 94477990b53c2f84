-- What the inner functions ask and give. Assumes nothing.
use mathlib.Core.{Path.◌≡◌, List.List}
use Rattle.std.specs.Prelude.{ℕ, ◌≤◌, length, Result}
use Rattle.types.specs.declared.Refusal.{Refusal}
use Rattle.cache_state.specs.Cache.{view}
use Rattle.types.specs.Types.{refusal_line}
use Rattle.landlord.specs.Figures.{Standing}
use Rattle.layout.specs.Layout.{state_bytes, cache_of, ValidBytes}
use Rattle.report.specs.Report.{Put, longest}
use Rattle.season_tables.specs.{declared.Seen.Seen, Tables.Tables, Inner.{Holds, Roomy, FewRead}, InnerSound.Sound}
use Rattle.printed.specs.Printed.{Outcome, refused, prints}
use Rattle.season_text.specs.Answer.{closed_season, report_against}

-- the line that an outcome names
abbrev pub outcome_line : Outcome → ℕ
outcome_line (refused r) = refusal_line r
outcome_line (prints t) = 0

-- valid bytes where the rule stands
pub record ClosedAt (v : Standing) (b : List ℕ) : Type 0 where
  pub valid : ValidBytes b
  pub stands : view (cache_of b) ≡ v

-- the slices have the catalogue's items, and a place for the closing behind the steps
pub record Closable (x : Seen) (xs calls state : List ℕ) : Type 0 where
  pub few_items : x.n ≤ 256
  pub few : FewRead x
  pub acts : List ℕ
  pub roomy : Roomy xs calls acts
  pub room : length state ≡ state_bytes

-- whatever accepted text the slices hold, these are the bytes of its closed season
abbrev pub Closes : Seen → List ℕ → List ℕ → List ℕ → Type 0
Closes x xs calls last = (acts : List ℕ) (v : Tables) → Holds x xs calls acts v → Sound v → ClosedAt (closed_season v) last

-- what the report asks: an accepted text in the slices, and a plan's cost that fits
pub record Reportable (x : Seen) (xs calls : List ℕ) (cost : ℕ) : Type 0 where
  pub text : Tables
  pub acts : List ℕ
  pub holds : Holds x xs calls acts text
  pub sound : Sound text
  pub few_items : x.n ≤ 256
  pub few : FewRead x
  pub roomy : Roomy xs calls acts
  pub small : cost ≤ 1000000000000

-- and this is its report, on the page
abbrev pub Reports : Seen → List ℕ → List ℕ → ℕ → List ℕ → Result ℕ Refusal → List ℕ → Type 0
Reports x xs calls cost before r after =
    (acts : List ℕ) (v : Tables) →
    Holds x xs calls acts v →
    Sound v →
    Put (report_against v cost) before r after × (length (report_against v cost) ≤ longest)
