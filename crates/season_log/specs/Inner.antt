-- What the inner functions of `season_log` ask and give. Assumes nothing.
use mathlib.Core.{Path.◌≡◌, Bool.true, List.{List, ◌∷◌, ◌++◌}}
use Rattle.std.specs.Prelude.{ℕ, ◌+◌, ◌≤◌, length, Result, Ok, Err}
use Rattle.decimal.specs.{Decimal.{text_of, digits_of}, InnerPages.text_over}
use Rattle.types.specs.declared.{Step.Step, Numbers.Numbers, Refusal.Refusal}
use Rattle.types.specs.Types.{step_of}
use Rattle.landlord.specs.{Catalog.{listed, item_in_range}, Steps.is_item_number}
use Rattle.season_lines.specs.Lines.{heading_text, numbers_under, range_under}
use Rattle.season_log.specs.Log.{Logged, steps, fault, no_values, step_text, step_lines, log_text, list_numbers, lent_under}

-- steps in front of what follows them
abbrev pub onward : List Step → Logged → Logged
onward ss (steps heading rest) = steps heading (ss ++ rest)
onward ss (fault r) = fault r

-- the names, with their line feed
abbrev pub names_text : ℕ → List ℕ
names_text heading = heading_text 2 heading ++ text_of "\n"

-- the line of a read or of a retirement, by its letter
abbrev pub named_text : ℕ → ℕ → ℕ → List ℕ
named_text heading letter item = letter ∷ 32 ∷ (digits_of item ++ (text_of " -" ++ no_values heading))

-- the line of an arrival
abbrev pub arrival_text : Numbers → List ℕ
arrival_text n =
    text_of "A " ++ (digits_of n.item ++ (text_of " - " ++ (digits_of n.blocks ++ (text_of " " ++ (digits_of n.load ++ (text_of " " ++ (digits_of n.write ++ text_of "\n")))))))

-- what the table says by their ranges to the numbers of the step at a place of a list, and the step
abbrev pub range_at : ℕ → ℕ → List ℕ → ℕ
range_at heading at list = range_under heading (list_numbers at list)

abbrev pub step_at : ℕ → ℕ → List ℕ → Step
step_at heading at list = step_of (numbers_under heading (list_numbers at list))

-- the numbers of an arrival in range
abbrev pub Arrives : Numbers → Type 0
Arrives n = (is_item_number n.item ≡ true) × (item_in_range (listed n.blocks n.load n.write) ≡ true)

-- how many bytes the text of a list has, or the refusal of its first fault
abbrev pub text_size : Logged → Result ℕ Refusal
text_size (steps heading ss) = Ok (length (log_text heading ss))
text_size (fault r) = Err r

-- a step in range at a place of a list whose line has room on the page
pub record LineFits (heading : ℕ) (list : List ℕ) (at : ℕ) (page : List ℕ) : Type 0 where
  pub whole : at + 24 ≤ length list
  pub ranged : range_at heading at list ≡ 0
  pub room : length (step_text heading (step_at heading at list)) ≤ length page

-- a list of whole steps in range whose lines have room on the page
pub record LinesFit (heading : ℕ) (list page : List ℕ) : Type 0 where
  pub taken : List Step
  pub whole : lent_under heading list ≡ steps heading taken
  pub room : length (step_lines heading taken) ≤ length page

-- their lines are on the page
abbrev pub LinesOn : Logged → List ℕ → List ℕ → Type 0
LinesOn (steps heading ss) before after = after ≡ text_over (step_lines heading ss) before
LinesOn (fault r) before after = ⊥
