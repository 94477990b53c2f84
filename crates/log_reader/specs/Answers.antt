-- What reading a log answers, a list being lent for its steps. Paper 02, 'Two' and 'Six'. Assumes nothing.
use mathlib.Core.{Path.◌≡◌, Bool.cond, List.List}
use Rattle.std.specs.Prelude.{ℕ, length, Result, Ok, Err}
use Rattle.decimal.specs.Decimal.{fits, page_of}
use Rattle.types.specs.{declared.Refusal.{Refusal, TheVariants.ShortBuffer}, Types.answer_told}
use Rattle.season_log.specs.Log.{Logged, steps, fault, list_of}
use Rattle.log_reader.specs.declared.Steps.{Steps}

-- the heading, and how many steps there are; or 15, which comes last
abbrev pub read_answer : Logged → List ℕ → Result Steps Refusal
read_answer (steps heading ss) list = cond (fits (list_of ss) list) (Ok (record { heading = heading; count = length ss })) (Err (ShortBuffer 0))
read_answer (fault r) list = Err r

-- and the list then
abbrev pub read_list : Logged → List ℕ → List ℕ
read_list (steps heading ss) list = page_of (list_of ss) list
read_list (fault r) list = list

-- the heading that an answer tells, and how many steps there are
abbrev pub read_heading : Result Steps Refusal → ℕ
read_heading (Ok log) = log.heading
read_heading (Err r) = 0

abbrev pub read_count : Result Steps Refusal → ℕ
read_count (Ok log) = log.count
read_count (Err r) = 0

-- a log, read into a list
pub record LogRead (log : Logged) (before : List ℕ) (r : Result Steps Refusal) (after : List ℕ) : Type 0 where
  pub tells : answer_told r ≡ answer_told (read_answer log before)
  pub heading : read_heading r ≡ read_heading (read_answer log before)
  pub count : read_count r ≡ read_count (read_answer log before)
  pub list : after ≡ read_list log before
