-- What the exported report, sentence and log promise of the bytes that C lends. Assumes nothing.
use mathlib.Core.{Bool.{true, false, cond}, Path.◌≡◌, List.List}
use Rattle.sentence.specs.Sentences.{in_table, sentence_of}
use Rattle.std.specs.Prelude.{ℕ, ◌+◌, ◌*◌, length, None, Result, Ok, Err}
use Rattle.decimal.specs.Decimal.{fits, page_of}
use Rattle.cache_state.specs.Cache.{view}
use Rattle.layout.specs.Layout.{cache_of, ValidBytes}
use Rattle.report.specs.Report.{report_of}
use Rattle.types.specs.{declared.Refusal.Refusal, Types.{refusal_number, refusal_line}}
use Rattle.season_log.specs.Log.{lent_log, write_answer, written_page}

-- A text put on the page: 0 and its length in the length's place, or 15 with page and place as before.
pub record PutLent (t before : List ℕ) (was number : ℕ) (after : List ℕ) (written : ℕ) : Type 0 where
  pub answer : number ≡ cond (fits t before) 0 15
  pub page : after ≡ page_of t before
  pub size : written ≡ cond (fits t before) (length t) was

-- the report of a state alone: "a report 17, 15"
pub record ReportedLent (b before : List ℕ) (was number : ℕ) (after : List ℕ) (written : ℕ) : Type 0 where
  pub fine : ValidBytes b → PutLent (report_of (view (cache_of b)) None) before was number after written
  pub invalid : (ValidBytes b → ⊥) → (number ≡ 17) × (after ≡ before) × (written ≡ was)

-- the sentence of a refusal's numbers: "3 off the tape" if the number is in no row of the table, then 15
pub record SaidLent (number line item : ℕ) (before : List ℕ) (was answer : ℕ) (after : List ℕ) (written : ℕ) : Type 0 where
  pub row : in_table number ≡ true → PutLent (sentence_of number line item) before was answer after written
  pub none : in_table number ≡ false → (answer ≡ 3) × (after ≡ before) × (written ≡ was)

-- 0, or a refusal's number in the low half of 64 bits and its line in the high half
abbrev pub both_halves : Result ℕ Refusal → ℕ
both_halves (Ok n) = 0
both_halves (Err r) = refusal_number r + 4294967296 * refusal_line r

-- the length's place: the bytes that were written, or what it held
abbrev pub length_told : Result ℕ Refusal → ℕ → ℕ
length_told (Ok n) was = n
length_told (Err r) was = was

-- the log of a list of steps under a heading: "off the tape", then "the short page", with the line, else the text
pub record LoggedLent (heading : ℕ) (list before : List ℕ) (was answer : ℕ) (after : List ℕ) (written : ℕ) : Type 0 where
  pub tells : answer ≡ both_halves (write_answer (lent_log heading list) before)
  pub page : after ≡ written_page (lent_log heading list) before
  pub size : written ≡ length_told (write_answer (lent_log heading list) before) was
