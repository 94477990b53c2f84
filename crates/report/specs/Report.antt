-- The report's text, and what writing it on a lent page gives. Paper 01, 'The text input' and 'When the library says no', and paper 02,
-- 'One'. Its lines are in crates/report_lines/specs/Lines.antt. Assumes nothing.
use mathlib.Core.{Path.◌≡◌, Bool.cond, List.{List, [], ◌∷◌, ◌++◌}}
use Rattle.std.specs.Prelude.{ℕ, Option, Result, Ok, Err}
use Rattle.decimal.specs.Decimal.{text_of, fits, wrote_of, page_of}
use Rattle.types.specs.{declared.Refusal.Refusal, Types.{telling, told, answer_told}}
use Rattle.landlord.specs.Figures.{Standing}
use Rattle.sentence.specs.Sentences.{sentence_of}
use Rattle.cache_state.specs.Cache.{view}
use Rattle.layout.specs.Layout.{cache_of, ValidBytes}
use Rattle.report_lines.specs.{declared.Rival.Rival, Lines.{line_of, item_lines, total_lines}}

-- the whole report: the items under their names, a blank line, the totals
unfoldable pub report_of : Standing → Option Rival → List ℕ
report_of v rival = text_of "sail tenths loads writebacks\n" ++ (item_lines 0 v.figures.uses ++ (10 ∷ total_lines v rival))

-- "A refused input prints the names `refusal line` and one line with both numbers", and behind them, on a line of its own, a sentence
unfoldable pub refusal_text : Refusal → List ℕ
refusal_text r =
    let t = told r in
    (text_of "refusal line\n" ++ line_of (t.number ∷ t.line ∷ [])) ++ sentence_of t.number t.line t.item

-- how many bytes were written
abbrev pub written_length : Result ℕ Refusal → ℕ
written_length (Ok n) = n
written_length (Err r) = 0

-- A text put on a page: "Bytes past the text keep their contents"; a page too short for all of it is told (15) and is as before.
pub record Put (t before : List ℕ) (r : Result ℕ Refusal) (after : List ℕ) : Type 0 where
  pub tells : answer_told r ≡ telling (cond (fits t before) 0 15) 0 0
  pub size : written_length r ≡ wrote_of t before
  pub page : after ≡ page_of t before

-- "a report 17, 15"
pub record Reported (b : List ℕ) (rival : Option Rival) (before : List ℕ) (r : Result ℕ Refusal) (after : List ℕ) : Type 0 where
  pub fine : ValidBytes b → Put (report_of (view (cache_of b)) rival) before r after
  pub invalid : (ValidBytes b → ⊥) → (answer_told r ≡ telling 17 0 0) × (after ≡ before)

-- The bytes of the longest report there can be: 29 and 1 of item names and blank line, 256 item lines of at most 30, 81 of names,
-- 8 totals of at most 69 digits together, 3 figures of a rival of at most 20 each, and 11 bytes behind these numbers.
abbrev pub longest : ℕ
longest = 7931
