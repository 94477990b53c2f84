-- What a program prints for its input: a text, or the refusal of the input. Paper 01, 'The text input' and 'When the library says no'.
-- Assumes nothing.
use mathlib.Core.{Path.◌≡◌, Bool.cond, List.{List, ◌++◌}}
use Rattle.std.specs.Prelude.{ℕ, ◌≤◌, Result, Ok, Err, length, drop}
use Rattle.types.specs.{declared.Refusal.{Refusal, TheVariants.ShortBuffer}, Types.{told, answer_told}}
use Rattle.decimal.specs.Decimal.{fits, wrote_of, page_of}
use Rattle.report.specs.Report.{refusal_text, Put}

-- an input is refused, or this is printed for it
pub data Outcome : Type 0 where
  refused : Refusal → Outcome
  prints : List ℕ → Outcome

-- The answer to an input: the refusal is told, with every byte of the page as before; or the text is put on the page, where "15 is last".
abbrev pub Yields : Outcome → List ℕ → Result ℕ Refusal → List ℕ → Type 0
Yields (refused x) before r after = (answer_told r ≡ told x) × (after ≡ before)
Yields (prints t) before r after = Put t before r after

-- what is printed: the text, or the refusal's numbers and sentence; of a text that the page has no room for, 15
abbrev pub printed_on : Outcome → List ℕ → List ℕ
printed_on (refused r) page = refusal_text r
printed_on (prints t) page = cond (fits t page) t (refusal_text (ShortBuffer 0))

-- what a program prints, whose page has room for every text
abbrev pub output_of : Outcome → List ℕ
output_of (refused r) = refusal_text r
output_of (prints t) = t

-- What is printed stands at the start of the page, if there is room. On a page of `most` bytes there always is: the output stands there
-- whole, and its length is told.
pub record Printed (most : ℕ) (o : Outcome) (before : List ℕ) (r : ℕ) (after : List ℕ) : Type 0 where
  pub count : r ≡ wrote_of (printed_on o before) before
  pub page : after ≡ page_of (printed_on o before) before
  pub whole : most ≤ length before → (r ≡ length (output_of o)) × (after ≡ output_of o ++ drop (length (output_of o)) before)

-- an answer, printed on the page on which it was given: a text stands there already
abbrev pub printed_bytes : Result ℕ Refusal → List ℕ → ℕ
printed_bytes (Ok n) page = n
printed_bytes (Err r) page = wrote_of (refusal_text r) page

-- and the page then
abbrev pub printed_page : Result ℕ Refusal → List ℕ → List ℕ
printed_page (Ok n) page = page
printed_page (Err r) page = page_of (refusal_text r) page
