-- The third table alone: the text that is written from a list of steps, and its reading. Paper 02, 'Two' and 'Six'. Assumes nothing.
use mathlib.Core.{Path.◌≡◌, Bool.{Bool, true, cond, ◌&&◌}, List.{List, [], ◌∷◌, ◌++◌}}
use Rattle.std.specs.Prelude.{ℕ, zero, suc, ◌+◌, ◌/◌, ◌≤◌, Option, Some, None, Result, Ok, Err}
use lib.{ListN.{length, drop}, Dec.{leb, eqb}}
use Rattle.decimal.specs.Decimal.{text_of, digits_of, fits, page_of}
use Rattle.fields.specs.LittleEndian.{number_at, to_bytes}
use Rattle.types.specs.declared.{Step.{Step, TheVariants.{Read, Write, Flush, Arrive, Retire}}, Numbers.Numbers, Refusal.{Refusal, TheVariants.{Malformed, Heading, OutOfRange, ShortBuffer, InputTooLong}}}
use Rattle.types.specs.Types.{numbers_from, numbers_of, step_of, telling, answer_told, refusal_from}
use Rattle.season_lines.specs.declared.Line.{Line, TheVariants.{Sizes, Item as ItemLine, Step as StepLine, Act as ActLine}}
use Rattle.line_fields.specs.Fields.{split, fields_of}
use Rattle.season_lines.specs.Lines.{heading_text, heading_of, numbers_under, range_under, line_in}

-- the heading and the steps of a list or of a text, or the refusal of its first fault
pub data Logged : Type 0 where
  steps : ℕ → List Step → Logged
  fault : Refusal → Logged

-- a step in front of what follows it
abbrev pub ahead : Step → Logged → Logged
ahead s (steps heading rest) = steps heading (s ∷ rest)
ahead s (fault r) = fault r

-- ## The text of steps

-- the numbers of the log's two headings: 0 is `step sail minutes`, 1 is `step sail minutes blocks load write`
abbrev pub is_heading : ℕ → Bool
is_heading heading = leb heading 1

-- the end of a line that has none of the three last values; under the old heading nothing stands behind the minutes
abbrev pub no_values : ℕ → List ℕ
no_values heading = cond (eqb heading 1) (text_of " - - -\n") (text_of "\n")

-- a step's line under a heading: "Minutes is `-` for R; sail and minutes are `-` for L"; A and Q are in no log under the old heading
unfoldable pub step_text : ℕ → Step → List ℕ
step_text heading (Read i) = text_of "R " ++ (digits_of i ++ (text_of " -" ++ no_values heading))
step_text heading (Write i m) = text_of "W " ++ (digits_of i ++ (text_of " " ++ (digits_of m ++ no_values heading)))
step_text heading Flush = text_of "L - -" ++ no_values heading
step_text heading (Arrive i b l w) =
    text_of "A " ++ (digits_of i ++ (text_of " - " ++ (digits_of b ++ (text_of " " ++ (digits_of l ++ (text_of " " ++ (digits_of w ++ text_of "\n")))))))
step_text heading (Retire i) = text_of "Q " ++ (digits_of i ++ (text_of " -" ++ no_values heading))

unfoldable pub step_lines : ℕ → List Step → List ℕ
step_lines heading [] = []
step_lines heading (s ∷ rest) = step_text heading s ++ step_lines heading rest

-- the third table: its names, and a line a step
unfoldable pub log_text : ℕ → List Step → List ℕ
log_text heading ss = heading_text 2 heading ++ (10 ∷ step_lines heading ss)

-- ## Steps as they are lent: 24 bytes each, under both headings: kind, item, minutes, blocks, load and write, four bytes each, the low
-- byte first

-- the number at a place of a list
abbrev pub list_number : ℕ → List ℕ → ℕ
list_number at list = number_at list at 4

-- the numbers of the step at a place
abbrev pub list_numbers : ℕ → List ℕ → Numbers
list_numbers at list =
    numbers_from (list_number at list) (list_number (at + 4) list) (list_number (at + 8) list) (list_number (at + 12) list) (list_number (at + 16) list) (list_number (at + 20) list)

-- a line that does not fit 32 bits is told as the largest that does
abbrev pub told_line : ℕ → ℕ
told_line n = cond (leb n 4294967295) n 4294967295

-- The steps of a list of m whole ones, the first of which has line n: "A step out of range is off the tape .. with the line the first
-- such step would have had", and so is one that is not whole.
unfoldable pub lent_from : ℕ → ℕ → ℕ → List ℕ → Logged
lent_from heading zero n list = cond (eqb (length list) 0) (steps heading []) (fault (OutOfRange (told_line n)))
lent_from heading (suc m) n list =
    let numbers = list_numbers 0 list in
    let range = range_under heading numbers in
    cond (eqb range 0) (ahead (step_of (numbers_under heading numbers)) (lent_from heading m (suc n) (drop 24 list)))
    (fault (refusal_from (telling range (told_line n) 0)))

-- the names are line 1, the first step is line 2
abbrev pub lent_under : ℕ → List ℕ → Logged
lent_under heading list = lent_from heading (length list / 24) 2 list

-- "The log writer is told the heading": a number that is no heading's is out of range on line 1
abbrev pub lent_log : ℕ → List ℕ → Logged
lent_log heading list = cond (is_heading heading) (lent_under heading list) (fault (OutOfRange 1))

-- a step's numbers as bytes, in front of others
abbrev pub numbers_onto : Numbers → List ℕ → List ℕ
numbers_onto n rest =
    to_bytes 4 n.kind ++ (to_bytes 4 n.item ++ (to_bytes 4 n.minutes ++ (to_bytes 4 n.blocks ++ (to_bytes 4 n.load ++ (to_bytes 4 n.write ++ rest)))))

-- steps as a list; what a step lacks is 0
unfoldable pub list_of : List Step → List ℕ
list_of [] = []
list_of (s ∷ rest) = numbers_onto (numbers_of s) (list_of rest)

-- ## The reading of a text

-- a value line in front of what follows it; a line of this table is a step or refused
abbrev pub line_ahead : Result Line Refusal → Logged → Logged
line_ahead (Ok (StepLine s)) rest = ahead s rest
line_ahead (Ok (Sizes k h r)) rest = fault (Malformed 0)
line_ahead (Ok (ItemLine i b l w)) rest = fault (Malformed 0)
line_ahead (Ok (ActLine place act)) rest = fault (Malformed 0)
line_ahead (Err r) rest = fault r

-- The lines under a heading from line n on. The last piece is what stands behind the last line feed: bytes there are a line without one.
unfoldable pub read_lines : ℕ → ℕ → List (List ℕ) → Logged
read_lines heading n [] = steps heading []
read_lines heading n (l ∷ []) = cond (eqb (length l) 0) (steps heading []) (fault (Malformed n))
read_lines heading n (l ∷ m ∷ rest) = line_ahead (line_in 2 heading (fields_of l) n) (read_lines heading (suc n) (m ∷ rest))

-- the line of names, and the lines that follow it
abbrev pub headed : Option ℕ → List (List ℕ) → Logged
headed (Some heading) rest = read_lines heading 2 rest
headed None rest = fault (Heading 1)

-- "the heading being line 1"
unfoldable pub read_table : List (List ℕ) → Logged
read_table [] = fault (Heading 1)
read_table (l ∷ []) = fault (cond (eqb (length l) 0) (Heading 1) (Malformed 1))
read_table (l ∷ m ∷ rest) = headed (heading_of 2 l) (m ∷ rest)

-- "Alone, only 16, line feed, heading, shape and range are checked, in the old order"
unfoldable pub read_log : List ℕ → Logged
read_log s = cond (leb (length s) 65536) (read_table (split 10 s)) (fault (InputTooLong 0))

-- ## What writing answers

-- "A buffer too short, or a text over 65,536 bytes, is the short page"
abbrev pub write_answer : Logged → List ℕ → Result ℕ Refusal
write_answer (steps heading ss) page =
    let text = log_text heading ss in
    cond (leb (length text) 65536 && fits text page) (Ok (length text)) (Err (ShortBuffer 0))
write_answer (fault r) page = Err r

-- and the page then
abbrev pub written_page : Logged → List ℕ → List ℕ
written_page (steps heading ss) page =
    let text = log_text heading ss in
    cond (leb (length text) 65536) (page_of text page) page
written_page (fault r) page = page

-- how many bytes an answer says were written
abbrev pub log_count : Result ℕ Refusal → ℕ
log_count (Ok n) = n
log_count (Err r) = 0

-- the log of a list, written on a page
pub record LogWritten (log : Logged) (before : List ℕ) (r : Result ℕ Refusal) (after : List ℕ) : Type 0 where
  pub tells : answer_told r ≡ answer_told (write_answer log before)
  pub count : log_count r ≡ log_count (write_answer log before)
  pub page : after ≡ written_page log before

-- ## One heading and list, one text (proofs/OneText.antt)

-- steps that a log of a heading may have: "A and Q under the old one are off the tape"
unfoldable pub steps_in_range : ℕ → List Step → Bool
steps_in_range heading [] = true
steps_in_range heading (s ∷ rest) = eqb (range_under heading (numbers_of s)) 0 && steps_in_range heading rest

-- "the reader gives back those steps, and a text the reader takes is what the writer makes of them"; "the text is the only one for that
-- heading and those steps"
pub record OneText : Type 0 where
  pub written_reads :
      (heading : ℕ) (ss : List Step) →
      is_heading heading ≡ true →
      steps_in_range heading ss ≡ true →
      length (log_text heading ss) ≤ 65536 →
      read_log (log_text heading ss) ≡ steps heading ss
  pub reads_written :
      (s : List ℕ) (heading : ℕ) (ss : List Step) →
      read_log s ≡ steps heading ss →
      (log_text heading ss ≡ s) × (is_heading heading ≡ true) × (steps_in_range heading ss ≡ true)
  pub lent_in_range :
      (asked : ℕ) (list : List ℕ) (heading : ℕ) (ss : List Step) →
      lent_log asked list ≡ steps heading ss →
      (heading ≡ asked) × (is_heading heading ≡ true) × (steps_in_range heading ss ≡ true)
  pub list_reads : (heading : ℕ) (ss : List Step) → is_heading heading ≡ true → steps_in_range heading ss ≡ true → lent_log heading (list_of ss) ≡ steps heading ss
