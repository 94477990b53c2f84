-- The third table of an input, taken alone: the log's reader finds in it its heading and the steps that the reader of four tables found.
-- Paper 02, 'Two' and 'Six'. Assumes nothing.
use mathlib.Core.{Path.◌≡◌, Bool.cond, List.{List, [], ◌∷◌, ◌++◌}}
use Rattle.std.specs.Prelude.{ℕ, ◌≤◌, Option, Some, None, Ok}
use lib.{ListN.length, Dec.eqb}
use Rattle.line_fields.specs.Fields.{split}
use Rattle.season_lines.specs.Lines.{heading_of}
use Rattle.season_tables.specs.Tables.{Tables, reading_of}
use Rattle.season_log.specs.Log.{steps, read_log}

-- a table: the lines up to the first blank one, each with its line feed
unfoldable pub table_text : List (List ℕ) → List ℕ
table_text [] = []
table_text (l ∷ rest) = cond (eqb (length l) 0) [] (l ++ (10 ∷ table_text rest))

-- the lines behind the first blank one
unfoldable pub behind_blank : List (List ℕ) → List (List ℕ)
behind_blank [] = []
behind_blank (l ∷ rest) = cond (eqb (length l) 0) rest (behind_blank rest)

-- two blank lines stand before the third table
abbrev pub third_table : List ℕ → List ℕ
third_table s = table_text (behind_blank (behind_blank (split 10 s)))

-- the number of a heading; a line that is none has 0
abbrev pub heading_number : Option ℕ → ℕ
heading_number (Some f) = f
heading_number None = 0

-- which heading of the log stands on the first line
abbrev pub first_heading : List (List ℕ) → ℕ
first_heading [] = 0
first_heading (l ∷ rest) = heading_number (heading_of 2 l)

-- and so of a table alone
abbrev pub heading_in : List ℕ → ℕ
heading_in s = first_heading (split 10 s)

-- the two readers agree (proofs/ThirdTable.antt)
abbrev pub TwoReaders : Type 0
TwoReaders =
    (s : List ℕ) (v : Tables) →
    length s ≤ 65536 →
    reading_of s ≡ Ok v →
    read_log (third_table s) ≡ steps (heading_in (third_table s)) v.steps
