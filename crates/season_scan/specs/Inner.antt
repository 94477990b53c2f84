-- What the scan leaves in the struct and the slices, whether it takes the text or refuses it. Assumes nothing.
use Rattle.std.specs.Prelude.{List, [], ◌∷◌, ℕ, suc, Result, Ok, Err}
use Rattle.types.specs.declared.Refusal.{Refusal}
use Rattle.line_fields.specs.Fields.{split}
use Rattle.season_tables.specs.{declared.Seen.Seen, Tables.{Tables, Sofar, at_start, read_line}, Inner.{Holds, Untouched}}

-- a line that leads on is followed by the next; before one that stops, this has been read
abbrev pub onward : Sofar → Result Sofar Refusal → (Sofar → Sofar) → Sofar
onward v (Ok w) next = next w
onward v (Err r) next = v

-- what has been read where the reading ends, from line n on: all, or what stands before the first faulty line
unfoldable pub read_until : ℕ → ℕ → List (List ℕ) → Sofar → Sofar
read_until upto n [] v = v
read_until upto n (l ∷ []) v = v
read_until upto n (l ∷ m ∷ rest) v = onward v (read_line upto v l n) (read_until upto (suc n) (m ∷ rest))

abbrev pub read_in : ℕ → List ℕ → Tables
read_in upto s = (read_until upto 1 (split 10 s) at_start).read

-- What the scan of s up to a table leaves, be it taken or refused: the struct and the slices hold what has been read, and past that
-- the slices are as they were.
pub record Leaves (upto : ℕ) (s catalog calls acts : List ℕ) (q : Seen) (catalog_then calls_then acts_then : List ℕ) : Type 0 where
  pub holds : Holds q catalog_then calls_then acts_then (read_in upto s)
  pub past : Untouched q catalog calls acts catalog_then calls_then acts_then
