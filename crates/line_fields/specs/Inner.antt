-- What the inner functions of the reader look for, and a field as the program holds it. Assumes nothing.
use mathlib.Core.{Bool.cond, List.{List, [], ◌∷◌}}
use Rattle.std.specs.Prelude.{ℕ, leb, eqb}
use Rattle.line_fields.specs.declared.Field.{Field, TheVariants.{Number, Letter, Dash, Word, Empty, Rule}}

-- the bytes before the first b, or all of them
unfoldable pub before : ℕ → List ℕ → List ℕ
before b [] = []
before b (x ∷ s) = cond (eqb x b) [] (x ∷ before b s)

-- the largest number that the program holds; every range of the tables ends far below it
abbrev pub beyond : ℕ
beyond = 4294967295

-- a number as the program holds it
abbrev pub clipped : ℕ → ℕ
clipped v = cond (leb v beyond) v beyond

-- A field as the program holds it: a number above `beyond` counts as that one. A line is judged by it as by the field itself
-- (crates/season_lines/proofs/Held.antt, held_line).
abbrev pub held_field : Field → Field
held_field (Number v) = Number (clipped v)
held_field (Letter b) = Letter b
held_field Dash = Dash
held_field Word = Word
held_field Empty = Empty
held_field (Rule r) = Rule r
