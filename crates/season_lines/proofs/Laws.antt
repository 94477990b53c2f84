-- The laws that the proof of `line_in` cites. Assumes nothing.
use mathlib.Core.Path.{◌≡◌}
use mathlib.Core.Bool.{cond}
use mathlib.Core.List.{List}
use Prim.Native.Nat.{ℕ, ◌<◌}
use native.Mathlib.Omega.{arith}
use lib.Dec.{eqb}
use lib.ListN.{length, get_or}
use Rattle.std.proofs.lemmas.Grind.{common_steps}
use Rattle.std.proofs.lemmas.List.{get_or_default}
use Rattle.line_fields.specs.declared.Field.{Field, TheVariants.{Number}}
use Rattle.line_fields.specs.Fields.{split, field_at}
use Rattle.season_lines.specs.Lines.{headings, names_in}

-- how many names a heading has
pub names_are :
    (table heading : ℕ) →
    names_in table heading
    ≡ cond (eqb table 0) (cond (eqb heading 1) 3 2) (cond (eqb table 1) 4 (cond (eqb table 2) (cond (eqb heading 1) 6 3) 3))
unfolding headings names_in split
names_are table heading = grind (arith, common_steps)

-- a field of a slice that has it
pub field_read : (fields : List Field) (j : ℕ) → j < length fields → get_or fields j (Number 0) ≡ field_at fields j
field_read fields j h = get_or_default fields j _ _ h
