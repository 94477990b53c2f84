-- A field as the program holds it passes each test that the field itself passes: each range ends far below `beyond`. That the two make
-- the same line is in crates/season_lines/proofs/Held.antt. Assumes nothing.
use mathlib.Core.Path.{◌≡◌, refl}
use mathlib.Core.List.{List, [], ◌∷◌, map}
use Prim.Native.Nat.{ℕ, ◌≤◌, ◌<◌}
use native.Mathlib.Omega.{arith}
use lib.Dec.{leb, eqb}
use lib.ListN.{get_or-map}
use Rattle.line_fields.specs.declared.Field.{Field}
use Rattle.line_fields.specs.declared.Field.TheVariants.{Empty}
use Rattle.line_fields.specs.Fields.{field_at, is_number, is_dash, is_letter, is_rule, is_empty, value_in, rule_in, none_empty}
use Rattle.line_fields.specs.Inner.{beyond, held_field}

-- ## A field

pub held_number : (f : Field) → is_number (held_field f) ≡ is_number f
held_number f = grind arith

pub held_dash : (f : Field) → is_dash (held_field f) ≡ is_dash f
held_dash f = grind arith

pub held_letter : (f : Field) → is_letter (held_field f) ≡ is_letter f
held_letter f = grind arith

pub held_rule : (f : Field) → is_rule (held_field f) ≡ is_rule f
held_rule f = grind arith

pub held_rule_in : (f : Field) → rule_in (held_field f) ≡ rule_in f
held_rule_in f = grind arith

pub held_empty : (f : Field) → is_empty (held_field f) ≡ is_empty f
held_empty f = grind arith

-- each test against a number below `beyond` gives the same
module _ (f : Field) (m : ℕ) (low : m < beyond) where
  pub held_most : leb (value_in (held_field f)) m ≡ leb (value_in f) m
  held_most = grind arith

  pub held_least : leb m (value_in (held_field f)) ≡ leb m (value_in f)
  held_least = grind arith

  pub held_is : eqb (value_in (held_field f)) m ≡ eqb (value_in f) m
  held_is = grind arith

  pub held_same : value_in f ≤ m → value_in (held_field f) ≡ value_in f
  held_same h = grind arith

-- ## The fields of a line

-- field j of the fields as they are held
pub at_held_lem : (fs : List Field) (j : ℕ) → field_at (map held_field fs) j ≡ held_field (field_at fs j)
at_held_lem fs j = get_or-map held_field fs j Empty

pub none_held : (fs : List Field) → none_empty (map held_field fs) ≡ none_empty fs
unfolding none_empty
none_held [] = refl
none_held (f ∷ fs) = rw (held_empty f, none_held fs)
