-- The laws that a scan over lines and fields by positions cites: how a text falls into pieces at its first separator, and whether one
-- of some fields is empty. Assumes nothing.
use mathlib.Core.Path.{◌≡◌, refl}
use mathlib.Core.Bool.{true, false}
use mathlib.Core.List.{List, [], ◌∷◌, ◌++◌}
use mathlib.Core.Logic.{◌⊎◌, ⊎_elim}
use Prim.Native.Nat.{ℕ, zero, suc, ◌+◌, ◌≤◌, ◌<◌}
use native.Mathlib.Numerals.{add-one}
use native.Mathlib.Omega.{arith}
use lib.ListN.{length, take, drop}
use Rattle.std.proofs.lemmas.Grind.{common_steps}
use Rattle.decimal.specs.Decimal.{shaped}
use Rattle.line_fields.specs.declared.Field.{Field}
use Rattle.line_fields.specs.declared.Field.TheVariants.{Empty}
use Rattle.line_fields.specs.Fields.{split, field_of, all_fields, fields_of, field_at, is_empty, none_empty}
use Rattle.line_fields.specs.Inner.{before}

-- ## A text and its first separator

pub before_le : (b : ℕ) (s : List ℕ) → length (before b s) ≤ length s
unfolding before
before_le b [] = grind arith
before_le b (x ∷ s) = grind (arith, before_le b s)

pub before_take : (b : ℕ) (s : List ℕ) → take (length (before b s)) s ≡ before b s
unfolding before
before_take b [] = refl
before_take b (x ∷ s) = grind (arith, common_steps, before_take b s)

pub split_last : (b : ℕ) (s : List ℕ) → length s ≤ length (before b s) → split b s ≡ before b s ∷ []
unfolding before split
split_last b [] h = refl
split_last b (x ∷ s) h = grind (arith, split_last b s)

pub split_more :
    (b : ℕ) (s : List ℕ) → length (before b s) < length s → split b s ≡ before b s ∷ split b (drop (length (before b s) + 1) s)
unfolding before split
split_more b s h = rw add-one (next s h)
  where
    next : (s : List ℕ) → length (before b s) < length s → split b s ≡ before b s ∷ split b (drop (suc (length (before b s))) s)
    next [] h = absurd (omega arith)
    next (x ∷ s) h = grind (arith, next s)

-- the first piece of any text is what stands before the first b
pub split_some : (b : ℕ) (s : List ℕ) → (ps : List (List ℕ)) × (split b s ≡ before b s ∷ ps)
split_some b s =
    ⊎_elim (λ h. ([], split_last b s h)) (λ h. (split b (drop (length (before b s) + 1) s), split_more b s h))
    (least (length s) (length (before b s)))
  where
    least : (m n : ℕ) → (m ≤ n) ⊎ (n < m)
    least m n = grind arith

-- ## The fields of a line

pub fields_last : (l : List ℕ) → length l ≤ length (before 32 l) → fields_of l ≡ field_of (before 32 l) ∷ []
unfolding all_fields
fields_last l h = rw (split_last 32 l h)

pub fields_more :
    (l : List ℕ) →
    length (before 32 l) < length l →
    fields_of l ≡ field_of (before 32 l) ∷ fields_of (drop (length (before 32 l) + 1) l)
unfolding all_fields
fields_more l h = rw (split_more 32 l h)

pub fields_counts : (l : List ℕ) → 1 ≤ length (fields_of l)
unfolding all_fields
fields_counts l = rw (split_some 32 l).1 (omega arith)

-- nothing between two spaces
pub no_bytes : field_of [] ≡ Empty
unfolding field_of shaped
no_bytes = refl

-- ## Empty fields

pub one_empty : (fs : List Field) (j : ℕ) → j < length fs → is_empty (field_at fs j) ≡ true → none_empty fs ≡ false
unfolding none_empty
one_empty [] j h e = absurd (omega arith)
one_empty (f ∷ fs) zero h e = rw e
one_empty (f ∷ fs) (suc j) h e = grind (arith, one_empty fs j)

-- one more field that is not empty
pub none_empty_more :
    (fs : List Field) (f : Field) → none_empty fs ≡ true → is_empty f ≡ false → none_empty (fs ++ (f ∷ [])) ≡ true
unfolding none_empty
none_empty_more [] f h e = rw e
none_empty_more (g ∷ fs) f h e = grind (arith, none_empty_more fs f)
