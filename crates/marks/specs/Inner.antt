-- The 256 marks as one list, of which the functions of this crate speak. Assumes nothing.
use mathlib.Core.{Bool.{Bool, true, false}, List.{List, [], ◌∷◌}}
use Rattle.std.specs.Prelude.{ℕ, zero, suc}
use Rattle.marks.specs.Marks.{marked}

-- f i, f (i + 1), .., n of them
unfoldable pub marks_from : ℕ → (ℕ → Bool) → ℕ → List Bool
marks_from zero f i = []
marks_from (suc n) f i = f i ∷ marks_from n f (suc i)

-- all 256 marks, in order
unfoldable pub marks : List ℕ → List Bool
marks ws = marks_from 256 (marked ws) 0

-- how many are set
unfoldable pub count_set : List Bool → ℕ
count_set [] = 0
count_set (true ∷ bs) = suc (count_set bs)
count_set (false ∷ bs) = count_set bs

-- the place of the first that is set, or the length where none is
unfoldable pub first_set : List Bool → ℕ
first_set [] = 0
first_set (true ∷ bs) = 0
first_set (false ∷ bs) = suc (first_set bs)
