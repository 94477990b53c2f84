-- Numbers written as bytes, for the laws of reading and storing. Assumes nothing.
use mathlib.Core.{List.{List, [], ◌∷◌, ◌++◌}, Bool.{Bool, cond}}
use Rattle.std.specs.Prelude.{ℕ, ◌<◌, get_or}
use Rattle.fields.specs.LittleEndian.{to_bytes}

-- every number of `vs` is below `m` (past the end `get_or` answers 0)
abbrev pub Below : ℕ → List ℕ → Type 0
Below m vs = (i : ℕ) → get_or vs i 0 < m

-- numbers one after another, `w` bytes each
unfoldable pub run_of : ℕ → List ℕ → List ℕ
run_of w [] = []
run_of w (v ∷ vs) = to_bytes w v ++ run_of w vs

-- flags, a byte each: 1 for true, 0 for false
unfoldable pub flags : List Bool → List ℕ
flags [] = []
flags (f ∷ fs) = cond f 1 0 ∷ flags fs
