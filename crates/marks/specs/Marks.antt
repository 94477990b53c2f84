-- Which of 256 marks are set: each is one binary digit of four words, 64 to a word, lowest first. Assumes nothing.
use mathlib.Core.{Bool.Bool, List.List}
use Rattle.std.specs.Prelude.{ℕ, ◌/◌, ◌%◌, ◌^◌}
use lib.{Dec.eqb, ListN.get_or}

-- digit i of w in base two
unfoldable pub bit : ℕ → ℕ → ℕ
bit w i = w / 2 ^ i % 2

-- mark i is set: digit i % 64 of word i / 64 is 1. There is no word past the last, so no mark either.
unfoldable pub marked : List ℕ → ℕ → Bool
marked ws i = eqb (bit (get_or ws (i / 64) 0) (i % 64)) 1
