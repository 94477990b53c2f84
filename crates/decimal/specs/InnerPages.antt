-- A text written on a page that has room for it, a number behind its label, and the digits of short numbers. Assumes nothing.
use Rattle.std.specs.Prelude.{List, [], ◌∷◌, ◌++◌, ℕ, ◌+◌, ◌/◌, ◌%◌, length, drop}
use Rattle.decimal.specs.Decimal.{digits_of}

-- the page with the text t at its start
abbrev pub text_over : List ℕ → List ℕ → List ℕ
text_over t page = t ++ drop (length t) page

-- a number behind its label
abbrev pub labelled : List ℕ → ℕ → List ℕ
labelled label v = label ++ digits_of v

-- a number below 100 as two digits
abbrev pub two_digits : ℕ → List ℕ
two_digits v = (48 + v / 10) ∷ (48 + v % 10) ∷ []

-- one below 1,000 as three
abbrev pub three_digits : ℕ → List ℕ
three_digits v = (48 + v / 100) ∷ two_digits (v % 100)
