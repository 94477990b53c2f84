-- Text as bytes: quoted text; whether two texts are one; decimal numbers, which texts are numbers and what they stand for; a text on a
-- lent page. Nothing here bounds a number or the count of its digits. Assumes nothing.
use mathlib.Core.{Bool.{Bool, true, false, cond, not, ◌&&◌}, List.{List, [], ◌∷◌, ◌++◌}}
use Prim.Native.{Nat.{ℕ, zero, suc, ◌+◌, ◌*◌, ◌-◌, ◌^◌, ◌/◌, ◌%◌}, Char.code, String.{String, [] as empty, ◌∷◌ as ◌before◌}}
use lib.{Dec.{leb, ltb, eqb}, ListN.{length, get_or, drop}}

-- a quoted text, as the codes of its letters
abbrev pub text_of : String → List ℕ
text_of empty = []
text_of (c before s) = code c ∷ text_of s

-- whether two texts are one
unfoldable pub same_text : List ℕ → List ℕ → Bool
same_text [] [] = true
same_text [] (b ∷ s) = false
same_text (a ∷ t) [] = false
same_text (a ∷ t) (b ∷ s) = eqb a b && same_text t s

-- ASCII digits: '0' is 48, '9' is 57
unfoldable pub all_digits : List ℕ → Bool
all_digits [] = true
all_digits (b ∷ s) = (leb 48 b && leb b 57) && all_digits s

-- a '0' with something behind it
unfoldable pub leading_zero : List ℕ → Bool
leading_zero s = ltb 1 (length s) && eqb (get_or s 0 0) 48

-- the text of a number: one digit or more, and no leading zero
unfoldable pub shaped : List ℕ → Bool
shaped s = leb 1 (length s) && all_digits s && not (leading_zero s)

-- the number that digits stand for: each counts ten times as much as the one behind it
unfoldable pub value_of : List ℕ → ℕ
value_of [] = 0
value_of (b ∷ s) = (b - 48) * 10 ^ length s + value_of s

-- The digits of x: those of x / 10, if any, and then that of x % 10. The first argument only bounds the recursion, and x
-- itself is always enough.
unfoldable pub digits_in : ℕ → ℕ → List ℕ
digits_in zero x = (48 + x) ∷ []
digits_in (suc f) x = elim (ltb x 10) [ true ↦ (48 + x) ∷ [] | false ↦ digits_in f (x / 10) ++ ((48 + x % 10) ∷ []) ]

unfoldable pub digits_of : ℕ → List ℕ
digits_of x = digits_in x x

-- whether the text t fits a page
abbrev pub fits : List ℕ → List ℕ → Bool
fits t page = leb (length t) (length page)

-- what writing the text t on a page answers: how many bytes were written, none of them if they do not all fit
unfoldable pub wrote_of : List ℕ → List ℕ → ℕ
wrote_of t page = cond (fits t page) (length t) 0

-- the page afterwards: t at its start, or the page as it was
unfoldable pub page_of : List ℕ → List ℕ → List ℕ
page_of t page = cond (fits t page) (t ++ drop (length t) page) page
