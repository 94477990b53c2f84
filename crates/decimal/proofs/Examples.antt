-- Texts and numbers worked by computation, so that a reader sees what the definitions say. Assumes nothing.
use mathlib.Core.Path.{◌≡◌, refl}
use mathlib.Core.List.{List, [], ◌∷◌, ◌++◌}
use Prim.Native.Nat.{ℕ}
use Rattle.std.specs.Prelude.{Ok, Err}
use lib.ListN.{replicate}
use Rattle.decimal.specs.declared.NumberError.TheVariants.{Malformed, OutOfRange}
use Rattle.decimal.specs.Decimal.{all_digits, leading_zero, shaped, value_of, digits_in, digits_of, wrote_of, page_of}
use Rattle.decimal.specs.InnerReads.{read_of}

-- 99999999999999999999
abbrev nines : List ℕ
nines = replicate 20 57

zero_alone : read_of (48 ∷ []) 999999 ≡ Ok 0
unfolding read_of shaped all_digits leading_zero value_of
zero_alone = refl

zero_ahead : read_of (48 ∷ 55 ∷ []) 999999 ≡ Err Malformed
unfolding read_of shaped all_digits leading_zero
zero_ahead = refl

nothing : read_of [] 999999 ≡ Err Malformed
unfolding read_of shaped all_digits leading_zero
nothing = refl

colon : read_of (49 ∷ 58 ∷ []) 999999 ≡ Err Malformed
unfolding read_of shaped all_digits leading_zero
colon = refl

at_limit : read_of (replicate 6 57) 999999 ≡ Ok 999999
unfolding read_of shaped all_digits leading_zero value_of
at_limit = refl

past_limit : read_of (49 ∷ replicate 6 48) 999999 ≡ Err OutOfRange
unfolding read_of shaped all_digits leading_zero value_of
past_limit = refl

-- no width makes a number ill-formed, and none is lost
many_digits : read_of nines 18446744073709551615 ≡ Err OutOfRange
unfolding read_of shaped all_digits leading_zero value_of
many_digits = refl

all_counted : value_of nines ≡ 99999999999999999999
unfolding value_of
all_counted = refl

many_and_a_fault : read_of (nines ++ (58 ∷ [])) 999999 ≡ Err Malformed
unfolding read_of shaped all_digits leading_zero
many_and_a_fault = refl

text_of_zero : digits_of 0 ≡ 48 ∷ []
unfolding digits_of digits_in
text_of_zero = refl

text_of_largest :
    digits_of 18446744073709551615
    ≡ 49 ∷ 56 ∷ 52 ∷ 52 ∷ 54 ∷ 55 ∷ 52 ∷ 52 ∷ 48 ∷ 55 ∷ 51 ∷ 55 ∷ 48 ∷ 57 ∷ 53 ∷ 53 ∷ 49 ∷ 54 ∷ 49 ∷ 53 ∷ []
unfolding digits_of digits_in
text_of_largest = refl

fits_exactly : page_of (digits_of 30) (1 ∷ 2 ∷ []) ≡ 51 ∷ 48 ∷ []
unfolding page_of digits_of digits_in
fits_exactly = refl

too_short : page_of (digits_of 307) (1 ∷ 2 ∷ []) ≡ 1 ∷ 2 ∷ []
unfolding page_of digits_of digits_in
too_short = refl

too_short_answer : wrote_of (digits_of 307) (1 ∷ 2 ∷ []) ≡ 0
unfolding wrote_of digits_of digits_in
too_short_answer = refl
