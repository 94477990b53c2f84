-- What reading a number answers. Assumes nothing.
use mathlib.Core.{Bool.{Bool, ◌&&◌, cond}, List.List}
use Rattle.std.specs.Prelude.{ℕ, leb, Result, Ok, Err}
use Rattle.decimal.specs.{declared.NumberError.{NumberError, TheVariants.{Malformed, OutOfRange}}, Decimal.{shaped, value_of}}

-- a number is judged by its value, however many digits it has
unfoldable pub read_of : List ℕ → ℕ → Result ℕ NumberError
read_of s limit = cond (shaped s) (cond (leb (value_of s) limit) (Ok (value_of s)) (Err OutOfRange)) (Err Malformed)

-- an ASCII digit
abbrev pub is_digit : ℕ → Bool
is_digit b = leb 48 b && leb b 57
