-- What the loops of this crate keep from turn to turn: what is left to do, done from here on, leads to what the contract asks.
-- Assumes nothing.
use mathlib.Core.Path.{◌≡◌}
use mathlib.Core.List.{List}
use Prim.Native.Nat.{ℕ, suc, ◌+◌, ◌*◌, ◌-◌, ◌/◌, ◌%◌, ◌^◌, ◌≤◌, ◌<◌}
use native.Mathlib.Nat.{pow-suc, pow-le-pow_right, lt_of_lt_of_le}
use native.Mathlib.Omega.{arith}
use lib.ListN.{length, get_or, set}
use lib.Seq.{sets, drop-cons}
use Rattle.fields.specs.LittleEndian.{from_bytes, number_at, to_bytes}

-- put: with one byte stored, the rest of them lead to the same list
pub put_step : (buf : List ℕ) (at w i x : ℕ) → i < w → sets (set buf (at + i) (x % 256)) (at + (i + 1)) (to_bytes (w - (i + 1)) (x / 256)) ≡ sets buf (at + i) (to_bytes (w - i) x)
unfolding to_bytes
put_step buf at w i x h =
    let e : w - i ≡ suc (w - (i + 1)) = omega arith in
    let f : at + (i + 1) ≡ suc (at + i) = omega arith in
    rw (e, f)

-- put: no byte left
pub put_done : (buf : List ℕ) (to w i x : ℕ) → w ≤ i → sets buf to (to_bytes (w - i) x) ≡ buf
unfolding to_bytes
put_done buf to w i x h =
    let e : w - i ≡ 0 = omega arith in
    rw e

-- get: no byte yet
pub get_start : (buf : List ℕ) (at w : ℕ) → (0 < 256 ^ (w - w)) × (0 ≡ number_at buf (at + w) (w - w))
unfolding from_bytes number_at
get_start buf at w =
    let e : w - w ≡ 0 = omega arith in
    (rw e (omega arith), rw e)

-- get: the bytes from one place further down
pub get_step : (buf : List ℕ) (at w i : ℕ) → 0 < i → i ≤ w → at + w ≤ length buf → number_at buf (at + i) (w - i) * 256 + get_or buf (at + (i - 1)) 0 ≡ number_at buf (at + (i - 1)) (w - (i - 1))
unfolding from_bytes number_at
get_step buf at w i p q r =
    let e : w - (i - 1) ≡ suc (w - i) = omega arith in
    let f : suc (at + (i - 1)) ≡ at + i = omega arith in
    let l : at + (i - 1) < length buf = omega arith in
    rw (e, drop-cons buf (at + (i - 1)) 0 l, f)

-- get: the number with one more byte has one byte more
pub get_lt : (x b w i : ℕ) → 0 < i → i ≤ w → x < 256 ^ (w - i) → b < 256 → x * 256 + b < 256 ^ (w - (i - 1))
get_lt x b w i p q h k =
    let e : w - (i - 1) ≡ suc (w - i) = omega arith in
    rw e (omega (arith, pow-suc 256 (w - i)))

-- get: while a byte is left to read, one more still fits
pub get_fits : (x w i : ℕ) → 0 < i → w ≤ 8 → x < 256 ^ (w - i) → x < 256 ^ 7
get_fits x w i p q h = lt_of_lt_of_le h (pow-le-pow_right {n = 256} (omega arith) {i = w - i} {j = 7} (omega arith))
