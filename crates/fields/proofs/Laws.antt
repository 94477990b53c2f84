-- Laws of numbers as bytes, once for every width: lengths, ranges, round trips both ways, and what a caller with a fixed layout needs
-- to read a field of an encoding, to put an encoding together, and to store into one. Assumes nothing.
use mathlib.Core.Path.{◌≡◌, refl, sym, ap, ◌∙◌}
use mathlib.Core.List.{List, [], ◌∷◌, ◌++◌, append_assoc, append-nil}
use mathlib.Core.Bool.{Bool, true, false, cond, not}
use Prim.Native.Nat.{ℕ, zero, suc, ◌+◌, ◌*◌, ◌/◌, ◌%◌, ◌^◌, ◌≤◌, ◌<◌}
use native.Mathlib.Nat.{add-zero, suc-add, add-suc, zero-mul, pow-zero, pow-suc, one-le-pow}
use native.Mathlib.Omega.{arith}
use lib.Dec.{eqb}
use lib.ListN.{length, take, drop, get_or, set, replicate, length-append, length-drop, length-set, take-append-drop, drop_of_length-le}
use lib.Seq.{sets, set-append_left, sets-eq, length-take-le, take_at, drop_at, drop-append-add, drop-drop, take-add, get_or-drop}
use mir.Syntax.{w8}
use mir.Val.{Fits}
use Rattle.fields.specs.LittleEndian.{from_bytes, number_at, run_from_bytes, flags_from_bytes, to_bytes}
use Rattle.fields.specs.Inner.{Below, run_of, flags}

-- ---- lengths

-- a byte is a number below 256
pub byte_fits : {n : ℕ} → Fits w8 n → n < 256
byte_fits f = f.fits

pub length_to : (w v : ℕ) → length (to_bytes w v) ≡ w
unfolding to_bytes
length_to zero v = refl
length_to (suc w) v = ap suc (length_to w (v / 256))

pub length_run : (w : ℕ) (vs : List ℕ) → length (run_of w vs) ≡ length vs * w
unfolding run_of
length_run w [] = omega arith
length_run w (v ∷ vs) = omega (arith, length-append (to_bytes w v) (run_of w vs), length_to w v, length_run w vs)

pub length_run_from : (w n : ℕ) (bs : List ℕ) → length (run_from_bytes w n bs) ≡ n
unfolding run_from_bytes
length_run_from w zero bs = refl
length_run_from w (suc n) bs = ap suc (length_run_from w n (drop w bs))

pub length_flags : (fs : List Bool) → length (flags fs) ≡ length fs
unfolding flags
length_flags [] = refl
length_flags (f ∷ fs) = ap suc (length_flags fs)

pub length_flags_from : (n : ℕ) (bs : List ℕ) → length (flags_from_bytes n bs) ≡ n
unfolding flags_from_bytes
length_flags_from zero bs = refl
length_flags_from (suc n) bs = ap suc (length_flags_from n (drop 1 bs))

-- ---- a number and its bytes

-- the bytes of a number that fits stand for that number
pub from_to : (w v : ℕ) → v < 256 ^ w → from_bytes (to_bytes w v) ≡ v
unfolding to_bytes from_bytes
from_to zero v h = omega (arith, pow-zero 256)
from_to (suc w) v h = omega (arith, from_to w (v / 256) (omega (arith, pow-suc 256 w)))

-- the same, read off a list that goes on
pub from_front : (w v : ℕ) (rest : List ℕ) → v < 256 ^ w → number_at (to_bytes w v ++ rest) 0 w ≡ v
unfolding number_at
from_front w v rest h = rw (take_at (to_bytes w v) rest w (length_to w v)) (from_to w v h)

-- the two parts of a number with one more byte
digit : (u b : ℕ) → b < 256 → ((u * 256 + b) % 256 ≡ b) × ((u * 256 + b) / 256 ≡ u)
digit u b h = (omega arith, omega arith)

-- bytes are the bytes of the number that they stand for
pub to_from : (bs : List ℕ) → Below 256 bs → to_bytes (length bs) (from_bytes bs) ≡ bs
unfolding to_bytes from_bytes
to_from [] h = refl
to_from (b ∷ bs) h =
    let d : ((from_bytes bs * 256 + b) % 256 ≡ b) × ((from_bytes bs * 256 + b) / 256 ≡ from_bytes bs) = digit (from_bytes bs) b (h zero) in
    rw (d.0, d.1, to_from bs (λ i. h (suc i)))

-- the number that at most `w` bytes stand for has at most `w` bytes
pub from_take_lt : (w : ℕ) (bs : List ℕ) → Below 256 bs → from_bytes (take w bs) < 256 ^ w
unfolding from_bytes
from_take_lt zero bs h = omega (arith, pow-zero 256)
from_take_lt (suc w) [] h = one-le-pow (suc w) 256 (omega arith)
from_take_lt (suc w) (b ∷ bs) h = omega (arith, pow-suc 256 w, h zero, from_take_lt w bs (λ i. h (suc i)))

-- ---- parts of a list of bytes

pub below_append : (m : ℕ) (xs ys : List ℕ) → Below m xs → Below m ys → Below m (xs ++ ys)
below_append m [] ys h k i = k i
below_append m (x ∷ xs) ys h k zero = h zero
below_append m (x ∷ xs) ys h k (suc i) = below_append m xs ys (λ j. h (suc j)) k i

pub below_drop : (m n : ℕ) (vs : List ℕ) → Below m vs → Below m (drop n vs)
below_drop m n vs h i = rw get_or-drop (h (n + i))

pub below_take : (m n : ℕ) (vs : List ℕ) → Below m vs → Below m (take n vs)
below_take m zero vs h i = omega (arith, h i)
below_take m (suc n) [] h i = h i
below_take m (suc n) (v ∷ vs) h zero = h zero
below_take m (suc n) (v ∷ vs) h (suc i) = below_take m n vs (λ j. h (suc j)) i

-- what stands past a front
pub past : {A : Type 0} (xs ys : List A) (at n : ℕ) → at ≡ length xs + n → drop at (xs ++ ys) ≡ drop n ys
past xs ys at n e = rw e (drop-append-add xs ys n)

-- a part and what follows it are what stands from the part's place on
pub rejoin : {A : Type 0} (l : List A) (at n to : ℕ) → to ≡ at + n → take n (drop at l) ++ drop to l ≡ drop at l
rejoin l at n to e = rw (e, ← drop-drop n at l) (take-append-drop n (drop at l))

-- a number read off a place, stored again, is the bytes of that place
pub to_back : (w at : ℕ) (bs : List ℕ) → at + w ≤ length bs → Below 256 bs → to_bytes w (number_at bs at w) ≡ take w (drop at bs)
unfolding number_at
to_back w at bs l h =
    let e : length (take w (drop at bs)) ≡ w = length-take-le w (drop at bs) (omega (arith, length-drop at bs)) in
    rw e at (to_from (take w (drop at bs)) (below_take 256 w (drop at bs) (below_drop 256 at bs h)))

-- ---- numbers one after another

-- each number of `w` bytes is below 256 ^ w
pub run_from_lt : (w n : ℕ) (bs : List ℕ) → Below 256 bs → Below (256 ^ w) (run_from_bytes w n bs)
unfolding run_from_bytes
run_from_lt w zero bs h i = one-le-pow w 256 (omega arith)
run_from_lt w (suc n) bs h zero = from_take_lt w bs h
run_from_lt w (suc n) bs h (suc i) = run_from_lt w n (drop w bs) (below_drop 256 w bs h) i

-- a run of numbers that fit, read back, is those numbers
pub run_from_to : (w n : ℕ) (vs rest : List ℕ) → length vs ≡ n → Below (256 ^ w) vs → run_from_bytes w n (run_of w vs ++ rest) ≡ vs
unfolding run_from_bytes run_of number_at
run_from_to w zero [] rest e h = refl
run_from_to w zero (v ∷ vs) rest e h = absurd (omega arith)
run_from_to w (suc n) [] rest e h = absurd (omega arith)
run_from_to w (suc n) (v ∷ vs) rest e h =
    rw (append_assoc, from_front w v (run_of w vs ++ rest) (h zero), drop_at (to_bytes w v) (run_of w vs ++ rest) w (length_to w v), run_from_to w n vs rest (omega arith) (λ i. h (suc i)))

-- numbers read off bytes, stored again, are those bytes
pub run_to_from : (w n : ℕ) (bs : List ℕ) → n * w ≤ length bs → Below 256 bs → run_of w (run_from_bytes w n bs) ≡ take (n * w) bs
unfolding run_from_bytes run_of number_at
run_to_from w zero bs l h = rw (zero-mul w)
run_to_from w (suc n) bs l h =
    let i : n * w ≤ length (drop w bs) = omega (arith, length-drop w bs) in
    let s : suc n * w ≡ w + n * w = omega arith in
    rw (s, take-add, to_back w 0 bs (omega arith) h, run_to_from w n (drop w bs) i (below_drop 256 w bs h))

-- the same at a place
pub run_back : (w n at : ℕ) (bs : List ℕ) → at + n * w ≤ length bs → Below 256 bs → run_of w (run_from_bytes w n (drop at bs)) ≡ take (n * w) (drop at bs)
run_back w n at bs l h = run_to_from w n (drop at bs) (omega (arith, length-drop at bs)) (below_drop 256 at bs h)

-- ---- flags

-- each byte of flags is 0 or 1
pub flags_lt : (fs : List Bool) → Below 2 (flags fs)
unfolding flags
flags_lt [] i = omega arith
flags_lt (true ∷ fs) zero = omega arith
flags_lt (false ∷ fs) zero = omega arith
flags_lt (f ∷ fs) (suc i) = flags_lt fs i

-- flags read back are those flags
pub flags_from_to : (n : ℕ) (fs : List Bool) (rest : List ℕ) → length fs ≡ n → flags_from_bytes n (flags fs ++ rest) ≡ fs
unfolding flags_from_bytes flags
flags_from_to zero [] rest e = refl
flags_from_to zero (f ∷ fs) rest e = absurd (omega arith)
flags_from_to (suc n) [] rest e = absurd (omega arith)
flags_from_to (suc n) (true ∷ fs) rest e = ap (λ (l : List Bool). true ∷ l) (flags_from_to n fs rest (omega arith))
flags_from_to (suc n) (false ∷ fs) rest e = ap (λ (l : List Bool). false ∷ l) (flags_from_to n fs rest (omega arith))

-- a byte 0 or 1 is its flag's number
pub flag_byte : (b : ℕ) → b < 2 → cond (not (eqb b 0)) 1 0 ≡ b
flag_byte zero h = refl
flag_byte (suc zero) h = refl
flag_byte (suc (suc b)) h = absurd (omega arith)

-- flags read off bytes 0 and 1, stored again, are those bytes
pub flags_to_from : (n : ℕ) (bs : List ℕ) → n ≤ length bs → ((i : ℕ) → i < n → get_or bs i 0 < 2) → flags (flags_from_bytes n bs) ≡ take n bs
unfolding flags_from_bytes flags
flags_to_from zero bs l h = refl
flags_to_from (suc n) [] l h = absurd (omega arith)
flags_to_from (suc n) (b ∷ bs) l h =
    rw (flag_byte b (h zero (omega arith)), flags_to_from n bs (omega arith) (λ i k. h (suc i) (omega arith)))

-- the same at a place
pub flags_back : (n at : ℕ) (bs : List ℕ) → at + n ≤ length bs → ((i : ℕ) → i < n → get_or bs (at + i) 0 < 2) → flags (flags_from_bytes n (drop at bs)) ≡ take n (drop at bs)
flags_back n at bs l h = flags_to_from n (drop at bs) (omega (arith, length-drop at bs)) (λ i k. rw get_or-drop (h i k))

-- ---- bytes that are all 0

-- they stand for 0, for numbers that are all 0, and for flags that are all false
pub from_blank : (w : ℕ) (bs : List ℕ) → Below 1 bs → from_bytes (take w bs) ≡ 0
unfolding from_bytes
from_blank zero bs h = refl
from_blank (suc w) [] h = refl
from_blank (suc w) (b ∷ bs) h = omega (arith, h zero, from_blank w bs (λ i. h (suc i)))

pub run_from_blank : (w n : ℕ) (bs : List ℕ) → Below 1 bs → run_from_bytes w n bs ≡ replicate n 0
unfolding run_from_bytes
run_from_blank w zero bs h = refl
run_from_blank w (suc n) bs h = rw (from_blank w bs h, run_from_blank w n (drop w bs) (below_drop 1 w bs h))

pub flags_from_blank : (n : ℕ) (bs : List ℕ) → Below 1 bs → flags_from_bytes n bs ≡ replicate n false
unfolding flags_from_bytes
flags_from_blank zero bs h = refl
flags_from_blank (suc n) bs h =
    let e : get_or bs 0 0 ≡ 0 = omega (arith, h 0) in
    rw (e, flags_from_blank n (drop 1 bs) (below_drop 1 1 bs h))

-- ---- stores one after another

-- a store of two lists is a store of the first, and then of the second after it
pub sets_append : {A : Type 0} (l : List A) (i : ℕ) (a b : List A) → sets l i (a ++ b) ≡ sets (sets l i a) (i + length a) b
sets_append l i [] b = rw add-zero
sets_append l i (x ∷ a) b = rw (sets_append (set l i x) (suc i) a b, suc-add, add-suc)

-- a store right after a store is one store of both
pub sets_then : {A : Type 0} (l l₁ l₂ xs ys : List A) (at to : ℕ) → l₁ ≡ sets l at xs → to ≡ at + length xs → l₂ ≡ sets l₁ to ys → l₂ ≡ sets l at (xs ++ ys)
sets_then l l₁ l₂ xs ys at to p q r = rw (r, p, q) (sym (sets_append l at xs ys))

-- a store over a whole list is what was stored
pub sets_all : {A : Type 0} (l vs : List A) → length vs ≡ length l → sets l 0 vs ≡ vs
sets_all l vs e =
    let d : drop (0 + length vs) l ≡ [] = drop_of_length-le l {i = 0 + length vs} (omega arith) in
    sets-eq vs l 0 (omega arith) ∙ rw d (append-nil vs)

-- ---- a store into an encoding

-- after the first element it is a store into the rest
sets_cons : {A : Type 0} (x : A) (l : List A) (i : ℕ) (vs : List A) → sets (x ∷ l) (suc i) vs ≡ x ∷ sets l i vs
sets_cons x l i [] = refl
sets_cons x l i (v ∷ vs) = sets_cons x (set l i v) (suc i) vs

-- past a front it is a store into the rest
pub sets_past : {A : Type 0} (xs ys vs : List A) (at i : ℕ) → at ≡ length xs + i → sets (xs ++ ys) at vs ≡ xs ++ sets ys i vs
sets_past [] ys vs at i e =
    let f : at ≡ i = omega arith in
    rw f
sets_past (x ∷ xs) ys vs at i e =
    let f : at ≡ suc (length xs + i) = omega arith in
    rw (f, sets_cons, sets_past xs ys vs (length xs + i) i refl)

-- within a front it is a store into the front
pub sets_within : {A : Type 0} (xs ys vs : List A) (i : ℕ) → i + length vs ≤ length xs → sets (xs ++ ys) i vs ≡ sets xs i vs ++ ys
sets_within xs ys [] i h = refl
sets_within xs ys (v ∷ vs) i h =
    rw (set-append_left xs ys i v (omega arith)) (sets_within (set xs i v) ys vs (suc i) (omega (arith, length-set xs i v)))

-- over a front of the same length it replaces the front
pub sets_front : {A : Type 0} (xs ys vs : List A) → length vs ≡ length xs → sets (xs ++ ys) 0 vs ≡ vs ++ ys
sets_front xs ys vs e =
    let l : 0 + length vs ≤ length (xs ++ ys) = omega (arith, length-append xs ys) in
    sets-eq vs (xs ++ ys) 0 l ∙ rw (drop_at xs ys (0 + length vs) (omega arith))

-- of one number, it is the run of the list with that number set
pub run_set : (w : ℕ) (vs : List ℕ) (i v : ℕ) → i < length vs → sets (run_of w vs) (i * w) (to_bytes w v) ≡ run_of w (set vs i v)
unfolding run_of
run_set w [] i v h = absurd (omega arith)
run_set w (x ∷ vs) zero v h = rw (zero-mul w) (sets_front (to_bytes w x) (run_of w vs) (to_bytes w v) (length_to w v ∙ sym (length_to w x)))
run_set w (x ∷ vs) (suc i) v h =
    let e : suc i * w ≡ length (to_bytes w x) + i * w = omega (arith, length_to w x) in
    rw (sets_past (to_bytes w x) (run_of w vs) (to_bytes w v) (suc i * w) (i * w) e, run_set w vs i v (omega arith))

-- of one flag, it is the flags of the list with that flag set
pub flags_set : (fs : List Bool) (i : ℕ) (f : Bool) → set (flags fs) i (cond f 1 0) ≡ flags (set fs i f)
unfolding flags
flags_set [] i f = refl
flags_set (x ∷ fs) zero f = refl
flags_set (x ∷ fs) (suc i) f = rw (flags_set fs i f)
