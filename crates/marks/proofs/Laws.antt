-- Laws of the 256 marks, on plain variables. A function's proof cites them and adds nothing of its own; those under 'For callers' say what the
-- contracts mean at one mark. Assumes nothing.
use mathlib.Core.Path.{◌≡◌, refl, sym, ap, ◌∙◌}
use mathlib.Core.Logic.{◌≢◌}
use mathlib.Core.Bool.{Bool, true, false, false≢true, true≢false}
use mathlib.Core.List.{List, [], ◌∷◌, ◌++◌}
use Prim.Native.Nat.{ℕ, zero, suc, ◌+◌, ◌-◌, ◌*◌, ◌/◌, ◌%◌, ◌^◌, ◌≤◌, ◌<◌, min, max}
use native.Mathlib.Nat.{pow-suc, suc-add, lt_of_lt_of_le, lt_of_le_of_lt}
use native.Mathlib.Decide.{dec_le, ℕ_discrete}
use native.Mathlib.Omega.{arith}
use borrow.Author.Tests.{eq-eqb, ne_eqb}
use lib.Bits.{bit_and, bit_or, and_step, or_step, and_shr, or_shr}
use lib.Count.{ones, ones_step, ones-le, count_trailing_zeros, under}
use lib.Dec.{eqb}
use lib.ListN.{length, get_or, set, drop, length-set, length-drop, drop_of_length-le, get_or-eq_default}
use lib.Pow.{pow_pos, pow_mono, pow-lt, shr_lt, shr-shr, shr_le, shl_exact}
use Rattle.std.specs.List.{sum_by}
use mir.Syntax.{w64}
use mir.Val.{Fits}
use lib.Seq.{ext_get_or, get_or-set_same, get_or-set_other, get_or-drop, drop-drop, set_out}
use Rattle.marks.specs.Marks.{bit, marked}
use Rattle.marks.specs.Inner.{marks_from, marks, count_set, first_set}

-- ---- one digit

bit_lt : (w i : ℕ) → bit w i < 2
unfolding bit
bit_lt w i = omega arith

bit_suc : (w i : ℕ) → bit w (suc i) ≡ bit (w / 2) i
unfolding bit
bit_suc w i = let e : 1 + i ≡ suc i = omega arith in ap (λ x. x % 2) (rw e at (sym (shr-shr w 1 i)))

-- shifting by s takes the s lowest digits away
bit_shr : (w s i : ℕ) → bit (w / 2 ^ s) i ≡ bit w (s + i)
unfolding bit
bit_shr w s i = ap (λ x. x % 2) (shr-shr w s i)

-- a number of n digits has no other
bit_past : (w n i : ℕ) → w < 2 ^ n → n ≤ i → bit w i ≡ 0
unfolding bit
bit_past w n i h l =
    let e : 0 + i ≡ i = omega arith in
    let z : w / 2 ^ i < 1 = shr_lt 0 i (rw e (lt_of_lt_of_le h (pow_mono l))) in
    omega arith

bit_zero : (i : ℕ) → bit 0 i ≡ 0
bit_zero i = bit_past 0 0 i (pow_pos 0) (omega arith)

-- two numbers of n digits with the same digits are one number
bits_tell : (n v w : ℕ) → v < 2 ^ n → w < 2 ^ n → ((i : ℕ) → i < n → bit v i ≡ bit w i) → v ≡ w
unfolding bit
bits_tell zero v w a b h = omega arith
bits_tell (suc n) v w a b h =
    let low : v / 1 % 2 ≡ w / 1 % 2 = h 0 (omega arith) in
    let half : (x : ℕ) → x < 2 ^ suc n → x / 2 < 2 ^ n = λ x l. omega (arith, pow-suc 2 n) in
    let later : (i : ℕ) → i < n → bit (v / 2) i ≡ bit (w / 2) i = λ i l. sym (bit_suc v i) ∙ h (suc i) (omega arith) ∙ bit_suc w i in
    omega (arith, low, bits_tell n (v / 2) (w / 2) (half v a) (half w b) later)

-- ---- the digits after an operation on words

or_bit : (a b i : ℕ) → bit (bit_or a b) i ≡ max (bit a i) (bit b i)
unfolding bit
or_bit a b i = rw (or_shr, or_step) (omega arith)

and_bit : (a b i : ℕ) → bit (bit_and a b) i ≡ min (bit a i) (bit b i)
unfolding bit
and_bit a b i = rw (and_shr, and_step) (omega arith)

-- every digit of a word the other way round
not_bit : (n a i : ℕ) → a < 2 ^ n → i < n → bit (2 ^ n - 1 - a) i + bit a i ≡ 1
unfolding bit
not_bit zero a i h l = omega arith
not_bit (suc n) a zero h l = omega (arith, pow-suc 2 n, pow_pos n)
not_bit (suc n) a (suc i) h l =
    let e : (2 ^ suc n - 1 - a) / 2 ≡ 2 ^ n - 1 - a / 2 = omega (arith, pow-suc 2 n, pow_pos n) in
    omega (arith, bit_suc (2 ^ suc n - 1 - a) i, ap (λ x. bit x i) e, bit_suc a i, not_bit n (a / 2) i (omega (arith, pow-suc 2 n)) (omega arith))

pow_same : (s : ℕ) → bit (2 ^ s) s ≡ 1
unfolding bit
pow_same zero = refl
pow_same (suc s) =
    let e : 2 ^ suc s / 2 ≡ 2 ^ s = omega (arith, pow-suc 2 s) in
    bit_suc (2 ^ suc s) s ∙ ap (λ x. bit x s) e ∙ pow_same s

pow_other : (s i : ℕ) → i ≢ s → bit (2 ^ s) i ≡ 0
unfolding bit
pow_other zero zero n = absurd (n refl)
pow_other zero (suc i) n = bit_past 1 1 (suc i) (omega arith) (omega arith)
pow_other (suc s) zero n = omega (arith, pow-suc 2 s)
pow_other (suc s) (suc i) n =
    let e : 2 ^ suc s / 2 ≡ 2 ^ s = omega (arith, pow-suc 2 s) in
    bit_suc (2 ^ suc s) i ∙ ap (λ x. bit x i) e ∙ pow_other s i (λ q. n (ap suc q))

-- ---- the zeros below the lowest set digit

tz_set : (n w : ℕ) → 0 < w → w < 2 ^ n → bit w (count_trailing_zeros n w) ≡ 1
unfolding count_trailing_zeros bit
tz_set zero w p h = omega arith
tz_set (suc n) w p h = go (w % 2) refl (λ z. tz_set n (w / 2) (omega arith) (omega (arith, pow-suc 2 n)))
  where
    go : (r : ℕ) → w % 2 ≡ r → (w % 2 ≡ 0 → bit (w / 2) (count_trailing_zeros n (w / 2)) ≡ 1) → bit w (under r (count_trailing_zeros n (w / 2))) ≡ 1
    go zero e ih = bit_suc w _ ∙ ih e
    go (suc r) e ih = omega arith

tz_below : (n w j : ℕ) → j < count_trailing_zeros n w → bit w j ≡ 0
unfolding count_trailing_zeros bit
tz_below zero w j l = omega arith
tz_below (suc n) w j l = go (w % 2) j refl (λ i m. tz_below n (w / 2) i m) l
  where
    go : (r i : ℕ) → w % 2 ≡ r → ((k : ℕ) → k < count_trailing_zeros n (w / 2) → bit (w / 2) k ≡ 0) → i < under r (count_trailing_zeros n (w / 2)) → bit w i ≡ 0
    go zero zero e ih m = omega arith
    go zero (suc i) e ih m = bit_suc w i ∙ ih i (omega arith)
    go (suc r) i e ih m = omega arith

-- ---- tables

tab_length : (n : ℕ) (f : ℕ → Bool) (i : ℕ) → length (marks_from n f i) ≡ n
unfolding marks_from
tab_length zero f i = refl
tab_length (suc n) f i = ap suc (tab_length n f (suc i))

tab_at : (n : ℕ) (f : ℕ → Bool) (i j : ℕ) → j < n → get_or (marks_from n f i) j false ≡ f (i + j)
unfolding marks_from
tab_at zero f i j l = absurd (omega arith)
tab_at (suc n) f i zero l = ap f (omega arith)
tab_at (suc n) f i (suc j) l =
    let e : suc i + j ≡ i + suc j = omega arith in
    tab_at n f (suc i) j (omega arith) ∙ ap f e

tab_cat : (m n : ℕ) (f : ℕ → Bool) (i : ℕ) → marks_from (m + n) f i ≡ marks_from m f i ++ marks_from n f (i + m)
unfolding marks_from
tab_cat zero n f i =
    let e : 0 + n ≡ n = omega arith in
    let u : i + 0 ≡ i = omega arith in
    rw (e, u)
tab_cat (suc m) n f i =
    let u : suc i + m ≡ i + suc m = omega arith in
    rw suc-add (ap (λ l. f i ∷ l) (rw u at (tab_cat m n f (suc i))))

pub length_marks : (ws : List ℕ) → length (marks ws) ≡ 256
unfolding marks
length_marks ws = tab_length 256 (marked ws) 0

-- ---- the marks of one word

place : (ws : List ℕ) (k j : ℕ) → j < 64 → marked ws (k * 64 + j) ≡ eqb (bit (get_or ws k 0) j) 1
unfolding marked
place ws k j l =
    let d : (k * 64 + j) / 64 ≡ k = omega arith in
    let m : (k * 64 + j) % 64 ≡ j = omega arith in
    rw (d, m)

-- from `at` to the end of its word the marks are the digits of the shifted word
place_from : (ws : List ℕ) (at j : ℕ) → at % 64 + j < 64 → marked ws (at + j) ≡ eqb (bit (get_or ws (at / 64) 0 / 2 ^ (at % 64)) j) 1
place_from ws at j l =
    let e : at + j ≡ at / 64 * 64 + (at % 64 + j) = omega arith in
    rw (e, bit_shr) (place ws (at / 64) (at % 64 + j) l)

-- ---- counting

count_cat : (a b : List Bool) → count_set (a ++ b) ≡ count_set a + count_set b
unfolding count_set
count_cat [] b = omega arith
count_cat (true ∷ a) b = omega (arith, count_cat a b)
count_cat (false ∷ a) b = count_cat a b

count_split : (m n : ℕ) (f : ℕ → Bool) (i : ℕ) → count_set (marks_from (m + n) f i) ≡ count_set (marks_from m f i) + count_set (marks_from n f (i + m))
count_split m n f i = rw tab_cat (count_cat _ _)

count_cons : (b : Bool) (bs : List Bool) (r : ℕ) → r < 2 → b ≡ eqb r 1 → count_set (b ∷ bs) ≡ r + count_set bs
unfolding count_set
count_cons true bs zero l e = absurd (true≢false e)
count_cons true bs (suc zero) l e = omega arith
count_cons true bs (suc (suc r)) l e = omega arith
count_cons false bs zero l e = omega arith
count_cons false bs (suc zero) l e = absurd (false≢true e)
count_cons false bs (suc (suc r)) l e = omega arith

count_length : (l : List Bool) → count_set l ≤ length l
unfolding count_set
count_length [] = omega arith
count_length (true ∷ l) = omega (arith, count_length l)
count_length (false ∷ l) = omega (arith, count_length l)

-- a table of a word's digits has as many set as the word
count_word : (n : ℕ) (f : ℕ → Bool) (i w : ℕ) → w < 2 ^ n → ((j : ℕ) → j < n → f (i + j) ≡ eqb (bit w j) 1)
    → count_set (marks_from n f i) ≡ ones w
unfolding marks_from count_set bit
count_word zero f i w h d = omega (arith, ones-le 0 w h)
count_word (suc n) f i w h d =
    let z : i + 0 ≡ i = omega arith in
    let u : w / 1 % 2 ≡ w % 2 = omega arith in
    let first : f i ≡ eqb (w % 2) 1 = rw (z, u) at (d 0 (omega arith)) in
    omega (
      arith,
      ones_step w,
      count_cons (f i) (marks_from n f (suc i)) (w % 2) (omega arith) first,
      count_word n f (suc i) (w / 2) (omega (arith, pow-suc 2 n)) later,
    )
  where
    later : (j : ℕ) → j < n → f (suc i + j) ≡ eqb (bit (w / 2) j) 1
    later j l =
        let e : suc i + j ≡ i + suc j = omega arith in
        ap f e ∙ d (suc j) (omega arith) ∙ ap (λ x. eqb x 1) (bit_suc w j)

-- the words together have as many digits 1 as marks are set
pub count_marks : (ws : List ℕ) → length ws ≡ 4 → ((k : ℕ) → Fits w64 (get_or ws k 0)) → sum_by ones ws ≡ count_set (marks ws)
unfolding marks
count_marks (a ∷ b ∷ c ∷ d ∷ []) n fit =
    let f = marked (a ∷ b ∷ c ∷ d ∷ []) in
    omega (
      arith,
      count_split 64 192 f 0,
      count_split 64 128 f 64,
      count_split 64 64 f 128,
      count_word 64 f 0 a (fit 0).fits (place (a ∷ b ∷ c ∷ d ∷ []) 0),
      count_word 64 f 64 b (fit 1).fits (place (a ∷ b ∷ c ∷ d ∷ []) 1),
      count_word 64 f 128 c (fit 2).fits (place (a ∷ b ∷ c ∷ d ∷ []) 2),
      count_word 64 f 192 d (fit 3).fits (place (a ∷ b ∷ c ∷ d ∷ []) 3),
    )
count_marks [] n fit = absurd (omega arith)
count_marks (a ∷ []) n fit = absurd (omega arith)
count_marks (a ∷ b ∷ []) n fit = absurd (omega arith)
count_marks (a ∷ b ∷ c ∷ []) n fit = absurd (omega arith)
count_marks (a ∷ b ∷ c ∷ d ∷ e ∷ ws) n fit = absurd (omega arith)

-- ---- the first that is set

first_hit : (l : List Bool) (m : ℕ) → ((j : ℕ) → j < m → get_or l j false ≡ false) → get_or l m false ≡ true → first_set l ≡ m
unfolding first_set
first_hit [] m h t = absurd (false≢true t)
first_hit (true ∷ l) zero h t = refl
first_hit (true ∷ l) (suc m) h t = absurd (true≢false (h 0 (omega arith)))
first_hit (false ∷ l) zero h t = absurd (false≢true t)
first_hit (false ∷ l) (suc m) h t = ap suc (first_hit l m (λ j b. h (suc j) (omega arith)) t)

first_skip : (l : List Bool) (m : ℕ) → m ≤ length l → ((j : ℕ) → j < m → get_or l j false ≡ false) → first_set l ≡ m + first_set (drop m l)
unfolding first_set
first_skip l zero b h = omega arith
first_skip [] (suc m) b h = absurd (omega arith)
first_skip (true ∷ l) (suc m) b h = absurd (true≢false (h 0 (omega arith)))
first_skip (false ∷ l) (suc m) b h = omega (arith, first_skip l m (omega arith) (λ j c. h (suc j) (omega arith)))

first_le : (l : List Bool) → first_set l ≤ length l
unfolding first_set
first_le [] = omega arith
first_le (true ∷ l) = omega arith
first_le (false ∷ l) = omega (arith, first_le l)

first_set_lem : (l : List Bool) → first_set l < length l → get_or l (first_set l) false ≡ true
unfolding first_set
first_set_lem [] h = absurd (omega arith)
first_set_lem (true ∷ l) h = refl
first_set_lem (false ∷ l) h = first_set_lem l (omega arith)

first_below : (l : List Bool) (j : ℕ) → j < first_set l → get_or l j false ≡ false
unfolding first_set
first_below [] j h = refl
first_below (true ∷ l) j h = absurd (omega arith)
first_below (false ∷ l) zero h = refl
first_below (false ∷ l) (suc j) h = first_below l j (omega arith)

-- ---- For callers: what the contracts say of one mark

pub marked_at : (ws : List ℕ) (i : ℕ) → i < 256 → get_or (marks ws) i false ≡ marked ws i
unfolding marks
marked_at ws i h = tab_at 256 (marked ws) 0 i h ∙ ap (marked ws) (omega arith)

pub marked_set_same : (ws r : List ℕ) (i : ℕ) (b : Bool) → marks r ≡ set (marks ws) i b → i < 256 → marked r i ≡ b
marked_set_same ws r i b e h =
    let l : i < length (marks ws) = rw length_marks h in
    sym (marked_at r i h) ∙ rw e (get_or-set_same (marks ws) i b false l)

pub marked_set_other : (ws r : List ℕ) (i : ℕ) (b : Bool) → marks r ≡ set (marks ws) i b → (j : ℕ) → j < 256 → j ≢ i → marked r j ≡ marked ws j
marked_set_other ws r i b e j h n = sym (marked_at r j h) ∙ rw e (get_or-set_other (marks ws) i j b false n) ∙ marked_at ws j h

-- the equations leave no choice: four words are told by their marks
pub marks_tell : (ws vs : List ℕ) → length ws ≡ 4 → length vs ≡ 4 → ((k : ℕ) → get_or ws k 0 < 2 ^ 64) → ((k : ℕ) → get_or vs k 0 < 2 ^ 64)
    → marks ws ≡ marks vs → ws ≡ vs
marks_tell ws vs lw lv fw fv e =
    ext_get_or 0 ws vs (lw ∙ sym lv) (λ k h. bits_tell 64 (get_or ws k 0) (get_or vs k 0) (fw k) (fv k) (λ i l. same k i (rw lw at h) l))
  where
    digit : (a b : ℕ) → a < 2 → b < 2 → eqb a 1 ≡ eqb b 1 → a ≡ b
    digit zero zero p q t = refl
    digit zero (suc zero) p q t = absurd (false≢true t)
    digit (suc zero) zero p q t = absurd (true≢false t)
    digit (suc zero) (suc zero) p q t = refl
    digit zero (suc (suc b)) p q t = omega arith
    digit (suc zero) (suc (suc b)) p q t = omega arith
    digit (suc (suc a)) b p q t = omega arith

    same : (k i : ℕ) → k < 4 → i < 64 → bit (get_or ws k 0) i ≡ bit (get_or vs k 0) i
    same k i h l =
        let u : k * 64 + i < 256 = omega arith in
        let t : marked ws (k * 64 + i) ≡ marked vs (k * 64 + i) = sym (marked_at ws (k * 64 + i) u) ∙ rw e (marked_at vs (k * 64 + i) u) in
        digit (bit (get_or ws k 0) i) (bit (get_or vs k 0) i) (bit_lt _ _) (bit_lt _ _) (sym (place ws k i l) ∙ t ∙ place vs k i l)

pub count_le : (ws : List ℕ) → count_set (marks ws) ≤ 256
count_le ws = omega (arith, count_length (marks ws), length_marks ws)

from_at : (ws : List ℕ) (at j : ℕ) → at + j < 256 → get_or (drop at (marks ws)) j false ≡ marked ws (at + j)
from_at ws at j h = get_or-drop at (marks ws) j false ∙ marked_at ws (at + j) h

from_length : (ws : List ℕ) (at : ℕ) → length (drop at (marks ws)) ≡ 256 - at
from_length ws at = rw (length-drop, length_marks)

-- r is the first mark set at or after `from`, or 256 where there is none
pub record NextMark (ws : List ℕ) (from r : ℕ) : Type 0 where
  pub after : from ≤ r
  pub within : r ≤ 256
  pub here : r < 256 → marked ws r ≡ true
  pub before : (j : ℕ) → from ≤ j → j < r → marked ws j ≡ false

pub next_is : (ws : List ℕ) (from r : ℕ) → from ≤ 256 → r ≡ from + first_set (drop from (marks ws)) → NextMark ws from r
next_is ws from r h e =
    let l = drop from (marks ws) in
    let n : length l ≡ 256 - from = from_length ws from in
    let m : first_set l ≤ length l = first_le l in
    record {
      after = omega arith;
      within = omega arith;
      here = λ b. rw e (sym (from_at ws from (first_set l) (omega arith)) ∙ first_set_lem l (omega arith));
      before = λ j a b.
          let u : from + (j - from) ≡ j = omega arith in
          rw u at (sym (from_at ws from (j - from) (omega arith)) ∙ first_below l (j - from) (omega arith));
    }

-- ---- For the functions: what each return and each turn asks

-- past the last word no mark is set
pub none_past : (ws : List ℕ) (i : ℕ) → length ws ≡ 4 → 256 ≤ i → false ≡ marked ws i
unfolding marked
none_past ws i e h =
    let l : length ws ≤ i / 64 = omega arith in
    rw (get_or-eq_default ws 0 l, bit_zero)

-- past the last mark a store changes nothing
pub set_past : (ws : List ℕ) (i : ℕ) (b : Bool) → 256 ≤ i → marks ws ≡ set (marks ws) i b
set_past ws i b h =
    let l : length (marks ws) ≤ i = rw length_marks h in
    sym (set_out (marks ws) i b l)

-- a word v stored for mark i: digit i % 64 says b, and no other digit is changed
stored : (ws : List ℕ) (i v : ℕ) (b : Bool) → length ws ≡ 4 → i < 256 → eqb (bit v (i % 64)) 1 ≡ b
    → ((j : ℕ) → j < 64 → j ≢ i % 64 → bit v j ≡ bit (get_or ws (i / 64) 0) j) → marks (set ws (i / 64) v) ≡ set (marks ws) i b
unfolding marked
stored ws i v b n h same other = ext_get_or false (marks after) (set (marks ws) i b) (length_marks after ∙ sym whole) each
  where
    after : List ℕ
    after = set ws (i / 64) v

    whole : length (set (marks ws) i b) ≡ 256
    whole = rw length-set (length_marks ws)

    own : get_or after (i / 64) 0 ≡ v
    own = get_or-set_same ws (i / 64) v 0 (omega arith)

    elsewhere : (j : ℕ) → j ≢ i → Dec (j / 64 ≡ i / 64) → marked after j ≡ marked ws j
    elsewhere j d (yes e) = rw (e, own, other (j % 64) (omega arith) (omega arith))
    elsewhere j d (no e) = rw (get_or-set_other ws (i / 64) (j / 64) v 0 e)

    here : marked after i ≡ b
    here = rw own same

    go : (j : ℕ) → j < 256 → Dec (j ≡ i) → marked after j ≡ get_or (set (marks ws) i b) j false
    go j u (yes e) =
        let l : i < length (marks ws) = rw length_marks h in
        rw e (here ∙ sym (get_or-set_same (marks ws) i b false l))
    go j u (no e) = elsewhere j e (ℕ_discrete (j / 64) (i / 64)) ∙ sym (get_or-set_other (marks ws) i j b false e ∙ marked_at ws j u)

    each : (j : ℕ) → j < length (marks after) → get_or (marks after) j false ≡ get_or (set (marks ws) i b) j false
    each j l =
        let u : j < 256 = rw length_marks at l in
        marked_at after j u ∙ go j u (ℕ_discrete j i)

-- 1 shifted to a digit of a word is a power of two
one_shl : (s : ℕ) → s < 64 → 1 * 2 ^ s % 2 ^ 64 ≡ 2 ^ s
one_shl s h = shl_exact 1 s 64 (omega arith) (omega arith) ∙ omega arith

pub mark_stored : (ws : List ℕ) (i : ℕ) → length ws ≡ 4 → i < 256
    → marks (set ws (i / 64) (bit_or (get_or ws (i / 64) 0) (1 * 2 ^ (i % 64) % 2 ^ 64))) ≡ set (marks ws) i true
mark_stored ws i n h =
    let w = get_or ws (i / 64) 0 in
    let s = i % 64 in
    rw (one_shl s (omega arith))
    (stored ws i (bit_or w (2 ^ s)) true n h
    (eq-eqb (bit (bit_or w (2 ^ s)) s) 1 (omega (arith, or_bit w (2 ^ s) s, pow_same s, bit_lt w s)))
    (λ j l d. omega (arith, or_bit w (2 ^ s) j, pow_other s j d)))

pub unmark_stored : (ws : List ℕ) (i : ℕ) → length ws ≡ 4 → i < 256
    → marks (set ws (i / 64) (bit_and (get_or ws (i / 64) 0) (2 ^ 64 - 1 - 1 * 2 ^ (i % 64) % 2 ^ 64))) ≡ set (marks ws) i false
unmark_stored ws i n h =
    let w = get_or ws (i / 64) 0 in
    let s = i % 64 in
    let m = 2 ^ 64 - 1 - 2 ^ s in
    let low : 2 ^ s < 2 ^ 64 = pow-lt {j = 64} (omega arith) in
    rw (one_shl s (omega arith))
    (stored ws i (bit_and w m) false n h
    (ne_eqb (bit (bit_and w m) s) 1 (λ e. omega (arith, and_bit w m s, pow_same s, not_bit 64 (2 ^ s) s low (omega arith), e)))
    (λ j l d. omega (arith, and_bit w m j, pow_other s j d, bit_lt w j, not_bit 64 (2 ^ s) j low l)))

-- What is found from `at` on, in the word of `at`: the low digit of what is left of it, or else what is found from the next word on.
pub next_hit : (ws : List ℕ) (at : ℕ) → at < 256 → get_or ws (at / 64) 0 < 2 ^ 64 → 0 < get_or ws (at / 64) 0 / 2 ^ (at % 64)
    → at + count_trailing_zeros 64 (get_or ws (at / 64) 0 / 2 ^ (at % 64)) ≡ at + first_set (drop at (marks ws))
next_hit ws at h f p = ap (λ x. at + x) (sym (first_hit (drop at (marks ws)) t below here))
  where
    w : ℕ
    w = get_or ws (at / 64) 0

    rest : ℕ
    rest = w / 2 ^ (at % 64)

    t : ℕ
    t = count_trailing_zeros 64 rest

    low : bit rest t ≡ 1
    low = tz_set 64 rest p (lt_of_le_of_lt (shr_le w (at % 64)) f)

    inside : Dec (64 ≤ at % 64 + t) → at % 64 + t < 64
    inside (yes l) = omega (arith, low, bit_shr w (at % 64) t, bit_past w 64 (at % 64 + t) f l)
    inside (no l) = omega arith

    room : at % 64 + t < 64
    room = inside (dec_le 64 (at % 64 + t))

    below : (j : ℕ) → j < t → get_or (drop at (marks ws)) j false ≡ false
    below j l =
        let z : bit rest j ≡ 0 = tz_below 64 rest j l in
        from_at ws at j (omega (arith, room)) ∙ place_from ws at j (omega (arith, room)) ∙ ap (λ x. eqb x 1) z

    here : get_or (drop at (marks ws)) t false ≡ true
    here = from_at ws at t (omega (arith, room)) ∙ place_from ws at t room ∙ ap (λ x. eqb x 1) low

pub next_skip : (ws : List ℕ) (at : ℕ) → at < 256 → get_or ws (at / 64) 0 / 2 ^ (at % 64) ≡ 0
    → (at / 64 + 1) * 64 + first_set (drop ((at / 64 + 1) * 64) (marks ws)) ≡ at + first_set (drop at (marks ws))
next_skip ws at h z =
    let m = 64 - at % 64 in
    let e : (at / 64 + 1) * 64 ≡ at + m = omega arith in
    let n : m ≤ length (drop at (marks ws)) = rw from_length (omega arith) in
    rw e (omega (arith, rw drop-drop at (first_skip (drop at (marks ws)) m n below)))
  where
    below : (j : ℕ) → j < 64 - at % 64 → get_or (drop at (marks ws)) j false ≡ false
    below j l =
        let d : bit (get_or ws (at / 64) 0 / 2 ^ (at % 64)) j ≡ 0 = rw z (bit_zero j) in
        from_at ws at j (omega arith) ∙ place_from ws at j (omega arith) ∙ ap (λ x. eqb x 1) d

-- past the marks the search ends where it stands
pub next_done : (ws : List ℕ) (at : ℕ) → 256 ≤ at → at + first_set (drop at (marks ws)) ≡ at
unfolding first_set
next_done ws at h =
    let l : length (marks ws) ≤ at = rw length_marks h in
    rw (drop_of_length-le (marks ws) l) (omega arith)
