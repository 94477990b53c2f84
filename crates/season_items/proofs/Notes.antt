-- Laws of numbers noted in a slice: a few of them put at a place, and the steps so noted. Assumes nothing.
use mathlib.Core.Path.{◌≡◌, refl, sym, ap, ◌∙◌}
use mathlib.Core.List.{List, [], ◌∷◌, ◌++◌, append_assoc}
use Prim.Native.Nat.{ℕ, zero, suc, ◌+◌, ◌*◌, ◌≤◌, ◌<◌}
use borrow.Rule.Slice.PartMut.{put_mid}
use Rattle.std.proofs.lemmas.Slice.{take-put_mid_below, take-put_mid, drop-put_mid}
use native.Mathlib.Omega.{arith}
use native.Mathlib.Nat.{mul-add, mul-one}
use lib.ListN.{length, take, drop, get_or}
use lib.Seq.{drop-drop, sets, sets-eq, get_or-take}
use Rattle.types.specs.declared.Step.{Step}
use Rattle.types.specs.declared.Step.TheVariants.{Flush}
use Rattle.types.specs.Types.{numbers_from, numbers_of}
use Rattle.landlord.specs.CallNumbers.{call_numbers, numbers_behind}
use Rattle.season_items.specs.Inner.{put_at}

-- as many numbers copied into a part of a slice
pub put_part : (l : List ℕ) (i k : ℕ) (xs : List ℕ) → k ≡ length xs → put_mid i k l xs ≡ put_at l i xs
unfolding put_at
put_part l i k xs e = rw (drop-drop k i l, e)

-- and stored one by one
pub put_sets : (l : List ℕ) (i : ℕ) (xs : List ℕ) → i + length xs ≤ length l → sets l i xs ≡ put_at l i xs
unfolding put_at
put_sets l i xs h = sets-eq xs l i h ∙ append_assoc (take i l) xs (drop (i + length xs) l)

-- what stands before them is as it was
pub put_before : (l : List ℕ) (i : ℕ) (xs : List ℕ) (m : ℕ) → i ≤ length l → m ≤ i → take m (put_at l i xs) ≡ take m l
put_before l i xs m h b = rw (← (put_part l i (length xs) xs refl)) (take-put_mid_below i (length xs) l xs m b h)

-- Entries of `width` numbers each: behind n of them one more is noted.
pub noted_more :
    (width n : ℕ) (l old xs : List ℕ) →
    length xs ≡ width →
    width * n + width ≤ length l →
    take (width * n) l ≡ old →
    take (width * (n + 1)) (put_at l (width * n) xs) ≡ old ++ xs
noted_more width n l old xs e h f =
    let a : width * (n + 1) ≡ width * n + length xs = rw (mul-add, mul-one) (omega arith) in
    rw (← (put_part l (width * n) (length xs) xs refl), take-put_mid (width * n) (length xs) l xs (width * (n + 1)) a (omega arith), f)

-- and past that one the list is as it was
pub noted_past :
    (width n : ℕ) (l xs : List ℕ) →
    length xs ≡ width →
    width * n + width ≤ length l →
    drop (width * (n + 1)) (put_at l (width * n) xs) ≡ drop (width * (n + 1)) l
noted_past width n l xs e h =
    let a : width * (n + 1) ≡ width * n + length xs = rw (mul-add, mul-one) (omega arith) in
    rw (← (put_part l (width * n) (length xs) xs refl)) (drop-put_mid (width * n) (length xs) l xs (width * (n + 1)) (omega arith) (omega arith) refl)

pub calls_more : (steps : List Step) (s : Step) → call_numbers (steps ++ (s ∷ [])) ≡ call_numbers steps ++ call_numbers (s ∷ [])
unfolding call_numbers
calls_more [] s = refl
calls_more (t ∷ steps) s = rw (calls_more steps s)

-- step s is noted by its own numbers
step_numbers : (steps : List Step) (s : ℕ) → s < length steps → numbers_behind (call_numbers steps) (7 * s) ≡ numbers_of (get_or steps s Flush)
unfolding call_numbers
step_numbers [] s l = absurd (let z : s < 0 = l in omega arith)
step_numbers (x ∷ steps) zero l = refl
step_numbers (x ∷ steps) (suc s) l =
    (λ i. numbers_from (behind 1 i) (behind 2 i) (behind 3 i) (behind 4 i) (behind 5 i) (behind 6 i)) ∙ step_numbers steps s (omega arith)
  where
    behind : (k : ℕ) → get_or (call_numbers (x ∷ steps)) (7 * suc s + k) 0 ≡ get_or (call_numbers steps) (7 * s + k) 0
    behind k =
        let e : 7 * suc s + k ≡ suc (suc (suc (suc (suc (suc (suc (7 * s + k))))))) = omega arith in
        ap (λ (t : ℕ). get_or (call_numbers (x ∷ steps)) t 0) e

-- and so in a slice that has them in front
pub noted_step :
    (calls : List ℕ) (steps : List Step) (s : ℕ) →
    take (7 * length steps) calls ≡ call_numbers steps →
    s < length steps →
    numbers_behind calls (7 * s) ≡ numbers_of (get_or steps s Flush)
noted_step calls steps s e l =
    (λ i. numbers_from (front 1 (omega arith) i) (front 2 (omega arith) i) (front 3 (omega arith) i) (front 4 (omega arith) i) (front 5 (omega arith) i) (front 6 (omega arith) i))
    ∙ step_numbers steps s l
  where
    front : (k : ℕ) → k < 7 → get_or calls (7 * s + k) 0 ≡ get_or (call_numbers steps) (7 * s + k) 0
    front k m = sym (get_or-take (7 * length steps) calls (7 * s + k) 0 (omega arith)) ∙ ap (λ (t : List ℕ). get_or t (7 * s + k) 0) e
