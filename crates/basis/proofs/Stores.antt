-- Laws of stores one after the other: one place more, and what stands at a place. Assumes nothing.
use mathlib.Core.Path.{◌≡◌, refl, sym, ap, ◌∙◌}
use mathlib.Core.List.{List}
use Prim.Native.Nat.{ℕ, zero, suc, ◌+◌, ◌≤◌, ◌<◌}
use native.Mathlib.Numerals.{add-one}
use native.Mathlib.Nat.{le_refl}
use native.Mathlib.Decide.{ℕ_discrete}
use native.Mathlib.Omega.{arith}
use lib.ListN.{length, get_or, set, length-set}
use lib.Seq.{get_or-set_same, get_or-set_other, set-get_or}
use Rattle.basis.specs.InnerStores.{store_to}

pub store_start : (f : ℕ → ℕ) (xs : List ℕ) → store_to 0 f xs ≡ xs
unfolding store_to
store_start f xs = refl

pub store_more : (n : ℕ) (f : ℕ → ℕ) (xs : List ℕ) → store_to (n + 1) f xs ≡ set (store_to n f xs) n (f n)
unfolding store_to
store_more n f xs = rw add-one

pub store_length : (n : ℕ) (f : ℕ → ℕ) (xs : List ℕ) → length (store_to n f xs) ≡ length xs
unfolding store_to
store_length zero f xs = refl
store_length (suc n) f xs = length-set (store_to n f xs) n (f n) ∙ store_length n f xs

pub store_past : (n : ℕ) (f : ℕ → ℕ) (xs : List ℕ) (i : ℕ) → n ≤ i → get_or (store_to n f xs) i 0 ≡ get_or xs i 0
unfolding store_to
store_past zero f xs i l = refl
store_past (suc n) f xs i l = get_or-set_other (store_to n f xs) n i (f n) 0 (omega arith) ∙ store_past n f xs i (omega arith)

-- what stands at a place already need not be stored
pub store_skip : (n : ℕ) (f : ℕ → ℕ) (xs : List ℕ) → f n ≡ get_or xs n 0 → store_to n f xs ≡ store_to (n + 1) f xs
store_skip n f xs e =
    sym (store_more n f xs ∙ ap (set (store_to n f xs) n) (e ∙ sym (store_past n f xs n (le_refl n))) ∙ set-get_or (store_to n f xs) n 0)

pub store_at : (n : ℕ) (f : ℕ → ℕ) (xs : List ℕ) (i : ℕ) → n ≤ length xs → i < n → get_or (store_to n f xs) i 0 ≡ f i
unfolding store_to
store_at zero f xs i l b = absurd (let z : i < 0 = b in omega arith)
store_at (suc n) f xs i l b = go (ℕ_discrete i n) (λ m. store_at n f xs i (omega arith) m)
  where
    last : get_or (set (store_to n f xs) n (f n)) n 0 ≡ f n
    last = get_or-set_same (store_to n f xs) n (f n) 0 (let e : length (store_to n f xs) ≡ length xs = store_length n f xs in omega arith)

    go : Dec (i ≡ n) → (i < n → get_or (store_to n f xs) i 0 ≡ f i) → get_or (set (store_to n f xs) n (f n)) i 0 ≡ f i
    go (yes e) below = ap (λ (j : ℕ). get_or (set (store_to n f xs) n (f n)) j 0) e ∙ last ∙ ap f (sym e)
    go (no e) below = get_or-set_other (store_to n f xs) n i (f n) 0 e ∙ below (omega arith)
