-- Folds over the numbers below n, with which the other files are written. Nothing here knows of caches.
-- Assumes nothing.
use mathlib.Core.{Bool.{Bool, cond}, List.{List, [], ◌∷◌}}
use Rattle.std.specs.Prelude.{ℕ, zero, suc, ◌+◌}

-- f 0 + f 1 + .. + f (n - 1)
unfoldable pub sum_to : ℕ → (ℕ → ℕ) → ℕ
sum_to zero f = 0
sum_to (suc n) f = sum_to n f + f n

-- f i, f (i + 1), .., n of them
unfoldable pub tab_from {ℓ} : {A : Type ℓ} → ℕ → (ℕ → A) → ℕ → List A
tab_from zero f i = []
tab_from (suc n) f i = f i ∷ tab_from n f (suc i)

-- the list f 0, f 1, .., f (n - 1)
abbrev pub tab {ℓ} : {A : Type ℓ} → ℕ → (ℕ → A) → List A
tab n f = tab_from n f 0

-- the last of 0, 1, .., n - 1 that beats the best before it, beginning with `none`
unfoldable pub best_to : (ℕ → ℕ → Bool) → ℕ → ℕ → ℕ
best_to beats none zero = none
best_to beats none (suc n) =
    let best = best_to beats none n in
    cond (beats n best) n best

-- the list folded from its head on
unfoldable pub fold {ℓ} : {A B : Type ℓ} → (B → A → B) → B → List A → B
fold f b [] = b
fold f b (a ∷ rest) = fold f (f b a) rest
