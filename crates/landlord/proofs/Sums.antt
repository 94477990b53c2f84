-- Laws of the sum over the numbers below n: compared at each number, split, scaled, changed at one number.
-- Assumes nothing.
use mathlib.Core.Path.{◌≡◌, refl, sym, ap, ◌∙◌}
use mathlib.Core.Logic.{◌≢◌}
use Prim.Native.Nat.{ℕ, zero, suc, ◌+◌, ◌*◌, ◌≤◌, ◌<◌}
use native.Mathlib.Nat.{le_of_eq}
use native.Mathlib.Decide.{ℕ_discrete}
use native.Mathlib.Omega.{arith}
use Rattle.landlord.specs.Fold.{sum_to}

pub sum_le : (n : ℕ) (f g : ℕ → ℕ) → ((i : ℕ) → i < n → f i ≤ g i) → sum_to n f ≤ sum_to n g
unfolding sum_to
sum_le zero f g h = omega arith
sum_le (suc n) f g h = omega (arith, sum_le n f g (λ i l. h i (omega arith)), h n (omega arith))

pub sum_eq : (n : ℕ) (f g : ℕ → ℕ) → ((i : ℕ) → i < n → f i ≡ g i) → sum_to n f ≡ sum_to n g
sum_eq n f g h = omega (arith, sum_le n f g (λ i l. le_of_eq (h i l)), sum_le n g f (λ i l. omega (arith, h i l)))

pub sum_add : (n : ℕ) (f g : ℕ → ℕ) → sum_to n (λ i. f i + g i) ≡ sum_to n f + sum_to n g
unfolding sum_to
sum_add zero f g = omega arith
sum_add (suc n) f g = omega (arith, sum_add n f g)

pub sum_scale : (n k : ℕ) (f : ℕ → ℕ) → sum_to n (λ i. k * f i) ≡ k * sum_to n f
unfolding sum_to
sum_scale zero k f = omega arith
sum_scale (suc n) k f = omega (arith, sum_scale n k f)

pub sum_plus : (n k : ℕ) (f g : ℕ → ℕ) → sum_to n (λ i. f i + k * g i) ≡ sum_to n f + k * sum_to n g
sum_plus n k f g = omega (arith, sum_add n f (λ i. k * g i), sum_scale n k g)

pub sum_zero : (n : ℕ) (f : ℕ → ℕ) → ((i : ℕ) → i < n → f i ≡ 0) → sum_to n f ≡ 0
unfolding sum_to
sum_zero zero f h = omega arith
sum_zero (suc n) f h = omega (arith, sum_zero n f (λ i l. h i (omega arith)), h n (omega arith))

-- f is at most g at every number but v: the two values at v, crossed over, make up for that one
pub sum_but :
    (n v : ℕ) (f g : ℕ → ℕ)
    → v < n
    → ((i : ℕ) → i < n → i ≢ v → f i ≤ g i)
    → sum_to n f + g v ≤ sum_to n g + f v
unfolding sum_to
sum_but zero v f g l h = omega arith
sum_but (suc n) v f g l h = go (ℕ_discrete v n) (λ m. sum_but n v f g m (λ i b e. h i (omega arith) e))
  where
    go : Dec (v ≡ n) → (v < n → sum_to n f + g v ≤ sum_to n g + f v) → sum_to (suc n) f + g v ≤ sum_to (suc n) g + f v
    go (yes e) below = omega (arith, sum_le n f g (λ i b. h i (omega arith) (omega arith)), ap f e, ap g e)
    go (no e) below = omega (arith, below (omega arith), h n (omega arith) (omega arith))

-- f is g at every number but v
pub sum_change :
    (n v : ℕ) (f g : ℕ → ℕ)
    → v < n
    → ((i : ℕ) → i < n → i ≢ v → f i ≡ g i)
    → sum_to n f + g v ≡ sum_to n g + f v
sum_change n v f g l h =
    omega (
      arith,
      sum_but n v f g l (λ i b e. le_of_eq (h i b e)),
      sum_but n v g f l (λ i b e. omega (arith, h i b e)),
    )

-- a term is at most the sum
pub sum_term : (n i : ℕ) (f : ℕ → ℕ) → i < n → f i ≤ sum_to n f
sum_term n i f l = omega (arith, sum_but n i (λ j. 0) f l (λ j b e. omega arith))

-- f is at most g at every number but v, and there too once a and b are added
pub sum_but_with :
    (n v a b : ℕ) (f g : ℕ → ℕ)
    → v < n
    → f v + a ≤ g v + b
    → ((i : ℕ) → i < n → i ≢ v → f i ≤ g i)
    → sum_to n f + a ≤ sum_to n g + b
sum_but_with n v a b f g l here others = omega (arith, sum_but n v f g l others)

-- a sum that is 0 has no term that is more
pub sum_none : (n : ℕ) (f : ℕ → ℕ) → sum_to n f ≡ 0 → (i : ℕ) → i < n → f i ≡ 0
unfolding sum_to
sum_none zero f e i l = omega arith
sum_none (suc n) f e i l = go (ℕ_discrete i n) (λ m. sum_none n f (omega arith) i m)
  where
    go : Dec (i ≡ n) → (i < n → f i ≡ 0) → f i ≡ 0
    go (yes q) below = omega (arith, ap f q)
    go (no q) below = below (omega arith)

-- a longer sum, whose further terms are nothing
pub sum_longer :
    (n m : ℕ) (f g : ℕ → ℕ)
    → n ≤ m
    → ((i : ℕ) → i < n → g i ≡ f i)
    → ((i : ℕ) → n ≤ i → i < m → g i ≡ 0)
    → sum_to m g ≡ sum_to n f
unfolding sum_to
sum_longer zero zero f g l same none = refl
sum_longer (suc n) zero f g l same none = absurd (let z : suc n ≤ 0 = l in omega arith)
sum_longer n (suc m) f g l same none = go (ℕ_discrete n (suc m)) (λ b. sum_longer n m f g b same (λ i low high. none i low (omega arith)))
  where
    go : Dec (n ≡ suc m) → (n ≤ m → sum_to m g ≡ sum_to n f) → sum_to (suc m) g ≡ sum_to n f
    go (yes e) below = ap (λ (z : ℕ). sum_to z g) (sym e) ∙ sum_eq n g f same
    go (no e) below = omega (arith, below (omega arith), none m (omega arith) (omega arith))
