-- The rule of a table, proved once for all its entries: a test over the numbers below n, which is computed, and one law that reads it
-- off at each of them. Assumes nothing.
use mathlib.Core.Path.{◌≡◌}
use mathlib.Core.Bool.{Bool, true, ◌&&◌, and-eq-true_iff}
use mathlib.Core.List.{List}
use Prim.Native.Nat.{ℕ, zero, suc, ◌<◌}
use native.Mathlib.Decide.{ℕ_discrete}
use native.Mathlib.Omega.{arith}
use borrow.Author.Tests.{eqb-true}
use lib.Dec.{eqb}
use lib.ListN.{get_or}

-- a test passes at each number below n
abbrev pub every : (ℕ → Bool) → ℕ → Bool
every f zero = true
every f (suc n) = f n && every f n

pub every_at : (f : ℕ → Bool) (n : ℕ) → every f n ≡ true → (k : ℕ) → k < n → f k ≡ true
every_at f zero t k h = absurd (omega arith)
every_at f (suc n) t k h =
    let both : (f n ≡ true) × (every f n ≡ true) = (and-eq-true_iff (f n) (every f n)).0 t in
    go both.0 (ℕ_discrete k n) (every_at f n both.1 k)
  where
    go : f n ≡ true → Dec (k ≡ n) → (k < n → f k ≡ true) → f k ≡ true
    go last (yes e) below = rw e last
    go last (no e) below = below (omega arith)

-- a table of the values that f has at the numbers below n
abbrev pub tabulates : List ℕ → (ℕ → ℕ) → ℕ → Bool
tabulates xs f n = every (λ k. eqb (get_or xs k 0) (f k)) n

pub entry_is : (xs : List ℕ) (f : ℕ → ℕ) (n : ℕ) → tabulates xs f n ≡ true → (k : ℕ) → k < n → get_or xs k 0 ≡ f k
entry_is xs f n t k h = eqb-true (get_or xs k 0) (f k) (every_at (λ j. eqb (get_or xs j 0) (f j)) n t k h)
