-- Stores into a list, one place after the other. Nothing here knows of caches. Assumes nothing.
use Rattle.std.specs.Prelude.{List, ℕ, zero, suc, set}

-- the list with f i stored at each place i below n
unfoldable pub store_to : ℕ → (ℕ → ℕ) → List ℕ → List ℕ
store_to zero f xs = xs
store_to (suc n) f xs = set (store_to n f xs) n (f n)
