-- The order of a heap, over the weights of its places: what it says of the root. Assumes nothing.
use mathlib.Core.Path.{◌≡◌}
use Prim.Native.Nat.{ℕ, zero, suc, ◌≤◌, ◌<◌}
use native.Mathlib.Omega.{arith}
use Rattle.heap.specs.Heap.{above, Ordered}

-- no item goes before the one at the root
pub root_least : (v : ℕ → ℕ) (n : ℕ) → Ordered v n → (j : ℕ) → j < n → v 0 ≤ v j
root_least v n ok j l = go j j l (omega arith)
  where
    go : (b j : ℕ) → j < n → j ≤ b → v 0 ≤ v j
    go zero j l m = let e : j ≡ 0 = omega arith in rw e (omega arith)
    go (suc b) zero l m = omega arith
    go (suc b) (suc j) l m = omega (arith, go b (above (suc j)) (omega arith) (omega arith), ok.each (suc j) (omega arith) l)
