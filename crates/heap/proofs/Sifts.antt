-- One turn of each sifting, and its end. Assumes nothing.
use mathlib.Core.Logic.{◌≢◌}
use mathlib.Core.Bool.{true, false}
use mathlib.Core.List.{List}
use Prim.Native.Nat.{ℕ}
use native.Mathlib.Omega.{arith}
use Rattle.heap.specs.Heap.{Heap, weight_at, above}
use Rattle.heap.specs.InnerMoves.{Exchanged, Rises, Lowest, Climbing, Sinking, Same, Sifted}

module _ (keys : List ℕ) (q r : Heap) (i : ℕ) where
  -- the item rises by one
  pub climbs : Climbing keys q i → Rises (weight_at keys q) i true → Exchanged q i (above i) r → Climbing keys r (above i)
  climbs at ri x = grind arith

  -- the item sinks by one
  pub sinks : (next : ℕ) → Sinking keys q i → Lowest (weight_at keys q) q.size i next → next ≢ i → Exchanged q i next r → Sinking keys r next
  sinks next at lo ne x = grind arith

module _ (keys : List ℕ) (h q : Heap) (i : ℕ) where
  pub climbed : Climbing keys q i → Same h q → Rises (weight_at keys q) i false → Sifted keys h q
  climbed at so ri = grind arith
