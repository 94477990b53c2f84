-- Laws of what a heap contains. Assumes nothing.
use mathlib.Core.Path.{◌≡◌, ◌∙◌}
use mathlib.Core.Logic.{◌≢◌}
use mathlib.Core.Bool.{Bool, true, false}
use Prim.Native.Nat.{ℕ, suc, ◌<◌}
use native.Mathlib.Omega.{arith}
use Rattle.heap.specs.Heap.{Heap, item_at, Contains, Put}
use Rattle.heap.specs.InnerMoves.{Exchanged, Same, Appended, Cut}

module _ (h : Heap) (i j : ℕ) (r : Heap) (x : Exchanged h i j r) where
  -- the same items are there
  pub kept : i < h.size → j < h.size → i ≢ j → (m : ℕ → Bool) → Contains m h → Contains m r
  kept il jl ne m c = grind arith

  pub exchanged_same : i < h.size → j < h.size → i ≢ j → Same h r
  exchanged_same il jl ne = record { size = x.size; keeps = kept il jl ne }

pub same_trans : (a b c : Heap) → Same a b → Same b c → Same a c
same_trans a b c x y = record { size = y.size ∙ x.size; keeps = λ m z. y.keeps m (x.keeps m z) }

-- an item at a new last place
pub appended : (h : Heap) (item : ℕ) (r : Heap) → Appended h item r → h.size < 256 → (m s : ℕ → Bool) → Contains m h → m item ≡ false → Put m item true s → Contains s r
appended h item r x room m s c e p = grind arith

-- the last place is gone
pub cut_contains :
    (h : Heap) (last : ℕ) (r : Heap) → Cut h last r → suc last ≡ h.size → (m s : ℕ → Bool) → Contains m h → Put m (item_at h last) false s → Contains s r
cut_contains h last r x z m s c p = grind arith
