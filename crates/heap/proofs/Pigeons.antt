-- A heap that lacks one of the 256 numbers has room for it. Assumes nothing.
use mathlib.Core.Path.{◌≡◌, refl, sym, ap, ◌∙◌}
use mathlib.Core.Bool.{Bool, true, false, false≢true}
use Prim.Native.Nat.{ℕ, zero, suc, ◌<◌}
use native.Mathlib.Omega.{arith}
use Rattle.landlord.specs.Fold.{sum_to}
use Rattle.heap.specs.Heap.{Heap, item_at, place_of, Contains}
use Rattle.heap.proofs.Spots.{count_of, without, without_count, without_other, differ}

-- of the numbers below k all are numbers
count_all : (k : ℕ) → count_of (λ _. true) k ≡ k
unfolding sum_to
count_all zero = refl
count_all (suc k) = omega (arith, count_all k)

pub not_full : (m : ℕ → Bool) (h : Heap) (i : ℕ) → Contains m h → ((j : ℕ) → item_at h j < 256) → i < 256 → m i ≡ false → h.size < 256
not_full m h i c bytes l e =
    omega (
      arith,
      differ 256 h.size (item_at h) (without (λ _. true) i) (λ j _. bytes j)
          (λ j b. without_other (λ _. true) i (item_at h j) (λ q. false≢true (sym e ∙ ap m (sym q) ∙ c.only j b)))
          (λ a b x y t. sym (c.placed a x) ∙ ap (place_of h) t ∙ c.placed b y),
      without_count (λ _. true) 256 i l refl,
      count_all 256,
    )
