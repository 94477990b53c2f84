-- The laws of two texts compared: they are one just if they have the same bytes (same_refl, same_true), and the library's `==` on bytes
-- compares them so (same_pointwise). Assumes nothing.
use mathlib.Core.Path.{◌≡◌, refl, sym, ap, ◌∙◌}
use mathlib.Core.Bool.{Bool, true, false, ◌&&◌, and-eq-true_iff, false≢true}
use mathlib.Core.List.{List, [], ◌∷◌}
use Prim.Native.Nat.{ℕ, suc}
use borrow.Author.Tests.{eqb-true, eq-eqb}
use lib.Dec.{eqb}
use lib.ListN.{length}
use native.Mathlib.Omega.{arith}
use Rattle.std.proofs.lemmas.Bool.Decides.{nat_tests}
use Rattle.std.proofs.Math.Bool.{and-false}
use Rattle.std.specs.Cmp.Lexicographic.{pointwise}
use Rattle.decimal.specs.Decimal.{same_text}

-- a text is one with itself
pub same_refl : (s : List ℕ) → same_text s s ≡ true
unfolding same_text
same_refl [] = refl
same_refl (x ∷ s) = rw (eq-eqb x x refl) (same_refl s)

-- and with no other
pub same_true : (s t : List ℕ) → same_text s t ≡ true → s ≡ t
unfolding same_text
same_true [] [] h = refl
same_true [] (y ∷ t) h = absurd (false≢true h)
same_true (x ∷ s) [] h = absurd (false≢true h)
same_true (x ∷ s) (y ∷ t) h =
    let p = (and-eq-true_iff (eqb x y) (same_text s t)).0 h in
    let e = eqb-true x y p.0 in
    let f = same_true s t p.1 in
    cc

eqb_comm : (x y : ℕ) → eqb x y ≡ eqb y x
eqb_comm x y = grind (arith, nat_tests)

-- the order of the two does not matter
pub same_comm : (s t : List ℕ) → same_text s t ≡ same_text t s
unfolding same_text
same_comm [] [] = refl
same_comm [] (y ∷ t) = refl
same_comm (x ∷ s) [] = refl
same_comm (x ∷ s) (y ∷ t) = rw (eqb_comm x y, same_comm s t)

-- the library's `==` on bytes
pub same_pointwise : (s t : List ℕ) → pointwise eqb s t ≡ same_text s t
unfolding same_text
same_pointwise [] [] = refl
same_pointwise [] (y ∷ t) = refl
same_pointwise (x ∷ s) [] = refl
same_pointwise (x ∷ s) (y ∷ t) = rw (same_pointwise s t)

-- texts of two lengths differ
pub same_lengths : (s t : List ℕ) → (length s ≡ length t → ⊥) → false ≡ same_text s t
unfolding same_text
same_lengths [] [] h = absurd (h refl)
same_lengths [] (y ∷ t) h = refl
same_lengths (x ∷ s) [] h = refl
same_lengths (x ∷ s) (y ∷ t) h =
    sym (and-false (eqb x y)) ∙ ap (λ (b : Bool). eqb x y && b) (same_lengths s t (λ e. h (ap suc e)))
