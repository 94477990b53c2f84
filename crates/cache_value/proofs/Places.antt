-- The struct stored and read place by place: one place more, and all of them. Assumes nothing.
use mathlib.Core.Path.{◌≡◌, refl, ap, ap₂, ◌∙◌}
use mathlib.Core.List.{List, [], ◌∷◌, ◌++◌, append-nil}
use mathlib.Core.Bool.{Bool, false}
use Prim.Native.Nat.{ℕ, zero, suc, ◌+◌, ◌<◌}
use native.Mathlib.Numerals.{add-one}
use native.Mathlib.Omega.{arith}
use lib.ListN.{length, take, drop, get_or, set, replicate, length-replicate, drop_of_length-le}
use lib.Seq.{take_all}
use Rattle.cache_state.specs.Cache.{Cache}
use Rattle.cache_state.specs.InnerView.{counts_of}
use Rattle.cache_state.specs.InnerWith.{with_catalog, with_slots, with_figures, with_queue}
use Rattle.layout.specs.InnerRows.{WholeArrays}
use Rattle.cache_value.specs.Inner.{first_of, places_by, places_to}

-- a value read into a cache that has been read so far
pub reads_on : {c d : Cache} {A : Type 0} {v w : A} (f : Cache → A → Cache) → v ≡ w → c ≡ d → f c v ≡ f d w
reads_on f e s = ap₂ f s e

-- ---- a list

module _ {A : Type 0} (z : A) where
  blanks : length (replicate 256 z) ≡ 256
  blanks = length-replicate {A = A} 256 z

  more : (n : ℕ) (xs ys : List A) → n < length xs → n < length ys → set (take n xs ++ drop n ys) n (get_or xs n z) ≡ take (suc n) xs ++ drop (suc n) ys
  more n [] ys h k = absurd (omega arith)
  more n (x ∷ xs) [] h k = absurd (omega arith)
  more zero (x ∷ xs) (y ∷ ys) h k = refl
  more (suc n) (x ∷ xs) (y ∷ ys) h k = ap (λ (l : List A). x ∷ l) (more n xs ys (omega arith) (omega arith))

  first_more : (n : ℕ) (xs : List A) → length xs ≡ 256 → n < 256 → set (first_of z n xs) n (get_or xs n z) ≡ first_of z (n + 1) xs
  unfolding first_of
  first_more n xs e l = rw add-one (more n xs (replicate 256 z) (omega arith) (omega (arith, blanks)))

  first_all : (xs : List A) → length xs ≡ 256 → first_of z 256 xs ≡ xs
  unfolding first_of
  first_all xs e = rw (take_all 256 xs (omega arith), drop_of_length-le (replicate 256 z) {i = 256} (omega (arith, blanks)), append-nil)

-- ---- a cache

module _ (c : Cache) (w : WholeArrays c) where
  places_same :
      {f h : List ℕ → List ℕ} {g k : List Bool → List Bool} →
      ((xs : List ℕ) → length xs ≡ 256 → f xs ≡ h xs) →
      ((xs : List Bool) → length xs ≡ 256 → g xs ≡ k xs) →
      places_by f g c ≡ places_by h k c
  places_same e d = λ j.
      with_queue
      (with_figures
      (with_slots
      (with_catalog c c.k c.n (e c.blocks w.blocks j) (e c.load w.load j) (e c.write w.write j) c.left)
      (d c.held w.held j) (e c.loadcredit w.loadcredit j) (e c.writecredit w.writecredit j) c.dirty)
      (e c.minutes w.minutes j) (e c.itemloads w.itemloads j) (e c.itemwritebacks w.itemwritebacks j) (counts_of c))
      c.level (e c.keys w.keys j) (e c.heap w.heap j) (e c.places w.places j) c.used

  -- one place more
  pub place_more : (i : ℕ) → i < 256 → places_by (λ xs. set (first_of 0 i xs) i (get_or xs i 0)) (λ xs. set (first_of false i xs) i (get_or xs i false)) c ≡ places_to (i + 1) c
  place_more i l = places_same (λ xs e. first_more 0 i xs e l) (λ xs e. first_more false i xs e l)

  -- and all of them
  pub place_all : (i : ℕ) → i ≡ 256 → places_to i c ≡ c
  place_all i e = ap (λ (n : ℕ). places_to n c) e ∙ places_same (first_all 0) (first_all false)
