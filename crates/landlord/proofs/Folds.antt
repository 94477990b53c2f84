-- Laws of the lists and folds of specs/Fold.antt: a table read at a place, tables that agree, the best of a range, a fold
-- over two lists joined. Assumes nothing.
use mathlib.Core.Path.{◌≡◌, refl, sym, ap, ◌∙◌}
use mathlib.Core.Logic.{◌≢◌}
use mathlib.Core.Bool.{Bool, true, false, cond, false≢true}
use mathlib.Core.List.{List, [], ◌∷◌, ◌++◌}
use Prim.Native.Nat.{ℕ, zero, suc, ◌+◌, ◌≤◌, ◌<◌}
use native.Mathlib.Nat.{le_refl}
use lib.Dec.{eqb, ltb}
use borrow.Author.Tests.{ltb-true, ltb-false, eqb-true, eqb-false}
use native.Mathlib.Omega.{arith}
use native.Mathlib.Decide.{ℕ_discrete}
use lib.ListN.{length, get_or, set, get_or-eq_default, length-set}
use lib.Seq.{ext_get_or, get_or-set_same, get_or-set_other}
use Rattle.landlord.specs.Fold.{tab, tab_from, best_to, fold}

-- what holds of both branches of a test, of each where the test comes out so, holds of the choice
pub either : {A : Type 0} (P : A → Type 0) (t : Bool) (x y : A) → (t ≡ true → P x) → (t ≡ false → P y) → P (cond t x y)
either P t x y f g = grind arith

module _ {ℓ} {A : Type ℓ} where
  tab_from_length : (n : ℕ) (f : ℕ → A) (i : ℕ) → length (tab_from n f i) ≡ n
  unfolding tab_from
  tab_from_length zero f i = refl
  tab_from_length (suc n) f i = ap suc (tab_from_length n f (suc i))

  tab_from_at : (n : ℕ) (f : ℕ → A) (i j : ℕ) (d : A) → j < n → get_or (tab_from n f i) j d ≡ f (i + j)
  unfolding tab_from
  tab_from_at zero f i j d l = absurd (let z : j < 0 = l in omega arith)
  tab_from_at (suc n) f i zero d l = ap f (omega arith)
  tab_from_at (suc n) f i (suc j) d l = tab_from_at n f (suc i) j d (omega arith) ∙ ap f (omega arith)

  pub tab_length : (n : ℕ) (f : ℕ → A) → length (tab n f) ≡ n
  tab_length n f = tab_from_length n f 0

  pub tab_at : (n : ℕ) (f : ℕ → A) (i : ℕ) (d : A) → i < n → get_or (tab n f) i d ≡ f i
  tab_at n f i d l = tab_from_at n f 0 i d l ∙ ap f (omega arith)

  pub tab_past : (n : ℕ) (f : ℕ → A) (i : ℕ) (d : A) → n ≤ i → get_or (tab n f) i d ≡ d
  tab_past n f i d l = get_or-eq_default (tab n f) d (let e : length (tab n f) ≡ n = tab_length n f in omega arith)

  -- a list is the table of its elements
  pub tab_of : (xs : List A) (n : ℕ) (f : ℕ → A) (d : A) → length xs ≡ n → ((i : ℕ) → i < n → get_or xs i d ≡ f i) → xs ≡ tab n f
  tab_of xs n f d e h =
      ext_get_or d xs (tab n f) (e ∙ sym (tab_length n f))
      (λ i l. let m : i < n = omega arith in h i m ∙ sym (tab_at n f i d m))

  pub tab_eq : (n : ℕ) (f g : ℕ → A) → ((i : ℕ) → i < n → f i ≡ g i) → tab n f ≡ tab n g
  tab_eq n f g h = tab_of (tab n f) n g (f 0) (tab_length n f) (λ i l. tab_at n f i (f 0) l ∙ h i l)

  -- one store into a table
  pub tab_set : (n : ℕ) (f g : ℕ → A) (v : ℕ) → v < n → ((i : ℕ) → i < n → i ≢ v → f i ≡ g i) → set (tab n f) v (g v) ≡ tab n g
  tab_set n f g v l h = tab_of (set (tab n f) v (g v)) n g (f 0) (length-set (tab n f) v (g v) ∙ tab_length n f) each
    where
      each : (i : ℕ) → i < n → get_or (set (tab n f) v (g v)) i (f 0) ≡ g i
      each i b = at (ℕ_discrete i v)
        where
          at : Dec (i ≡ v) → get_or (set (tab n f) v (g v)) i (f 0) ≡ g i
          at (yes e) =
              ap (λ (j : ℕ). get_or (set (tab n f) v (g v)) j (f 0)) e
              ∙ get_or-set_same (tab n f) v (g v) (f 0) (let z : length (tab n f) ≡ n = tab_length n f in omega arith)
              ∙ ap g (sym e)
          at (no e) = get_or-set_other (tab n f) v i (g v) (f 0) e ∙ tab_at n f i (f 0) b ∙ h i b e

  tab_from_more : (n : ℕ) (f : ℕ → A) (i : ℕ) → tab_from (suc n) f i ≡ tab_from n f i ++ (f (i + n) ∷ [])
  unfolding tab_from
  tab_from_more zero f i = ap (λ (j : ℕ). f j ∷ []) (let e : i ≡ i + 0 = omega arith in e)
  tab_from_more (suc n) f i =
      ap (λ (z : List A). f i ∷ z) (tab_from_more n f (suc i))
      ∙ ap (λ (j : ℕ). f i ∷ (tab_from n f (suc i) ++ (f j ∷ []))) (let e : suc i + n ≡ i + suc n = omega arith in e)

  -- a table with one entry more
  pub tab_more : (n : ℕ) (f : ℕ → A) → tab (suc n) f ≡ tab n f ++ (f n ∷ [])
  tab_more n f = tab_from_more n f 0 ∙ ap (λ (j : ℕ). tab n f ++ (f j ∷ [])) (let e : 0 + n ≡ n = omega arith in e)

  pub fold_more : {B : Type ℓ} (f : B → A → B) (b : B) (x : A) (xs : List A) → fold f b (x ∷ xs) ≡ fold f (f b x) xs
  unfolding fold
  fold_more f b x xs = refl

  pub fold_append : {B : Type ℓ} (f : B → A → B) (b : B) (xs ys : List A) → fold f b (xs ++ ys) ≡ fold f (fold f b xs) ys
  unfolding fold
  fold_append f b [] ys = refl
  fold_append f b (x ∷ xs) ys = fold_append f (f b x) xs ys

-- What the best of 0 .. n - 1 is, where only numbers that `fit` can win, and among those the smaller value wins: none, if
-- none fits; or the first of least value among those that fit.
pub data Best (none n : ℕ) (fit : ℕ → Bool) (value : ℕ → ℕ) (b : ℕ) : Type 0 where
  nobody : b ≡ none → ((i : ℕ) → i < n → fit i ≡ false) → Best none n fit value b
  somebody :
      b < n →
      fit b ≡ true →
      ((i : ℕ) → i < n → fit i ≡ true → value b ≤ value i) →
      ((i : ℕ) → i < b → fit i ≡ true → value b < value i) →
      Best none n fit value b

module _ (none : ℕ) (fit : ℕ → Bool) (value : ℕ → ℕ) where
  abbrev beats : ℕ → ℕ → Bool
  beats i best = cond (fit i) (cond (eqb best none) true (ltb (value i) (value best))) false

  -- one number more, that does not win
  stays : (n b : ℕ) → n < none → Best none n fit value b → (fit n ≡ true → value b ≤ value n) → (fit n ≡ true → b ≢ none) → Best none (suc n) fit value b
  stays n b l (nobody e h) up out =
      nobody e (λ i m. elsewhere i (ℕ_discrete i n) m)
    where
      unfit : (t : Bool) → fit n ≡ t → fit n ≡ false
      unfit true q = absurd (out q e)
      unfit false q = q

      elsewhere : (i : ℕ) → Dec (i ≡ n) → i < suc n → fit i ≡ false
      elsewhere i (yes q) m = ap fit q ∙ unfit (fit n) refl
      elsewhere i (no q) m = h i (omega arith)
  stays n b l (somebody low here' least first) up out =
      somebody (omega arith) here' (λ i m q. elsewhere i (ℕ_discrete i n) m q) first
    where
      elsewhere : (i : ℕ) → Dec (i ≡ n) → i < suc n → fit i ≡ true → value b ≤ value i
      elsewhere i (yes e) m q = rw e (up (sym (ap fit e) ∙ q))
      elsewhere i (no e) m q = least i (omega arith) q

  -- one number more, that wins
  wins : (n b : ℕ) → n < none → Best none n fit value b → fit n ≡ true → (b ≢ none → value n < value b) → Best none (suc n) fit value n
  wins n b l (nobody e h) here low =
      somebody (omega arith) here (λ i m q. elsewhere i (ℕ_discrete i n) m q) (λ i m q. absurd (false≢true (sym (h i m) ∙ q)))
    where
      elsewhere : (i : ℕ) → Dec (i ≡ n) → i < suc n → fit i ≡ true → value n ≤ value i
      elsewhere i (yes e) m q = rw e (le_refl (value n))
      elsewhere i (no e) m q = absurd (false≢true (sym (h i (omega arith)) ∙ q))
  wins n b l (somebody below here' least first) here low =
      somebody (omega arith) here (λ i m q. elsewhere i (ℕ_discrete i n) m q)
      (λ i m q. let z : value b ≤ value i = least i m q in omega (arith, low (omega arith)))
    where
      elsewhere : (i : ℕ) → Dec (i ≡ n) → i < suc n → fit i ≡ true → value n ≤ value i
      elsewhere i (yes e) m q = rw e (le_refl (value n))
      elsewhere i (no e) m q = let z : value b ≤ value i = least i (omega arith) q in omega (arith, low (omega arith))

  turn :
      (n b : ℕ) (t u w : Bool) →
      n < none →
      fit n ≡ t →
      eqb b none ≡ u →
      ltb (value n) (value b) ≡ w →
      Best none n fit value b →
      Best none (suc n) fit value (cond (cond t (cond u true w) false) n b)
  turn n b false u w l e f g so =
      stays n b l so (λ q. absurd (false≢true (sym e ∙ q))) (λ q. absurd (false≢true (sym e ∙ q)))
  turn n b true true w l e f g so = wins n b l so e (λ q. absurd (q (eqb-true b none f)))
  turn n b true false true l e f g so = wins n b l so e (λ q. ltb-true (value n) (value b) g)
  turn n b true false false l e f g so = stays n b l so (λ q. ltb-false (value n) (value b) g) (λ q. eqb-false b none f)

  pub best_is : (n : ℕ) → n ≤ none → Best none n fit value (best_to beats none n)
  unfolding best_to
  best_is zero l = nobody refl (λ i m. absurd (let z : i < 0 = m in omega arith))
  best_is (suc n) l =
      turn n (best_to beats none n) (fit n) (eqb (best_to beats none n) none) (ltb (value n) (value (best_to beats none n))) l refl refl refl
      (best_is n (omega arith))
