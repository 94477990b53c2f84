-- The marks of the items that have left, gone through from one to the next. Assumes nothing.
use mathlib.Core.Path.{◌≡◌, ap, ◌∙◌}
use mathlib.Core.Bool.{Bool, true, false}
use mathlib.Core.List.{List, [], ◌∷◌}
use Prim.Native.Nat.{ℕ, ◌+◌, ◌≤◌, ◌<◌}
use native.Mathlib.Decide.{dec_lt, ℕ_discrete}
use native.Mathlib.Omega.{arith}
use lib.ListN.{length, drop, get_or}
use Rattle.marks.specs.Inner.{marks, count_set, first_set}
use Rattle.marks.proofs.Laws.{NextMark, next_is, length_marks}
use Rattle.cache_state.specs.Cache.{Cache, left_at}
use Rattle.cache_state.specs.InnerParts.{LeftOk}
use Rattle.basis.specs.InnerDecided.{Decided}
use Rattle.basis.proofs.Decides as decides

-- where the first mark lies past them all, none is set
none_counted : (l : List Bool) → length l ≤ first_set l → 0 ≡ count_set l
unfolding count_set first_set
none_counted [] p = omega arith
none_counted (true ∷ l) p = absurd (omega arith)
none_counted (false ∷ l) p = none_counted l (omega arith)

pub none_left_lem : (words : List ℕ) (i : ℕ) → 256 ≤ i → i ≡ 0 + first_set (drop 0 (marks words)) → 0 ≡ count_set (marks words)
none_left_lem words i p e = none_counted (marks words) (omega (arith, length_marks words))

module _ (c : Cache) where
  -- i is a mark that is set, or past them all, and of the items before it none that has left is held
  pub record Passed (i : ℕ) : Type 0 where
    pub here : i < 256 → left_at c i ≡ true
    pub before : (j : ℕ) → j < i → left_at c j ≡ true → get_or c.held j false ≡ false

  pub passed_first : (i : ℕ) → i ≡ 0 + first_set (drop 0 (marks c.left)) → Passed i
  passed_first i e =
      let m : NextMark c.left 0 i = next_is c.left 0 i (omega arith) e in
      record { here = m.here; before = λ j l f. decides.clash (left_at c j) f (m.before j (omega arith) l) }

  pub passed_more : (i r : ℕ) → c.n ≤ 256 → Passed i → i < c.n → get_or c.held i false ≡ false → r ≡ i + 1 + first_set (drop (i + 1) (marks c.left)) → (i < r) × Passed r
  passed_more i r few p l h e = (omega (arith, m.after), record { here = m.here; before = λ j b f. at j b f (dec_lt j i) (ℕ_discrete j i) })
    where
      m : NextMark c.left (i + 1) r
      m = next_is c.left (i + 1) r (omega arith) e

      at : (j : ℕ) → j < r → left_at c j ≡ true → Dec (j < i) → Dec (j ≡ i) → get_or c.held j false ≡ false
      at j b f (yes k) s = p.before j k f
      at j b f (no k) (yes s) = ap (λ (x : ℕ). get_or c.held x false) s ∙ h
      at j b f (no k) (no s) = decides.clash (left_at c j) f (m.before j (omega arith) b)

  pub passed_held : (i : ℕ) → c.n ≤ 256 → Passed i → i < c.n → get_or c.held i false ≡ true → Decided (LeftOk c) false
  passed_held i few p l h = decides.no (λ o. decides.clash (get_or c.held i false) h (o.each i l (p.here (omega arith))))
