-- Laws of `Decided`, with which the tests of a check are put together. Assumes nothing.
use mathlib.Core.Path.{◌≡◌, refl, sym, ◌∙◌}
use mathlib.Core.Bool.{Bool, true, false, not, false≢true}
use borrow.Author.Tests.{not-true, not-false}
use Rattle.basis.specs.InnerDecided.{Decided}

-- no Bool is both
pub clash : {A : Type 0} (t : Bool) → t ≡ true → t ≡ false → A
clash t e f = absurd (false≢true (sym f ∙ e))

-- a Bool that cannot be false
pub forced : (t : Bool) → (t ≡ false → ⊥) → t ≡ true
forced true h = refl
forced false h = absurd (h refl)

module _ {A : Type 0} where
  pub no : (A → ⊥) → Decided A false
  no h = record { yes = λ e. absurd (false≢true e); only = λ a. absurd (h a) }

  pub sure : A → Decided A true
  sure a = record { yes = λ e. a; only = λ b. refl }

  -- what `!r` tells, on either side of an `if`
  pub denied : {r : Bool} → Decided A r → not r ≡ true → A → ⊥
  denied {r} d e a = clash r (d.only a) (not-true r e)

  pub granted : {r : Bool} → Decided A r → not r ≡ false → A
  granted {r} d e = d.yes (not-false r e)
