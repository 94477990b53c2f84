-- A step that the table of refusals lets through: what it has, and that it is let through as the step that its numbers mean.
-- Assumes nothing.
use mathlib.Core.Path.{◌≡◌, refl, ap, ◌∙◌}
use mathlib.Core.Bool.{Bool, true, false, cond}
use Prim.Native.Nat.{ℕ, ◌≤◌, ◌<◌}
use native.Mathlib.Omega.{arith}
use lib.Dec.{leb, eqb}
use borrow.Author.Tests.{leb-false, lt-leb, eqb-true, eqb-false}
use Rattle.types.specs.declared.Numbers.{Numbers}
use Rattle.types.specs.Types.{numbers_of, step_of}
use Rattle.types.proofs.Steps.{same_step}
use Rattle.landlord.specs.Catalog.{Catalog}
use Rattle.landlord.specs.Steps.{in_range, range_refusal, item_refusal, step_refusal}

-- ## Its range

-- numbers in range are not refused, and such as are not refused are in range
pub range_free : (n : Numbers) → in_range n ≡ true → range_refusal n ≡ 0
unfolding range_refusal
range_free n e = rw e

pub range_out : (n : Numbers) → in_range n ≡ false → range_refusal n ≡ 3
unfolding range_refusal
range_out n e = rw e

pub free_range : (n : Numbers) → range_refusal n ≡ 0 → in_range n ≡ true
unfolding range_refusal
free_range n e = grind arith

-- the refusal's number is one of the table's
pub range_few : (n : Numbers) → range_refusal n ≤ 20
unfolding range_refusal
range_few n = grind arith

-- values that a step lacks are not looked at
means_range : (n : Numbers) → in_range n ≡ true → in_range (numbers_of (step_of n)) ≡ true
unfolding step_of
means_range n e = grind arith

-- so the step that numbers mean is not refused where they are not
pub range_means : (n : Numbers) → range_refusal n ≡ 0 → range_refusal (numbers_of (step_of n)) ≡ 0
range_means n e = range_free (numbers_of (step_of n)) (means_range n (free_range n e))

-- ## All of it

-- what a step has that the table lets through
pub record Passes (k : ℕ) (cat : Catalog) (t : ℕ) (n : Numbers) : Type 0 where
  pub few : t < 1000000
  pub range : range_refusal n ≡ 0
  pub item : item_refusal k cat (step_of n) ≡ 0

module _ (k : ℕ) (cat : Catalog) (t : ℕ) (n : Numbers) where
  pub let_through : Passes k cat t n → step_refusal k cat t n ≡ 0
  unfolding step_refusal
  let_through p = rw (lt-leb 1000000 t p.few, p.range) p.item

  pub passes : step_refusal k cat t n ≡ 0 → Passes k cat t n
  unfolding step_refusal
  passes e = go (leb 1000000 t) (eqb (range_refusal n) 0) refl refl e
    where
      go :
          (a b : Bool) →
          leb 1000000 t ≡ a →
          eqb (range_refusal n) 0 ≡ b →
          cond a 8 (cond b (item_refusal k cat (step_of n)) (range_refusal n)) ≡ 0 →
          Passes k cat t n
      go true b ea eb e = absurd (omega arith)
      go false true ea eb e = record { few = leb-false 1000000 t ea; range = eqb-true (range_refusal n) 0 eb; item = e }
      go false false ea eb e = absurd (eqb-false (range_refusal n) 0 eb e)

-- numbers that are let through are so as the step that they mean
pub means : (k : ℕ) (cat : Catalog) (t : ℕ) (n : Numbers) → step_refusal k cat t n ≡ 0 → step_refusal k cat t (numbers_of (step_of n)) ≡ 0
means k cat t n e =
    let p = passes k cat t n e in
    let_through k cat t (numbers_of (step_of n))
    (record { few = p.few; range = range_means n p.range; item = ap (item_refusal k cat) (same_step (step_of n)) ∙ p.item })
