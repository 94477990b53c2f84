-- Laws of the item of a step or an act: the number that the table of refusals gives it by what is known of the items, and the answer of
-- that number. Assumes nothing.
use mathlib.Core.Path.{◌≡◌, refl, sym, ap, ◌∙◌}
use mathlib.Core.Logic.{◌≢◌}
use mathlib.Core.Bool.{Bool, true, false, cond}
use Prim.Native.Nat.{ℕ, ◌<◌}
use native.Mathlib.Omega.{arith}
use lib.ListN.{length}
use lib.Dec.{eqb}
use borrow.Author.Tests.{eqb-true}
use Rattle.std.proofs.lemmas.Grind.{common_steps}
use Rattle.types.specs.declared.Refusal.{Refusal}
use Rattle.types.specs.Types.{Told, nothing_told, telling, told}
use Rattle.types.proofs.Refusals.{refused_some}
use Rattle.landlord.specs.Catalog.{Catalog, item_at}
use Rattle.landlord.specs.Steps.{if_known}
use Rattle.season_items.specs.declared.Present.{Present}
use Rattle.season_items.specs.Inner.{told_as, known_number, TellsKnown}

-- the number by the count and the marks is that of whatever catalog they are known of
pub known_tells : (p : Present) (i : ℕ) → TellsKnown p i (known_number p i)
known_tells p i cat few t = grind (arith, common_steps)

module _ (cat : Catalog) (i : ℕ) where
  -- an item with no number is there
  pub known_below : if_known cat i 0 ≡ 0 → i < length cat
  known_below e = grind (arith, common_steps)

  -- and has not left
  pub known_stays : if_known cat i 0 ≡ 0 → (item_at cat i).left ≡ false
  known_stays e = grind (arith, common_steps)

-- ## The answer of a number

told_number : (number line item : ℕ) → (told_as number line item).number ≡ number
told_number number line item = go (eqb number 0) refl
  where
    go : (t : Bool) → eqb number 0 ≡ t → (cond t nothing_told (telling number line item)).number ≡ number
    go true e = sym (eqb-true number 0 e)
    go false e = refl

-- nothing, if the number is 0
pub told_none : (number line item : ℕ) → nothing_told ≡ told_as number line item → number ≡ 0
told_none number line item e = sym (ap (λ (t : Told). t.number) e ∙ told_number number line item)

-- and a refusal, if it is not
pub told_some : (r : Refusal) (number line item : ℕ) → told r ≡ told_as number line item → number ≢ 0
told_some r number line item e none =
    refused_some r (ap (λ (t : Told). t.number) e ∙ told_number number line item ∙ none)
