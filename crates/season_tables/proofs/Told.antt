-- Laws of how the item of a step or an act is told: the number that the table of refusals gives it, and the refusal of that number.
-- Assumes nothing.
use mathlib.Core.Path.{◌≡◌, refl, sym, subst}
use mathlib.Core.Logic.{◌≢◌}
use mathlib.Core.Bool.{cond}
use Prim.Native.Nat.{ℕ, ◌≤◌}
use native.Mathlib.Omega.{arith}
use lib.ListN.{length}
use lib.Dec.{leb, ltb, eqb}
use Rattle.types.specs.declared.Step.{Step}
use Rattle.types.specs.declared.Step.TheVariants.{Read, Write, Flush, Arrive, Retire}
use Rattle.types.specs.declared.Act.{Act}
use Rattle.types.specs.Types.{act_item, telling, told, refusal_from}
use Rattle.landlord.specs.Catalog.{Catalog, item_at}
use Rattle.landlord.specs.Steps.{if_known, item_refusal}
use Rattle.landlord.proofs.Folds.{either}
use Rattle.season_items.specs.declared.Present.{Present}
use Rattle.season_items.specs.Inner.{known_number, TellsKnown}
use Rattle.season_items.proofs.Items.{known_tells}

-- the item of an act
pub known_of : (p : Present) (i number : ℕ) (act : Act) → i ≡ act_item act → number ≡ known_number p i → TellsKnown p (act_item act) number
known_of p i number act e k =
    subst (λ (z : ℕ). TellsKnown p z number) e (subst (λ (m : ℕ). TellsKnown p i m) (sym k) (known_tells p i))

-- a number of these that is not 0 is told by its refusal
abbrev Toldly : ℕ → Type 0
Toldly m = m ≢ 0 → ((1 ≤ m) × (m ≤ 20)) × ((n i : ℕ) → told (refusal_from (telling m n i)) ≡ telling m n i)

toldly_0 : Toldly 0
toldly_0 f = absurd (f refl)

toldly_known : (cat : Catalog) (i x : ℕ) → Toldly x → Toldly (if_known cat i x)
toldly_known cat i x h =
    either Toldly (ltb i (length cat)) (cond (item_at cat i).left 20 x) 6
    (λ e. either Toldly (item_at cat i).left 20 x (λ e f. (omega arith, λ n i. unfold refusal_from in refl)) (λ e. h))
    (λ e f. (omega arith, λ n i. unfold refusal_from in refl))

toldly_step : (k : ℕ) (cat : Catalog) (s : Step) → Toldly (item_refusal k cat s)
toldly_step k cat s = of s
  where
    large : (i : ℕ) → Toldly (cond (leb (item_at cat i).blocks k) 0 7)
    large i = either Toldly (leb (item_at cat i).blocks k) 0 7 (λ e. toldly_0) (λ e f. (omega arith, λ n i. unfold refusal_from in refl))

    of : (s : Step) → Toldly (item_refusal k cat s)
    of (Read i) = toldly_known cat i _ (large i)
    of (Write i m) = toldly_known cat i _ (large i)
    of Flush = toldly_0
    of (Arrive i b l w) = either Toldly (eqb i (length cat)) 0 19 (λ e. toldly_0) (λ e f. (omega arith, λ n i. unfold refusal_from in refl))
    of (Retire i) = toldly_known cat i 0 toldly_0

module _ (number : ℕ) (f : number ≢ 0) where
  -- the number of a step
  module _ (k : ℕ) (cat : Catalog) (s : Step) (e : number ≡ item_refusal k cat s) where
    pub step_range : (1 ≤ number) × (number ≤ 20)
    step_range = (subst Toldly (sym e) (toldly_step k cat s) f).0

    pub step_told : (n i : ℕ) → told (refusal_from (telling number n i)) ≡ telling number n i
    step_told = (subst Toldly (sym e) (toldly_step k cat s) f).1

  -- and of an act
  module _ (cat : Catalog) (j : ℕ) (e : number ≡ if_known cat j 0) where
    pub act_range : (1 ≤ number) × (number ≤ 20)
    act_range = (subst Toldly (sym e) (toldly_known cat j 0 toldly_0) f).0

    pub act_told : (n i : ℕ) → told (refusal_from (telling number n i)) ≡ telling number n i
    act_told = (subst Toldly (sym e) (toldly_known cat j 0 toldly_0) f).1
