-- Laws of the catalog and of the copies as the program holds them: read at an item, changed at one, and with an item more. Assumes
-- nothing.
use mathlib.Core.Path.{◌≡◌, refl, sym, ap, ◌∙◌}
use mathlib.Core.Logic.{◌≢◌}
use mathlib.Core.Bool.{Bool, true, false, cond}
use mathlib.Core.List.{List, [], ◌∷◌, ◌++◌}
use Prim.Native.Nat.{ℕ, zero, suc, ◌+◌, ◌*◌, ◌≤◌, ◌<◌}
use native.Mathlib.Numerals.{add-one}
use native.Mathlib.Omega.{arith}
use lib.ListN.{length, set, get_or-eq_default}
use lib.Seq.{get_or-set_same, get_or-set_other}
use Rattle.types.specs.declared.Step.TheVariants.{Retire}
use Rattle.landlord.specs.Fold.{sum_to, tab}
use Rattle.landlord.specs.Catalog.{Item, Catalog, item_at, catalog_next}
use Rattle.landlord.specs.Plan.{Copy, no_copy, has, copy_at, plan_used}
use Rattle.landlord.proofs.Folds.{tab_length, tab_at, tab_set, tab_more}
use Rattle.landlord.proofs.Sums.{sum_eq, sum_change, sum_longer}
use Rattle.landlord.proofs.Catalogs.{padded, one_longer, arrived_other, retired_length, retired_alike}
use Rattle.catalog_bytes.specs.Catalogs.{item_in}
use Rattle.season_items.specs.Inner.{HasItems}
use Rattle.season_plan.specs.declared.Mark.{Mark}
use Rattle.season_plan.specs.declared.Mark.TheVariants.{Absent, Clean, Dirty}
use Rattle.season_plan.specs.Inner.{copy_from, mark_at, copies_of}

-- a sum of so many terms, none of which is above m
pub sum_most : (n m : ℕ) (f : ℕ → ℕ) → ((i : ℕ) → i < n → f i ≤ m) → sum_to n f ≤ m * n
unfolding sum_to
sum_most zero m f h = omega arith
sum_most (suc n) m f h = omega (arith, sum_most n m f (λ i l. h i (omega arith)), h n (omega arith))

pub cond_most : (t : Bool) (c m : ℕ) → c ≤ m → cond t c 0 ≤ m
cond_most true c m l = l
cond_most false c m l = omega arith

-- an item's values, by the bytes
module _ (cat : Catalog) (xs : List ℕ) (items : HasItems cat xs) (i : ℕ) (l : i < length cat) where
  pub blocks_at : (item_at cat i).blocks ≡ (item_in xs i).blocks
  blocks_at = sym (ap (λ (t : Item). t.blocks) (items i l))

  pub load_at : (item_at cat i).load ≡ (item_in xs i).load
  load_at = sym (ap (λ (t : Item). t.load) (items i l))

  pub write_at : (item_at cat i).write ≡ (item_in xs i).write
  write_at = sym (ap (λ (t : Item). t.write) (items i l))

-- the copy of an item whose mark is not absent is held
pub held_mark : (m : Mark) → m ≢ Absent → has (copy_from m) ≡ true
held_mark Absent e = absurd (e refl)
held_mark Clean e = refl
held_mark Dirty e = refl

pub copies_length : (n : ℕ) (marks : List Mark) → length (copies_of n marks) ≡ n
unfolding copies_of
copies_length n marks = tab_length n _

pub copy_at_lem : (n : ℕ) (marks : List Mark) (i : ℕ) → i < n → copy_at (copies_of n marks) i ≡ copy_from (mark_at marks i)
unfolding copies_of
copy_at_lem n marks i l = tab_at n (λ j. copy_from (mark_at marks j)) i no_copy l

-- one mark stored
pub copies_set :
    (n : ℕ) (marks : List Mark) (i : ℕ) (m : Mark) →
    i < n →
    i < length marks →
    copies_of n (set marks i m) ≡ set (copies_of n marks) i (copy_from m)
unfolding copies_of
copies_set n marks i m l b =
    sym (tab_set n (λ j. copy_from (mark_at marks j)) (λ j. copy_from (mark_at (set marks i m) j)) i l
    (λ j k e. ap copy_from (sym (get_or-set_other marks i j m Absent e))))
    ∙ ap (λ t. set (tab n (λ j. copy_from (mark_at marks j))) i (copy_from t)) (get_or-set_same marks i m Absent b)

-- one item more, without a mark
pub copies_more : (n : ℕ) (marks : List Mark) → mark_at marks n ≡ Absent → copies_of (n + 1) marks ≡ copies_of n marks ++ (no_copy ∷ [])
unfolding copies_of
copies_more n marks e =
    rw add-one
    (tab_more n (λ j. copy_from (mark_at marks j)) ∙ ap (λ t. tab n (λ j. copy_from (mark_at marks j)) ++ (copy_from t ∷ [])) e)

-- the blocks of one copy
abbrev blocks_of : Catalog → List Copy → ℕ → ℕ
blocks_of cat q i = cond (has (copy_at q i)) (item_at cat i).blocks 0

pub used_set :
    (cat : Catalog) (q : List Copy) (i : ℕ) (c : Copy) →
    i < length cat →
    i < length q →
    plan_used cat (set q i c) + cond (has (copy_at q i)) (item_at cat i).blocks 0 ≡ plan_used cat q + cond (has c) (item_at cat i).blocks 0
unfolding plan_used
used_set cat q i c l b =
    sum_change (length cat) i (blocks_of cat (set q i c)) (blocks_of cat q) l
    (λ j k e. ap (λ t. cond (has t) (item_at cat j).blocks 0) (get_or-set_other q i j c no_copy e))
    ∙ ap (λ t. plan_used cat q + cond (has t) (item_at cat i).blocks 0) (get_or-set_same q i c no_copy b)

-- an arrival brings no copy, and a retirement leaves every item its blocks
pub used_arrived : (cat : Catalog) (x : Item) (q : List Copy) → length q ≤ length cat → plan_used (cat ++ (x ∷ [])) (q ++ (no_copy ∷ [])) ≡ plan_used cat q
unfolding plan_used
used_arrived cat x q few =
    sum_longer (length cat) (length (cat ++ (x ∷ []))) (blocks_of cat q) (blocks_of (cat ++ (x ∷ [])) (q ++ (no_copy ∷ []))) (omega (arith, one_longer cat x))
    (λ i l. ap (λ t. cond (has t) (item_at (cat ++ (x ∷ [])) i).blocks 0) (padded q no_copy i)
    ∙ ap (λ (t : Item). cond (has (copy_at q i)) t.blocks 0) (arrived_other cat x i l))
    (λ i low high. ap (λ t. cond (has t) (item_at (cat ++ (x ∷ [])) i).blocks 0) (padded q no_copy i ∙ get_or-eq_default q no_copy (omega arith)))

pub used_retired : (cat : Catalog) (i : ℕ) (q : List Copy) → i < length cat → plan_used (catalog_next cat (Retire i)) q ≡ plan_used cat q
unfolding plan_used
used_retired cat i q l =
    ap (λ n. sum_to n (blocks_of (catalog_next cat (Retire i)) q)) (retired_length cat i)
    ∙ sum_eq (length cat) (blocks_of (catalog_next cat (Retire i)) q) (blocks_of cat q)
    (λ j b. ap (λ t. cond (has (copy_at q j)) t 0) (retired_alike cat i j l).blocks)
