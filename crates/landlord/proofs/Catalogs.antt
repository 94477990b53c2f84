-- Laws of a catalog that grows and marks what has left (specs/Catalog.antt): how long it is after a step, what its items are, how many
-- have left, and that it stays in range. Assumes nothing.
use mathlib.Core.Path.{◌≡◌, refl, ap, ◌∙◌}
use mathlib.Core.Logic.{◌≢◌}
use mathlib.Core.Bool.{Bool, true, false, cond}
use mathlib.Core.List.{List, [], ◌∷◌, ◌++◌}
use Prim.Native.Nat.{ℕ, zero, suc, ◌+◌, ◌≤◌, ◌<◌}
use native.Mathlib.Omega.{arith}
use lib.ListN.{length, get_or, length-append, length-set, get_or-append}
use lib.Seq.{get_or-append_seam, get_or-set_same, get_or-set_other}
use Rattle.types.specs.declared.Step.{Step}
use Rattle.types.specs.declared.Step.TheVariants.{Read, Write, Flush, Arrive, Retire}
use Rattle.landlord.specs.Fold.{sum_to, fold}
use Rattle.landlord.specs.Catalog.{Catalog, Item, CatalogOk, no_item, item_at, listed, departed, catalog_next, catalog_after, none_left}
use Rattle.landlord.specs.Inner.{ItemFacts, CatalogFacts}
use Rattle.landlord.specs.Valid.{left_count}
use Rattle.landlord.proofs.Sums.{sum_zero, sum_eq, sum_change}
use Rattle.landlord.proofs.Folds.{fold_append}
use Rattle.landlord.proofs.Ranges.{catalog_facts, catalog_ok, none_left_at}
use Rattle.std.proofs.lemmas.Grind.{common_steps}

-- ## A list with one element more

-- a default at the end of a list changes no reading
pub padded {ℓ} : {A : Type ℓ} (xs : List A) (d : A) (i : ℕ) → get_or (xs ++ (d ∷ [])) i d ≡ get_or xs i d
padded [] d zero = refl
padded [] d (suc i) = refl
padded (x ∷ xs) d zero = refl
padded (x ∷ xs) d (suc i) = padded xs d i

pub one_longer {ℓ} : {A : Type ℓ} (xs : List A) (x : A) → length (xs ++ (x ∷ [])) ≡ suc (length xs)
one_longer xs x = omega (arith, length-append xs (x ∷ []))

-- a number below the length of a list with one element more: in the list, or the new one
pub below_more : (n i : ℕ) (P : Type 0) → i < suc n → (i < n → P) → (i ≡ n → P) → P
below_more n i P l before last = grind arith

-- ## An arrival

-- the items before an arrival, and the new one
pub arrived_other : (cat : Catalog) (it : Item) (j : ℕ) → j < length cat → item_at (cat ++ (it ∷ [])) j ≡ item_at cat j
arrived_other cat it j l = get_or-append cat (it ∷ []) no_item j l

pub arrived_here : (cat : Catalog) (it : Item) → item_at (cat ++ (it ∷ [])) (length cat) ≡ it
arrived_here cat it = get_or-append_seam cat it [] no_item

-- ## A retirement

-- a retirement keeps every number, and marks the one item
pub retired_here : (cat : Catalog) (i : ℕ) → i < length cat → item_at (catalog_next cat (Retire i)) i ≡ departed (item_at cat i)
retired_here cat i l = get_or-set_same cat i (departed (item_at cat i)) no_item l

pub retired_other : (cat : Catalog) (i j : ℕ) → j ≢ i → item_at (catalog_next cat (Retire i)) j ≡ item_at cat j
retired_other cat i j e = get_or-set_other cat i j (departed (item_at cat i)) no_item e

pub retired_length : (cat : Catalog) (i : ℕ) → length (catalog_next cat (Retire i)) ≡ length cat
retired_length cat i = length-set cat i (departed (item_at cat i))

-- ## What no step changes

-- an item's three values, without its mark
pub record Alike (x y : Item) : Type 0 where
  pub blocks : x.blocks ≡ y.blocks
  pub load : x.load ≡ y.load
  pub write : x.write ≡ y.write

pub alike : (x y : Item) → x ≡ y → Alike x y
alike x y e = record { blocks = ap (λ (z : Item). z.blocks) e; load = ap (λ (z : Item). z.load) e; write = ap (λ (z : Item). z.write) e }

pub facts_alike : (x y : Item) → Alike x y → ItemFacts y → ItemFacts x
facts_alike x y a ok = grind arith

pub retired_alike : (cat : Catalog) (i j : ℕ) → i < length cat → Alike (item_at (catalog_next cat (Retire i)) j) (item_at cat j)
retired_alike cat i j l = grind (arith, common_steps)

-- ## The catalog stays in range

pub arrived_ok : (cat : Catalog) (it : Item) → CatalogOk cat → ItemFacts it → length cat < 256 → CatalogOk (cat ++ (it ∷ []))
arrived_ok cat it ok new few =
    catalog_ok (cat ++ (it ∷ []))
    (record {
      few = omega (arith, one_longer cat it);
      each =
          λ i l. below_more (length cat) i (ItemFacts (item_at (cat ++ (it ∷ [])) i)) (omega (arith, one_longer cat it))
          (λ b. rw (arrived_other cat it i b) ((catalog_facts cat ok).each i b)) (λ e. rw (e, arrived_here cat it) new);
    })

pub retired_ok : (cat : Catalog) (i : ℕ) → CatalogOk cat → i < length cat → CatalogOk (catalog_next cat (Retire i))
retired_ok cat i ok l =
    let f : CatalogFacts cat = catalog_facts cat ok in
    catalog_ok (catalog_next cat (Retire i))
    (record {
      few = omega (arith, retired_length cat i, f.few);
      each =
          λ j b. facts_alike (item_at (catalog_next cat (Retire i)) j) (item_at cat j) (retired_alike cat i j l)
          (f.each j (omega (arith, retired_length cat i)));
    })

-- ## How long a catalog is

-- an arrival makes it one longer, and no other step changes that
abbrev pub is_arrival : Step → ℕ
is_arrival (Read i) = 0
is_arrival (Write i minutes) = 0
is_arrival Flush = 0
is_arrival (Arrive i b l w) = 1
is_arrival (Retire i) = 0

pub next_length : (cat : Catalog) (s : Step) → length (catalog_next cat s) ≡ length cat + is_arrival s
next_length cat s = grind (arith, common_steps)

-- ## The items after a step, and after steps

-- what a catalog keeps from one step to the next: it gets no shorter, each item keeps its three values, and one that has left stays so
pub record KeepsItems (cat next : Catalog) : Type 0 where
  pub longer : length cat ≤ length next
  pub each : (i : ℕ) → i < length cat → Alike (item_at next i) (item_at cat i)
  pub left : (i : ℕ) → i < length cat → (item_at cat i).left ≡ true → (item_at next i).left ≡ true

pub keeps_same : (cat : Catalog) → KeepsItems cat cat
keeps_same cat = record { longer = omega arith; each = λ i l. alike (item_at cat i) (item_at cat i) refl; left = λ i l e. e }

pub next_keeps : (cat : Catalog) (s : Step) → KeepsItems cat (catalog_next cat s)
next_keeps cat s = grind (arith, common_steps)

pub keeps_on : (a b c : Catalog) → KeepsItems a b → KeepsItems b c → KeepsItems a c
keeps_on a b c f g = grind arith

pub after_keeps : (cat : Catalog) (steps : List Step) → KeepsItems cat (catalog_after cat steps)
unfolding fold
after_keeps cat [] = keeps_same cat
after_keeps cat (s ∷ steps) =
    keeps_on cat (catalog_next cat s) (catalog_after (catalog_next cat s) steps) (next_keeps cat s) (after_keeps (catalog_next cat s) steps)

-- the catalog after two lists of steps
pub after_append : (cat : Catalog) (xs ys : List Step) → catalog_after cat (xs ++ ys) ≡ catalog_after (catalog_after cat xs) ys
after_append cat xs ys = fold_append catalog_next cat xs ys

pub after_more : (cat : Catalog) (steps : List Step) (s : Step) → catalog_after cat (steps ++ (s ∷ [])) ≡ catalog_next (catalog_after cat steps) s
unfolding fold
after_more cat steps s = after_append cat steps (s ∷ [])

-- ## How many have left

abbrev marks : Catalog → ℕ → ℕ
marks cat i = cond (item_at cat i).left 1 0

pub left_none : (cat : Catalog) → none_left cat ≡ true → left_count cat ≡ 0
unfolding left_count
left_none cat new = sum_zero (length cat) _ (λ i l. ap {B = ℕ} (λ (t : Bool). cond t 1 0) (none_left_at cat new i))

pub left_arrived : (cat : Catalog) (i b l w : ℕ) → left_count (catalog_next cat (Arrive i b l w)) ≡ left_count cat
unfolding left_count sum_to
left_arrived cat i b l w =
    ap (λ (n : ℕ). sum_to n (marks new)) (one_longer cat (listed b l w))
    ∙ omega (
      arith,
      sum_eq (length cat) (marks new) (marks cat) (λ j q. ap (λ (x : Item). cond x.left 1 0) (arrived_other cat (listed b l w) j q)),
      ap {B = ℕ} (λ (x : Item). cond x.left 1 0) (arrived_here cat (listed b l w)),
    )
  where
    new : Catalog
    new = cat ++ (listed b l w ∷ [])

pub left_retired : (cat : Catalog) (i : ℕ) → i < length cat → (item_at cat i).left ≡ false → left_count (catalog_next cat (Retire i)) ≡ left_count cat + 1
unfolding left_count
left_retired cat i l present =
    ap (λ (n : ℕ). sum_to n (marks next)) (retired_length cat i)
    ∙ omega (
      arith,
      sum_change (length cat) i (marks next) (marks cat) l (λ j b d. ap (λ (x : Item). cond x.left 1 0) (retired_other cat i j d)),
      ap {B = ℕ} (λ (t : Bool). cond t 1 0) present,
      ap {B = ℕ} (λ (x : Item). cond x.left 1 0) (retired_here cat i l),
    )
  where
    next : Catalog
    next = catalog_next cat (Retire i)
