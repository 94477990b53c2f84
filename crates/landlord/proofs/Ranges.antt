-- The ranges of the table, read off as inequalities and put together again. Assumes nothing.
use mathlib.Core.Path.{◌≡◌, refl, ap}
use mathlib.Core.Logic.{◌≢◌}
use mathlib.Core.Bool.{Bool, true, false, not, cond, ◌&&◌}
use mathlib.Core.List.{[], ◌∷◌}
use Prim.Native.Nat.{ℕ, zero, suc, ◌≤◌, ◌<◌}
use native.Mathlib.Omega.{arith}
use lib.ListN.{length}
use lib.Dec.{leb}
use borrow.Author.Tests.{not-true, leb-true, le-leb}
use Rattle.types.specs.declared.Numbers.{Numbers}
use Rattle.types.specs.Types.{is_deduction}
use Rattle.landlord.specs.Fold.{tab}
use Rattle.landlord.specs.Catalog.{Catalog, Item, item_at, no_item, listed, blocks_in_range, item_in_range, all_in_range, catalog_in_range, none_left, capacity_in_range, CatalogOk, CapacityOk}
use Rattle.landlord.specs.Steps.{in_range}
use Rattle.landlord.specs.Calls.{Opening, opening_refusal}
use Rattle.landlord.specs.Inner.{ItemFacts, CatalogFacts, CapacityFacts, OpeningRanges, OpeningOk}
use Rattle.landlord.proofs.Folds.{tab_length, tab_at}

pub and_left : (a b : Bool) → a && b ≡ true → a ≡ true
and_left a b e = grind arith

pub and_right : (a b : Bool) → a && b ≡ true → b ≡ true
and_right a b e = grind arith

-- ## Blocks and costs

pub blocks_facts : (b : ℕ) → blocks_in_range b ≡ true → (1 ≤ b) × (b ≤ 16)
blocks_facts b e = (leb-true 1 b (and_left (leb 1 b) (leb b 16) e), leb-true b 16 (and_right (leb 1 b) (leb b 16) e))

pub blocks_ok : (b : ℕ) → 1 ≤ b → b ≤ 16 → blocks_in_range b ≡ true
blocks_ok b low high = rw (le-leb 1 b low, le-leb b 16 high)

-- ## An item

pub item_facts : (x : Item) → item_in_range x ≡ true → ItemFacts x
item_facts x e = grind arith

pub item_ok : (x : Item) → ItemFacts x → item_in_range x ≡ true
item_ok x f = rw (blocks_ok x.blocks f.some f.small, le-leb x.load 65535 f.load, le-leb x.write 65535 f.write)

-- ## A catalog

all_facts : (cat : Catalog) → all_in_range cat ≡ true → (i : ℕ) → i < length cat → ItemFacts (item_at cat i)
unfolding all_in_range
all_facts [] e i l = absurd (let z : i < 0 = l in omega arith)
all_facts (x ∷ items) e zero l = item_facts x (and_left (item_in_range x) (all_in_range items) e)
all_facts (x ∷ items) e (suc i) l = all_facts items (and_right (item_in_range x) (all_in_range items) e) i (omega arith)

all_ok : (cat : Catalog) → ((i : ℕ) → i < length cat → ItemFacts (item_at cat i)) → all_in_range cat ≡ true
unfolding all_in_range
all_ok [] h = refl
all_ok (x ∷ items) h = rw (item_ok x (h 0 (omega arith)), all_ok items (λ i l. h (suc i) (omega arith)))

pub catalog_facts : (cat : Catalog) → CatalogOk cat → CatalogFacts cat
unfolding catalog_in_range
catalog_facts cat ok =
    record {
      few = leb-true (length cat) 256 (and_left (leb (length cat) 256) (all_in_range cat) ok);
      each = all_facts cat (and_right (leb (length cat) 256) (all_in_range cat) ok);
    }

pub catalog_ok : (cat : Catalog) → CatalogFacts cat → CatalogOk cat
unfolding catalog_in_range
catalog_ok cat f = rw (le-leb (length cat) 256 f.few, all_ok cat f.each)

-- ## A catalog of which no item has left

-- none has left, and nothing past the end has
pub none_left_at : (cat : Catalog) → none_left cat ≡ true → (i : ℕ) → (item_at cat i).left ≡ false
unfolding none_left
none_left_at [] e zero = refl
none_left_at [] e (suc i) = refl
none_left_at (x ∷ items) e zero = not-true x.left (and_left (not x.left) (none_left items) e)
none_left_at (x ∷ items) e (suc i) = none_left_at items (and_right (not x.left) (none_left items) e) i

pub none_left_ok : (cat : Catalog) → ((i : ℕ) → i < length cat → (item_at cat i).left ≡ false) → none_left cat ≡ true
unfolding none_left
none_left_ok [] h = refl
none_left_ok (x ∷ items) h = rw (h 0 (omega arith), none_left_ok items (λ i l. h (suc i) (omega arith)))

-- a catalog by its items' three values, as an opening gives it
pub listed_none_left : (n : ℕ) (blocks load write : ℕ → ℕ) → none_left (tab n (λ i. listed (blocks i) (load i) (write i))) ≡ true
listed_none_left n blocks load write = none_left_ok (tab n item) (λ i l. ap (λ (x : Item). x.left) (tab_at n item i no_item (omega (arith, tab_length n item))))
  where
    item : ℕ → Item
    item i = listed (blocks i) (load i) (write i)

-- ## A capacity

pub capacity_facts : (k : ℕ) → CapacityOk k → CapacityFacts k
capacity_facts k ok = grind arith

pub capacity_ok : (k : ℕ) → CapacityFacts k → CapacityOk k
capacity_ok k f = rw (le-leb 1 k f.low, le-leb k 4096 f.high)

-- ## An opening

-- the three ranges of an opening, and whether any item has left
abbrev opening_in_range : Opening Catalog → Bool
opening_in_range o = capacity_in_range o.k && catalog_in_range o.catalog && none_left o.catalog

opening_ranges : (o : Opening Catalog) → opening_in_range o ≡ true → OpeningRanges o
opening_ranges o e = grind arith

none_refused : (s t : Bool) → ◌≡◌ {A = ℕ} (cond s (cond t 0 18) 3) 0 → (s ≡ true) × (t ≡ true)
none_refused s t e = grind arith

pub opening_taken : (o : Opening Catalog) → opening_refusal o ≡ 0 → OpeningOk o
unfolding opening_refusal
opening_taken o e = grind arith

pub opening_accepts : (o : Opening Catalog) → OpeningOk o → opening_refusal o ≡ 0
unfolding opening_refusal
opening_accepts o f = rw (f.ranges.capacity, f.ranges.catalog, f.ranges.fresh, f.rule)

-- an opening that asks for something out of range is refused
pub range_refused : (o : Opening Catalog) → (OpeningRanges o → ⊥) → 3 ≡ opening_refusal o
unfolding opening_refusal
range_refused o none = grind arith

-- and after that one whose rule's number is no rule's
pub rule_refused : (o : Opening Catalog) → OpeningRanges o → is_deduction o.rule ≡ false → 18 ≡ opening_refusal o
unfolding opening_refusal
rule_refused o f odd = rw (f.capacity, f.catalog, f.fresh, odd)

-- ## A step, test by test

-- a step that names an item, where the number is none's
pub range_wide : (n : Numbers) → n.kind ≢ 76 → 255 < n.item → false ≡ in_range n
range_wide n o l = grind arith

pub range_write : (n : Numbers) → n.kind ≡ 87 → n.item ≤ 255 → leb n.minutes 1440 ≡ in_range n
range_write n e l = rw (e, le-leb n.item 255 l)

pub range_arrive : (n : Numbers) → n.kind ≡ 65 → n.item ≤ 255 → item_in_range (listed n.blocks n.load n.write) ≡ in_range n
range_arrive n e l = rw (e, le-leb n.item 255 l)
