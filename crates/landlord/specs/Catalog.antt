-- Items, their catalog and what a step does to it, the capacity of a cache, and the unit in which credit is counted.
-- Paper 01, 'Sails, locker, shares', and paper 02, 'Six'. Assumes nothing.
use mathlib.Core.{Path.◌≡◌, Bool.{Bool, true, false, not, ◌&&◌}, List.{List, [], ◌∷◌, ◌++◌}}
use Rattle.std.specs.Prelude.{ℕ, ◌*◌, ◌/◌}
use lib.{ListN.{length, get_or, set}, Dec.leb}
use Rattle.types.specs.declared.Step.{Step, TheVariants.{Read, Write, Flush, Arrive, Retire}}
use Rattle.landlord.specs.Fold.{fold}

-- paper 01: a sail, with its blocks, its load cost and its write cost; paper 02, 'Six': and whether it has left
pub record Item : Type 0 where
  pub blocks : ℕ
  pub load : ℕ
  pub write : ℕ
  pub left : Bool

-- paper 01: a catalogue; an item's number is its place, from 0
abbrev pub Catalog : Type 0
Catalog = List Item

-- what stands past the end of a catalog
abbrev pub no_item : Item
no_item = record { blocks = 0; load = 0; write = 0; left = false }

-- the sail of a number
abbrev pub item_at : Catalog → ℕ → Item
item_at cat i = get_or cat i no_item

-- a sail by its three values, which has not left
abbrev pub listed : ℕ → ℕ → ℕ → Item
listed b l w = record { blocks = b; load = l; write = w; left = false }

-- the sail once it has left
abbrev pub departed : Item → Item
departed x = record { blocks = x.blocks; load = x.load; write = x.write; left = true }

-- What a step does to the catalog: "Step A adds the next sail number with its three values. Step Q retires a sail": it stays, marked,
-- and its number is not used again. The rule, a plan and the table of refusals all go by this one definition.
abbrev pub catalog_next : Catalog → Step → Catalog
catalog_next cat (Read i) = cat
catalog_next cat (Write i minutes) = cat
catalog_next cat Flush = cat
catalog_next cat (Arrive i b l w) = cat ++ (listed b l w ∷ [])
catalog_next cat (Retire i) = set cat i (departed (item_at cat i))

-- the catalog after some steps
abbrev pub catalog_after : Catalog → List Step → Catalog
catalog_after cat steps = fold catalog_next cat steps

-- "blocks 1 to 16"
abbrev pub blocks_in_range : ℕ → Bool
blocks_in_range b = leb 1 b && leb b 16

-- "a load cost 0 to 65,535 and a write cost 0 to 65,535"
abbrev pub cost_in_range : ℕ → Bool
cost_in_range c = leb c 65535

-- an item in range
abbrev pub item_in_range : Item → Bool
item_in_range x = blocks_in_range x.blocks && cost_in_range x.load && cost_in_range x.write

-- every item of a list in range
unfoldable pub all_in_range : Catalog → Bool
all_in_range [] = true
all_in_range (x ∷ items) = item_in_range x && all_in_range items

-- "0 to 256 sails", each in range
unfoldable pub catalog_in_range : Catalog → Bool
catalog_in_range cat = leb (length cat) 256 && all_in_range cat

-- a catalog as an opening gives it: no item has left
unfoldable pub none_left : Catalog → Bool
none_left [] = true
none_left (x ∷ items) = not x.left && none_left items

-- "k blocks, 1 to 4,096"
abbrev pub capacity_in_range : ℕ → Bool
capacity_in_range k = leb 1 k && leb k 4096

-- a catalog in range, as a statement
abbrev pub CatalogOk : Catalog → Type 0
CatalogOk cat = catalog_in_range cat ≡ true

-- a capacity in range
abbrev pub CapacityOk : ℕ → Type 0
CapacityOk k = capacity_in_range k ≡ true

-- paper 01: the shares in one unit of cost, the least common multiple of 1 to 16
abbrev pub unit : ℕ
unit = 720720

-- a cost in shares: what a credit is when it is full
abbrev pub full : ℕ → ℕ
full cost = cost * unit

-- the shares a block of a cost that is spread over `blocks` blocks
abbrev pub shares_per_block : ℕ → ℕ → ℕ
shares_per_block cost blocks = cost * (unit / blocks)
