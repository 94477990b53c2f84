-- A catalog in lent bytes: 5 bytes an item, its blocks, its load cost and its write cost, low byte first. No item of it has
-- left. Assumes nothing.
use Rattle.std.specs.Prelude.{List, ℕ, ◌+◌, ◌*◌, ◌/◌, length, get_or}
use Rattle.landlord.specs.{Fold.tab, Catalog.{Item, Catalog, listed}}

-- item i of such bytes
abbrev pub item_in : List ℕ → ℕ → Item
item_in xs i =
    listed (get_or xs (5 * i) 0) (get_or xs (5 * i + 1) 0 + 256 * get_or xs (5 * i + 2) 0) (get_or xs (5 * i + 3) 0 + 256 * get_or xs (5 * i + 4) 0)

-- the catalog that bytes stand for; a remainder is no item
unfoldable pub catalog_in : List ℕ → Catalog
catalog_in xs = tab (length xs / 5) (item_in xs)
