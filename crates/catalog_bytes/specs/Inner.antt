-- What the functions of this crate ask, and the first items of a catalog. Assumes nothing.
use Rattle.std.specs.Prelude.{List, [], ◌∷◌, ℕ, ◌*◌, ◌/◌, ◌%◌, ◌+◌, ◌≤◌, take, length}
use Rattle.landlord.specs.Catalog.{Catalog, Item}
use Rattle.catalog_bytes.specs.Catalogs.{catalog_in}

-- the catalog of the first n items of such bytes
abbrev pub catalog_of_first : ℕ → List ℕ → Catalog
catalog_of_first n xs = catalog_in (take (5 * n) xs)

-- the bytes of an item
abbrev pub item_bytes : Item → List ℕ
item_bytes x = x.blocks ∷ x.load % 256 ∷ x.load / 256 ∷ x.write % 256 ∷ x.write / 256 ∷ []

-- there is an item i
pub record HasItem (xs : List ℕ) (i : ℕ) : Type 0 where
  pub place : i ≤ 255
  pub inside : 5 * i + 5 ≤ length xs
