-- What every accepted text keeps (proved in proofs/Sound.antt): its sizes and catalog are in range, the table of refusals lets its
-- steps through as calls, and its acts are of items that are there, and in turn. Assumes nothing.
use mathlib.Core.{Path.◌≡◌, Bool.{true, false}, List.List}
use Rattle.std.specs.Prelude.{ℕ, ◌≤◌, ◌<◌, length, get_or, take}
use Rattle.types.specs.{declared.Act.TheVariants.Fetch, Types.act_item}
use Rattle.landlord.specs.{Catalog.{Catalog, item_at, catalog_after, none_left, CapacityOk, CatalogOk}, Claims.AllowedLog}
use Rattle.season_tables.specs.Tables.{Placed, Tables}

-- act j of a text
abbrev pub placed_at : List Placed → ℕ → Placed
placed_at acts j = get_or acts j (record { place = 0; act = Fetch 0 })

-- the catalog as the steps before a place have left it
abbrev pub catalog_before : Tables → ℕ → Catalog
catalog_before v place = catalog_after v.catalog (take place v.steps)

-- act j stands before some step, its item is there and has not left, and no act before it stands at a later place
pub record ActSound (v : Tables) (j : ℕ) : Type 0 where
  pub known : act_item (placed_at v.acts j).act < length (catalog_before v (placed_at v.acts j).place)
  pub there : (item_at (catalog_before v (placed_at v.acts j).place) (act_item (placed_at v.acts j).act)).left ≡ false
  pub within : (placed_at v.acts j).place < length v.steps
  pub in_order : (i : ℕ) → i ≤ j → (placed_at v.acts i).place ≤ (placed_at v.acts j).place

pub record Sound (v : Tables) : Type 0 where
  pub capacity : CapacityOk v.k
  pub rival_low : 1 ≤ v.h
  pub rival_high : v.h ≤ v.k
  pub catalog : CatalogOk v.catalog
  pub fresh : none_left v.catalog ≡ true
  pub allowed : AllowedLog v.k v.catalog v.steps
  pub each : (j : ℕ) → j < length v.acts → ActSound v j
