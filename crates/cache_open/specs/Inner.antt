-- What the functions of an opening in lent bytes ask and give, and the cache of an opening. Assumes nothing.
use mathlib.Core.{Bool.{Bool, true}, Path.◌≡◌, List.List}
use Rattle.std.specs.Prelude.{ℕ, ◌/◌, ◌≤◌, ◌<◌, length, get_or}
use Rattle.types.specs.declared.Deduction.{Deduction}
use Rattle.landlord.specs.Catalog.{blocks_in_range}
use Rattle.catalog_bytes.specs.Catalogs.{item_in}
use Rattle.cache_state.specs.{Cache.Cache, InnerWith.{with_catalog, with_mode}}
use Rattle.basis.specs.InnerStores.{store_to}
use Rattle.layout.specs.Inner.{Readable, cleared}

-- the blocks of the first n items are in range; costs are by their width
pub record BlocksOk (n : ℕ) (blocks : ℕ → ℕ) : Type 0 where
  pub each : (i : ℕ) → i < n → blocks_in_range (blocks i) ≡ true

-- a catalog of n items that have places in the state
pub record WholeCatalog (n : ℕ) (xs : List ℕ) : Type 0 where
  pub count : n ≡ length xs / 5
  pub few : n ≤ 256

-- the cache with the first n items of the catalog stored
abbrev pub entered_of : Cache → List ℕ → ℕ → Cache
entered_of c xs n =
    with_catalog c c.k c.n
    (store_to n (λ i. (item_in xs i).blocks) c.blocks)
    (store_to n (λ i. (item_in xs i).load) c.load)
    (store_to n (λ i. (item_in xs i).write) c.write)
    c.left

-- a cache of these capacity, catalog and rule, in which nothing is held, nothing counted, and from which no item has left
abbrev pub empty_with : ℕ → ℕ → List ℕ → List ℕ → List ℕ → Bool → Deduction → Cache
empty_with k n blocks load write is_closed r = with_mode (with_catalog cleared k n blocks load write cleared.left) is_closed r

-- a number of each of n items, and 0 past them
pub record Column (n : ℕ) (f : ℕ → ℕ) (r : List ℕ) : Type 0 where
  pub front : (i : ℕ) → i < n → get_or r i 0 ≡ f i
  pub rest : (i : ℕ) → n ≤ i → i < 256 → get_or r i 0 ≡ 0

-- what storing them asks
pub record Enterable (b : List ℕ) (n : ℕ) (xs : List ℕ) : Type 0 where
  pub reads : Readable b
  pub whole : WholeCatalog n xs
