-- Laws of `BlocksOk`: of the loop that tests the items in turn, and of their catalog. Assumes nothing.
use mathlib.Core.Path.{◌≡◌, sym, subst}
use Prim.Native.Nat.{ℕ, ◌≤◌, ◌<◌}
use native.Mathlib.Omega.{arith}
use lib.ListN.{length}
use Rattle.landlord.specs.Fold.{tab}
use Rattle.landlord.specs.Catalog.{Catalog, CatalogOk, Item, item_at, no_item}
use Rattle.landlord.specs.Inner.{ItemFacts}
use Rattle.landlord.proofs.Folds.{tab_length, tab_at}
use Rattle.landlord.proofs.Ranges.{catalog_facts, catalog_ok, blocks_facts, blocks_ok}
use Rattle.cache_open.specs.Inner.{BlocksOk}

-- the blocks of an item, read off
blocks_low : {n : ℕ} {blocks : ℕ → ℕ} → BlocksOk n blocks → (i : ℕ) → i < n → 1 ≤ blocks i
blocks_low {blocks = blocks} ok i l = (blocks_facts (blocks i) (ok.each i l)).0

blocks_high : {n : ℕ} {blocks : ℕ → ℕ} → BlocksOk n blocks → (i : ℕ) → i < n → blocks i ≤ 16
blocks_high {blocks = blocks} ok i l = (blocks_facts (blocks i) (ok.each i l)).1

-- items whose costs are in range are a catalog in range exactly if they are at most 256 and their blocks are in range
module _ (n : ℕ) (item : ℕ → Item) where
  abbrev cat : Catalog
  cat = tab n item

  at : (i : ℕ) → i < n → item_at cat i ≡ item i
  at i l = tab_at n item i no_item l

  pub catalog_few : CatalogOk cat → n ≤ 256
  catalog_few ok = omega (arith, (catalog_facts cat ok).few, tab_length n item)

  pub catalog_blocks : CatalogOk cat → BlocksOk n (λ i. (item i).blocks)
  catalog_blocks ok = record { each = λ i l. blocks_ok (item i).blocks (facts i l).some (facts i l).small }
    where
      facts : (i : ℕ) → i < n → ItemFacts (item i)
      facts i l = subst ItemFacts (at i l) ((catalog_facts cat ok).each i (omega (arith, tab_length n item)))

  pub blocks_catalog : n ≤ 256 → BlocksOk n (λ i. (item i).blocks) → ((i : ℕ) → (item i).load ≤ 65535) → ((i : ℕ) → (item i).write ≤ 65535) → CatalogOk cat
  blocks_catalog few ok loads writes = catalog_ok cat (record { few = omega (arith, tab_length n item, few); each = facts })
    where
      facts : (i : ℕ) → i < length cat → ItemFacts (item_at cat i)
      facts i l =
          let m : i < n = omega (arith, tab_length n item) in
          subst ItemFacts (sym (at i m)) (record { some = blocks_low ok i m; small = blocks_high ok i m; load = loads i; write = writes i })
