-- The ranges of specs/Catalog.antt read off as inequalities, and what an opening has that is not refused, for the proofs
-- (proofs/Ranges.antt); what events add up to (proofs/Logs.antt). Assumes nothing.
use mathlib.Core.{Path.◌≡◌, Bool.true, List.{List, [], ◌∷◌}}
use Rattle.std.specs.Prelude.{ℕ, ◌≤◌, ◌<◌, length}
use Rattle.types.specs.Types.{is_deduction}
use Rattle.landlord.specs.{Catalog.{Item, Catalog, item_at, CapacityOk, CatalogOk, none_left}, Rule.Event, Figures.{Totals, totals_of, adds, plus_totals}, Calls.Opening}

-- what an item in range has
pub record ItemFacts (x : Item) : Type 0 where
  pub some : 1 ≤ x.blocks
  pub small : x.blocks ≤ 16
  pub load : x.load ≤ 65535
  pub write : x.write ≤ 65535

-- what a catalog in range has
pub record CatalogFacts (cat : Catalog) : Type 0 where
  pub few : length cat ≤ 256
  pub each : (i : ℕ) → i < length cat → ItemFacts (item_at cat i)

-- what a capacity in range has
pub record CapacityFacts (k : ℕ) : Type 0 where
  pub low : 1 ≤ k
  pub high : k ≤ 4096

-- an opening's capacity and catalog are in range, and no item has left
pub record OpeningRanges (o : Opening Catalog) : Type 0 where
  pub capacity : CapacityOk o.k
  pub catalog : CatalogOk o.catalog
  pub fresh : none_left o.catalog ≡ true

-- what an opening has from which the rule can start; one that is answered 0 has it (proofs/Ranges.antt, opening_taken)
pub record OpeningOk (o : Opening Catalog) : Type 0 where
  pub ranges : OpeningRanges o
  pub rule : is_deduction o.rule ≡ true

-- what events add up to: the totals grow by it (proofs/Logs.antt, tally_paid)
unfoldable pub paid : Catalog → List Event → Totals
paid cat [] = totals_of 0 0 0 0 0 0 0 0 0 0 0
paid cat (e ∷ es) = plus_totals (adds cat e) (paid cat es)
