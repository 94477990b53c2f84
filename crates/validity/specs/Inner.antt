-- What each test decides, on the numbers that it is handed: a field for each sentence of the rule for a foul locker (refusal 17; paper
-- 01, and paper 02, 'Four', 'Six' and 'Seven') that it looks at. The crates above say of what these are the numbers. Assumes nothing.
use mathlib.Core.{Path.◌≡◌, Bool.{Bool, true, false}}
use Rattle.std.specs.Prelude.{ℕ, ◌+◌, ◌*◌, ◌/◌, ◌≤◌}
use Rattle.std.specs.Int.{◌∣◌}
use Rattle.landlord.specs.{Catalog.full, Figures.Totals}

-- a credit is a multiple of the item's blocks, and at most its cost in shares
pub record CreditOk (blocks cost credit : ℕ) : Type 0 where
  pub whole : blocks ∣ credit
  pub top : credit ≤ full cost

-- the marks of an item go together with each other, with its credits and with the closing
pub record MarksOk (held dirty closed : Bool) (load_credit write_credit : ℕ) : Type 0 where
  pub absent_clean : held ≡ false → dirty ≡ false
  pub absent_empty : held ≡ false → load_credit ≡ 0
  pub clean_empty : dirty ≡ false → write_credit ≡ 0
  pub closed_clean : closed ≡ true → dirty ≡ false

-- all that is asked of one item of the catalog, on its own numbers
pub record EntryOk (blocks load write : ℕ) (held dirty closed : Bool) (load_credit write_credit minutes steps : ℕ) : Type 0 where
  pub some : 1 ≤ blocks
  pub small : blocks ≤ 16
  pub marks : MarksOk held dirty closed load_credit write_credit
  pub loads : CreditOk blocks load load_credit
  pub writes : CreditOk blocks write write_credit
  pub minutes_top : minutes ≤ 1440 * steps

-- what is asked of the key of one item: "a loss below 0 is foul", nor is it more than the credits; an item not held has none
pub record KeyFits (held : Bool) (level key credits blocks : ℕ) : Type 0 where
  pub none : held ≡ false → key ≡ 0
  pub within : held ≡ true → level ≤ key
  pub due : held ≡ true → key ≤ level + credits / blocks

-- blocks to divide by, and two credits at most
pub record Creditable (credits blocks : ℕ) : Type 0 where
  pub some : 1 ≤ blocks
  pub top : credits ≤ 131070 * 720720

-- what is asked of the totals alone, and of the capacity
pub record CountsOk (k : ℕ) (t : Totals) : Type 0 where
  pub low : 1 ≤ k
  pub high : k ≤ 4096
  pub steps : t.hits + t.loads + t.flushes + t.arrivals + t.retirements ≡ t.steps
  pub taken : t.steps ≤ 1000000
  pub dirty_evictions : t.dirty_evictions ≤ t.evictions
  pub dirty_written : t.dirty_evictions ≤ t.writebacks
  pub load_cost : t.load_cost ≤ 65535 * t.loads
  pub write_cost : t.write_cost ≤ 65535 * t.writebacks

-- what is asked of the sums over the items: the blocks held, the items held, those marked dirty, the loads, the writebacks and those
-- that have left
pub record SumsOk (k blocks evictions held loads writebacks marked steps item_loads item_writebacks retirements left : ℕ) : Type 0 where
  pub room : blocks ≤ k
  pub kept : evictions + held ≡ loads
  pub due : writebacks + marked ≤ steps
  pub loads_add : item_loads ≡ loads
  pub writebacks_add : item_writebacks ≡ writebacks
  pub gone : retirements ≡ left
