-- What holds of the rule wherever it stands: the sentences of paper 01 on a foul locker that speak of the rule's state and
-- figures, as paper 02, 'Four' and 'Six', leaves them. Those on the fields of a program's state are with the program. Assumes nothing.
use mathlib.Core.{Path.◌≡◌, Bool.{true, false, cond}}
use Rattle.std.specs.Prelude.{ℕ, ◌+◌, ◌*◌, ◌≤◌, ◌<◌, length}
use Rattle.landlord.specs.{Fold.sum_to, Catalog.{Catalog, CapacityOk, item_at}, Slot.is_dirty, Rule.{State, size, slot_at, held_count}, Figures.{Standing, use_at}, Claims.Kept}

-- how many items are dirty
unfoldable pub dirty_count : State → ℕ
dirty_count x = sum_to (size x) (λ i. cond (is_dirty (slot_at x i)) 1 0)

-- how many items have left
unfoldable pub left_count : Catalog → ℕ
left_count cat = sum_to (length cat) (λ i. cond (item_at cat i).left 1 0)

-- what is not foul, wherever the rule stands
pub record StandingOk (v : Standing) : Type 0 where
  -- "k and catalogue are in range; held blocks are at most k; credits are multiples of its blocks and at most cost × 720,720"
  pub capacity : CapacityOk v.k
  pub kept : Kept v.k v.state
  -- "hits, loads, landings, arrivals and retirements add up to the steps", "at most 1,000,000"
  pub steps :
      v.figures.totals.hits + v.figures.totals.loads + v.figures.totals.flushes + v.figures.totals.arrivals + v.figures.totals.retirements
      ≡ v.figures.totals.steps
  -- "with retirements equal to left sails, none held"
  pub retirements : v.figures.totals.retirements ≡ left_count v.state.catalog
  pub taken : v.figures.totals.steps ≤ 1000000
  -- "drops + held sails = loads"
  pub evictions : v.figures.totals.evictions + held_count v.state ≡ v.figures.totals.loads
  -- "dirty drops are at most drops and at most writebacks"
  pub dirty_evictions : v.figures.totals.dirty_evictions ≤ v.figures.totals.evictions
  pub dirty_written : v.figures.totals.dirty_evictions ≤ v.figures.totals.writebacks
  -- "writebacks + dirty held sails are at most steps"
  pub writebacks : v.figures.totals.writebacks + dirty_count v.state ≤ v.figures.totals.steps
  -- "loadcost and writecost are at most 65,535 × loads and × writebacks"
  pub load_cost : v.figures.totals.load_cost ≤ 65535 * v.figures.totals.loads
  pub write_cost : v.figures.totals.write_cost ≤ 65535 * v.figures.totals.writebacks
  -- "per-sail loads and writebacks add up to the totals"
  pub uses : length v.figures.uses ≡ size v.state
  pub loads_add : sum_to (size v.state) (λ i. (use_at v.figures i).loads) ≡ v.figures.totals.loads
  pub writebacks_add : sum_to (size v.state) (λ i. (use_at v.figures i).writebacks) ≡ v.figures.totals.writebacks
  -- "A lent state is foul if a sail's minutes exceed 1,440 × steps"
  pub minutes : (i : ℕ) → i < size v.state → (use_at v.figures i).minutes ≤ 1440 * v.figures.totals.steps
  -- "a closed locker has no dirty sail"
  pub closed : v.closed ≡ true → (i : ℕ) → i < size v.state → is_dirty (slot_at v.state i) ≡ false
