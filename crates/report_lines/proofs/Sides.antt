-- Both sides of the bound fit their words: a valid state has loaded and written back at most 1,000,000 times each, at 65,535 at most.
-- Assumes nothing.
use Prim.Native.Nat.{ℕ, ◌+◌, ◌*◌, ◌^◌, ◌≤◌, ◌<◌}
use native.Mathlib.Nat.{mul-le-mul}
use native.Mathlib.Omega.{arith}
use Rattle.landlord.specs.Figures.{total_cost, right_side}
use Rattle.landlord.proofs.Ranges.{capacity_facts}
use Rattle.cache_state.specs.Cache.{Cache, Valid}
use Rattle.cache_state.specs.InnerView.{figures_of}

-- "k blocks, 1 to 4,096"
pub few_blocks : (c : Cache) → Valid c → c.k ≤ 4096
few_blocks c v = (capacity_facts c.k v.standing.capacity).high

-- left, for each factor that a plan can have
pub left_fits : (c : Cache) → Valid c → (factor : ℕ) → factor ≤ 4096 → factor * total_cost (figures_of c) < 2 ^ 64
left_fits c v factor few =
    let r = v.standing in
    let most : factor * (c.loadcost + c.writecost) ≤ 4096 * 131070000000 =
    mul-le-mul {n₂ = 4096} {m₂ = 131070000000} few
    (omega (arith, r.load_cost, r.write_cost, r.steps, r.taken, r.writebacks)) in
    omega (arith, most)

-- and right
pub right_fits : (c : Cache) → Valid c → (cost : ℕ) → cost ≤ 1000000000000 → right_side c.k cost < 2 ^ 64
right_fits c v cost small =
    let most : c.k * cost ≤ 4096 * 1000000000000 = mul-le-mul (few_blocks c v) small in
    omega (arith, most)
