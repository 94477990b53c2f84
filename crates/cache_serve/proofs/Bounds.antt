-- What validity says of the counts: none of them is near the end of its range. Assumes nothing.
use mathlib.Core.Path.{◌≡◌, ap}
use Prim.Native.Nat.{ℕ, zero, suc, ◌+◌, ◌*◌, ◌≤◌, ◌<◌}
use native.Mathlib.Decide.{ℕ_discrete}
use native.Mathlib.Omega.{arith}
use lib.ListN.{get_or}
use Rattle.landlord.specs.Fold.{sum_to}
use Rattle.landlord.specs.Figures.{Use, use_at}
use Rattle.landlord.specs.Rule.{size}
use Rattle.landlord.specs.Inner.{ItemFacts}
use Rattle.cache_state.specs.Cache.{Cache, catalog_of, Valid}
use Rattle.cache_state.specs.InnerView.{item_of, state_of, figures_of}
use Rattle.cache_state.proofs.Views.{size_is, item_is, use_is}
use Rattle.landlord.proofs.Ranges.{catalog_facts}

-- a term is at most its sum
term_le : (n i : ℕ) (f : ℕ → ℕ) → i < n → f i ≤ sum_to n f
unfolding sum_to
term_le zero i f l = absurd (let z : i < 0 = l in omega arith)
term_le (suc n) i f l = go (ℕ_discrete i n) (λ m. term_le n i f m)
  where
    go : Dec (i ≡ n) → (i < n → f i ≤ sum_to n f) → f i ≤ sum_to n f + f n
    go (yes e) below = omega (arith, ap f e)
    go (no e) below = omega (arith, below (omega arith))

module _ (c : Cache) (ok : Valid c) (i : ℕ) (l : i < c.n) where
  inside : i < size (state_of c)
  inside = rw size_is l

  pub item_loads : get_or c.itemloads i 0 ≤ c.loads
  item_loads =
      omega (
        arith,
        term_le (size (state_of c)) i (λ j. (use_at (figures_of c) j).loads) inside,
        ok.standing.loads_add,
        ap (λ (u : Use). u.loads) (use_is c i l),
      )

  pub item_writebacks : get_or c.itemwritebacks i 0 ≤ c.writebacks
  item_writebacks =
      omega (
        arith,
        term_le (size (state_of c)) i (λ j. (use_at (figures_of c) j).writebacks) inside,
        ok.standing.writebacks_add,
        ap (λ (u : Use). u.writebacks) (use_is c i l),
      )

  pub item_minutes : get_or c.minutes i 0 ≤ 1440 * c.steps
  item_minutes = omega (arith, ok.standing.minutes i inside, ap (λ (u : Use). u.minutes) (use_is c i l))

  pub item_ok : ItemFacts (item_of c i)
  item_ok = rw (item_is c i l) at ((catalog_facts (catalog_of c) ok.standing.kept.catalog).each i inside)
