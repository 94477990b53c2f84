-- A chain that adds up one number of each item: `(0..n).map(..).sum()`. Assumes nothing.
use Rattle.std.proofs.Common.{◌≡◌, ℕ, zero, suc, ◌+◌, ◌-◌, ◌/◌, ◌≤◌, ◌<◌, List, refl, ap, ◌∙◌, arith}
use Rattle.std.proofs.iter.Yields.{nat_range_steps}
use Rattle.std.proofs.lemmas.Iterator.{YieldsList-from_range, YieldsList-from_map, maps}
use Rattle.std.proofs.lemmas.Iterator.Adapters.{fits_from_length, at_most_from_yields_List}
use Rattle.std.proofs.lemmas.Iterator.Consumers.{sum_by_from_yields_List}
use Rattle.std.proofs.lemmas.List.FromFn.{length-range_with_len}
use Rattle.std.proofs.lemmas.List.Sums.{sum_by_from}
use Rattle.std.specs.Bool.{⊤}
use Rattle.std.specs.Fn.{Called}
use Rattle.std.specs.Iterator.{Drains}
use Rattle.std.specs.Iterator.Adapters.{map_source, map_callee, map_steps}
use Rattle.std.specs.Iterator.Runs.{EachRunFrom}
use Rattle.std.specs.List.{fold, sum_by, range_with_len}
use Rattle.std.specs.declared.iter.Map.{Map}
use Rattle.std.specs.declared.ops.Range.{Range}
use denote.Param.Members.{Mut}
use Rattle.landlord.specs.Fold.{sum_to}
use Rattle.cache_state.proofs.Checks.{sum_first, sum_more}

-- the same sum, from the other end
sum_from : (f : ℕ → ℕ) (n i : ℕ) → sum_to i f + sum_by f (range_with_len i n) ≡ sum_to (i + n) f
unfolding sum_to
sum_from f zero i =
    let e : i + 0 ≡ i = omega arith in
    rw e (omega arith)
sum_from f (suc n) i =
    let e : i + 1 + n ≡ i + suc n = omega arith in
    let next : sum_to (i + 1) f + sum_by f (range_with_len (i + 1) n) ≡ sum_to (i + suc n) f = sum_from f n (i + 1) ∙ ap (λ (k : ℕ). sum_to k f) e in
    omega (arith, next, sum_by_from f (0 + f i) (range_with_len (i + 1) n), sum_more f i (sum_to i f) (f i) refl refl)

module _ {F : Type 0} {s : Map (Range ℕ) F} (g : Mut F (ℕ × Unit {0}) ℕ) (n : ℕ) {callee : F} (source : map_source s ≡ record { start = 0; end = n }) (here : map_callee s ≡ callee) where
  -- what each call gives, added up
  pub summed :
      (f : ℕ → ℕ) →
      ((x r : ℕ) (q : F) → Called g callee (x, tt) r q → (q ≡ callee) × (r ≡ f x)) →
      (r : ℕ) →
      (xs : List ℕ) × (⊤ → Drains (maps nat_range_steps g) s xs) × (r ≡ fold (λ a x. a + x) 0 xs) →
      r ≡ sum_to n f
  summed f each r ran =
      let e : sum_to (0 + n) f ≡ sum_to n f = (let z : 0 + n ≡ n = omega arith in ap (λ (k : ℕ). sum_to k f) z) in
      let all = sum_by_from_yields_List f (range_with_len 0 n) s r ran (YieldsList-from_map g f (YieldsList-from_range 0 n n source (omega arith)) here each) in
      omega (arith, all, sum_from f n 0, sum_first f, e)

  -- and it fits, where each has room among 256
  pub summable :
      n ≤ 256 →
      (top : ℕ) →
      0 < top →
      ((x r : ℕ) (q : F) → Called g callee (x, tt) r q → (q ≡ callee) × (r ≤ (top - 1) / 256)) →
      EachRunFrom (map_steps nat_range_steps g) s (λ p. fold (λ a x. a + x) 0 p.items < top)
  summable few top some each =
      fits_from_length g callee 256 top (at_most_from_yields_List (YieldsList-from_range 0 n n source (omega arith)) (omega (arith, length-range_with_len 0 n))) here some each
