-- The runs of stores, one store after another: which cache the bytes are at the end. Assumes nothing.
use mathlib.Core.Path.{◌≡◌, sym, ap, subst, ◌∙◌}
use mathlib.Core.List.{List}
use Prim.Native.Nat.{ℕ, ◌+◌}
use native.Mathlib.Omega.{arith}
use lib.ListN.{get_or}
use Rattle.cache_state.specs.Cache.{Cache}
use Rattle.cache_state.specs.InnerWith.{with_steps, with_writebacks, with_write_cost, with_item_writebacks}
use Rattle.layout.specs.Layout.{cache_of, ValidBytes}
use Rattle.layout.specs.Inner.{Stands}
use Rattle.layout.proofs.Places.{stands_as, valid_reads}
use Rattle.cache_counts.specs.declared.Total.{Total}
use Rattle.cache_counts.specs.Inner.{total_counted, step_counted, writeback_counted, StepReadyAt}

-- a total, which is known by its getter and its setter
pub total_counted_lem :
    (b : List ℕ) {q after : List ℕ} {total known : Total} (get : Cache → ℕ) (put : Cache → ℕ → Cache) {n : ℕ} →
    total ≡ known →
    n ≡ get (cache_of b) →
    Stands q (put (cache_of b) (n + 1)) →
    after ≡ q →
    put (cache_of b) (get (cache_of b) + 1) ≡ total_counted (cache_of b) known →
    Stands after (total_counted (cache_of b) total)
total_counted_lem b {total = total} get put is en s e same =
    subst (λ (x : List ℕ). Stands x (total_counted (cache_of b) total)) (sym e)
    (stands_as s (ap (λ (m : ℕ). put (cache_of b) (m + 1)) en ∙ same ∙ ap (total_counted (cache_of b)) (sym is)))

-- and then the steps
pub step_counted_lem :
    (b b1 after : List ℕ) (total : Total) {steps : ℕ} →
    steps ≡ (cache_of b).steps →
    Stands b1 (total_counted (cache_of b) total) →
    Stands after (with_steps (cache_of b1) (steps + 1)) →
    Stands after (step_counted (cache_of b) total)
step_counted_lem b b1 after total es s1 s2 = stands_as s2 (λ z. with_steps (s1.cache z) (es z + 1))

-- every number of a writeback was read before the first store
pub writeback_counted_lem :
    (b b1 b2 after : List ℕ) (i : ℕ) {own writebacks paid price : ℕ} →
    own ≡ get_or (cache_of b).itemwritebacks i 0 →
    writebacks ≡ (cache_of b).writebacks →
    paid ≡ (cache_of b).writecost →
    price ≡ get_or (cache_of b).write i 0 →
    Stands b1 (with_item_writebacks (cache_of b) i (own + 1)) →
    Stands b2 (with_writebacks (cache_of b1) (writebacks + 1)) →
    Stands after (with_write_cost (cache_of b2) (paid + price)) →
    Stands after (writeback_counted (cache_of b) i)
writeback_counted_lem b b1 b2 after i {own} {writebacks} {paid} {price} eo en ep er s1 s2 s3 =
    stands_as s3
    (ap (λ (q : Cache). with_write_cost q (paid + price))
    (s2.cache ∙ ap (λ (q : Cache). with_writebacks q (writebacks + 1)) s1.cache)
    ∙ (λ z. with_write_cost (with_writebacks (with_item_writebacks (cache_of b) i (eo z + 1)) (en z + 1)) (ep z + er z)))

-- valid bytes can take one step more
pub valid_ready : {b : List ℕ} → ValidBytes b → StepReadyAt b
valid_ready ok =
    let s = ok.cache.standing in
    record {
      reads = valid_reads ok;
      counts =
          record {
            steps = omega (arith, s.taken);
            hits = omega (arith, s.steps, s.taken);
            loads = omega (arith, s.steps, s.taken);
            flushes = omega (arith, s.steps, s.taken);
            arrivals = omega (arith, s.steps, s.taken);
            retirements = omega (arith, s.steps, s.taken);
          };
    }
