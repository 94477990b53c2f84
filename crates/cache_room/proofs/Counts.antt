-- An eviction is counted: what that adds to the figures, and what it leaves. Assumes nothing.
use mathlib.Core.Path.{◌≡◌, sym, ap, ◌∙◌}
use mathlib.Core.Logic.{◌≢◌}
use mathlib.Core.Bool.{Bool, true, false, cond}
use Prim.Native.Nat.{ℕ, ◌+◌, ◌<◌}
use native.Mathlib.Nat.{add-zero}
use native.Mathlib.Decide.{ℕ_discrete}
use native.Mathlib.Omega.{arith}
use lib.Dec.{eqb}
use borrow.Author.Tests.{eq-eqb, ne_eqb}
use lib.ListN.{length, get_or}
use lib.Seq.{get_or-set_same, get_or-set_other}
use Rattle.landlord.specs.Fold.{tab}
use Rattle.landlord.specs.Slot.{split_of}
use Rattle.landlord.specs.Rule.{evicted}
use Rattle.landlord.specs.Figures.{Use, use_of, no_use, use_at, plus_use, usage, totals_of, plus_totals, adds, lines_after, tally}
use Rattle.landlord.proofs.Folds.{tab_eq}
use Rattle.cache_state.specs.Cache.{Cache, catalog_of, slots_of, keys_of, uses_of, lazy, Normal}
use Rattle.cache_state.specs.InnerView.{usage_of, queue_of, figures_of, counts_of}
use Rattle.cache_state.proofs.Views.{size_is, item_is, use_is}
use Rattle.cache_state.proofs.Normals.{figures_normal}
use Rattle.cache_room.specs.Inner.{counted_of}

-- a count to which nothing is added
still : (n : ℕ) → n ≡ n + 0
still n = sym (add-zero n)

-- a line of the report to which nothing is added, whatever the test says
pub same_use : (t : Bool) (u : Use) → u ≡ plus_use u (cond t no_use no_use)
same_use true u = λ z. use_of (still u.minutes z) (still u.loads z) (still u.writebacks z)
same_use false u = λ z. use_of (still u.minutes z) (still u.loads z) (still u.writebacks z)

-- the eviction of item v is counted
module _ (c : Cache) (v : ℕ) (sizes : length c.itemwritebacks ≡ 256) (ok : Normal c) (l : v < c.n) where
  abbrev counted : Bool → Cache
  counted d = counted_of c v d

  one_more : get_or (counted true).itemwritebacks v 0 ≡ get_or c.itemwritebacks v 0 + 1
  one_more =
      get_or-set_same c.itemwritebacks v (get_or c.itemwritebacks v 0 + 1) 0
      (omega (arith, sizes, ok.few))

  other_writebacks : (i : ℕ) → i ≢ v → get_or (counted true).itemwritebacks i 0 ≡ get_or c.itemwritebacks i 0
  other_writebacks i e = get_or-set_other c.itemwritebacks v i (get_or c.itemwritebacks v 0 + 1) 0 e

  pub counted_normal : (d : Bool) → Normal (counted d)
  counted_normal false =
      figures_normal c c.itemwritebacks (counts_of (counted false)) c.closed ok (λ i b s. (ok.past i b s).place.writebacks)
  counted_normal true =
      figures_normal c (counted true).itemwritebacks (counts_of (counted true)) c.closed ok
      (λ i b s. other_writebacks i (λ q. omega arith) ∙ (ok.past i b s).place.writebacks)

  -- what the eviction adds to the line of item i
  abbrev added : Bool → ℕ → Use
  added d i = cond (eqb i v) (usage (evicted v d)) no_use

  uses : (d : Bool) (i : ℕ) → Dec (i ≡ v) → usage_of (counted d) i ≡ plus_use (usage_of c i) (added d i)
  uses false i e = same_use (eqb i v) (usage_of c i)
  uses true i (yes e) =
      (λ z.
      use_of (still (usage_of c i).minutes z) (still (usage_of c i).loads z)
      ((ap (λ (j : ℕ). get_or (counted true).itemwritebacks j 0) e ∙ one_more ∙ ap (λ (j : ℕ). get_or c.itemwritebacks j 0 + 1) (sym e)) z))
      ∙ sym (ap (λ (t : Bool). plus_use (usage_of c i) (cond t (usage (evicted v true)) no_use)) (eq-eqb i v e))
  uses true i (no e) =
      (λ z. use_of (usage_of c i).minutes (usage_of c i).loads (other_writebacks i e z))
      ∙ same_use true (usage_of c i)
      ∙ sym (ap (λ (t : Bool). plus_use (usage_of c i) (cond t (usage (evicted v true)) no_use)) (ne_eqb i v e))

  lines : (d : Bool) → lines_after (catalog_of c) (evicted v d) ≡ c.n
  lines true = add-zero _ ∙ size_is c
  lines false = add-zero _ ∙ size_is c

  uses_more : (d : Bool) → tab c.n (usage_of (counted d)) ≡ tab (lines_after (catalog_of c) (evicted v d)) (λ i. plus_use (use_at (figures_of c) i) (added d i))
  uses_more d =
      tab_eq c.n (usage_of (counted d)) (λ i. plus_use (use_at (figures_of c) i) (added d i))
      (λ i b. uses d i (ℕ_discrete i v) ∙ sym (ap (λ (u : Use). plus_use u (added d i)) (use_is c i b)))
      ∙ ap (λ (n : ℕ). tab n (λ i. plus_use (use_at (figures_of c) i) (added d i))) (sym (lines d))

  -- the totals: what the eviction does not add to stays
  totals_more : (d : Bool) → counts_of (counted d) ≡ plus_totals (counts_of c) (adds (catalog_of c) (evicted v d))
  totals_more false =
      λ z.
      totals_of (still c.steps z) (still c.hits z) (still c.loads z) (still c.loadcost z) (c.evictions + 1)
      (still c.dirtyevictions z) (still c.writebacks z) (still c.writecost z) (still c.flushes z) (still c.arrivals z) (still c.retirements z)
  totals_more true =
      λ z.
      totals_of (still c.steps z) (still c.hits z) (still c.loads z) (still c.loadcost z) (c.evictions + 1)
      (c.dirtyevictions + 1) (c.writebacks + 1) (c.writecost + (sym (item_is c v l) z).write) (still c.flushes z) (still c.arrivals z) (still c.retirements z)

  pub counted_lazy :
      (d : Bool) →
      lazy (counted d) ≡ record { k = c.k; queue = queue_of c; figures = tally (catalog_of c) (figures_of c) (evicted v d); closed = c.closed; split = split_of c.rule }
  unfolding catalog_of slots_of keys_of uses_of
  counted_lazy false =
      λ z. record { k = c.k; queue = queue_of c; figures = record { totals = totals_more false z; uses = uses_more false z }; closed = c.closed; split = split_of c.rule }
  counted_lazy true =
      λ z. record { k = c.k; queue = queue_of c; figures = record { totals = totals_more true z; uses = uses_more true z }; closed = c.closed; split = split_of c.rule }
