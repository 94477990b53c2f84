-- Bytes that are all 0 behind the number of the layout: they are those of the cleared cache.
-- Assumes nothing.
use mathlib.Core.Path.{◌≡◌, ap, ◌∙◌}
use mathlib.Core.List.{List, ◌++◌}
use mathlib.Core.Bool.{false, not}
use Prim.Native.Nat.{ℕ, zero, suc, ◌-◌, ◌≤◌}
use native.Mathlib.Omega.{arith}
use Rattle.std.proofs.lemmas.List.{length-replicate}
use lib.Dec.{eqb}
use lib.ListN.{length, drop, replicate}
use lib.Seq.{sets, length-sets, sets-eq, get_or-drop}
use Rattle.fields.specs.LittleEndian.{number_at, flags_from_bytes, to_bytes}
use Rattle.fields.specs.Inner.{Below}
use Rattle.fields.proofs.Laws.{length_to, from_front, below_drop, past, from_blank, run_from_blank, flags_from_blank}
use Rattle.types.specs.Types.{deduction_of}
use Rattle.layout.specs.Layout.{state_bytes, format, numbers_at, AllowedBytes}
use Rattle.layout.specs.InnerRows.{at_format, at_capacity, at_count, at_closed, at_steps, at_hits, at_loads, at_evictions, at_dirty_evictions, at_writebacks, at_flushes, at_load_cost, at_write_cost, at_dirty, at_load_credits, at_write_credits, at_minutes, at_item_loads, at_item_writebacks, at_item_load_costs, at_item_write_costs, at_blocks, at_held, at_rule, at_left, at_arrivals, at_retirements, at_used, at_level, at_keys, at_heap, at_places}
use Rattle.layout.specs.Inner.{Stands, cleared}

zeros_below : (n : ℕ) → Below 1 (replicate n 0)
zeros_below zero i = omega arith
zeros_below (suc n) zero = omega arith
zeros_below (suc n) (suc i) = zeros_below n i

-- ---- behind the number of the layout

module _ (after rest : List ℕ) (n : length after ≡ state_bytes) (e : after ≡ to_bytes 4 format ++ rest) (z : Below 1 rest) where
  -- what stands there is 0
  blank : (at : ℕ) → 4 ≤ at → Below 1 (drop at after)
  blank at l = rw (e, past (to_bytes 4 format) rest at (at - 4) (omega (arith, length_to 4 format))) (below_drop 1 (at - 4) rest z)

  number_0 : (w at : ℕ) → 4 ≤ at → number_at after at w ≡ 0
  unfolding number_at
  number_0 w at l = from_blank w (drop at after) (blank at l)

  numbers_0 : (w k at : ℕ) → 4 ≤ at → numbers_at after at k w ≡ replicate k 0
  unfolding numbers_at
  numbers_0 w k at l = run_from_blank w k (drop at after) (blank at l)

  flags_0 : (k at : ℕ) → 4 ≤ at → flags_from_bytes k (drop at after) ≡ replicate k false
  flags_0 k at l = flags_from_blank k (drop at after) (blank at l)

  allowed_0 : AllowedBytes after
  allowed_0 = record {
    format = rw e (from_front 4 format rest (omega arith));
    closed = omega (arith, number_0 2 at_closed (omega arith));
    held = λ i l. rw (← get_or-drop at_held after i 0) (omega (arith, blank at_held (omega arith) i));
    rule = omega (arith, number_0 4 at_rule (omega arith));
  }

  pub cleared_0 : Stands after cleared
  cleared_0 = record {
    size = n;
    allowed = allowed_0;
    cache = λ i.
        record {
          k = number_0 4 at_capacity (omega arith) i;
          n = number_0 2 at_count (omega arith) i;
          closed = not (eqb (number_0 2 at_closed (omega arith) i) 0);
          steps = number_0 4 at_steps (omega arith) i;
          hits = number_0 4 at_hits (omega arith) i;
          loads = number_0 4 at_loads (omega arith) i;
          evictions = number_0 4 at_evictions (omega arith) i;
          dirtyevictions = number_0 4 at_dirty_evictions (omega arith) i;
          writebacks = number_0 4 at_writebacks (omega arith) i;
          flushes = number_0 4 at_flushes (omega arith) i;
          loadcost = number_0 8 at_load_cost (omega arith) i;
          writecost = number_0 8 at_write_cost (omega arith) i;
          dirty = numbers_0 8 4 at_dirty (omega arith) i;
          loadcredit = numbers_0 8 256 at_load_credits (omega arith) i;
          writecredit = numbers_0 8 256 at_write_credits (omega arith) i;
          minutes = numbers_0 4 256 at_minutes (omega arith) i;
          itemloads = numbers_0 4 256 at_item_loads (omega arith) i;
          itemwritebacks = numbers_0 4 256 at_item_writebacks (omega arith) i;
          load = numbers_0 2 256 at_item_load_costs (omega arith) i;
          write = numbers_0 2 256 at_item_write_costs (omega arith) i;
          blocks = numbers_0 1 256 at_blocks (omega arith) i;
          held = flags_0 256 at_held (omega arith) i;
          rule = deduction_of (number_0 4 at_rule (omega arith) i);
          left = numbers_0 8 4 at_left (omega arith) i;
          arrivals = number_0 4 at_arrivals (omega arith) i;
          retirements = number_0 4 at_retirements (omega arith) i;
          level = number_0 8 at_level (omega arith) i;
          keys = numbers_0 8 256 at_keys (omega arith) i;
          heap = numbers_0 1 256 at_heap (omega arith) i;
          places = numbers_0 1 256 at_places (omega arith) i;
          used = number_0 4 at_used (omega arith) i;
        };
  }

-- the number of the layout, stored over bytes that are all 0
pub all_cleared : {b : List ℕ} (after : List ℕ) → b ≡ replicate state_bytes 0 → after ≡ sets b at_format (to_bytes 4 format) → Stands after cleared
unfolding to_bytes
all_cleared {b} after e is =
    cleared_0 after (drop 4 b) (ap length is ∙ length-sets b at_format (to_bytes 4 format) ∙ size) (is ∙ sets-eq (to_bytes 4 format) b 0 (omega (arith, size)))
    (below_drop 1 4 b (rw e (zeros_below state_bytes)))
  where
    size : length b ≡ state_bytes
    size = ap length e ∙ length-replicate {A = ℕ} state_bytes 0
