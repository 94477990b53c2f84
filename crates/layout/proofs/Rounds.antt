-- The layout loses nothing: a cache that fits, stored and read back, is that cache, and bytes that the layout allows, read and stored
-- again, are those bytes. Assumes nothing.
use mathlib.Core.Path.{◌≡◌, refl, sym, ap, ◌∙◌}
use mathlib.Core.List.{List, [], ◌++◌, append-nil}
use mathlib.Core.Bool.{Bool, true, false, not}
use Prim.Native.Nat.{ℕ, suc, ◌+◌, ◌*◌, ◌^◌, ◌≤◌, ◌<◌}
use native.Mathlib.Omega.{arith}
use lib.Dec.{eqb}
use lib.ListN.{length, drop, get_or, length-drop, get_or-append}
use lib.Seq.{take_all, get_or-drop}
use Rattle.fields.specs.LittleEndian.{number_at, flags_from_bytes, to_bytes}
use Rattle.fields.specs.Inner.{Below, run_of, flags}
use Rattle.fields.proofs.Laws.{length_run_from, length_flags_from, from_front, from_take_lt, below_drop, rejoin, to_back, run_from_lt, run_from_to, run_back, flags_lt, length_flags, flags_from_to, flag_byte, flags_back}
use Rattle.types.specs.Types.{deduction_number, deduction_of}
use Rattle.types.proofs.Deductions.{deduction_number_lem, number_deduction, deduction_lt}
use Rattle.cache_state.specs.Cache.{Cache}
use Rattle.layout.specs.Layout.{state_bytes, format, numbers_at, cache_of, AllowedBytes}
use Rattle.layout.specs.InnerRows.{at_format, at_capacity, at_count, at_closed, at_steps, at_hits, at_loads, at_evictions, at_dirty_evictions, at_writebacks, at_flushes, at_load_cost, at_write_cost, at_dirty, at_load_credits, at_write_credits, at_minutes, at_item_loads, at_item_writebacks, at_item_load_costs, at_item_write_costs, at_blocks, at_held, at_rule, at_left, at_arrivals, at_retirements, at_used, at_level, at_keys, at_heap, at_places, row_bytes, field_rows, bytes_of, flag, WholeArrays, Fits}
use Rattle.layout.proofs.Rows.{Packed, end, number_row, numbers_row, flags_row, packed_length, reach}

-- the fields lie end to end
pub packed : (c : Cache) → WholeArrays c → Packed 0 (field_rows c) state_bytes
unfolding field_rows
packed c w =
    number_row 4 format
    (number_row 4 c.k
    (number_row 2 c.n
    (number_row 2 (flag c.closed)
    (number_row 4 c.steps
    (number_row 4 c.hits
    (number_row 4 c.loads
    (number_row 4 c.evictions
    (number_row 4 c.dirtyevictions
    (number_row 4 c.writebacks
    (number_row 4 c.flushes
    (number_row 8 c.loadcost
    (number_row 8 c.writecost
    (numbers_row 8 4 c.dirty w.dirty
    (numbers_row 8 256 c.loadcredit w.loadcredit
    (numbers_row 8 256 c.writecredit w.writecredit
    (numbers_row 4 256 c.minutes w.minutes
    (numbers_row 4 256 c.itemloads w.itemloads
    (numbers_row 4 256 c.itemwritebacks w.itemwritebacks
    (numbers_row 2 256 c.load w.load
    (numbers_row 2 256 c.write w.write
    (numbers_row 1 256 c.blocks w.blocks
    (flags_row 256 c.held w.held
    (number_row 4 (deduction_number c.rule)
    (numbers_row 8 4 c.left w.left (number_row 4 c.arrivals (number_row 4 c.retirements
    (number_row 4 c.used
    (number_row 8 c.level
    (numbers_row 8 256 c.keys w.keys
    (numbers_row 1 256 c.heap w.heap (numbers_row 1 256 c.places w.places end)))))))))))))))))))))))))))))))

-- so the bytes of a cache are all the bytes of the state
pub length_bytes_of : (c : Cache) → Fits c → length (bytes_of c) ≡ state_bytes
unfolding bytes_of
length_bytes_of c f = omega (arith, packed_length (packed c f.whole))

-- ---- stored and read back

-- what the reader finds where a number, numbers or flags stand
number_found : (w v at : ℕ) (b rest : List ℕ) → v < 256 ^ w → drop at b ≡ to_bytes w v ++ rest → number_at b at w ≡ v
unfolding number_at
number_found w v at b rest h e = rw e (from_front w v rest h)

numbers_found : (w n at : ℕ) (vs b rest : List ℕ) → length vs ≡ n → Below (256 ^ w) vs → drop at b ≡ run_of w vs ++ rest → numbers_at b at n w ≡ vs
unfolding numbers_at
numbers_found w n at vs b rest l h e = rw e (run_from_to w n vs rest l h)

flags_found : (n at : ℕ) (fs : List Bool) (b rest : List ℕ) → length fs ≡ n → drop at b ≡ flags fs ++ rest → flags_from_bytes n (drop at b) ≡ fs
flags_found n at fs b rest l e = rw e (flags_from_to n fs rest l)

-- a flag is the number 0 or 1, and is told by it
flag_lt : (f : Bool) → flag f < 2
flag_lt true = omega arith
flag_lt false = omega arith

flag_told : (f : Bool) → not (eqb (flag f) 0) ≡ f
flag_told true = refl
flag_told false = refl

module _ (c : Cache) (f : Fits c) where
  -- the field of row `n`
  row_at : (n : ℕ) → n < 32 → drop (get_or (field_rows c) n (0, [])).0 (bytes_of c) ≡ (get_or (field_rows c) n (0, [])).1 ++ row_bytes (drop (suc n) (field_rows c))
  unfolding bytes_of field_rows
  row_at n l = reach (packed c f.whole) n (get_or (field_rows c) n (0, [])).0 l (omega arith)

  -- the cache's own flag
  closed_at : number_at (bytes_of c) at_closed 2 ≡ flag c.closed
  unfolding field_rows
  closed_at = number_found 2 (flag c.closed) at_closed (bytes_of c) _ (omega (arith, flag_lt c.closed)) (row_at 3 (omega arith))

  -- and the number of its rule
  rule_at : number_at (bytes_of c) at_rule 4 ≡ deduction_number c.rule
  unfolding field_rows
  rule_at = number_found 4 (deduction_number c.rule) at_rule (bytes_of c) _ (omega (arith, deduction_lt c.rule)) (row_at 23 (omega arith))

  -- a cache that fits, stored and read back, is that cache
  pub round : cache_of (bytes_of c) ≡ c
  unfolding field_rows numbers_at
  round = λ i.
      record {
        k = number_found 4 c.k at_capacity (bytes_of c) _ f.k (row_at 1 (omega arith)) i;
        n = number_found 2 c.n at_count (bytes_of c) _ f.n (row_at 2 (omega arith)) i;
        closed = (ap (λ (v : ℕ). not (eqb v 0)) closed_at ∙ flag_told c.closed) i;
        steps = number_found 4 c.steps at_steps (bytes_of c) _ f.steps (row_at 4 (omega arith)) i;
        hits = number_found 4 c.hits at_hits (bytes_of c) _ f.hits (row_at 5 (omega arith)) i;
        loads = number_found 4 c.loads at_loads (bytes_of c) _ f.loads (row_at 6 (omega arith)) i;
        evictions = number_found 4 c.evictions at_evictions (bytes_of c) _ f.evictions (row_at 7 (omega arith)) i;
        dirtyevictions = number_found 4 c.dirtyevictions at_dirty_evictions (bytes_of c) _ f.dirtyevictions (row_at 8 (omega arith)) i;
        writebacks = number_found 4 c.writebacks at_writebacks (bytes_of c) _ f.writebacks (row_at 9 (omega arith)) i;
        flushes = number_found 4 c.flushes at_flushes (bytes_of c) _ f.flushes (row_at 10 (omega arith)) i;
        loadcost = number_found 8 c.loadcost at_load_cost (bytes_of c) _ f.loadcost (row_at 11 (omega arith)) i;
        writecost = number_found 8 c.writecost at_write_cost (bytes_of c) _ f.writecost (row_at 12 (omega arith)) i;
        dirty = numbers_found 8 4 at_dirty c.dirty (bytes_of c) _ f.whole.dirty f.dirty (row_at 13 (omega arith)) i;
        loadcredit = numbers_found 8 256 at_load_credits c.loadcredit (bytes_of c) _ f.whole.loadcredit f.loadcredit (row_at 14 (omega arith)) i;
        writecredit = numbers_found 8 256 at_write_credits c.writecredit (bytes_of c) _ f.whole.writecredit f.writecredit (row_at 15 (omega arith)) i;
        minutes = numbers_found 4 256 at_minutes c.minutes (bytes_of c) _ f.whole.minutes f.minutes (row_at 16 (omega arith)) i;
        itemloads = numbers_found 4 256 at_item_loads c.itemloads (bytes_of c) _ f.whole.itemloads f.itemloads (row_at 17 (omega arith)) i;
        itemwritebacks = numbers_found 4 256 at_item_writebacks c.itemwritebacks (bytes_of c) _ f.whole.itemwritebacks f.itemwritebacks (row_at 18 (omega arith)) i;
        load = numbers_found 2 256 at_item_load_costs c.load (bytes_of c) _ f.whole.load f.load (row_at 19 (omega arith)) i;
        write = numbers_found 2 256 at_item_write_costs c.write (bytes_of c) _ f.whole.write f.write (row_at 20 (omega arith)) i;
        blocks = numbers_found 1 256 at_blocks c.blocks (bytes_of c) _ f.whole.blocks f.blocks (row_at 21 (omega arith)) i;
        held = flags_found 256 at_held c.held (bytes_of c) _ f.whole.held (row_at 22 (omega arith)) i;
        rule = (ap deduction_of rule_at ∙ (deduction_number_lem c.rule).0) i;
        left = numbers_found 8 4 at_left c.left (bytes_of c) _ f.whole.left f.left (row_at 24 (omega arith)) i;
        arrivals = number_found 4 c.arrivals at_arrivals (bytes_of c) _ f.arrivals (row_at 25 (omega arith)) i;
        retirements = number_found 4 c.retirements at_retirements (bytes_of c) _ f.retirements (row_at 26 (omega arith)) i;
        level = number_found 8 c.level at_level (bytes_of c) _ f.level (row_at 28 (omega arith)) i;
        keys = numbers_found 8 256 at_keys c.keys (bytes_of c) _ f.whole.keys f.keys (row_at 29 (omega arith)) i;
        heap = numbers_found 1 256 at_heap c.heap (bytes_of c) _ f.whole.heap f.heap (row_at 30 (omega arith)) i;
        places = numbers_found 1 256 at_places c.places (bytes_of c) _ f.whole.places f.places (row_at 31 (omega arith)) i;
        used = number_found 4 c.used at_used (bytes_of c) _ f.used (row_at 27 (omega arith)) i;
      }

  -- the number of the layout stands at the head, and the flags are stored as 0 or 1
  pub allowed_bytes_of : AllowedBytes (bytes_of c)
  unfolding field_rows
  allowed_bytes_of = record {
    format = number_found 4 format at_format (bytes_of c) _ (omega arith) (row_at 0 (omega arith));
    closed = rw closed_at (flag_lt c.closed);
    held = λ i l. rw (← get_or-drop at_held (bytes_of c) i 0, row_at 22 (omega arith), get_or-append (flags c.held) (row_bytes (drop 23 (field_rows c))) 0 i (omega (arith, length_flags c.held, f.whole.held))) (flags_lt c.held i);
    rule = rw rule_at (deduction_lt c.rule);
  }

-- ---- read and stored again

-- whatever the bytes, each list that is read has all its places
pub whole : (b : List ℕ) → WholeArrays (cache_of b)
unfolding numbers_at
whole b = record {
  dirty = length_run_from 8 4 (drop at_dirty b);
  loadcredit = length_run_from 8 256 (drop at_load_credits b);
  writecredit = length_run_from 8 256 (drop at_write_credits b);
  minutes = length_run_from 4 256 (drop at_minutes b);
  itemloads = length_run_from 4 256 (drop at_item_loads b);
  itemwritebacks = length_run_from 4 256 (drop at_item_writebacks b);
  load = length_run_from 2 256 (drop at_item_load_costs b);
  write = length_run_from 2 256 (drop at_item_write_costs b);
  blocks = length_run_from 1 256 (drop at_blocks b);
  held = length_flags_from 256 (drop at_held b);
  left = length_run_from 8 4 (drop at_left b);
  keys = length_run_from 8 256 (drop at_keys b);
  heap = length_run_from 1 256 (drop at_heap b);
  places = length_run_from 1 256 (drop at_places b);
}

module _ (b : List ℕ) (h : Below 256 b) where
  -- a number, or each of several, that is read has room in the bytes that it was read from
  number_fits : (w at : ℕ) → number_at b at w < 256 ^ w
  unfolding number_at
  number_fits w at = from_take_lt w (drop at b) (below_drop 256 at b h)

  numbers_fit : (w n at : ℕ) → Below (256 ^ w) (numbers_at b at n w)
  unfolding numbers_at
  numbers_fit w n at = run_from_lt w n (drop at b) (below_drop 256 at b h)

  -- what bytes stand for has room in the layout
  pub fits : Fits (cache_of b)
  fits = record {
    whole = whole b;
    k = number_fits 4 at_capacity;
    n = number_fits 2 at_count;
    steps = number_fits 4 at_steps;
    hits = number_fits 4 at_hits;
    loads = number_fits 4 at_loads;
    evictions = number_fits 4 at_evictions;
    dirtyevictions = number_fits 4 at_dirty_evictions;
    writebacks = number_fits 4 at_writebacks;
    flushes = number_fits 4 at_flushes;
    loadcost = number_fits 8 at_load_cost;
    writecost = number_fits 8 at_write_cost;
    dirty = numbers_fit 8 4 at_dirty;
    loadcredit = numbers_fit 8 256 at_load_credits;
    writecredit = numbers_fit 8 256 at_write_credits;
    minutes = numbers_fit 4 256 at_minutes;
    itemloads = numbers_fit 4 256 at_item_loads;
    itemwritebacks = numbers_fit 4 256 at_item_writebacks;
    load = numbers_fit 2 256 at_item_load_costs;
    write = numbers_fit 2 256 at_item_write_costs;
    blocks = numbers_fit 1 256 at_blocks;
    left = numbers_fit 8 4 at_left;
    arrivals = number_fits 4 at_arrivals;
    retirements = number_fits 4 at_retirements;
    level = number_fits 8 at_level;
    keys = numbers_fit 8 256 at_keys;
    heap = numbers_fit 1 256 at_heap;
    places = numbers_fit 1 256 at_places;
    used = number_fits 4 at_used;
  }

module _ (b : List ℕ) (e : length b ≡ state_bytes) (h : Below 256 b) where
  -- a number, or numbers, and the bytes that follow
  number_back : (w at : ℕ) (rest : List ℕ) → at + w ≤ state_bytes → rest ≡ drop (at + w) b → to_bytes w (number_at b at w) ++ rest ≡ drop at b
  number_back w at rest l r = rw (r, to_back w at b (omega arith) h) (rejoin b at w (at + w) refl)

  numbers_back : (w n at : ℕ) (rest : List ℕ) → at + n * w ≤ state_bytes → rest ≡ drop (at + n * w) b → run_of w (numbers_at b at n w) ++ rest ≡ drop at b
  unfolding numbers_at
  numbers_back w n at rest l r = rw (r, run_back w n at b (omega arith) h) (rejoin b at (n * w) (at + n * w) refl)

  module _ (g : AllowedBytes b) where
    -- the number of the layout, and the two kinds of flags
    format_back : (rest : List ℕ) → rest ≡ drop at_capacity b → to_bytes 4 format ++ rest ≡ b
    format_back rest r = ap (λ (v : ℕ). to_bytes 4 v ++ rest) (sym g.format) ∙ number_back 4 at_format rest (omega arith) r

    closed_back : (rest : List ℕ) → rest ≡ drop at_steps b → to_bytes 2 (flag (not (eqb (number_at b at_closed 2) 0))) ++ rest ≡ drop at_closed b
    closed_back rest r = rw (flag_byte (number_at b at_closed 2) g.closed) (number_back 2 at_closed rest (omega arith) r)

    held_back : (rest : List ℕ) → rest ≡ drop at_rule b → flags (flags_from_bytes 256 (drop at_held b)) ++ rest ≡ drop at_held b
    held_back rest r = rw (r, flags_back 256 at_held b (omega arith) g.held) (rejoin b at_held 256 at_rule refl)

    rule_back : (rest : List ℕ) → rest ≡ drop at_left b → to_bytes 4 (deduction_number (deduction_of (number_at b at_rule 4))) ++ rest ≡ drop at_rule b
    rule_back rest r = rw (number_deduction (number_at b at_rule 4) g.rule) (number_back 4 at_rule rest (omega arith) r)

    -- behind the last field there is nothing
    last_back : run_of 1 (numbers_at b at_places 256 1) ++ [] ≡ drop at_places b
    unfolding numbers_at
    last_back =
        rw (append-nil, run_back 1 256 at_places b (omega arith) h)
        (take_all 256 (drop at_places b) (omega (arith, length-drop at_places b)))

    -- bytes that the layout allows, read and stored again, are those bytes
    pub back : bytes_of (cache_of b) ≡ b
    unfolding bytes_of field_rows
    back =
        format_back _
        (number_back 4 at_capacity _ (omega arith)
        (number_back 2 at_count _ (omega arith)
        (closed_back _
        (number_back 4 at_steps _ (omega arith)
        (number_back 4 at_hits _ (omega arith)
        (number_back 4 at_loads _ (omega arith)
        (number_back 4 at_evictions _ (omega arith)
        (number_back 4 at_dirty_evictions _ (omega arith)
        (number_back 4 at_writebacks _ (omega arith)
        (number_back 4 at_flushes _ (omega arith)
        (number_back 8 at_load_cost _ (omega arith)
        (number_back 8 at_write_cost _ (omega arith)
        (numbers_back 8 4 at_dirty _ (omega arith)
        (numbers_back 8 256 at_load_credits _ (omega arith)
        (numbers_back 8 256 at_write_credits _ (omega arith)
        (numbers_back 4 256 at_minutes _ (omega arith)
        (numbers_back 4 256 at_item_loads _ (omega arith)
        (numbers_back 4 256 at_item_writebacks _ (omega arith)
        (numbers_back 2 256 at_item_load_costs _ (omega arith)
        (numbers_back 2 256 at_item_write_costs _ (omega arith)
        (numbers_back 1 256 at_blocks _ (omega arith)
        (held_back _
        (rule_back _
        (numbers_back 8 4 at_left _ (omega arith) (number_back 4 at_arrivals _ (omega arith)
        (number_back 4 at_retirements _ (omega arith)
        (number_back 4 at_used _ (omega arith)
        (number_back 8 at_level _ (omega arith)
        (numbers_back 8 256 at_keys _ (omega arith)
        (numbers_back 1 256 at_heap _ (omega arith) last_back))))))))))))))))))))))))))))))
