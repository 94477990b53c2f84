-- A store inside one row of a state's bytes: they are then those of the cache that has the field so. One law for a row, one for each
-- kind of field, and from these one for each field. Assumes nothing.
use mathlib.Core.Path.{◌≡◌, refl, sym, ap, subst, ◌∙◌}
use mathlib.Core.List.{List, [], ◌∷◌}
use mathlib.Core.Bool.{Bool, true, false}
use Prim.Native.Nat.{ℕ, ◌+◌, ◌*◌, ◌^◌, ◌≤◌, ◌<◌}
use native.Mathlib.Nat.{mul-le-mul_right}
use native.Mathlib.Decide.{ℕ_discrete}
use native.Mathlib.Omega.{arith}
use borrow.Author.Rules.{rules}
use mir.Syntax.{w8, w64}
use mir.Val.{bool_byte, Fits as FitsIn}
use lib.ListN.{length, drop, get_or, set, length-set}
use lib.Seq.{sets, get_or-set_same, get_or-set_other}
use Rattle.fields.specs.LittleEndian.{to_bytes}
use Rattle.fields.specs.Inner.{Below, run_of, flags}
use Rattle.std.proofs.lemmas.List.{drop_more, drop_all}
use Rattle.fields.proofs.Laws.{byte_fits, length_to, length_run, length_flags, sets_all, sets_append, run_set, flags_set}
use Rattle.types.specs.declared.Deduction.{Deduction}
use Rattle.types.specs.Types.{deduction_number}
use Rattle.cache_state.specs.Cache.{Cache}
use Rattle.cache_state.specs.InnerWith.{with_capacity, with_count, with_closed, with_rule, with_steps, with_hits, with_loads, with_evictions, with_dirty_evictions, with_writebacks, with_flushes, with_load_cost, with_write_cost, with_dirty, with_load_credit, with_write_credit, with_minutes, with_item_loads, with_item_writebacks, with_item_load_cost, with_item_write_cost, with_blocks, with_held, with_left, with_arrivals, with_retirements, with_level, with_key, with_used, with_arrangement, with_heap_item, with_place}
use Rattle.layout.specs.Layout.{cache_of}
use Rattle.layout.specs.InnerRows.{at_capacity, at_count, at_closed, at_steps, at_hits, at_loads, at_evictions, at_dirty_evictions, at_writebacks, at_flushes, at_load_cost, at_write_cost, at_dirty, at_load_credits, at_write_credits, at_minutes, at_item_loads, at_item_writebacks, at_item_load_costs, at_item_write_costs, at_blocks, at_held, at_rule, at_left, at_arrivals, at_retirements, at_level, at_keys, at_heap, at_places, at_used, FieldRow, row_bytes, field_rows, bytes_of, flag, Fits}
use Rattle.layout.specs.Inner.{Stands, Readable}
use Rattle.layout.proofs.Rows.{replaced, sets_row}
use Rattle.layout.proofs.Rounds.{packed, fits}
use Rattle.layout.proofs.Places.{stands, encoded}

-- 256 numbers that have room in their bytes
record Numbers (m : ℕ) (xs : List ℕ) : Type 0 where
  size : length xs ≡ 256
  below : Below m xs

-- and with one of them set
with_one : (m : ℕ) (xs : List ℕ) (i v : ℕ) → length xs ≡ 256 → Below m xs → i < 256 → v < m → Numbers m (set xs i v)
with_one m xs i v e b l h = record { size = length-set xs i v ∙ e; below = λ j. go j (ℕ_discrete j i) }
  where
    go : (j : ℕ) → Dec (j ≡ i) → get_or (set xs i v) j 0 < m
    go j (yes s) = subst (λ (z : ℕ). get_or (set xs i v) z 0 < m) (sym s) (rw (get_or-set_same xs i v 0 (omega arith)) h)
    go j (no s) = rw (get_or-set_other xs i j v 0 s) (b j)

-- a yes or no, as the code makes it a number, and as it makes it a byte
pub as_flag : (f : Bool) → bool_byte f ≡ flag f
as_flag true = refl
as_flag false = refl

as_byte : (f : Bool) → to_bytes 1 (bool_byte f) ≡ flag f ∷ []
unfolding to_bytes
as_byte true = refl
as_byte false = refl

-- words stored one by one: what is left of them, stored behind one more, leads to the same bytes
pub word_more :
    (b ws : List ℕ) (at j : ℕ) →
    j < length ws →
    {after : List ℕ} →
    after ≡ sets b (at + j * 8) (to_bytes 8 (get_or ws j 0)) →
    sets after (at + (j + 1) * 8) (run_of 8 (drop (j + 1) ws)) ≡ sets b (at + j * 8) (run_of 8 (drop j ws))
unfolding run_of
word_more b ws at j l is =
    let w : ℕ = get_or ws j 0 in
    let e : at + (j + 1) * 8 ≡ at + j * 8 + length (to_bytes 8 w) = omega (arith, length_to 8 w) in
    rw (is, e, ← sets_append b (at + j * 8) (to_bytes 8 w) (run_of 8 (drop (j + 1) ws)), drop_more ws j 0 l)

pub words_done : (b ws : List ℕ) (at j : ℕ) → length ws ≤ j → sets b at (run_of 8 (drop j ws)) ≡ b
unfolding run_of
words_done b ws at j l = rw (drop_all j ws l)

-- bytes that stand for a cache, which they are then those of
module _ {b : List ℕ} (bytes : (j : ℕ) → FitsIn w8 (get_or b j 0)) (reads : Readable b) where
  low : Below 256 b
  low j = byte_fits (bytes j)

  fit : Fits (cache_of b)
  fit = fits b low

  -- ---- a store into a row

  -- `off` bytes into row `n`, which stands at the place `at`: d is the cache that has the row so
  row_stored :
      (n at off : ℕ) (x y : List ℕ) (d : Cache) →
      n < 32 →
      (get_or (field_rows (cache_of b)) n (0, [])).0 ≡ at →
      off + length x ≤ length (get_or (field_rows (cache_of b)) n (0, [])).1 →
      sets (get_or (field_rows (cache_of b)) n (0, [])).1 off x ≡ y →
      row_bytes (replaced (field_rows (cache_of b)) n y) ≡ bytes_of d →
      Fits d →
      {after : List ℕ} → after ≡ sets b (at + off) x → Stands after d
  unfolding bytes_of field_rows
  row_stored n at off x y d l place k e z f is =
      stands
      (is
      ∙ ap (λ (u : List ℕ). sets u (at + off) x) (encoded b low reads)
      ∙ sets_row (packed (cache_of b) fit.whole) n at off x l (place ∙ (let w : at ≡ 0 + at = omega arith in w)) k
      ∙ ap (λ (u : List ℕ). row_bytes (replaced (field_rows (cache_of b)) n u)) e
      ∙ z)
      f

  -- a number over a number, and a number of a run
  number_stored :
      (n at w u v : ℕ) (d : Cache) →
      n < 32 →
      get_or (field_rows (cache_of b)) n (0, []) ≡ (at, to_bytes w u) →
      row_bytes (replaced (field_rows (cache_of b)) n (to_bytes w v)) ≡ bytes_of d →
      Fits d →
      {after : List ℕ} → after ≡ sets b at (to_bytes w v) → Stands after d
  number_stored n at w u v d l e z f is =
      row_stored n at 0 (to_bytes w v) (to_bytes w v) d l (ap (λ (r : FieldRow). r.0) e)
      (rw e (omega (arith, length_to w v, length_to w u)))
      (rw e (sets_all (to_bytes w u) (to_bytes w v) (length_to w v ∙ sym (length_to w u)))) z f
      (is ∙ (let a : at ≡ at + 0 = omega arith in ap (λ (p : ℕ). sets b p (to_bytes w v)) a))

  entry_stored :
      (n at w : ℕ) (xs : List ℕ) (i v : ℕ) (d : Cache) →
      n < 32 →
      get_or (field_rows (cache_of b)) n (0, []) ≡ (at, run_of w xs) →
      i < length xs →
      row_bytes (replaced (field_rows (cache_of b)) n (run_of w (set xs i v))) ≡ bytes_of d →
      Fits d →
      {after : List ℕ} → after ≡ sets b (at + i * w) (to_bytes w v) → Stands after d
  entry_stored n at w xs i v d l e k z f is =
      row_stored n at (i * w) (to_bytes w v) (run_of w (set xs i v)) d l (ap (λ (r : FieldRow). r.0) e)
      (rw e (omega (arith, length_to w v, length_run w xs, mul-le-mul_right w k)))
      (rw e (run_set w xs i v k)) z f is

  -- ---- each field: which row it is, and that the cache with the field so still fits, of which `search` looks up what is unchanged

  pub capacity_stored : (v : ℕ) → v < 2 ^ 32 → {after : List ℕ} → after ≡ sets b at_capacity (to_bytes 4 v) → Stands after (with_capacity (cache_of b) v)
  unfolding bytes_of field_rows
  capacity_stored v z is = number_stored 1 at_capacity 4 (cache_of b).k v (with_capacity (cache_of b) v) (omega arith) refl refl (search (rules, fit)) is

  pub count_stored : (v : ℕ) → v < 2 ^ 16 → {after : List ℕ} → after ≡ sets b at_count (to_bytes 2 v) → Stands after (with_count (cache_of b) v)
  unfolding bytes_of field_rows
  count_stored v z is = number_stored 2 at_count 2 (cache_of b).n v (with_count (cache_of b) v) (omega arith) refl refl (search (rules, fit)) is

  pub closed_stored : (f : Bool) → {after : List ℕ} → after ≡ sets b at_closed (to_bytes 2 (bool_byte f)) → Stands after (with_closed (cache_of b) f)
  unfolding bytes_of field_rows
  closed_stored f is =
      number_stored 3 at_closed 2 (flag (cache_of b).closed) (flag f) (with_closed (cache_of b) f) (omega arith) refl refl (search (rules, fit))
      (is ∙ ap (λ (v : ℕ). sets b at_closed (to_bytes 2 v)) (as_flag f))

  pub steps_stored : (v : ℕ) → v < 2 ^ 32 → {after : List ℕ} → after ≡ sets b at_steps (to_bytes 4 v) → Stands after (with_steps (cache_of b) v)
  unfolding bytes_of field_rows
  steps_stored v z is = number_stored 4 at_steps 4 (cache_of b).steps v (with_steps (cache_of b) v) (omega arith) refl refl (search (rules, fit)) is

  pub hits_stored : (v : ℕ) → v < 2 ^ 32 → {after : List ℕ} → after ≡ sets b at_hits (to_bytes 4 v) → Stands after (with_hits (cache_of b) v)
  unfolding bytes_of field_rows
  hits_stored v z is = number_stored 5 at_hits 4 (cache_of b).hits v (with_hits (cache_of b) v) (omega arith) refl refl (search (rules, fit)) is

  pub loads_stored : (v : ℕ) → v < 2 ^ 32 → {after : List ℕ} → after ≡ sets b at_loads (to_bytes 4 v) → Stands after (with_loads (cache_of b) v)
  unfolding bytes_of field_rows
  loads_stored v z is = number_stored 6 at_loads 4 (cache_of b).loads v (with_loads (cache_of b) v) (omega arith) refl refl (search (rules, fit)) is

  pub evictions_stored : (v : ℕ) → v < 2 ^ 32 → {after : List ℕ} → after ≡ sets b at_evictions (to_bytes 4 v) → Stands after (with_evictions (cache_of b) v)
  unfolding bytes_of field_rows
  evictions_stored v z is = number_stored 7 at_evictions 4 (cache_of b).evictions v (with_evictions (cache_of b) v) (omega arith) refl refl (search (rules, fit)) is

  pub dirty_evictions_stored : (v : ℕ) → v < 2 ^ 32 → {after : List ℕ} → after ≡ sets b at_dirty_evictions (to_bytes 4 v) → Stands after (with_dirty_evictions (cache_of b) v)
  unfolding bytes_of field_rows
  dirty_evictions_stored v z is = number_stored 8 at_dirty_evictions 4 (cache_of b).dirtyevictions v (with_dirty_evictions (cache_of b) v) (omega arith) refl refl (search (rules, fit)) is

  pub writebacks_stored : (v : ℕ) → v < 2 ^ 32 → {after : List ℕ} → after ≡ sets b at_writebacks (to_bytes 4 v) → Stands after (with_writebacks (cache_of b) v)
  unfolding bytes_of field_rows
  writebacks_stored v z is = number_stored 9 at_writebacks 4 (cache_of b).writebacks v (with_writebacks (cache_of b) v) (omega arith) refl refl (search (rules, fit)) is

  pub flushes_stored : (v : ℕ) → v < 2 ^ 32 → {after : List ℕ} → after ≡ sets b at_flushes (to_bytes 4 v) → Stands after (with_flushes (cache_of b) v)
  unfolding bytes_of field_rows
  flushes_stored v z is = number_stored 10 at_flushes 4 (cache_of b).flushes v (with_flushes (cache_of b) v) (omega arith) refl refl (search (rules, fit)) is

  pub load_cost_stored : (v : ℕ) → v < 2 ^ 64 → {after : List ℕ} → after ≡ sets b at_load_cost (to_bytes 8 v) → Stands after (with_load_cost (cache_of b) v)
  unfolding bytes_of field_rows
  load_cost_stored v z is = number_stored 11 at_load_cost 8 (cache_of b).loadcost v (with_load_cost (cache_of b) v) (omega arith) refl refl (search (rules, fit)) is

  pub write_cost_stored : (v : ℕ) → v < 2 ^ 64 → {after : List ℕ} → after ≡ sets b at_write_cost (to_bytes 8 v) → Stands after (with_write_cost (cache_of b) v)
  unfolding bytes_of field_rows
  write_cost_stored v z is = number_stored 12 at_write_cost 8 (cache_of b).writecost v (with_write_cost (cache_of b) v) (omega arith) refl refl (search (rules, fit)) is

  pub dirty_stored : (ws : List ℕ) → length ws ≡ 4 → ((k : ℕ) → FitsIn w64 (get_or ws k 0)) → {after : List ℕ} → after ≡ sets b at_dirty (run_of 8 ws) → Stands after (with_dirty (cache_of b) ws)
  unfolding bytes_of field_rows
  dirty_stored ws l h is =
      let z : Below (2 ^ 64) ws = λ k. (h k).fits in
      let e : length (run_of 8 ws) ≡ length (run_of 8 (cache_of b).dirty) = omega (arith, length_run 8 ws, length_run 8 (cache_of b).dirty, fit.whole.dirty) in
      row_stored 13 at_dirty 0 (run_of 8 ws) (run_of 8 ws) (with_dirty (cache_of b) ws) (omega arith) refl (omega arith) (sets_all (run_of 8 (cache_of b).dirty) (run_of 8 ws) e) refl (search (rules, fit)) is

  pub load_credit_stored : (i v : ℕ) → i < 256 → v < 2 ^ 64 → {after : List ℕ} → after ≡ sets b (at_load_credits + i * 8) (to_bytes 8 v) → Stands after (with_load_credit (cache_of b) i v)
  unfolding bytes_of field_rows
  load_credit_stored i v l z is =
      let u : Numbers (2 ^ 64) (set (cache_of b).loadcredit i v) = with_one (2 ^ 64) (cache_of b).loadcredit i v fit.whole.loadcredit fit.loadcredit l z in
      entry_stored 14 at_load_credits 8 (cache_of b).loadcredit i v (with_load_credit (cache_of b) i v) (omega arith) refl (omega (arith, fit.whole.loadcredit)) refl (search (rules, fit)) is

  pub write_credit_stored : (i v : ℕ) → i < 256 → v < 2 ^ 64 → {after : List ℕ} → after ≡ sets b (at_write_credits + i * 8) (to_bytes 8 v) → Stands after (with_write_credit (cache_of b) i v)
  unfolding bytes_of field_rows
  write_credit_stored i v l z is =
      let u : Numbers (2 ^ 64) (set (cache_of b).writecredit i v) = with_one (2 ^ 64) (cache_of b).writecredit i v fit.whole.writecredit fit.writecredit l z in
      entry_stored 15 at_write_credits 8 (cache_of b).writecredit i v (with_write_credit (cache_of b) i v) (omega arith) refl (omega (arith, fit.whole.writecredit)) refl (search (rules, fit)) is

  pub minutes_stored : (i v : ℕ) → i < 256 → v < 2 ^ 32 → {after : List ℕ} → after ≡ sets b (at_minutes + i * 4) (to_bytes 4 v) → Stands after (with_minutes (cache_of b) i v)
  unfolding bytes_of field_rows
  minutes_stored i v l z is =
      let u : Numbers (2 ^ 32) (set (cache_of b).minutes i v) = with_one (2 ^ 32) (cache_of b).minutes i v fit.whole.minutes fit.minutes l z in
      entry_stored 16 at_minutes 4 (cache_of b).minutes i v (with_minutes (cache_of b) i v) (omega arith) refl (omega (arith, fit.whole.minutes)) refl (search (rules, fit)) is

  pub item_loads_stored : (i v : ℕ) → i < 256 → v < 2 ^ 32 → {after : List ℕ} → after ≡ sets b (at_item_loads + i * 4) (to_bytes 4 v) → Stands after (with_item_loads (cache_of b) i v)
  unfolding bytes_of field_rows
  item_loads_stored i v l z is =
      let u : Numbers (2 ^ 32) (set (cache_of b).itemloads i v) = with_one (2 ^ 32) (cache_of b).itemloads i v fit.whole.itemloads fit.itemloads l z in
      entry_stored 17 at_item_loads 4 (cache_of b).itemloads i v (with_item_loads (cache_of b) i v) (omega arith) refl (omega (arith, fit.whole.itemloads)) refl (search (rules, fit)) is

  pub item_writebacks_stored : (i v : ℕ) → i < 256 → v < 2 ^ 32 → {after : List ℕ} → after ≡ sets b (at_item_writebacks + i * 4) (to_bytes 4 v) → Stands after (with_item_writebacks (cache_of b) i v)
  unfolding bytes_of field_rows
  item_writebacks_stored i v l z is =
      let u : Numbers (2 ^ 32) (set (cache_of b).itemwritebacks i v) = with_one (2 ^ 32) (cache_of b).itemwritebacks i v fit.whole.itemwritebacks fit.itemwritebacks l z in
      entry_stored 18 at_item_writebacks 4 (cache_of b).itemwritebacks i v (with_item_writebacks (cache_of b) i v) (omega arith) refl (omega (arith, fit.whole.itemwritebacks)) refl (search (rules, fit)) is

  pub item_load_cost_stored : (i v : ℕ) → i < 256 → v < 2 ^ 16 → {after : List ℕ} → after ≡ sets b (at_item_load_costs + i * 2) (to_bytes 2 v) → Stands after (with_item_load_cost (cache_of b) i v)
  unfolding bytes_of field_rows
  item_load_cost_stored i v l z is =
      let u : Numbers (2 ^ 16) (set (cache_of b).load i v) = with_one (2 ^ 16) (cache_of b).load i v fit.whole.load fit.load l z in
      entry_stored 19 at_item_load_costs 2 (cache_of b).load i v (with_item_load_cost (cache_of b) i v) (omega arith) refl (omega (arith, fit.whole.load)) refl (search (rules, fit)) is

  pub item_write_cost_stored : (i v : ℕ) → i < 256 → v < 2 ^ 16 → {after : List ℕ} → after ≡ sets b (at_item_write_costs + i * 2) (to_bytes 2 v) → Stands after (with_item_write_cost (cache_of b) i v)
  unfolding bytes_of field_rows
  item_write_cost_stored i v l z is =
      let u : Numbers (2 ^ 16) (set (cache_of b).write i v) = with_one (2 ^ 16) (cache_of b).write i v fit.whole.write fit.write l z in
      entry_stored 20 at_item_write_costs 2 (cache_of b).write i v (with_item_write_cost (cache_of b) i v) (omega arith) refl (omega (arith, fit.whole.write)) refl (search (rules, fit)) is

  pub blocks_stored : (i v : ℕ) → i < 256 → v < 2 ^ 8 → {after : List ℕ} → after ≡ sets b (at_blocks + i) (to_bytes 1 v) → Stands after (with_blocks (cache_of b) i v)
  unfolding bytes_of field_rows
  blocks_stored i v l z is =
      let u : Numbers (2 ^ 8) (set (cache_of b).blocks i v) = with_one (2 ^ 8) (cache_of b).blocks i v fit.whole.blocks fit.blocks l z in
      entry_stored 21 at_blocks 1 (cache_of b).blocks i v (with_blocks (cache_of b) i v) (omega arith) refl (omega (arith, fit.whole.blocks)) refl (search (rules, fit)) (is ∙ (let e : i ≡ i * 1 = omega arith in ap (λ (p : ℕ). sets b (at_blocks + p) (to_bytes 1 v)) e))

  pub held_stored : (i : ℕ) (f : Bool) → i < 256 → {after : List ℕ} → after ≡ sets b (at_held + i) (to_bytes 1 (bool_byte f)) → Stands after (with_held (cache_of b) i f)
  unfolding bytes_of field_rows
  held_stored i f l is =
      let e : length (set (cache_of b).held i f) ≡ 256 = length-set (cache_of b).held i f ∙ fit.whole.held in
      row_stored 22 at_held i (flag f ∷ []) (flags (set (cache_of b).held i f)) (with_held (cache_of b) i f) (omega arith) refl (omega (arith, length_flags (cache_of b).held, fit.whole.held))
      (flags_set (cache_of b).held i f) refl (search (rules, fit)) (is ∙ ap (sets b (at_held + i)) (as_byte f))

  pub rule_stored : (r : Deduction) → {after : List ℕ} → after ≡ sets b at_rule (to_bytes 4 (deduction_number r)) → Stands after (with_rule (cache_of b) r)
  unfolding bytes_of field_rows
  rule_stored r is =
      number_stored 23 at_rule 4 (deduction_number (cache_of b).rule) (deduction_number r) (with_rule (cache_of b) r) (omega arith) refl refl (search (rules, fit)) is

  pub left_stored : (ws : List ℕ) → length ws ≡ 4 → ((k : ℕ) → FitsIn w64 (get_or ws k 0)) → {after : List ℕ} → after ≡ sets b at_left (run_of 8 ws) → Stands after (with_left (cache_of b) ws)
  unfolding bytes_of field_rows
  left_stored ws l h is =
      let z : Below (2 ^ 64) ws = λ k. (h k).fits in
      let e : length (run_of 8 ws) ≡ length (run_of 8 (cache_of b).left) = omega (arith, length_run 8 ws, length_run 8 (cache_of b).left, fit.whole.left) in
      row_stored 24 at_left 0 (run_of 8 ws) (run_of 8 ws) (with_left (cache_of b) ws) (omega arith) refl (omega arith) (sets_all (run_of 8 (cache_of b).left) (run_of 8 ws) e) refl (search (rules, fit)) is

  pub arrivals_stored : (v : ℕ) → v < 2 ^ 32 → {after : List ℕ} → after ≡ sets b at_arrivals (to_bytes 4 v) → Stands after (with_arrivals (cache_of b) v)
  unfolding bytes_of field_rows
  arrivals_stored v z is = number_stored 25 at_arrivals 4 (cache_of b).arrivals v (with_arrivals (cache_of b) v) (omega arith) refl refl (search (rules, fit)) is

  pub retirements_stored : (v : ℕ) → v < 2 ^ 32 → {after : List ℕ} → after ≡ sets b at_retirements (to_bytes 4 v) → Stands after (with_retirements (cache_of b) v)
  unfolding bytes_of field_rows
  retirements_stored v z is = number_stored 26 at_retirements 4 (cache_of b).retirements v (with_retirements (cache_of b) v) (omega arith) refl refl (search (rules, fit)) is

  pub level_stored : (v : ℕ) → v < 2 ^ 64 → {after : List ℕ} → after ≡ sets b at_level (to_bytes 8 v) → Stands after (with_level (cache_of b) v)
  unfolding bytes_of field_rows
  level_stored v z is = number_stored 28 at_level 8 (cache_of b).level v (with_level (cache_of b) v) (omega arith) refl refl (search (rules, fit)) is

  pub key_stored : (i v : ℕ) → i < 256 → v < 2 ^ 64 → {after : List ℕ} → after ≡ sets b (at_keys + i * 8) (to_bytes 8 v) → Stands after (with_key (cache_of b) i v)
  unfolding bytes_of field_rows
  key_stored i v l z is =
      let u : Numbers (2 ^ 64) (set (cache_of b).keys i v) = with_one (2 ^ 64) (cache_of b).keys i v fit.whole.keys fit.keys l z in
      entry_stored 29 at_keys 8 (cache_of b).keys i v (with_key (cache_of b) i v) (omega arith) refl (omega (arith, fit.whole.keys)) refl (search (rules, fit)) is

  pub heap_item_stored : (i v : ℕ) → i < 256 → v < 2 ^ 8 → {after : List ℕ} → after ≡ sets b (at_heap + i) (to_bytes 1 v) → Stands after (with_heap_item (cache_of b) i v)
  unfolding bytes_of field_rows
  heap_item_stored i v l z is =
      let u : Numbers (2 ^ 8) (set (cache_of b).heap i v) = with_one (2 ^ 8) (cache_of b).heap i v fit.whole.heap fit.heap l z in
      entry_stored 30 at_heap 1 (cache_of b).heap i v (with_heap_item (cache_of b) i v) (omega arith) refl (omega (arith, fit.whole.heap)) refl (search (rules, fit)) (is ∙ (let e : i ≡ i * 1 = omega arith in ap (λ (p : ℕ). sets b (at_heap + p) (to_bytes 1 v)) e))

  pub place_stored : (i v : ℕ) → i < 256 → v < 2 ^ 8 → {after : List ℕ} → after ≡ sets b (at_places + i) (to_bytes 1 v) → Stands after (with_place (cache_of b) i v)
  unfolding bytes_of field_rows
  place_stored i v l z is =
      let u : Numbers (2 ^ 8) (set (cache_of b).places i v) = with_one (2 ^ 8) (cache_of b).places i v fit.whole.places fit.places l z in
      entry_stored 31 at_places 1 (cache_of b).places i v (with_place (cache_of b) i v) (omega arith) refl (omega (arith, fit.whole.places)) refl (search (rules, fit)) (is ∙ (let e : i ≡ i * 1 = omega arith in ap (λ (p : ℕ). sets b (at_places + p) (to_bytes 1 v)) e))

  pub used_stored : (v : ℕ) → v < 2 ^ 32 → {after : List ℕ} → after ≡ sets b at_used (to_bytes 4 v) → Stands after (with_used (cache_of b) v)
  unfolding bytes_of field_rows
  used_stored v z is = number_stored 27 at_used 4 (cache_of b).used v (with_used (cache_of b) v) (omega arith) refl refl (search (rules, fit)) is

  -- the two rows of the heap, whole
  pub heap_stored : (xs : List ℕ) → length xs ≡ 256 → Below (2 ^ 8) xs → {after : List ℕ} → after ≡ sets b at_heap (run_of 1 xs) → Stands after (with_arrangement (cache_of b) xs (cache_of b).places)
  unfolding bytes_of field_rows
  heap_stored xs l z is =
      let e : length (run_of 1 xs) ≡ length (run_of 1 (cache_of b).heap) = omega (arith, length_run 1 xs, length_run 1 (cache_of b).heap, fit.whole.heap) in
      row_stored 30 at_heap 0 (run_of 1 xs) (run_of 1 xs) (with_arrangement (cache_of b) xs (cache_of b).places) (omega arith) refl (omega arith) (sets_all (run_of 1 (cache_of b).heap) (run_of 1 xs) e) refl (search (rules, fit)) is

  pub places_stored : (xs : List ℕ) → length xs ≡ 256 → Below (2 ^ 8) xs → {after : List ℕ} → after ≡ sets b at_places (run_of 1 xs) → Stands after (with_arrangement (cache_of b) (cache_of b).heap xs)
  unfolding bytes_of field_rows
  places_stored xs l z is =
      let e : length (run_of 1 xs) ≡ length (run_of 1 (cache_of b).places) = omega (arith, length_run 1 xs, length_run 1 (cache_of b).places, fit.whole.places) in
      row_stored 31 at_places 0 (run_of 1 xs) (run_of 1 xs) (with_arrangement (cache_of b) (cache_of b).heap xs) (omega arith) refl (omega arith) (sets_all (run_of 1 (cache_of b).places) (run_of 1 xs) e) refl (search (rules, fit)) is
