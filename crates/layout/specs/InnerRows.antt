-- The rows of the layout, each field with its place and its bytes, and which caches it has room for. For the laws that bytes and
-- caches are one to one (proofs/Rounds.antt); no promise of an entry point cites this file. Assumes nothing.
use mathlib.Core.{Path.◌≡◌, Bool.{Bool, cond}, List.{List, [], ◌∷◌, ◌++◌}}
use Rattle.std.specs.Prelude.{ℕ, ◌^◌, ◌<◌, length}
use Rattle.fields.specs.LittleEndian.{to_bytes}
use Rattle.fields.specs.Inner.{run_of, flags, Below}
use Rattle.types.specs.Types.{deduction_number}
use Rattle.cache_state.specs.Cache.{Cache}
use Rattle.layout.specs.Layout.{format}

-- ---- where each field stands

abbrev pub at_format : ℕ
at_format = 0

abbrev pub at_capacity : ℕ
at_capacity = 4

abbrev pub at_count : ℕ
at_count = 8

abbrev pub at_closed : ℕ
at_closed = 10

abbrev pub at_steps : ℕ
at_steps = 12

abbrev pub at_hits : ℕ
at_hits = 16

abbrev pub at_loads : ℕ
at_loads = 20

abbrev pub at_evictions : ℕ
at_evictions = 24

abbrev pub at_dirty_evictions : ℕ
at_dirty_evictions = 28

abbrev pub at_writebacks : ℕ
at_writebacks = 32

abbrev pub at_flushes : ℕ
at_flushes = 36

abbrev pub at_load_cost : ℕ
at_load_cost = 40

abbrev pub at_write_cost : ℕ
at_write_cost = 48

abbrev pub at_dirty : ℕ
at_dirty = 56

abbrev pub at_load_credits : ℕ
at_load_credits = 88

abbrev pub at_write_credits : ℕ
at_write_credits = 2136

abbrev pub at_minutes : ℕ
at_minutes = 4184

abbrev pub at_item_loads : ℕ
at_item_loads = 5208

abbrev pub at_item_writebacks : ℕ
at_item_writebacks = 6232

abbrev pub at_item_load_costs : ℕ
at_item_load_costs = 7256

abbrev pub at_item_write_costs : ℕ
at_item_write_costs = 7768

abbrev pub at_blocks : ℕ
at_blocks = 8280

abbrev pub at_held : ℕ
at_held = 8536

abbrev pub at_rule : ℕ
at_rule = 8792

abbrev pub at_left : ℕ
at_left = 8796

abbrev pub at_arrivals : ℕ
at_arrivals = 8828

abbrev pub at_retirements : ℕ
at_retirements = 8832

abbrev pub at_used : ℕ
at_used = 8836

abbrev pub at_level : ℕ
at_level = 8840

abbrev pub at_keys : ℕ
at_keys = 8848

abbrev pub at_heap : ℕ
at_heap = 10896

abbrev pub at_places : ℕ
at_places = 11152

-- ---- the rows

-- a yes or no as a number
abbrev pub flag : Bool → ℕ
flag f = cond f 1 0

-- a field in its place: where it stands, and its bytes
abbrev pub FieldRow : Type 0
FieldRow = ℕ × List ℕ

-- the bytes of rows, one after another
abbrev pub row_bytes : List FieldRow → List ℕ
row_bytes [] = []
row_bytes (r ∷ rs) = r.1 ++ row_bytes rs

unfoldable pub field_rows : Cache → List FieldRow
field_rows c =
    (at_format, to_bytes 4 format)
    ∷ (at_capacity, to_bytes 4 c.k)
    ∷ (at_count, to_bytes 2 c.n)
    ∷ (at_closed, to_bytes 2 (flag c.closed))
    ∷ (at_steps, to_bytes 4 c.steps)
    ∷ (at_hits, to_bytes 4 c.hits)
    ∷ (at_loads, to_bytes 4 c.loads)
    ∷ (at_evictions, to_bytes 4 c.evictions)
    ∷ (at_dirty_evictions, to_bytes 4 c.dirtyevictions)
    ∷ (at_writebacks, to_bytes 4 c.writebacks)
    ∷ (at_flushes, to_bytes 4 c.flushes)
    ∷ (at_load_cost, to_bytes 8 c.loadcost)
    ∷ (at_write_cost, to_bytes 8 c.writecost)
    ∷ (at_dirty, run_of 8 c.dirty)
    ∷ (at_load_credits, run_of 8 c.loadcredit)
    ∷ (at_write_credits, run_of 8 c.writecredit)
    ∷ (at_minutes, run_of 4 c.minutes)
    ∷ (at_item_loads, run_of 4 c.itemloads)
    ∷ (at_item_writebacks, run_of 4 c.itemwritebacks)
    ∷ (at_item_load_costs, run_of 2 c.load)
    ∷ (at_item_write_costs, run_of 2 c.write)
    ∷ (at_blocks, run_of 1 c.blocks)
    ∷ (at_held, flags c.held)
    ∷ (at_rule, to_bytes 4 (deduction_number c.rule))
    ∷ (at_left, run_of 8 c.left)
    ∷ (at_arrivals, to_bytes 4 c.arrivals)
    ∷ (at_retirements, to_bytes 4 c.retirements)
    ∷ (at_used, to_bytes 4 c.used)
    ∷ (at_level, to_bytes 8 c.level)
    ∷ (at_keys, run_of 8 c.keys)
    ∷ (at_heap, run_of 1 c.heap)
    ∷ (at_places, run_of 1 c.places)
    ∷ []

-- the bytes of a cache
unfoldable pub bytes_of : Cache → List ℕ
bytes_of c = row_bytes (field_rows c)

-- every array has all its places
pub record WholeArrays (c : Cache) : Type 0 where
  pub dirty : length c.dirty ≡ 4
  pub loadcredit : length c.loadcredit ≡ 256
  pub writecredit : length c.writecredit ≡ 256
  pub minutes : length c.minutes ≡ 256
  pub itemloads : length c.itemloads ≡ 256
  pub itemwritebacks : length c.itemwritebacks ≡ 256
  pub load : length c.load ≡ 256
  pub write : length c.write ≡ 256
  pub blocks : length c.blocks ≡ 256
  pub held : length c.held ≡ 256
  pub left : length c.left ≡ 4
  pub keys : length c.keys ≡ 256
  pub heap : length c.heap ≡ 256
  pub places : length c.places ≡ 256

-- and every number has room in its bytes
pub record Fits (c : Cache) : Type 0 where
  pub whole : WholeArrays c
  pub k : c.k < 2 ^ 32
  pub n : c.n < 2 ^ 16
  pub steps : c.steps < 2 ^ 32
  pub hits : c.hits < 2 ^ 32
  pub loads : c.loads < 2 ^ 32
  pub evictions : c.evictions < 2 ^ 32
  pub dirtyevictions : c.dirtyevictions < 2 ^ 32
  pub writebacks : c.writebacks < 2 ^ 32
  pub flushes : c.flushes < 2 ^ 32
  pub loadcost : c.loadcost < 2 ^ 64
  pub writecost : c.writecost < 2 ^ 64
  pub dirty : Below (2 ^ 64) c.dirty
  pub loadcredit : Below (2 ^ 64) c.loadcredit
  pub writecredit : Below (2 ^ 64) c.writecredit
  pub minutes : Below (2 ^ 32) c.minutes
  pub itemloads : Below (2 ^ 32) c.itemloads
  pub itemwritebacks : Below (2 ^ 32) c.itemwritebacks
  pub load : Below (2 ^ 16) c.load
  pub write : Below (2 ^ 16) c.write
  pub blocks : Below (2 ^ 8) c.blocks
  pub left : Below (2 ^ 64) c.left
  pub arrivals : c.arrivals < 2 ^ 32
  pub retirements : c.retirements < 2 ^ 32
  pub level : c.level < 2 ^ 64
  pub keys : Below (2 ^ 64) c.keys
  pub heap : Below (2 ^ 8) c.heap
  pub places : Below (2 ^ 8) c.places
  pub used : c.used < 2 ^ 32
