-- The fixed layout of a state: 11,408 bytes, numbers with the low byte first, no byte to spare. At the head stands the number of this
-- layout; it is no field of a cache. docs/LAYOUT.md has the same places as a table. specs/InnerRows.antt writes them;
-- proofs/Rounds.antt shows that its rows lie end to end and that reading and writing undo each other. Assumes nothing.
use mathlib.Core.{Path.◌≡◌, List.List, Bool.not}
use Rattle.std.specs.Prelude.{ℕ, ◌+◌, ◌<◌}
use lib.{Dec.eqb, ListN.{drop, get_or, length}}
use Rattle.fields.specs.LittleEndian.{number_at, run_from_bytes, flags_from_bytes}
use Rattle.types.specs.Types.{deduction_of}
use Rattle.cache_state.specs.Cache.{Cache, Valid}

abbrev pub state_bytes : ℕ
state_bytes = 11408

-- the number of this layout: it rises with every change, so that a state stored by another version is never misread
abbrev pub format : ℕ
format = 5

-- `n` numbers of `w` bytes each, from the place `at` on
unfoldable pub numbers_at : List ℕ → ℕ → ℕ → ℕ → List ℕ
numbers_at b at n w = run_from_bytes w n (drop at b)

-- the cache that bytes stand for, each field read at its place
abbrev pub cache_of : List ℕ → Cache
cache_of b = record {
  k = number_at b 4 4;
  n = number_at b 8 2;
  closed = not (eqb (number_at b 10 2) 0);
  steps = number_at b 12 4;
  hits = number_at b 16 4;
  loads = number_at b 20 4;
  evictions = number_at b 24 4;
  dirtyevictions = number_at b 28 4;
  writebacks = number_at b 32 4;
  flushes = number_at b 36 4;
  loadcost = number_at b 40 8;
  writecost = number_at b 48 8;
  dirty = numbers_at b 56 4 8;
  loadcredit = numbers_at b 88 256 8;
  writecredit = numbers_at b 2136 256 8;
  minutes = numbers_at b 4184 256 4;
  itemloads = numbers_at b 5208 256 4;
  itemwritebacks = numbers_at b 6232 256 4;
  load = numbers_at b 7256 256 2;
  write = numbers_at b 7768 256 2;
  blocks = numbers_at b 8280 256 1;
  held = flags_from_bytes 256 (drop 8536 b);
  rule = deduction_of (number_at b 8792 4);
  left = numbers_at b 8796 4 8;
  arrivals = number_at b 8828 4;
  retirements = number_at b 8832 4;
  used = number_at b 8836 4;
  level = number_at b 8840 8;
  keys = numbers_at b 8848 256 8;
  heap = numbers_at b 10896 256 1;
  places = numbers_at b 11152 256 1;
}

-- "every field has a value its layout allows": the number of the layout is this one's, each flag is 0 or 1, and so is the rule's number
pub record AllowedBytes (b : List ℕ) : Type 0 where
  pub format : number_at b 0 4 ≡ format
  pub closed : number_at b 10 2 < 2
  pub held : (i : ℕ) → i < 256 → get_or b (8536 + i) 0 < 2
  pub rule : number_at b 8792 4 < 2

-- "A lent state is foul unless": its length is right, its fields have values that the layout allows, and the cache that the bytes
-- stand for is valid
pub record ValidBytes (b : List ℕ) : Type 0 where
  pub size : length b ≡ state_bytes
  pub allowed : AllowedBytes b
  pub cache : Valid (cache_of b)
