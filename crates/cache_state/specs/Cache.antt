-- The record of a state that the specification speaks of, what its fields mean to the rule (`view`), and which states are valid. The
-- bytes of a state stand for such a record (crate layout), and so does the struct by value (crate cache_value). Assumes nothing.
use mathlib.Core.{Bool.{Bool, false, cond}, List.List, Path.◌≡◌}
use Rattle.std.specs.Prelude.{ℕ, ◌≤◌, ◌<◌, get_or}
use Rattle.types.specs.declared.Deduction.{Deduction}
use Rattle.queue.specs.Machine.{LazyStanding, standing, LazyOk}
use Rattle.heap.specs.Heap.{Heap, heap_of, weight_at, Contains, Ordered}
use Rattle.landlord.specs.{Fold.{tab, sum_to}, Catalog.Catalog, Slot.{Slot, absent, clean, dirty, split_of}, Figures.{Use, Standing, totals_of, use_of}, Valid.StandingOk}
use Rattle.marks.specs.Marks.{marked}

-- The recorder's cache, with what it has counted. Every list has a place for each of the 256 item numbers, the marks in four words.
pub record Cache : Type 0 where
  -- capacity in blocks
  pub k : ℕ
  -- how many items the catalog has; the places past it are empty
  pub n : ℕ
  pub blocks : List ℕ
  pub load : List ℕ
  pub write : List ℕ
  pub held : List Bool
  pub loadcredit : List ℕ
  pub writecredit : List ℕ
  -- the words of the marks, one mark for each item that is dirty
  pub dirty : List ℕ
  pub minutes : List ℕ
  pub itemloads : List ℕ
  pub itemwritebacks : List ℕ
  pub steps : ℕ
  pub hits : ℕ
  pub loads : ℕ
  pub loadcost : ℕ
  pub evictions : ℕ
  pub dirtyevictions : ℕ
  pub writebacks : ℕ
  pub writecost : ℕ
  pub flushes : ℕ
  pub closed : Bool
  -- which credit an item loses from first, as the opening said
  pub rule : Deduction
  -- the words of the marks, one mark for each item that has left
  pub left : List ℕ
  pub arrivals : ℕ
  pub retirements : ℕ
  -- the level, which rises with each eviction, and the key of each held item; credits are as last reckoned
  pub level : ℕ
  pub keys : List ℕ
  -- the held items as a heap, and the place of each in it
  pub heap : List ℕ
  pub places : List ℕ
  -- the blocks held
  pub used : ℕ

-- whether item i is marked dirty
abbrev pub dirty_at : Cache → ℕ → Bool
dirty_at c i = marked c.dirty i

-- whether item i is marked as one that has left
abbrev pub left_at : Cache → ℕ → Bool
left_at c i = marked c.left i

-- the slot of item i, with its credits as they were last reckoned
abbrev pub slot_of : Cache → ℕ → Slot
slot_of c i =
    let load = get_or c.loadcredit i 0 in
    cond (get_or c.held i false) (cond (dirty_at c i) (dirty load (get_or c.writecredit i 0)) (clean load)) absent

unfoldable pub catalog_of : Cache → Catalog
catalog_of c =
    tab c.n (λ i. record { blocks = get_or c.blocks i 0; load = get_or c.load i 0; write = get_or c.write i 0; left = left_at c i })

unfoldable pub slots_of : Cache → List Slot
slots_of c = tab c.n (slot_of c)

unfoldable pub uses_of : Cache → List Use
uses_of c = tab c.n (λ i. use_of (get_or c.minutes i 0) (get_or c.itemloads i 0) (get_or c.itemwritebacks i 0))

unfoldable pub keys_of : Cache → List ℕ
keys_of c = tab c.n (λ i. get_or c.keys i 0)

-- where the lazy form stands
abbrev pub lazy : Cache → LazyStanding
lazy c =
    let totals =
    totals_of c.steps c.hits c.loads c.loadcost c.evictions c.dirtyevictions c.writebacks c.writecost c.flushes c.arrivals
    c.retirements in
    record {
      k = c.k;
      queue = record { catalog = catalog_of c; slots = slots_of c; keys = keys_of c; level = c.level };
      figures = record { totals = totals; uses = uses_of c };
      closed = c.closed;
      split = split_of c.rule;
    }

-- where the rule stands: the credits are what the keys stand for
abbrev pub view : Cache → Standing
view c = standing (lazy c)

-- the held items
abbrev pub held_at : Cache → ℕ → Bool
held_at c i = get_or c.held i false

-- how many they are, and their blocks
unfoldable pub held_items : Cache → ℕ
held_items c = sum_to 256 (λ i. cond (held_at c i) 1 0)

unfoldable pub held_blocks : Cache → ℕ
held_blocks c = sum_to 256 (λ i. cond (held_at c i) (get_or c.blocks i 0) 0)

-- the heap: as many of its places are in use
abbrev pub heap_at : Cache → Heap
heap_at c = heap_of c.heap c.places (held_items c)

-- ---- validity: the rule of paper 01 for a foul locker (refusal 17), with paper 02, 'Seven', a named field for each of its sentences

-- "a sail not held is clean with credits 0", and has no key
pub record Emptied (c : Cache) (i : ℕ) : Type 0 where
  pub dirty : dirty_at c i ≡ false
  pub load_credit : get_or c.loadcredit i 0 ≡ 0
  pub write_credit : get_or c.writecredit i 0 ≡ 0
  pub key : get_or c.keys i 0 ≡ 0

-- an empty place: nothing is held there and nothing counted
pub record EmptyPlace (c : Cache) (i : ℕ) : Type 0 where
  pub held : get_or c.held i false ≡ false
  pub slot : Emptied c i
  pub minutes : get_or c.minutes i 0 ≡ 0
  pub loads : get_or c.itemloads i 0 ≡ 0
  pub writebacks : get_or c.itemwritebacks i 0 ≡ 0

-- a place past the catalog: "empty, with counts 0", and 0 in the catalog's arrays too; no item has left it
pub record Blank (c : Cache) (i : ℕ) : Type 0 where
  pub place : EmptyPlace c i
  pub blocks : get_or c.blocks i 0 ≡ 0
  pub load : get_or c.load i 0 ≡ 0
  pub write : get_or c.write i 0 ≡ 0
  pub left : left_at c i ≡ false

-- The sentences on the fields themselves. Flags have no other values than true and false, and every number of a field is one
-- that its layout allows.
pub record Normal (c : Cache) : Type 0 where
  -- "0 to 256 sails"
  pub few : c.n ≤ 256
  -- "places past the catalogue are empty, with counts 0"
  pub past : (i : ℕ) → c.n ≤ i → i < 256 → Blank c i
  -- "a sail not held is clean with credits 0"
  pub absent : (i : ℕ) → i < c.n → get_or c.held i false ≡ false → Emptied c i
  -- "a clean one has write credit 0"
  pub clean : (i : ℕ) → i < c.n → dirty_at c i ≡ false → get_or c.writecredit i 0 ≡ 0
  -- "the heap has each held sail once and nothing else, in order of key, then number"; how it is arranged is free
  pub heap : Contains (held_at c) (heap_at c)
  pub order : Ordered (weight_at c.keys (heap_at c)) (heap_at c).size
  -- the blocks in use are those of the held sails
  pub used : c.used ≡ held_blocks c

-- and those on the rule's state and figures, which landlord's specs/Valid.antt names one by one
pub record Valid (c : Cache) : Type 0 where
  pub fields : Normal c
  -- "a loss below 0 is foul", "the level is at most drops × 131,070 × 720,720"
  pub lazy : LazyOk (lazy c)
  -- "the credits its keys stand for meet the old rule"
  pub standing : StandingOk (view c)
