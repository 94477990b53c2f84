-- The step rule of paper 01: the published Writeback-Aware Landlord, with blocks, and with flushes; with the arrivals and retirements of
-- paper 02, 'Six'.
-- Each definition answers the next state and the events, in order; specs/Figures.antt says what each event pays.
-- `split` is how a loss is split between the two credits (specs/Slot.antt), `k` the capacity. Assumes nothing.
use mathlib.Core.{Bool.{Bool, true, false, cond}, List.{List, [], ◌∷◌, ◌++◌}}
use Rattle.std.specs.Prelude.{ℕ, zero, suc, ◌+◌, ◌*◌, ◌/◌}
use lib.{ListN.{length, get_or, set}, Dec.{leb, ltb, eqb}}
use Rattle.types.specs.declared.Step.{Step, TheVariants.{Read, Write, Flush, Arrive, Retire}}
use Rattle.landlord.specs.{Fold.{sum_to, tab, best_to}, Catalog.{Catalog, item_at, catalog_next, full}, Slot.{Slot, absent, held, is_dirty, load_credit, write_credit, Split, lose, brought, refilled, written, flushed}}

-- the rule's state: the catalog, and a slot for each item of it
pub record State : Type 0 where
  pub catalog : Catalog
  pub slots : List Slot

-- how many sails the catalogue has
abbrev pub size : State → ℕ
size x = length x.catalog

-- the place of a sail number
abbrev pub slot_at : State → ℕ → Slot
slot_at x i = get_or x.slots i absent

-- a sail's blocks
abbrev pub blocks_at : State → ℕ → ℕ
blocks_at x i = (item_at x.catalog i).blocks

-- the cache at opening: every place empty
abbrev pub emptied : Catalog → State
emptied cat = record { catalog = cat; slots = tab (length cat) (λ i. absent) }

-- what happens to an item, and what the figures are counted from
pub data Event : Type 0 where
  hit : (item : ℕ) → Event
  loaded : (item : ℕ) → Event
  evicted : (item : ℕ) (was_dirty : Bool) → Event
  wrote_back : (item : ℕ) → Event
  wrote : (item minutes : ℕ) → Event
  flush_step : Event
  arrived : (item : ℕ) → Event
  retired : (item : ℕ) → Event

-- what a part of a step gives: the next state, and what happened, in order
pub record Moved : Type 0 where
  pub state : State
  pub events : List Event

-- nothing happens
abbrev pub stay : State → Moved
stay x = record { state = x; events = [] }

-- first one, then the other, which began where the first ended
abbrev pub joined : Moved → Moved → Moved
joined a b = record { state = b.state; events = a.events ++ b.events }

-- the blocks held
unfoldable pub used : State → ℕ
used x = sum_to (size x) (λ i. cond (held (slot_at x i)) (blocks_at x i) 0)

-- how many items are held
unfoldable pub held_count : State → ℕ
held_count x = sum_to (size x) (λ i. cond (held (slot_at x i)) 1 0)

-- "(load credit + write credit) / blocks"; credits are multiples of the blocks, so nothing is rounded
abbrev pub rank : State → ℕ → ℕ
rank x i = (load_credit (slot_at x i) + write_credit (slot_at x i)) / blocks_at x i

-- what decides which item goes: the least of these, and of equal ones the lowest number
unfoldable pub precedence : State → ℕ → ℕ
precedence x i = rank x i

-- a held item goes before the best so far if its precedence is less, or if there is none so far
abbrev pub goes_before : State → ℕ → ℕ → Bool
goes_before x i best = cond (held (slot_at x i)) (cond (eqb best (size x)) true (ltb (precedence x i) (precedence x best))) false

-- "the least value among held sails; equal values go to the lowest sail number"; the count of items if none is held
unfoldable pub victim : State → ℕ
victim x = best_to (goes_before x) (size x) (size x)

-- "That sail is dropped. Each other held sail loses blocks × that value"
unfoldable pub evict_item : Split → ℕ → State → State
evict_item split v x =
    record {
      catalog = x.catalog;
      slots =
          tab (size x) (λ i. cond (eqb i v) absent (lose split (blocks_at x i) (blocks_at x i * rank x v) (slot_at x i)));
    }

-- "That sail is dropped; if dirty, its write cost is paid": the mark goes into the event, which says what is paid
abbrev pub evict : Split → State → Moved
evict split x =
    record {
      state = evict_item split (victim x) x;
      events = evicted (victim x) (is_dirty (slot_at x (victim x))) ∷ [];
    }

-- "While free blocks are fewer than the sail's": evict, at most `turns` times
unfoldable pub evict_for : ℕ → Split → ℕ → ℕ → State → Moved
evict_for zero split k blocks x = stay x
evict_for (suc turns) split k blocks x =
    let e = evict split x in
    let more = joined e (evict_for turns split k blocks e.state) in
    cond (leb (used x + blocks) k) (stay x) more

-- A miss makes room for the item; a hit needs none. An eviction takes one held item away, so there are never more
-- evictions than held items, and room is left (proofs/Keeps.antt, room_left).
unfoldable pub make_room : Split → ℕ → ℕ → State → Moved
make_room split k i x =
    let room = evict_for (held_count x) split k (blocks_at x i) x in
    cond (held (slot_at x i)) (stay x) room

-- one slot changed
abbrev pub put_slot : State → ℕ → Slot → State
put_slot x i s = record { catalog = x.catalog; slots = set x.slots i s }

-- a hit, or else a load
abbrev pub found : State → ℕ → Event
found x i = cond (held (slot_at x i)) (hit i) (loaded i)

-- the slot of a requested item, brought in if it was not held, with its load credit full
abbrev pub read_slot : State → ℕ → Slot
read_slot x i = refilled (full (item_at x.catalog i).load) (brought (slot_at x i))

-- a read, once there is room: a hit, or a load
abbrev pub serve_read : ℕ → State → Moved
serve_read i x = record { state = put_slot x i (read_slot x i); events = found x i ∷ [] }

-- a write, once there is room: as a read, and then the write with its minutes
abbrev pub serve_write : ℕ → ℕ → State → Moved
serve_write i minutes x =
    record {
      state = put_slot x i (written (full (item_at x.catalog i).write) (read_slot x i));
      events = found x i ∷ wrote i minutes ∷ [];
    }

-- a writeback for each of the items below n that is dirty, in the order of their numbers
unfoldable pub write_backs : ℕ → (ℕ → Bool) → List Event
write_backs zero is_due = []
write_backs (suc n) is_due = write_backs n is_due ++ cond (is_due n) (wrote_back n ∷ []) []

-- what a landing and the closing both do: "Each dirty held sail pays its write cost, becomes clean"
unfoldable pub flush : State → Moved
flush x =
    record {
      state = record { catalog = x.catalog; slots = tab (size x) (λ i. flushed (slot_at x i)) };
      events = write_backs (size x) (λ i. is_dirty (slot_at x i));
    }

-- an arrival: the catalog grows by the step's item, and its place is empty
abbrev pub arrive : Step → ℕ → State → Moved
arrive s i x =
    record { state = record { catalog = catalog_next x.catalog s; slots = x.slots ++ (absent ∷ []) }; events = arrived i ∷ [] }

-- "if held it is dropped, a dirty one pays, and other credits do not move"
unfoldable pub drop_item : ℕ → State → Moved
drop_item i x =
    record {
      state = put_slot x i absent;
      events = cond (held (slot_at x i)) (evicted i (is_dirty (slot_at x i)) ∷ []) [];
    }

-- the item's mark in the catalog is set
abbrev pub leave : ℕ → State → Moved
leave i x = record { state = record { catalog = catalog_next x.catalog (Retire i); slots = x.slots }; events = retired i ∷ [] }

-- the first half of a step: a read or a write makes room for its item, and no other step does
abbrev pub clearing : Split → ℕ → Step → State → Moved
clearing split k (Read i) x = make_room split k i x
clearing split k (Write i minutes) x = make_room split k i x
clearing split k Flush x = stay x
clearing split k (Arrive i b l w) x = stay x
clearing split k (Retire i) x = stay x

-- the second half: the step is served, or the catalog changes
abbrev pub serving : Step → State → Moved
serving (Read i) x = serve_read i x
serving (Write i minutes) x = serve_write i minutes x
serving Flush x = joined (record { state = x; events = flush_step ∷ [] }) (flush x)
serving (Arrive i b l w) x = arrive (Arrive i b l w) i x
serving (Retire i) x =
    let dropped = drop_item i x in
    joined dropped (leave i dropped.state)

-- one step of the log: the two halves, one after the other
unfoldable pub step : Split → ℕ → Step → State → Moved
step split k s x =
    let room = clearing split k s x in
    joined room (serving s room.state)

-- what happens over a list of steps, in order
unfoldable pub trace : Split → ℕ → State → List Step → List Event
trace split k x [] = []
trace split k x (s ∷ steps) =
    let m = step split k s x in
    m.events ++ trace split k m.state steps
