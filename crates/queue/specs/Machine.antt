-- The step rule in the lazy form: the moves of landlord's specs/Rule.antt, each under its name there with `In`, "in the queue"; `dropped`
-- stands for the eviction and `reckoned` for a changed slot. Nothing is charged to the items that stay. Assumes nothing.
use Rattle.std.specs.Prelude.{Bool, true, false, cond, List, [], ◌∷◌, ◌++◌, ℕ, zero, suc, ◌+◌, ◌*◌, ◌≤◌, length, leb, ltb, eqb}
use Rattle.types.specs.declared.Step.{Step, TheVariants.{Read, Write, Flush, Arrive, Retire}}
use Rattle.landlord.specs.Fold.{sum_to, tab, best_to, fold}
use Rattle.landlord.specs.Catalog.{Catalog, CatalogOk, item_at, full}
use Rattle.landlord.specs.Slot.{Split, Slot, absent, held, is_dirty, brought, refilled, written, flushed, split_of}
use Rattle.landlord.specs.Rule.{Event, hit, loaded, evicted, wrote, flush_step, arrived, retired, write_backs}
use Rattle.types.specs.Types.{step_of, deduction_of}
use Rattle.landlord.specs.Calls.{Opening, Call, step_call, close, Log, refusal_now}
use Rattle.landlord.specs.Figures.{Figures, Standing, tally, nothing}
use Rattle.queue.specs.Queue.{Queue, stored_at, key_at, blocks_of, precedence_in, now_at, key_now, plain, dropped, reckoned, removed, longer, marked_left, QueueOk, most_rise}

-- what a part of a step gives: the next queue, and what happened, in order
pub record MovedIn : Type 0 where
  pub queue : Queue
  pub events : List Event

-- nothing happens
abbrev pub stay_in : Queue → MovedIn
stay_in q = record { queue = q; events = [] }

-- first one, then the other, which began where the first ended
abbrev pub joined_in : MovedIn → MovedIn → MovedIn
joined_in a b = record { queue = b.queue; events = a.events ++ b.events }

-- the blocks held
unfoldable pub used_in : Queue → ℕ
used_in q = sum_to (length q.catalog) (λ i. cond (held (stored_at q i)) (blocks_of q i) 0)

-- how many items are held
unfoldable pub held_count_in : Queue → ℕ
held_count_in q = sum_to (length q.catalog) (λ i. cond (held (stored_at q i)) 1 0)

-- the held item that is first in order, equals going to the lowest number; the count of items if none is held
abbrev pub goes_before_in : Queue → ℕ → ℕ → Bool
goes_before_in q i best = cond (held (stored_at q i)) (cond (eqb best (length q.catalog)) true (ltb (precedence_in q i) (precedence_in q best))) false

unfoldable pub victim_in : Queue → ℕ
victim_in q = best_to (goes_before_in q) (length q.catalog) (length q.catalog)

-- that item goes, and nobody else is touched
abbrev pub evict_in : Queue → MovedIn
evict_in q = record { queue = dropped q (victim_in q); events = evicted (victim_in q) (is_dirty (stored_at q (victim_in q))) ∷ [] }

-- "While free blocks are fewer than the sail's": evict, at most `turns` times
unfoldable pub evict_for_in : ℕ → ℕ → ℕ → Queue → MovedIn
evict_for_in zero k blocks q = stay_in q
evict_for_in (suc turns) k blocks q =
    let e = evict_in q in
    let more = joined_in e (evict_for_in turns k blocks e.queue) in
    cond (leb (used_in q + blocks) k) (stay_in q) more

-- a miss makes room for the item; a hit needs none
unfoldable pub make_room_in : ℕ → ℕ → Queue → MovedIn
make_room_in k i q =
    let room = evict_for_in (held_count_in q) k (blocks_of q i) q in
    cond (held (stored_at q i)) (stay_in q) room

-- a hit, or else a load
abbrev pub found_in : Queue → ℕ → Event
found_in q i = cond (held (stored_at q i)) (hit i) (loaded i)

-- the slot of a requested item: its credits are first reckoned as they stand
abbrev pub read_slot_in : Split → Queue → ℕ → Slot
read_slot_in split q i = refilled (full (item_at q.catalog i).load) (brought (now_at split q i))

-- a read, once there is room
abbrev pub serve_read_in : Split → ℕ → Queue → MovedIn
serve_read_in split i q = record { queue = reckoned q i (read_slot_in split q i); events = found_in q i ∷ [] }

-- a write, once there is room: as a read, and then the write with its minutes
abbrev pub serve_write_in : Split → ℕ → ℕ → Queue → MovedIn
serve_write_in split i minutes q =
    record {
      queue = reckoned q i (written (full (item_at q.catalog i).write) (read_slot_in split q i));
      events = found_in q i ∷ wrote i minutes ∷ [];
    }

-- A landing and the close reckon held items anew. A clean one has the same key and the same standing credits then (proofs/Losses.antt,
-- clean_stays), so only a dirty one is stored again.
abbrev pub landed_slot : Split → Queue → ℕ → Slot
landed_slot split q i = cond (is_dirty (stored_at q i)) (flushed (now_at split q i)) (stored_at q i)

abbrev pub landed_key : Split → Queue → ℕ → ℕ
landed_key split q i = cond (is_dirty (stored_at q i)) (key_now (blocks_of q i) q.level (flushed (now_at split q i))) (key_at q i)

-- what a landing and the closing both do: "Each dirty held sail pays its write cost, becomes clean"
unfoldable pub flush_in : Split → Queue → MovedIn
flush_in split q =
    record {
      queue =
          record {
            catalog = q.catalog;
            slots = tab (length q.catalog) (landed_slot split q);
            keys = tab (length q.catalog) (landed_key split q);
            level = q.level;
          };
      events = write_backs (length q.catalog) (λ i. is_dirty (stored_at q i));
    }

-- "if held it is dropped, a dirty one pays, and other credits do not move"
unfoldable pub drop_in : ℕ → Queue → MovedIn
drop_in i q = record { queue = removed q i; events = cond (held (stored_at q i)) (evicted i (is_dirty (stored_at q i)) ∷ []) [] }

-- the item's mark in the catalog is set
abbrev pub leave_in : ℕ → Queue → MovedIn
leave_in i q = record { queue = marked_left q i; events = retired i ∷ [] }

-- the first half of a step: a read or a write makes room for its item, and no other step does
abbrev pub clearing_in : ℕ → Step → Queue → MovedIn
clearing_in k (Read i) q = make_room_in k i q
clearing_in k (Write i minutes) q = make_room_in k i q
clearing_in k Flush q = stay_in q
clearing_in k (Arrive i b l w) q = stay_in q
clearing_in k (Retire i) q = stay_in q

-- the second half: the step is served, or the catalog changes
abbrev pub serving_in : Split → Step → Queue → MovedIn
serving_in split (Read i) q = serve_read_in split i q
serving_in split (Write i minutes) q = serve_write_in split i minutes q
serving_in split Flush q = joined_in (record { queue = q; events = flush_step ∷ [] }) (flush_in split q)
serving_in split (Arrive i b l w) q = record { queue = longer q (Arrive i b l w); events = arrived i ∷ [] }
serving_in split (Retire i) q =
    let gone = drop_in i q in
    joined_in gone (leave_in i gone.queue)

-- one step of the log: the two halves, one after the other
unfoldable pub step_in : Split → ℕ → Step → Queue → MovedIn
step_in split k s q =
    let room = clearing_in k s q in
    joined_in room (serving_in split s room.queue)

-- where the lazy form stands: as landlord's Standing, with the queue for the state
pub record LazyStanding : Type 0 where
  pub k : ℕ
  pub queue : Queue
  pub figures : Figures
  pub closed : Bool
  pub split : Split

-- the standing of the plain rule that it stands for
abbrev pub standing : LazyStanding → Standing
standing v = record { k = v.k; state = plain v.split v.queue; figures = v.figures; closed = v.closed; split = v.split }

-- at opening every place is empty, and the level is 0
abbrev pub empty_queue : Catalog → Queue
empty_queue cat = record { catalog = cat; slots = tab (length cat) (λ i. absent); keys = tab (length cat) (λ i. 0); level = 0 }

abbrev pub lazy_at_opening : Split → ℕ → Catalog → LazyStanding
lazy_at_opening split k cat = record { k = k; queue = empty_queue cat; figures = nothing cat; closed = false; split = split }

-- where the lazy form stands after an opening: nothing is held, so there is no key, and the level is 0
abbrev pub lazy_starts_at : Opening Catalog → LazyStanding
lazy_starts_at o = lazy_at_opening (split_of (deduction_of o.rule)) o.k o.catalog

-- where it stands after a part of a step
abbrev pub moved_in : LazyStanding → MovedIn → Bool → LazyStanding
moved_in v m is_closed =
    record { k = v.k; queue = m.queue; figures = fold (tally v.queue.catalog) v.figures m.events; closed = is_closed; split = v.split }

-- after a step, after the closing, and after a log
unfoldable pub took_in : LazyStanding → Step → LazyStanding
took_in v s = moved_in v (step_in v.split v.k s v.queue) v.closed

unfoldable pub closes_in : LazyStanding → LazyStanding
closes_in v = moved_in v (flush_in v.split v.queue) true

-- what happens over a list of steps, in order
unfoldable pub trace_in : Split → ℕ → Queue → List Step → List Event
trace_in split k q [] = []
trace_in split k q (s ∷ steps) =
    let m = step_in split k s q in
    m.events ++ trace_in split k m.queue steps

abbrev pub ran_in : Split → ℕ → Catalog → List Step → LazyStanding
ran_in split k cat steps = fold took_in (lazy_at_opening split k cat) steps

-- What is not foul of the lazy form itself: credits as reckoned and keys that can be ("a loss below 0 is foul"), and "the level is at most
-- drops × 131,070 × 720,720". That "the credits its keys stand for meet the old rule" is landlord's `StandingOk`, of the standing.
pub record LazyOk (v : LazyStanding) : Type 0 where
  pub catalog : CatalogOk v.queue.catalog
  pub queue : QueueOk v.queue
  pub level : v.queue.level ≤ v.figures.totals.evictions * most_rise

-- where it stands after a log from an opening: over its steps, and over its closing if it has one
unfoldable pub lazy_from : Opening Catalog → Log → LazyStanding
lazy_from o l =
    let v = ran_in (split_of (deduction_of o.rule)) o.k o.catalog l.steps in
    cond l.closed (closes_in v) v

-- where the lazy form stands after a call that is not refused, and after any call: the table is asked where the rule stands
abbrev pub accepted_in : LazyStanding → Call → LazyStanding
accepted_in v (step_call n) = took_in v (step_of n)
accepted_in v close = closes_in v

unfoldable pub after_in : LazyStanding → Call → LazyStanding
after_in v call = cond (eqb (refusal_now (standing v) call) 0) (accepted_in v call) v
