-- The bench rows of the queue: seasons with the level, every key and every credit after each step, as last reckoned and as it stands, in
-- one table, and one theorem over the table, by computation. The lazy form gives all of it, and the plain rule gives the same credits,
-- evictions and totals. The values are worked out from the papers, in shares: 720,720 to the unit. Assumes nothing.
use mathlib.Core.{Path.{◌≡◌, refl}, Bool.{Bool, true, cond}, List.{List, [], ◌∷◌, map}}
use Rattle.std.specs.Prelude.{ℕ}
use Rattle.types.specs.declared.{Step.{Step, TheVariants.{Read, Write, Flush, Arrive, Retire}}, Deduction.{Deduction, TheVariants.{WriteFirst, LoadFirst}}}
use Rattle.landlord.specs.{Fold.{sum_to, tab_from, best_to, fold}, Catalog.{Catalog, Item, listed}, Slot.{Slot, absent, clean, dirty, split_of}, Rule.{emptied, used, held_count, precedence, victim, evict_item, evict_for, make_room, write_backs, flush, drop_item, step, trace}, Figures.{Totals, Figures, Standing, totals_of, start, opened, took, closes, ran, total_cost}, Rows.evicted_items}
use Rattle.queue.specs.{Queue.plain, Machine.{LazyStanding, empty_queue, lazy_at_opening, used_in, held_count_in, victim_in, evict_for_in, make_room_in, flush_in, drop_in, step_in, took_in, closes_in, trace_in, ran_in}}

-- what is seen after a step: the level; for each item its key, its place with the credits as last reckoned, and with those that stand
pub record Seen : Type 0 where
  pub level : ℕ
  pub keys : List ℕ
  pub stored : List Slot
  pub stands : List Slot

-- what a row expects: what is seen after each step, and after the closing; the items evicted, in order; the total and the totals
pub record QueueResult : Type 0 where
  pub after : List Seen
  pub evictions : List ℕ
  pub total : ℕ
  pub totals : Totals

-- what of it the plain rule has
pub record PlainResult : Type 0 where
  pub after : List (List Slot)
  pub evictions : List ℕ
  pub total : ℕ
  pub totals : Totals

pub record QueueRow : Type 0 where
  pub k : ℕ
  pub rule : Deduction
  pub catalog : Catalog
  pub steps : List Step
  pub closed : Bool
  pub expected : QueueResult

-- the lazy form after each step from a standing, and after the closing if there is one
abbrev seen_at : LazyStanding → Seen
seen_at v = record { level = v.queue.level; keys = v.queue.keys; stored = v.queue.slots; stands = (plain v.split v.queue).slots }

unfoldable pub seen_from : LazyStanding → List Step → Bool → List Seen
seen_from v [] is_closed = cond is_closed (seen_at (closes_in v) ∷ []) []
seen_from v (s ∷ steps) is_closed = seen_at (took_in v s) ∷ seen_from (took_in v s) steps is_closed

-- the plain rule likewise
unfoldable pub slots_from : Standing → List Step → Bool → List (List Slot)
slots_from v [] is_closed = cond is_closed ((closes v).state.slots ∷ []) []
slots_from v (s ∷ steps) is_closed = (took v s).state.slots ∷ slots_from (took v s) steps is_closed

-- what the lazy form gives for a row
unfoldable pub lazy_result : QueueRow → QueueResult
lazy_result r =
    let split = split_of r.rule in
    let v = ran_in split r.k r.catalog r.steps in
    let f : Figures = cond r.closed (closes_in v).figures v.figures in
    record {
      after = seen_from (lazy_at_opening split r.k r.catalog) r.steps r.closed;
      evictions = evicted_items (trace_in split r.k (empty_queue r.catalog) r.steps);
      total = total_cost f;
      totals = f.totals;
    }

-- and the plain rule
unfoldable pub plain_result : QueueRow → PlainResult
plain_result r =
    let split = split_of r.rule in
    let o = start split r.k r.catalog in
    let v = ran o r.steps in
    let f : Figures = cond r.closed (closes v).figures v.figures in
    record {
      after = slots_from (opened o) r.steps r.closed;
      evictions = evicted_items (trace split r.k (emptied r.catalog) r.steps);
      total = total_cost f;
      totals = f.totals;
    }

-- of what a row expects, what the plain rule is to give: the credits that stand, and the rest
abbrev pub plain_part : QueueResult → PlainResult
plain_part o = record { after = map (λ (n : Seen). n.stands) o.after; evictions = o.evictions; total = o.total; totals = o.totals }

-- an item by its blocks, load cost and write cost
abbrev item : ℕ → ℕ → ℕ → Item
item b l w = listed b l w

-- the level, the keys, the stored slots, the slots that stand
abbrev seen : ℕ → List ℕ → List Slot → List Slot → Seen
seen l ks s n = record { level = l; keys = ks; stored = s; stands = n }

-- the same where every slot stands as it is stored
abbrev settled : ℕ → List ℕ → List Slot → Seen
settled l ks s = seen l ks s s

-- a row: the capacity, the rule, the catalog, the steps, whether it is closed; and what it gives
abbrev row : ℕ → Deduction → Catalog → List Step → Bool → QueueResult → QueueRow
row k rule cat steps is_closed o = record { k = k; rule = rule; catalog = cat; steps = steps; closed = is_closed; expected = o }

-- what is seen, the items evicted, the total, the totals
abbrev gives : List Seen → List ℕ → ℕ → Totals → QueueResult
gives a e n t = record { after = a; evictions = e; total = n; totals = t }

-- paper 01's whole example
abbrev three : Catalog
three = item 1 4 6 ∷ item 2 6 2 ∷ item 1 3 9 ∷ []

abbrev five_steps : List Step
five_steps = Write 0 90 ∷ Read 1 ∷ Write 2 45 ∷ Read 0 ∷ Flush ∷ []

-- three rises between two uses of item 0
abbrev apart : Catalog
apart = item 2 7 5 ∷ item 2 3 0 ∷ item 1 2 1 ∷ item 2 3 2 ∷ []

abbrev three_rises : List Step
three_rises = Write 0 0 ∷ Read 1 ∷ Read 2 ∷ Read 3 ∷ Read 1 ∷ Read 0 ∷ Read 2 ∷ Read 1 ∷ []

-- a landing between rises and uses
abbrev ashore : Catalog
ashore = item 2 6 4 ∷ item 1 5 0 ∷ item 1 1 0 ∷ item 1 2 3 ∷ []

abbrev one_landing : List Step
one_landing = Write 0 0 ∷ Read 1 ∷ Read 2 ∷ Read 3 ∷ Flush ∷ Read 2 ∷ Read 1 ∷ Write 0 0 ∷ Read 3 ∷ []

-- an item that leaves from the middle, and two that arrive
abbrev five : Catalog
five = item 1 1 0 ∷ item 1 9 0 ∷ item 2 6 4 ∷ item 1 7 2 ∷ item 1 3 0 ∷ []

abbrev from_the_middle : List Step
from_the_middle = Read 0 ∷ Read 1 ∷ Write 2 0 ∷ Write 3 0 ∷ Read 4 ∷ Retire 2 ∷ Retire 0 ∷ Arrive 5 2 8 2 ∷ Write 5 12 ∷ Arrive 6 2 4 0 ∷ Read 6 ∷ []

-- The table. Totals are steps, hits, loads, load cost, evictions, dirty evictions, writebacks, write cost, flushes, arrivals, retirements.
abbrev pub queue_rows : List QueueRow
queue_rows =
    -- The whole example: 28. Item 1 goes at key 3 units, and of item 0's ten the write credit has borne three.
    row 3 WriteFirst three five_steps true
    (gives (settled 0 (7207200 ∷ 0 ∷ 0 ∷ []) (dirty 2882880 4324320 ∷ absent ∷ absent ∷ []) ∷
    settled 0 (7207200 ∷ 2162160 ∷ 0 ∷ []) (dirty 2882880 4324320 ∷ clean 4324320 ∷ absent ∷ []) ∷
    seen 2162160 (7207200 ∷ 0 ∷ 10810800 ∷ []) (dirty 2882880 4324320 ∷ absent ∷ dirty 2162160 6486480 ∷ []) (dirty 2882880 2162160 ∷ absent ∷ dirty 2162160 6486480 ∷ []) ∷
    settled 2162160 (7207200 ∷ 0 ∷ 10810800 ∷ []) (dirty 2882880 2162160 ∷ absent ∷ dirty 2162160 6486480 ∷ []) ∷
    settled 2162160 (5045040 ∷ 0 ∷ 4324320 ∷ []) (clean 2882880 ∷ absent ∷ clean 2162160 ∷ []) ∷
    settled 2162160 (5045040 ∷ 0 ∷ 4324320 ∷ []) (clean 2882880 ∷ absent ∷ clean 2162160 ∷ []) ∷
    [])
    (1 ∷ []) 28 (totals_of 5 1 3 13 1 0 2 15 1 0 0)) ∷
    -- Three rises, of 1.5, 2 and 1.5 units, between two uses of item 0, which is dirty and has two blocks: it has lost ten of its twelve.
    -- By write-first those are the whole write credit and five of the load credit, which the read fills: key 8.5. Item 2 is level with it
    -- later, and item 0 goes.
    row 4 WriteFirst apart three_rises true
    (gives (settled 0 (4324320 ∷ 0 ∷ 0 ∷ 0 ∷ []) (dirty 5045040 3603600 ∷ absent ∷ absent ∷ absent ∷ []) ∷
    settled 0 (4324320 ∷ 1081080 ∷ 0 ∷ 0 ∷ []) (dirty 5045040 3603600 ∷ clean 2162160 ∷ absent ∷ absent ∷ []) ∷
    seen 1081080 (4324320 ∷ 0 ∷ 2522520 ∷ 0 ∷ []) (dirty 5045040 3603600 ∷ absent ∷ clean 1441440 ∷ absent ∷ []) (dirty 5045040 1441440 ∷ absent ∷ clean 1441440 ∷ absent ∷ []) ∷
    seen 2522520 (4324320 ∷ 0 ∷ 0 ∷ 3603600 ∷ []) (dirty 5045040 3603600 ∷ absent ∷ absent ∷ clean 2162160 ∷ []) (dirty 3603600 0 ∷ absent ∷ absent ∷ clean 2162160 ∷ []) ∷
    seen 3603600 (4324320 ∷ 4684680 ∷ 0 ∷ 0 ∷ []) (dirty 5045040 3603600 ∷ clean 2162160 ∷ absent ∷ absent ∷ []) (dirty 1441440 0 ∷ clean 2162160 ∷ absent ∷ absent ∷ []) ∷
    settled 3603600 (6126120 ∷ 4684680 ∷ 0 ∷ 0 ∷ []) (dirty 5045040 0 ∷ clean 2162160 ∷ absent ∷ absent ∷ []) ∷
    seen 4684680 (6126120 ∷ 0 ∷ 6126120 ∷ 0 ∷ []) (dirty 5045040 0 ∷ absent ∷ clean 1441440 ∷ absent ∷ []) (dirty 2882880 0 ∷ absent ∷ clean 1441440 ∷ absent ∷ []) ∷
    seen 6126120 (0 ∷ 7207200 ∷ 6126120 ∷ 0 ∷ []) (absent ∷ clean 2162160 ∷ clean 1441440 ∷ absent ∷ []) (absent ∷ clean 2162160 ∷ clean 0 ∷ absent ∷ []) ∷
    seen 6126120 (0 ∷ 7207200 ∷ 6126120 ∷ 0 ∷ []) (absent ∷ clean 2162160 ∷ clean 1441440 ∷ absent ∷ []) (absent ∷ clean 2162160 ∷ clean 0 ∷ absent ∷ []) ∷
    [])
    (1 ∷ 2 ∷ 3 ∷ 1 ∷ 0 ∷ []) 28 (totals_of 8 1 7 23 5 1 1 5 0 0 0)) ∷
    -- The same by load-first: the whole load credit and three of the write credit, key 9.5, and item 2 goes in its place. The closing finds
    -- item 0 with no load credit again: the level is its key.
    row 4 LoadFirst apart three_rises true
    (gives (settled 0 (4324320 ∷ 0 ∷ 0 ∷ 0 ∷ []) (dirty 5045040 3603600 ∷ absent ∷ absent ∷ absent ∷ []) ∷
    settled 0 (4324320 ∷ 1081080 ∷ 0 ∷ 0 ∷ []) (dirty 5045040 3603600 ∷ clean 2162160 ∷ absent ∷ absent ∷ []) ∷
    seen 1081080 (4324320 ∷ 0 ∷ 2522520 ∷ 0 ∷ []) (dirty 5045040 3603600 ∷ absent ∷ clean 1441440 ∷ absent ∷ []) (dirty 2882880 3603600 ∷ absent ∷ clean 1441440 ∷ absent ∷ []) ∷
    seen 2522520 (4324320 ∷ 0 ∷ 0 ∷ 3603600 ∷ []) (dirty 5045040 3603600 ∷ absent ∷ absent ∷ clean 2162160 ∷ []) (dirty 0 3603600 ∷ absent ∷ absent ∷ clean 2162160 ∷ []) ∷
    seen 3603600 (4324320 ∷ 4684680 ∷ 0 ∷ 0 ∷ []) (dirty 5045040 3603600 ∷ clean 2162160 ∷ absent ∷ absent ∷ []) (dirty 0 1441440 ∷ clean 2162160 ∷ absent ∷ absent ∷ []) ∷
    settled 3603600 (6846840 ∷ 4684680 ∷ 0 ∷ 0 ∷ []) (dirty 5045040 1441440 ∷ clean 2162160 ∷ absent ∷ absent ∷ []) ∷
    seen 4684680 (6846840 ∷ 0 ∷ 6126120 ∷ 0 ∷ []) (dirty 5045040 1441440 ∷ absent ∷ clean 1441440 ∷ absent ∷ []) (dirty 2882880 1441440 ∷ absent ∷ clean 1441440 ∷ absent ∷ []) ∷
    seen 6126120 (6846840 ∷ 7207200 ∷ 0 ∷ 0 ∷ []) (dirty 5045040 1441440 ∷ clean 2162160 ∷ absent ∷ absent ∷ []) (dirty 0 1441440 ∷ clean 2162160 ∷ absent ∷ absent ∷ []) ∷
    settled 6126120 (6126120 ∷ 7207200 ∷ 0 ∷ 0 ∷ []) (clean 0 ∷ clean 2162160 ∷ absent ∷ absent ∷ []) ∷
    [])
    (1 ∷ 2 ∷ 3 ∷ 1 ∷ 2 ∷ []) 28 (totals_of 8 1 7 23 5 0 1 5 0 0 0)) ∷
    -- A landing between rises. Item 0 is dirty, has lost two and is reckoned anew: key 4 in place of 5. Item 1 is clean: it has lost one, and
    -- neither its key nor its stored credit moves until it is read, two units of the level later. A write then fills both credits of item 0,
    -- key 8, and the closing reckons it anew.
    row 4 WriteFirst ashore one_landing true
    (gives (settled 0 (3603600 ∷ 0 ∷ 0 ∷ 0 ∷ []) (dirty 4324320 2882880 ∷ absent ∷ absent ∷ absent ∷ []) ∷
    settled 0 (3603600 ∷ 3603600 ∷ 0 ∷ 0 ∷ []) (dirty 4324320 2882880 ∷ clean 3603600 ∷ absent ∷ absent ∷ []) ∷
    settled 0 (3603600 ∷ 3603600 ∷ 720720 ∷ 0 ∷ []) (dirty 4324320 2882880 ∷ clean 3603600 ∷ clean 720720 ∷ absent ∷ []) ∷
    seen 720720 (3603600 ∷ 3603600 ∷ 0 ∷ 2162160 ∷ []) (dirty 4324320 2882880 ∷ clean 3603600 ∷ absent ∷ clean 1441440 ∷ []) (dirty 4324320 1441440 ∷ clean 2882880 ∷ absent ∷ clean 1441440 ∷ []) ∷
    seen 720720 (2882880 ∷ 3603600 ∷ 0 ∷ 2162160 ∷ []) (clean 4324320 ∷ clean 3603600 ∷ absent ∷ clean 1441440 ∷ []) (clean 4324320 ∷ clean 2882880 ∷ absent ∷ clean 1441440 ∷ []) ∷
    seen 2162160 (2882880 ∷ 3603600 ∷ 2882880 ∷ 0 ∷ []) (clean 4324320 ∷ clean 3603600 ∷ clean 720720 ∷ absent ∷ []) (clean 1441440 ∷ clean 1441440 ∷ clean 720720 ∷ absent ∷ []) ∷
    seen 2162160 (2882880 ∷ 5765760 ∷ 2882880 ∷ 0 ∷ []) (clean 4324320 ∷ clean 3603600 ∷ clean 720720 ∷ absent ∷ []) (clean 1441440 ∷ clean 3603600 ∷ clean 720720 ∷ absent ∷ []) ∷
    settled 2162160 (5765760 ∷ 5765760 ∷ 2882880 ∷ 0 ∷ []) (dirty 4324320 2882880 ∷ clean 3603600 ∷ clean 720720 ∷ absent ∷ []) ∷
    seen 2882880 (5765760 ∷ 5765760 ∷ 0 ∷ 4324320 ∷ []) (dirty 4324320 2882880 ∷ clean 3603600 ∷ absent ∷ clean 1441440 ∷ []) (dirty 4324320 1441440 ∷ clean 2882880 ∷ absent ∷ clean 1441440 ∷ []) ∷
    seen 2882880 (5045040 ∷ 5765760 ∷ 0 ∷ 4324320 ∷ []) (clean 4324320 ∷ clean 3603600 ∷ absent ∷ clean 1441440 ∷ []) (clean 4324320 ∷ clean 2882880 ∷ absent ∷ clean 1441440 ∷ []) ∷
    [])
    (2 ∷ 3 ∷ 2 ∷ []) 25 (totals_of 9 2 6 17 3 0 2 8 1 0 0)) ∷
    -- The same by load-first: the two are of the load credit, so that the key is 3, and item 0 goes as the lower of two that are level.
    row 4 LoadFirst ashore one_landing true
    (gives (settled 0 (3603600 ∷ 0 ∷ 0 ∷ 0 ∷ []) (dirty 4324320 2882880 ∷ absent ∷ absent ∷ absent ∷ []) ∷
    settled 0 (3603600 ∷ 3603600 ∷ 0 ∷ 0 ∷ []) (dirty 4324320 2882880 ∷ clean 3603600 ∷ absent ∷ absent ∷ []) ∷
    settled 0 (3603600 ∷ 3603600 ∷ 720720 ∷ 0 ∷ []) (dirty 4324320 2882880 ∷ clean 3603600 ∷ clean 720720 ∷ absent ∷ []) ∷
    seen 720720 (3603600 ∷ 3603600 ∷ 0 ∷ 2162160 ∷ []) (dirty 4324320 2882880 ∷ clean 3603600 ∷ absent ∷ clean 1441440 ∷ []) (dirty 2882880 2882880 ∷ clean 2882880 ∷ absent ∷ clean 1441440 ∷ []) ∷
    seen 720720 (2162160 ∷ 3603600 ∷ 0 ∷ 2162160 ∷ []) (clean 2882880 ∷ clean 3603600 ∷ absent ∷ clean 1441440 ∷ []) (clean 2882880 ∷ clean 2882880 ∷ absent ∷ clean 1441440 ∷ []) ∷
    seen 2162160 (0 ∷ 3603600 ∷ 2882880 ∷ 2162160 ∷ []) (absent ∷ clean 3603600 ∷ clean 720720 ∷ clean 1441440 ∷ []) (absent ∷ clean 1441440 ∷ clean 720720 ∷ clean 0 ∷ []) ∷
    seen 2162160 (0 ∷ 5765760 ∷ 2882880 ∷ 2162160 ∷ []) (absent ∷ clean 3603600 ∷ clean 720720 ∷ clean 1441440 ∷ []) (absent ∷ clean 3603600 ∷ clean 720720 ∷ clean 0 ∷ []) ∷
    settled 2162160 (5765760 ∷ 5765760 ∷ 2882880 ∷ 0 ∷ []) (dirty 4324320 2882880 ∷ clean 3603600 ∷ clean 720720 ∷ absent ∷ []) ∷
    seen 2882880 (5765760 ∷ 5765760 ∷ 0 ∷ 4324320 ∷ []) (dirty 4324320 2882880 ∷ clean 3603600 ∷ absent ∷ clean 1441440 ∷ []) (dirty 2882880 2882880 ∷ clean 2882880 ∷ absent ∷ clean 1441440 ∷ []) ∷
    seen 2882880 (4324320 ∷ 5765760 ∷ 0 ∷ 4324320 ∷ []) (clean 2882880 ∷ clean 3603600 ∷ absent ∷ clean 1441440 ∷ []) (clean 2882880 ∷ clean 2882880 ∷ absent ∷ clean 1441440 ∷ []) ∷
    [])
    (2 ∷ 0 ∷ 3 ∷ 2 ∷ []) 31 (totals_of 9 1 7 23 4 0 2 8 1 0 0)) ∷
    -- Item 2 leaves from the middle, dirty, its key 5 among 4, 9 and 9: it pays its four, and neither the level nor another key moves. Item 0
    -- is not held when it leaves. Two items arrive, with key 0; for the second two go, the last of them dirty, and the level rises twice.
    row 5 WriteFirst five from_the_middle true
    (gives (settled 0 (720720 ∷ 0 ∷ 0 ∷ 0 ∷ 0 ∷ []) (clean 720720 ∷ absent ∷ absent ∷ absent ∷ absent ∷ []) ∷
    settled 0 (720720 ∷ 6486480 ∷ 0 ∷ 0 ∷ 0 ∷ []) (clean 720720 ∷ clean 6486480 ∷ absent ∷ absent ∷ absent ∷ []) ∷
    settled 0 (720720 ∷ 6486480 ∷ 3603600 ∷ 0 ∷ 0 ∷ []) (clean 720720 ∷ clean 6486480 ∷ dirty 4324320 2882880 ∷ absent ∷ absent ∷ []) ∷
    settled 0 (720720 ∷ 6486480 ∷ 3603600 ∷ 6486480 ∷ 0 ∷ []) (clean 720720 ∷ clean 6486480 ∷ dirty 4324320 2882880 ∷ dirty 5045040 1441440 ∷ absent ∷ []) ∷
    seen 720720 (0 ∷ 6486480 ∷ 3603600 ∷ 6486480 ∷ 2882880 ∷ []) (absent ∷ clean 6486480 ∷ dirty 4324320 2882880 ∷ dirty 5045040 1441440 ∷ clean 2162160 ∷ []) (absent ∷ clean 5765760 ∷ dirty 4324320 1441440 ∷ dirty 5045040 720720 ∷ clean 2162160 ∷ []) ∷
    seen 720720 (0 ∷ 6486480 ∷ 0 ∷ 6486480 ∷ 2882880 ∷ []) (absent ∷ clean 6486480 ∷ absent ∷ dirty 5045040 1441440 ∷ clean 2162160 ∷ []) (absent ∷ clean 5765760 ∷ absent ∷ dirty 5045040 720720 ∷ clean 2162160 ∷ []) ∷
    seen 720720 (0 ∷ 6486480 ∷ 0 ∷ 6486480 ∷ 2882880 ∷ []) (absent ∷ clean 6486480 ∷ absent ∷ dirty 5045040 1441440 ∷ clean 2162160 ∷ []) (absent ∷ clean 5765760 ∷ absent ∷ dirty 5045040 720720 ∷ clean 2162160 ∷ []) ∷
    seen 720720 (0 ∷ 6486480 ∷ 0 ∷ 6486480 ∷ 2882880 ∷ 0 ∷ []) (absent ∷ clean 6486480 ∷ absent ∷ dirty 5045040 1441440 ∷ clean 2162160 ∷ absent ∷ []) (absent ∷ clean 5765760 ∷ absent ∷ dirty 5045040 720720 ∷ clean 2162160 ∷ absent ∷ []) ∷
    seen 720720 (0 ∷ 6486480 ∷ 0 ∷ 6486480 ∷ 2882880 ∷ 4324320 ∷ []) (absent ∷ clean 6486480 ∷ absent ∷ dirty 5045040 1441440 ∷ clean 2162160 ∷ dirty 5765760 1441440 ∷ []) (absent ∷ clean 5765760 ∷ absent ∷ dirty 5045040 720720 ∷ clean 2162160 ∷ dirty 5765760 1441440 ∷ []) ∷
    seen 720720 (0 ∷ 6486480 ∷ 0 ∷ 6486480 ∷ 2882880 ∷ 4324320 ∷ 0 ∷ []) (absent ∷ clean 6486480 ∷ absent ∷ dirty 5045040 1441440 ∷ clean 2162160 ∷ dirty 5765760 1441440 ∷ absent ∷ []) (absent ∷ clean 5765760 ∷ absent ∷ dirty 5045040 720720 ∷ clean 2162160 ∷ dirty 5765760 1441440 ∷ absent ∷ []) ∷
    seen 4324320 (0 ∷ 6486480 ∷ 0 ∷ 6486480 ∷ 0 ∷ 0 ∷ 5765760 ∷ []) (absent ∷ clean 6486480 ∷ absent ∷ dirty 5045040 1441440 ∷ absent ∷ absent ∷ clean 2882880 ∷ []) (absent ∷ clean 2162160 ∷ absent ∷ dirty 2162160 0 ∷ absent ∷ absent ∷ clean 2882880 ∷ []) ∷
    seen 4324320 (0 ∷ 6486480 ∷ 0 ∷ 6486480 ∷ 0 ∷ 0 ∷ 5765760 ∷ []) (absent ∷ clean 6486480 ∷ absent ∷ clean 2162160 ∷ absent ∷ absent ∷ clean 2882880 ∷ []) (absent ∷ clean 2162160 ∷ absent ∷ clean 2162160 ∷ absent ∷ absent ∷ clean 2882880 ∷ []) ∷
    [])
    (0 ∷ 2 ∷ 4 ∷ 5 ∷ []) 46 (totals_of 11 0 7 38 4 2 3 8 0 2 2)) ∷
    []

-- every row of the table is what the lazy form gives, and its part of it what the plain rule gives
pub rows_right :
    (map lazy_result queue_rows ≡ map (λ (r : QueueRow). r.expected) queue_rows)
    × (map plain_result queue_rows ≡ map (λ (r : QueueRow). plain_part r.expected) queue_rows)
unfolding lazy_result plain_result seen_from slots_from trace evicted_items sum_to tab_from best_to fold used held_count precedence victim evict_item evict_for make_room write_backs flush drop_item step took closes used_in held_count_in victim_in evict_for_in make_room_in flush_in drop_in step_in took_in closes_in trace_in
rows_right = (refl, refl)
