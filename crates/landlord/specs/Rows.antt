-- The bench rows: seasons with every figure that the rule gives for them, in one table, and one theorem over the table, by
-- computation. The first nine are those that paper 01 marks, the next six catch replays that go astray, one is of minutes that come
-- to a tenth of an hour only together, the next five are where write-first and load-first part, two are for the table of refusals and
-- the plan's faults, and the last five are of items that arrive and leave. Two more tables put questions to the table of refusals, about
-- calls and about openings. Assumes nothing.
use mathlib.Core.{Path.{◌≡◌, refl}, Bool.{Bool, true, false}, List.{List, [], ◌∷◌, ◌++◌, map}}
use Rattle.std.specs.Prelude.{ℕ, ◌+◌, ◌*◌, ◌-◌, ◌≤◌, get_or}
use Rattle.std.proofs.Common.{arith}
use Rattle.types.specs.declared.{Step.{Step, TheVariants.Write}, Act.{Act, TheVariants.{Evict, Fetch}}, Deduction.{Deduction, TheVariants.{WriteFirst, LoadFirst}}}
use Rattle.types.specs.Types.{numbers_from, read_kind, write_kind, flush_kind, arrive_kind, retire_kind, step_of}
use Rattle.landlord.specs.{Fold.{sum_to, tab, tab_from, best_to, fold}, Catalog.{Catalog, Item, listed, departed, all_in_range, catalog_in_range, none_left, unit}, Slot.{Slot, absent, clean, dirty, write_first, split_of}, Rule.{Event, hit, loaded, evicted, wrote_back, wrote, flush_step, arrived, retired, emptied, used, held_count, precedence, victim, evict_item, evict_for, make_room, write_backs, flush, drop_item, step, trace}, Figures.{Totals, Use, Standing, start, totals_of, use_of, tenths_of, took, closes, season, total_cost, left_side, right_side}, Plan.{Plan, Priced, costs, fault, unknown_item, retired_item, not_held, already_held, request_not_held, over_capacity, plan_used, owed, plan_acts, all_acts, plan_serves, price_from, price}, Claims.load_credits, Steps.{range_refusal, step_refusal}, Calls.{Call, step_call, close, Log, no_log, refusal_at, refusal_in, joins, log_of, rule_over, Opening, opening, opening_refusal}}

-- a rival of a row: its blocks, and its acts before step 0, 1, 2 and on; no acts after the last list
pub record RowRival : Type 0 where
  pub blocks : ℕ
  pub acts : List (List Act)

-- what a row expects: the number that answers each call; the total, which paper 01 names; the figures; the items evicted, in order; every slot with its
-- credits at the end; and the price of each rival
pub record RowResult : Type 0 where
  pub answers : List ℕ
  pub total : ℕ
  pub totals : Totals
  pub uses : List Use
  pub evictions : List ℕ
  pub slots : List Slot
  pub prices : List Priced

pub record BenchRow : Type 0 where
  pub k : ℕ
  pub rule : Deduction
  pub catalog : Catalog
  pub calls : List Call
  pub rivals : List RowRival
  pub expected : RowResult

-- the number that answers each call
unfoldable pub answers : ℕ → Catalog → Log → List Call → List ℕ
answers k cat l [] = []
answers k cat l (call ∷ calls) = refusal_in k cat l call ∷ answers k cat (joins k cat l call) calls

unfoldable pub evicted_items : List Event → List ℕ
evicted_items [] = []
evicted_items (hit i ∷ es) = evicted_items es
evicted_items (loaded i ∷ es) = evicted_items es
evicted_items (evicted i d ∷ es) = i ∷ evicted_items es
evicted_items (wrote_back i ∷ es) = evicted_items es
evicted_items (wrote i m ∷ es) = evicted_items es
evicted_items (flush_step ∷ es) = evicted_items es
evicted_items (arrived i ∷ es) = evicted_items es
evicted_items (retired i ∷ es) = evicted_items es

-- what the definitions give for a row
unfoldable pub result_of : BenchRow → RowResult
result_of r =
    let l = log_of r.k r.catalog r.calls in
    let v = rule_over (start (split_of r.rule) r.k r.catalog) l in
    record {
      answers = answers r.k r.catalog no_log r.calls;
      total = total_cost v.figures;
      totals = v.figures.totals;
      uses = v.figures.uses;
      evictions = evicted_items (trace (split_of r.rule) r.k (emptied r.catalog) l.steps);
      slots = v.state.slots;
      prices = map (λ (q : RowRival). price r.catalog q.blocks (λ i. get_or q.acts i []) l.steps) r.rivals;
    }

-- an item by its blocks, load cost and write cost
abbrev item : ℕ → ℕ → ℕ → Item
item b l w = listed b l w

-- a step's call by its first three numbers
abbrev step_of_three : ℕ → ℕ → ℕ → Call
step_of_three kind i minutes = step_call (numbers_from kind i minutes 0 0 0)

-- totals with no arrival and no retirement
abbrev counts : ℕ → ℕ → ℕ → ℕ → ℕ → ℕ → ℕ → ℕ → ℕ → Totals
counts s h l lc e de w wc f = totals_of s h l lc e de w wc f 0 0

-- a rival by its blocks and its lists of acts
abbrev rival : ℕ → List (List Act) → RowRival
rival h acts = record { blocks = h; acts = acts }

abbrev read : ℕ → Call
read i = step_of_three read_kind i 0

abbrev write : ℕ → ℕ → Call
write i minutes = step_of_three write_kind i minutes

abbrev flush_call : Call
flush_call = step_of_three flush_kind 0 0

abbrev arrival : ℕ → ℕ → ℕ → ℕ → Call
arrival i b l w = step_call (numbers_from arrive_kind i 0 b l w)

abbrev retirement : ℕ → Call
retirement i = step_of_three retire_kind i 0

-- the catalog, the calls and the plan of paper 01's whole example
abbrev three : Catalog
three = item 1 4 6 ∷ item 2 6 2 ∷ item 1 3 9 ∷ []

abbrev four_steps : List Call
four_steps = write 0 90 ∷ read 1 ∷ write 2 45 ∷ read 0 ∷ []

abbrev the_rival : RowRival
the_rival = rival 2 ((Fetch 0 ∷ []) ∷ (Evict 0 ∷ Fetch 1 ∷ []) ∷ (Evict 1 ∷ Fetch 2 ∷ []) ∷ (Fetch 0 ∷ []) ∷ [])

-- the catalog and the calls over which the two rules of deduction part
abbrev four : Catalog
four = item 1 5 5 ∷ item 1 2 0 ∷ item 1 4 0 ∷ item 1 3 0 ∷ []

abbrev seven_steps : List Call
seven_steps = write 0 0 ∷ read 1 ∷ read 2 ∷ read 0 ∷ read 3 ∷ read 1 ∷ read 2 ∷ []

-- a row: the capacity, the rule, the catalog, the calls, the rivals; and what it gives
abbrev row_by : ℕ → Deduction → Catalog → List Call → List RowRival → RowResult → BenchRow
row_by k rule cat calls rivals o = record { k = k; rule = rule; catalog = cat; calls = calls; rivals = rivals; expected = o }

-- and one under write-first
abbrev row : ℕ → Catalog → List Call → List RowRival → RowResult → BenchRow
row k cat calls rivals o = row_by k WriteFirst cat calls rivals o

-- the answers, the total, the totals, the uses, the items evicted, the slots, the prices
abbrev gives : List ℕ → ℕ → Totals → List Use → List ℕ → List Slot → List Priced → RowResult
gives a n t u e s p = record { answers = a; total = n; totals = t; uses = u; evictions = e; slots = s; prices = p }

-- the whole example
abbrev whole_example : BenchRow
whole_example =
    row 3 three (four_steps ++ (flush_call ∷ close ∷ [])) (the_rival ∷ [])
    (gives (0 ∷ 0 ∷ 0 ∷ 0 ∷ 0 ∷ 0 ∷ []) 28 (counts 5 1 3 13 1 0 2 15 1)
    (use_of 90 1 1 ∷ use_of 0 1 0 ∷ use_of 45 1 1 ∷ []) (1 ∷ []) (clean 2882880 ∷ absent ∷ clean 2162160 ∷ []) (costs 32 ∷ []))

-- an item written for 5 minutes twice, and then read by a call that names minutes: a read has none
abbrev five_twice : BenchRow
five_twice =
    row 1 (item 1 4 6 ∷ []) (write 0 5 ∷ write 0 5 ∷ step_of_three read_kind 0 7 ∷ []) []
    (gives (0 ∷ 0 ∷ 0 ∷ []) 4 (counts 3 2 1 4 0 0 0 0 0)
    (use_of 10 1 0 ∷ []) [] (dirty 2882880 4324320 ∷ []) [])

-- an item that arrives in an empty catalog, is written and leaves
abbrev comes_and_goes : BenchRow
comes_and_goes =
    row 2 [] (arrival 0 1 4 6 ∷ write 0 0 ∷ retirement 0 ∷ close ∷ []) (rival 1 ([] ∷ (Fetch 0 ∷ []) ∷ []) ∷ [])
    (gives (0 ∷ 0 ∷ 0 ∷ 0 ∷ []) 10 (totals_of 3 0 1 4 1 1 1 6 0 1 1)
    (use_of 0 1 1 ∷ []) (0 ∷ []) (absent ∷ []) (costs 10 ∷ []))

-- The table. Totals are steps, hits, loads, load cost, evictions, dirty evictions, writebacks, write cost, flushes, and for items that
-- arrive and leave also arrivals and retirements; uses are minutes, loads, writebacks.
abbrev pub bench_rows : List BenchRow
bench_rows =
    -- the empty log
    row 1 (item 1 4 6 ∷ []) (close ∷ []) []
    (gives (0 ∷ []) 0 (counts 0 0 0 0 0 0 0 0 0)
    (use_of 0 0 0 ∷ []) [] (absent ∷ []) []) ∷
    -- one write: 10
    row 1 (item 1 4 6 ∷ []) (write 0 0 ∷ close ∷ []) []
    (gives (0 ∷ 0 ∷ []) 10 (counts 1 0 1 4 0 0 1 6 0)
    (use_of 0 1 1 ∷ []) [] (clean 2882880 ∷ []) []) ∷
    -- two writes: 10 again
    row 1 (item 1 4 6 ∷ []) (write 0 0 ∷ write 0 0 ∷ close ∷ []) []
    (gives (0 ∷ 0 ∷ 0 ∷ []) 10 (counts 2 1 1 4 0 0 1 6 0)
    (use_of 0 1 1 ∷ []) [] (clean 2882880 ∷ []) []) ∷
    -- a dirty eviction: 13
    row 1 (item 1 4 6 ∷ item 1 3 9 ∷ []) (write 0 0 ∷ read 1 ∷ close ∷ []) []
    (gives (0 ∷ 0 ∷ 0 ∷ []) 13 (counts 2 0 2 7 1 1 1 6 0)
    (use_of 0 1 1 ∷ use_of 0 1 0 ∷ []) (0 ∷ []) (absent ∷ clean 2162160 ∷ []) []) ∷
    -- equal ranks go to the lowest number
    row 2 (item 1 5 0 ∷ item 1 5 0 ∷ item 1 5 0 ∷ []) (read 0 ∷ read 1 ∷ read 2 ∷ read 1 ∷ []) []
    (gives (0 ∷ 0 ∷ 0 ∷ 0 ∷ []) 15 (counts 4 1 3 15 1 0 0 0 0)
    (use_of 0 1 0 ∷ use_of 0 1 0 ∷ use_of 0 1 0 ∷ []) (0 ∷ []) (absent ∷ clean 3603600 ∷ clean 3603600 ∷ []) []) ∷
    -- two evictions for one load: 12
    row 2 (item 1 2 0 ∷ item 1 3 0 ∷ item 2 7 0 ∷ []) (read 0 ∷ read 1 ∷ read 2 ∷ []) []
    (gives (0 ∷ 0 ∷ 0 ∷ []) 12 (counts 3 0 3 12 2 0 0 0 0)
    (use_of 0 1 0 ∷ use_of 0 1 0 ∷ use_of 0 1 0 ∷ []) (0 ∷ 1 ∷ []) (absent ∷ absent ∷ clean 5045040 ∷ []) []) ∷
    -- a cost spread over three blocks
    row 4 (item 3 1 0 ∷ item 1 1 0 ∷ item 1 1 0 ∷ []) (read 0 ∷ read 1 ∷ read 2 ∷ []) []
    (gives (0 ∷ 0 ∷ 0 ∷ []) 3 (counts 3 0 3 3 1 0 0 0 0)
    (use_of 0 1 0 ∷ use_of 0 1 0 ∷ use_of 0 1 0 ∷ []) (0 ∷ []) (absent ∷ clean 480480 ∷ clean 720720 ∷ []) []) ∷
    -- two landings running: the second writes nothing
    row 1 (item 1 4 6 ∷ []) (write 0 0 ∷ flush_call ∷ flush_call ∷ []) []
    (gives (0 ∷ 0 ∷ 0 ∷ []) 10 (counts 3 0 1 4 0 0 1 6 2)
    (use_of 0 1 1 ∷ []) [] (clean 2882880 ∷ []) []) ∷
    -- the whole example: 28 and 32
    whole_example ∷
    -- the item of the larger credit and the smaller rank goes
    row 4 (item 3 2 0 ∷ item 1 1 0 ∷ item 1 1 0 ∷ []) (read 0 ∷ read 1 ∷ read 2 ∷ []) []
    (gives (0 ∷ 0 ∷ 0 ∷ []) 4 (counts 3 0 3 4 1 0 0 0 0)
    (use_of 0 1 0 ∷ use_of 0 1 0 ∷ use_of 0 1 0 ∷ []) (0 ∷ []) (absent ∷ clean 240240 ∷ clean 720720 ∷ []) []) ∷
    -- each eviction takes its own loss
    row 4 (item 1 1 0 ∷ item 1 2 0 ∷ item 1 9 0 ∷ item 3 1 0 ∷ []) (read 0 ∷ read 1 ∷ read 2 ∷ read 3 ∷ []) []
    (gives (0 ∷ 0 ∷ 0 ∷ 0 ∷ []) 13 (counts 4 0 4 13 2 0 0 0 0)
    (use_of 0 1 0 ∷ use_of 0 1 0 ∷ use_of 0 1 0 ∷ use_of 0 1 0 ∷ []) (0 ∷ 1 ∷ []) (absent ∷ absent ∷ clean 5045040 ∷ clean 720720 ∷ []) []) ∷
    -- the whole example's first four steps: a read leaves a write credit that has lost some
    row 3 three four_steps []
    (gives (0 ∷ 0 ∷ 0 ∷ 0 ∷ []) 13 (counts 4 1 3 13 1 0 0 0 0)
    (use_of 90 1 0 ∷ use_of 0 1 0 ∷ use_of 45 1 0 ∷ []) (1 ∷ []) (dirty 2882880 2162160 ∷ absent ∷ dirty 2162160 6486480 ∷ []) []) ∷
    -- a dirty eviction of write cost 0
    row 1 (item 1 4 0 ∷ item 1 3 0 ∷ []) (write 0 0 ∷ read 1 ∷ []) []
    (gives (0 ∷ 0 ∷ []) 7 (counts 2 0 2 7 1 1 1 0 0)
    (use_of 0 1 1 ∷ use_of 0 1 0 ∷ []) (0 ∷ []) (absent ∷ clean 2162160 ∷ []) []) ∷
    -- a dirty eviction of used-up write credit
    row 2 (item 1 1 1 ∷ item 1 1 0 ∷ item 1 1 0 ∷ []) (write 0 0 ∷ read 1 ∷ read 2 ∷ read 1 ∷ []) []
    (gives (0 ∷ 0 ∷ 0 ∷ 0 ∷ []) 5 (counts 4 0 4 4 2 1 1 1 0)
    (use_of 0 1 1 ∷ use_of 0 2 0 ∷ use_of 0 1 0 ∷ []) (1 ∷ 0 ∷ []) (absent ∷ clean 720720 ∷ clean 0 ∷ []) []) ∷
    -- cache and plan level: 10 against 10
    row 1 (item 1 4 6 ∷ []) (write 0 0 ∷ close ∷ []) (rival 1 ((Fetch 0 ∷ []) ∷ []) ∷ [])
    (gives (0 ∷ 0 ∷ []) 10 (counts 1 0 1 4 0 0 1 6 0)
    (use_of 0 1 1 ∷ []) [] (clean 2882880 ∷ []) (costs 10 ∷ [])) ∷
    -- 5 minutes twice
    five_twice ∷
    -- The two rules part: write-first evicts item 0 dirty, load-first evicts item 1 in its place; 25 by both.
    row_by 2 WriteFirst four (seven_steps ++ (close ∷ [])) []
    (gives (0 ∷ 0 ∷ 0 ∷ 0 ∷ 0 ∷ 0 ∷ 0 ∷ 0 ∷ []) 25 (counts 7 1 6 20 4 1 1 5 0)
    (use_of 0 1 1 ∷ use_of 0 2 0 ∷ use_of 0 2 0 ∷ use_of 0 1 0 ∷ []) (1 ∷ 2 ∷ 3 ∷ 0 ∷ []) (absent ∷ clean 720720 ∷ clean 2882880 ∷ absent ∷ []) []) ∷
    row_by 2 LoadFirst four (seven_steps ++ (close ∷ [])) []
    (gives (0 ∷ 0 ∷ 0 ∷ 0 ∷ 0 ∷ 0 ∷ 0 ∷ 0 ∷ []) 25 (counts 7 1 6 20 4 0 1 5 0)
    (use_of 0 1 1 ∷ use_of 0 2 0 ∷ use_of 0 2 0 ∷ use_of 0 1 0 ∷ []) (1 ∷ 2 ∷ 3 ∷ 1 ∷ []) (clean 0 ∷ absent ∷ clean 2882880 ∷ absent ∷ []) []) ∷
    -- their first three steps: of 10 the dirty item has lost 2, from its write credit or from its load credit
    row_by 2 WriteFirst four (write 0 0 ∷ read 1 ∷ read 2 ∷ []) []
    (gives (0 ∷ 0 ∷ 0 ∷ []) 11 (counts 3 0 3 11 1 0 0 0 0)
    (use_of 0 1 0 ∷ use_of 0 1 0 ∷ use_of 0 1 0 ∷ use_of 0 0 0 ∷ []) (1 ∷ []) (dirty 3603600 2162160 ∷ absent ∷ clean 2882880 ∷ absent ∷ []) []) ∷
    row_by 2 LoadFirst four (write 0 0 ∷ read 1 ∷ read 2 ∷ []) []
    (gives (0 ∷ 0 ∷ 0 ∷ []) 11 (counts 3 0 3 11 1 0 0 0 0)
    (use_of 0 1 0 ∷ use_of 0 1 0 ∷ use_of 0 1 0 ∷ use_of 0 0 0 ∷ []) (1 ∷ []) (dirty 2162160 3603600 ∷ absent ∷ clean 2882880 ∷ absent ∷ []) []) ∷
    -- load-first before the closing: the load credit is used up, and the write credit has borne the rest
    row_by 2 LoadFirst four seven_steps []
    (gives (0 ∷ 0 ∷ 0 ∷ 0 ∷ 0 ∷ 0 ∷ 0 ∷ []) 20 (counts 7 1 6 20 4 0 0 0 0)
    (use_of 0 1 0 ∷ use_of 0 2 0 ∷ use_of 0 2 0 ∷ use_of 0 1 0 ∷ []) (1 ∷ 2 ∷ 3 ∷ 1 ∷ []) (dirty 0 720720 ∷ absent ∷ clean 2882880 ∷ absent ∷ []) []) ∷
    -- Refusals, in the order of the calls: a kind that is none, item 256, 1,441 minutes, a stranger, too bulky, 1,441
    -- minutes for a stranger; values that a landing lacks; and every call after the closing.
    row 2 (item 1 4 6 ∷ item 3 1 1 ∷ item 1 3 9 ∷ []) (step_of_three 88 0 0 ∷ read 256 ∷ write 0 1441 ∷ read 3 ∷ read 1 ∷ write 3 1441 ∷ step_of_three flush_kind 999 9999 ∷ step_of_three read_kind 2 9999 ∷ close ∷ read 0 ∷ close ∷ []) []
    (gives (3 ∷ 3 ∷ 3 ∷ 6 ∷ 7 ∷ 3 ∷ 0 ∷ 0 ∷ 0 ∷ 9 ∷ 9 ∷ []) 3 (counts 2 0 1 3 0 0 0 0 1)
    (use_of 0 0 0 ∷ use_of 0 0 0 ∷ use_of 0 1 0 ∷ []) [] (absent ∷ absent ∷ clean 2162160 ∷ []) []) ∷
    -- Plans over R 0, R 1, L: overfull between two acts, and priced; then a fault of each kind; 14 before 13 where both
    -- fall due; and 13 at the landing.
    row 2 (item 1 4 6 ∷ item 1 3 9 ∷ item 2 7 0 ∷ []) (read 0 ∷ read 1 ∷ flush_call ∷ [])
    (rival 1 ((Fetch 0 ∷ []) ∷ (Fetch 1 ∷ Evict 0 ∷ []) ∷ []) ∷
    rival 1 ((Fetch 0 ∷ Fetch 3 ∷ []) ∷ []) ∷
    rival 1 ((Fetch 0 ∷ Evict 1 ∷ []) ∷ []) ∷
    rival 1 ((Fetch 0 ∷ Fetch 0 ∷ []) ∷ []) ∷
    rival 1 ((Fetch 0 ∷ []) ∷ (Evict 0 ∷ Fetch 2 ∷ []) ∷ []) ∷
    rival 1 ((Fetch 0 ∷ Fetch 1 ∷ []) ∷ []) ∷
    rival 1 ((Fetch 0 ∷ []) ∷ (Evict 0 ∷ Fetch 1 ∷ []) ∷ (Fetch 0 ∷ []) ∷ []) ∷
    [])
    (gives (0 ∷ 0 ∷ 0 ∷ []) 7 (counts 3 0 2 7 0 0 0 0 1)
    (use_of 0 1 0 ∷ use_of 0 1 0 ∷ use_of 0 0 0 ∷ []) [] (clean 2882880 ∷ clean 2162160 ∷ absent ∷ [])
    (costs 7 ∷
    fault (unknown_item 0 1 3) ∷
    fault (not_held 0 1 1) ∷
    fault (already_held 0 1 0) ∷
    fault (request_not_held 1 1) ∷
    fault (over_capacity 0) ∷
    fault (over_capacity 2) ∷
    [])) ∷
    -- Item 1 is a stranger before its arrival, is written and leaves dirty, which pays; what has left is gone, and the next number goes
    -- on; an item too bulky arrives and leaves. Plans: one that evicts it itself; one that loses its dirty copy with it, and pays.
    row 2 (item 1 4 6 ∷ []) (read 1 ∷ arrival 0 1 3 9 ∷ arrival 2 1 3 9 ∷ arrival 1 1 3 9 ∷ write 1 6 ∷ read 0 ∷ retirement 1 ∷ read 1 ∷ retirement 1 ∷ retirement 2 ∷ arrival 1 1 1 1 ∷ arrival 2 16 1 1 ∷ read 2 ∷ retirement 2 ∷ close ∷ [])
    (rival 1 ([] ∷ (Fetch 1 ∷ []) ∷ (Evict 1 ∷ Fetch 0 ∷ []) ∷ []) ∷
    rival 2 ([] ∷ (Fetch 1 ∷ []) ∷ (Fetch 0 ∷ []) ∷ []) ∷
    [])
    (gives (6 ∷ 19 ∷ 19 ∷ 0 ∷ 0 ∷ 0 ∷ 0 ∷ 20 ∷ 20 ∷ 6 ∷ 19 ∷ 0 ∷ 7 ∷ 0 ∷ 0 ∷ []) 16 (totals_of 6 0 2 7 1 1 1 9 0 2 2)
    (use_of 0 1 0 ∷ use_of 6 1 1 ∷ use_of 0 0 0 ∷ []) (1 ∷ []) (clean 2882880 ∷ absent ∷ absent ∷ []) (costs 16 ∷ costs 16 ∷ [])) ∷
    -- An item leaves clean, then one dirty, then one that is not held. An eviction before had cost item 4 two of its nine; what leaves
    -- costs the others nothing. The plan has the same copies, and loses them with the items.
    row 4 (item 1 4 6 ∷ item 1 3 9 ∷ item 1 2 0 ∷ item 1 7 0 ∷ item 1 9 1 ∷ []) (write 0 0 ∷ read 1 ∷ read 2 ∷ read 4 ∷ read 3 ∷ retirement 1 ∷ retirement 0 ∷ retirement 2 ∷ [])
    (rival 4 ((Fetch 0 ∷ []) ∷ (Fetch 1 ∷ []) ∷ (Fetch 2 ∷ []) ∷ (Fetch 4 ∷ []) ∷ (Evict 2 ∷ Fetch 3 ∷ []) ∷ []) ∷ [])
    (gives (0 ∷ 0 ∷ 0 ∷ 0 ∷ 0 ∷ 0 ∷ 0 ∷ 0 ∷ []) 31 (totals_of 8 0 5 25 3 1 1 6 0 0 3)
    (use_of 0 1 1 ∷ use_of 0 1 0 ∷ use_of 0 1 0 ∷ use_of 0 1 0 ∷ use_of 0 1 0 ∷ []) (2 ∷ 1 ∷ 0 ∷ []) (absent ∷ absent ∷ absent ∷ clean 5045040 ∷ clean 5045040 ∷ []) (costs 31 ∷ [])) ∷
    -- Plans over A 2, Q 1, R 0. Item 2 is a stranger at its own arrival, and known at the next step; item 1 may still be named at its
    -- own retirement, and is lost there, held or not; after it it is gone, which comes before 11 and 12. And 13 at A and at Q.
    row 2 (item 1 4 6 ∷ item 2 7 0 ∷ []) (arrival 2 1 3 9 ∷ retirement 1 ∷ read 0 ∷ [])
    (rival 1 ((Fetch 2 ∷ []) ∷ []) ∷
    rival 1 ([] ∷ (Fetch 2 ∷ []) ∷ (Evict 2 ∷ Fetch 0 ∷ []) ∷ []) ∷
    rival 2 ([] ∷ (Fetch 1 ∷ Evict 1 ∷ []) ∷ (Fetch 0 ∷ []) ∷ []) ∷
    rival 2 ((Fetch 1 ∷ []) ∷ [] ∷ (Fetch 0 ∷ []) ∷ []) ∷
    rival 2 ((Fetch 1 ∷ []) ∷ [] ∷ (Evict 1 ∷ []) ∷ []) ∷
    rival 2 ([] ∷ [] ∷ (Fetch 1 ∷ []) ∷ []) ∷
    rival 1 ((Fetch 1 ∷ []) ∷ []) ∷
    rival 1 ([] ∷ (Fetch 1 ∷ []) ∷ []) ∷
    [])
    (gives (0 ∷ 0 ∷ 0 ∷ []) 4 (totals_of 3 0 1 4 0 0 0 0 0 1 1)
    (use_of 0 1 0 ∷ use_of 0 0 0 ∷ use_of 0 0 0 ∷ []) [] (clean 2882880 ∷ absent ∷ absent ∷ [])
    (fault (unknown_item 0 0 2) ∷
    costs 7 ∷
    costs 11 ∷
    costs 11 ∷
    fault (retired_item 2 0 1) ∷
    fault (retired_item 2 0 1) ∷
    fault (over_capacity 0) ∷
    fault (over_capacity 1) ∷
    [])) ∷
    -- By load-first: item 0 stays dirty, with one of its two left of the load credit and five of its six of the write credit (by write-first
    -- two and two). Item 3 arrives, is written and leaves dirty, which costs item 0 nothing.
    row_by 2 LoadFirst (item 1 2 6 ∷ item 1 3 0 ∷ item 1 1 0 ∷ []) (write 0 6 ∷ read 1 ∷ read 2 ∷ read 0 ∷ arrival 3 1 5 1 ∷ read 3 ∷ write 3 12 ∷ retirement 3 ∷ []) []
    (gives (0 ∷ 0 ∷ 0 ∷ 0 ∷ 0 ∷ 0 ∷ 0 ∷ 0 ∷ []) 12 (totals_of 8 2 4 11 3 1 1 1 0 1 1)
    (use_of 6 1 0 ∷ use_of 0 1 0 ∷ use_of 0 1 0 ∷ use_of 12 1 1 ∷ []) (1 ∷ 2 ∷ 3 ∷ []) (dirty 720720 3603600 ∷ absent ∷ absent ∷ absent ∷ []) []) ∷
    -- level where the plan has one block: 10 against 10
    comes_and_goes ∷
    []

-- every row of the table is what the definitions give
pub rows_right : map result_of bench_rows ≡ map (λ (r : BenchRow). r.expected) bench_rows
unfolding result_of answers trace evicted_items sum_to tab_from best_to fold used held_count precedence victim evict_item evict_for make_room write_backs flush drop_item step took closes step_of range_refusal step_refusal refusal_at joins rule_over plan_used owed plan_acts all_acts plan_serves price_from
rows_right = refl

-- the tenths that are printed for a row's items
abbrev tenths_in : BenchRow → List ℕ
tenths_in r = map (λ (u : Use). tenths_of u.minutes) r.expected.uses

-- "In the whole example nothing moves; W 0 with 5 minutes twice now prints 1"
pub tenths_right : (tenths_in whole_example ≡ 15 ∷ 0 ∷ 7 ∷ []) × (tenths_in five_twice ≡ 1 ∷ [])
tenths_right = (refl, refl)

-- The bound is tight at h = 1, with an arrival and a retirement in the log: both sides are 20.
pub tight_right : (left_side 2 1 comes_and_goes.expected.total ≡ 20) × (right_side 2 10 ≡ 20)
tight_right = (refl, refl)

-- the season of the whole example
abbrev example_end : Standing
example_end = season (start write_first 3 three) (log_of 3 three (four_steps ++ (flush_call ∷ []))).steps

-- its report's last figures: total 28, left 56, right 96. The load credits held at the close are worth 7, which makes the
-- sharper line 63 against 96.
pub example_right :
    (total_cost example_end.figures ≡ 28)
    × (left_side 3 2 (total_cost example_end.figures) ≡ 56)
    × (right_side 3 32 ≡ 96)
    × ((2 - 1) * load_credits example_end.state ≡ 7 * unit)
unfolding sum_to tab_from best_to fold used held_count precedence victim evict_item evict_for make_room write_backs flush drop_item step took closes step_of range_refusal step_refusal refusal_at joins
example_right = (refl, refl, refl, refl)

-- The row '10 against 10': its season, and its rival as a plan.
abbrev one_item : Catalog
one_item = item 1 4 6 ∷ []

abbrev one_write : List Step
one_write = Write 0 0 ∷ []

abbrev one_fetch : Plan
one_fetch s = get_or ((Fetch 0 ∷ []) ∷ []) s []

-- A claim with k - h + 2 in place of k - h + 1 is false there: 20 is not at most 10.
pub stronger_false :
    ((k h : ℕ) (cat : Catalog) (steps : List Step) → 1 ≤ h → h ≤ k → (plan : Plan) (c : ℕ) → price cat h plan steps ≡ costs c →
    (k - h + 2) * total_cost (season (start write_first k cat) steps).figures ≤ k * c) →
    ⊥
unfolding sum_to tab_from best_to fold used held_count precedence victim evict_item evict_for make_room write_backs flush drop_item step took closes plan_used owed plan_acts all_acts plan_serves price_from
stronger_false claim =
    let l : 20 ≤ 10 = claim 1 1 one_item one_write (omega arith) (omega arith) one_fetch 10 refl in
    omega arith

-- a question to the table of refusals: the capacity, the catalog, the steps taken, whether the log is closed, the call; and
-- the number that answers it
pub record Question : Type 0 where
  pub k : ℕ
  pub catalog : Catalog
  pub taken : ℕ
  pub closed : Bool
  pub call : Call
  pub expected : ℕ

abbrev pub table_answer : Question → ℕ
table_answer q = refusal_at q.k q.catalog q.taken q.closed q.call

-- a question about two items: one block, and three; of a cache of two blocks, so that item 1 is too bulky and 2 a stranger
abbrev asks : ℕ → Bool → Call → ℕ → Question
asks taken is_closed call n =
    record { k = 2; catalog = item 1 4 6 ∷ item 3 1 1 ∷ []; taken = taken; closed = is_closed; call = call; expected = n }

-- the same where item 1, the bulky one, has left
abbrev asks_gone : ℕ → Bool → Call → ℕ → Question
asks_gone taken is_closed call n =
    record { k = 2; catalog = item 1 4 6 ∷ departed (item 3 1 1) ∷ []; taken = taken; closed = is_closed; call = call; expected = n }

-- about an arrival in a catalog of n items
abbrev asks_room : ℕ → ℕ → ℕ → Question
asks_room n i answer =
    record { k = 2; catalog = tab n (λ j. item 1 4 6); taken = 0; closed = false; call = arrival i 1 4 6; expected = answer }

-- The table. A stranger has no blocks in the catalog, so 6 and 7 never meet; nor has it left, so 6 and 20 never meet.
abbrev pub questions : List Question
questions =
    -- the millionth step is taken, the next is not, and a closing is
    asks 999999 false (read 0) 0 ∷
    asks 999999 false (write 0 1440) 0 ∷
    asks 999999 false flush_call 0 ∷
    asks 1000000 false (read 0) 8 ∷
    asks 1000000 false (write 0 1440) 8 ∷
    asks 1000000 false flush_call 8 ∷
    asks 1000000 false close 0 ∷
    -- 9 before 8, before 3, before 6 and before 7
    asks 1000000 true (read 0) 9 ∷
    asks 0 true (step_of_three 88 0 0) 9 ∷
    asks 0 true (read 2) 9 ∷
    asks 0 true (read 1) 9 ∷
    asks 1000000 true close 9 ∷
    -- 8 before 3, before 6 and before 7
    asks 1000000 false (step_of_three 88 0 0) 8 ∷
    asks 1000000 false (read 256) 8 ∷
    asks 1000000 false (write 0 1441) 8 ∷
    asks 1000000 false (read 2) 8 ∷
    asks 1000000 false (read 1) 8 ∷
    -- 3 before 6 and before 7
    asks 0 false (read 256) 3 ∷
    asks 0 false (write 2 1441) 3 ∷
    asks 0 false (write 1 1441) 3 ∷
    -- 6 and 7 alone
    asks 0 false (read 255) 6 ∷
    asks 0 false (write 2 0) 6 ∷
    asks 0 false (read 1) 7 ∷
    asks 0 false (write 1 0) 7 ∷
    -- an arrival: 9 before 8, before 3, before 19; never a stranger nor too bulky
    asks 0 true (arrival 0 1 4 6) 9 ∷
    asks 1000000 false (arrival 0 1 4 6) 8 ∷
    asks 0 false (arrival 256 1 4 6) 3 ∷
    asks 0 false (arrival 0 0 4 6) 3 ∷
    asks 0 false (arrival 0 17 4 6) 3 ∷
    asks 0 false (arrival 0 1 65536 6) 3 ∷
    asks 0 false (arrival 0 1 4 65536) 3 ∷
    asks 0 false (arrival 2 17 4 6) 3 ∷
    asks 0 false (arrival 1 1 4 6) 19 ∷
    asks 0 false (arrival 3 1 4 6) 19 ∷
    asks_gone 0 false (arrival 1 1 4 6) 19 ∷
    asks 999999 false (arrival 2 16 65535 65535) 0 ∷
    -- item 255 may arrive; the next number is none's
    asks_room 255 255 0 ∷
    asks_room 256 256 3 ∷
    -- a retirement: 9 before 8, before 3, before 6; never too bulky
    asks 0 true (retirement 2) 9 ∷
    asks 1000000 false (retirement 2) 8 ∷
    asks 0 false (retirement 256) 3 ∷
    asks 0 false (retirement 2) 6 ∷
    asks 999999 false (retirement 1) 0 ∷
    -- what has left: 20 after 9, 8 and 3, and before 7
    asks_gone 0 true (read 1) 9 ∷
    asks_gone 1000000 false (retirement 1) 8 ∷
    asks_gone 0 false (write 1 1441) 3 ∷
    asks_gone 0 false (read 1) 20 ∷
    asks_gone 0 false (write 1 0) 20 ∷
    asks_gone 0 false (retirement 1) 20 ∷
    asks_gone 0 false (read 2) 6 ∷
    asks_gone 0 false (read 0) 0 ∷
    -- values that a step lacks are not looked at
    asks 0 false (step_call (numbers_from read_kind 0 1441 17 65536 65536)) 0 ∷
    asks 0 false (step_call (numbers_from write_kind 0 0 17 65536 65536)) 0 ∷
    asks 0 false (step_call (numbers_from arrive_kind 2 1441 1 4 6)) 0 ∷
    asks 0 false (step_call (numbers_from retire_kind 0 1441 17 65536 65536)) 0 ∷
    []

-- every answer of the table is what the definition gives
pub answers_right : map table_answer questions ≡ map (λ (q : Question). q.expected) questions
unfolding tab_from step_of range_refusal step_refusal refusal_at
answers_right = refl

-- a question to the table about an opening: the capacity, the number of the rule, the catalog; and the number that answers it
pub record OpeningQuestion : Type 0 where
  pub given : Opening Catalog
  pub expected : ℕ

abbrev asks_opening : ℕ → ℕ → Catalog → ℕ → OpeningQuestion
asks_opening k rule cat n = record { given = opening k rule cat; expected = n }

abbrev pub opening_questions : List OpeningQuestion
opening_questions =
    -- each rule
    asks_opening 1 0 [] 0 ∷
    asks_opening 4096 1 (item 16 65535 65535 ∷ []) 0 ∷
    -- no other number is one
    asks_opening 1 2 [] 18 ∷
    asks_opening 1 4294967295 [] 18 ∷
    -- 3 before 18
    asks_opening 0 2 [] 3 ∷
    asks_opening 4097 2 [] 3 ∷
    asks_opening 1 2 (item 17 0 0 ∷ []) 3 ∷
    -- 3 alone
    asks_opening 0 1 [] 3 ∷
    asks_opening 1 0 (item 0 0 0 ∷ []) 3 ∷
    -- no item of an opening has left
    asks_opening 1 0 (item 1 4 6 ∷ departed (item 1 4 6) ∷ []) 3 ∷
    []

pub openings_right : map (λ (q : OpeningQuestion). opening_refusal q.given) opening_questions ≡ map (λ (q : OpeningQuestion). q.expected) opening_questions
unfolding opening_refusal catalog_in_range all_in_range none_left
openings_right = refl
