-- The cache as a struct, its calls and its report as methods: what each promises, and the season theorem by value. Assumes nothing.
use mathlib.Core.{Path.{◌≡◌, refl}, Bool.{true, cond}, List.{List, [], ◌∷◌, map}, Logic.◌≢◌}
use Rattle.std.specs.Prelude.{ℕ, ◌<◌, ◌+◌, None, Result, Ok}
use lib.{Dec.eqb, ListN.{get_or, length, take}, Seq.sets}
use Rattle.types.specs.{declared.Refusal.Refusal, Types.{telling, answer_told, answer_number}}
use Rattle.landlord.specs.{Fold.tab, Catalog.{Catalog, listed}, Slot.write_first, Rule.emptied, Figures.{Standing, nothing, start, opened, changed}, Calls.{Opening, Call, call_item, opening_refusal, starts_at, close, refusal}}
use Rattle.queue.specs.Machine.{LazyStanding, empty_queue, lazy_starts_at}
use Rattle.cache_state.specs.Cache.{Cache as Record, lazy, view, Valid, EmptyPlace}
use Rattle.report.specs.Report.{report_of, Put}
use Rattle.cache.specs.Contract.{Kind, Called}
use Rattle.cache_run.specs.Season.{Closing, Bounded, Season}
use Rattle.cache_value.specs.declared.{Cache.Cache, Answered.Answered}

-- the struct as the record of the specification: the same fields
abbrev pub record_of : Cache → Record
record_of c =
    record {
      k = c.k;
      n = c.n;
      blocks = c.blocks;
      load = c.load;
      write = c.write;
      held = c.held;
      loadcredit = c.loadcredit;
      writecredit = c.writecredit;
      dirty = c.dirty;
      minutes = c.minutes;
      itemloads = c.itemloads;
      itemwritebacks = c.itemwritebacks;
      steps = c.steps;
      hits = c.hits;
      loads = c.loads;
      loadcost = c.loadcost;
      evictions = c.evictions;
      dirtyevictions = c.dirtyevictions;
      writebacks = c.writebacks;
      writecost = c.writecost;
      flushes = c.flushes;
      closed = c.closed;
      rule = c.rule;
      left = c.left;
      arrivals = c.arrivals;
      retirements = c.retirements;
      level = c.level;
      keys = c.keys;
      heap = c.heap;
      places = c.places;
      used = c.used;
    }

-- the struct as a kind of state
abbrev pub by_value : Kind Cache
by_value = record { lazy = λ c. lazy (record_of c); view = λ c. view (record_of c); same = λ c. refl; Valid = λ c. Valid (record_of c) }

-- the catalog that an opening is given: of arrays of blocks, load costs and write costs, the first n places
unfoldable pub catalog_from : ℕ → List ℕ → List ℕ → List ℕ → Catalog
catalog_from n blocks load write = tab n (λ i. listed (get_or blocks i 0) (get_or load i 0) (get_or write i 0))

-- "refused by value, it gives a closed locker of 1 block with no sails"; "write-first if refused" (paper 02, 'Three')
abbrev pub refused_opening : Standing
refused_opening = changed (opened (start write_first 1 [])) (emptied []) (nothing []) true

-- the same in the lazy form: no key, and level 0
abbrev pub refused_lazy : LazyStanding
refused_lazy = record { k = 1; queue = empty_queue []; figures = nothing []; closed = true; split = write_first }

-- a method's answer
abbrev pub Answer : Type 0
Answer = Result Unit Refusal

-- A step or the closing as a method: the answer tells the call's number and its item, and no line; the next cache comes with it. What is
-- left open is how that one's heap is arranged, and that alone (proofs/Tells.antt).
pub record CalledBy (c : Cache) (call : Call) (r : Answered) : Type 0 where
  pub called : Called by_value c call (answer_number r.answer) r.cache
  pub tells : answer_told r.answer ≡ telling (answer_number r.answer) 0 (call_item call)

-- The opening: 0, 3 or 18, and the one valid cache that stands at the opening, or that of a refused one, all its places empty. Its heap is
-- empty, so nothing is left open.
pub record OpenedBy (o : Opening Catalog) (r : Answered) : Type 0 where
  pub tells : answer_told r.answer ≡ telling (opening_refusal o) 0 0
  pub valid : by_value.Valid r.cache
  pub stands : by_value.view r.cache ≡ cond (eqb (opening_refusal o) 0) (starts_at o) refused_opening
  -- the queue: level 0, and no key
  pub lazy :
      by_value.lazy r.cache
      ≡ cond (eqb (opening_refusal o) 0) (lazy_starts_at o) refused_lazy
  -- "It has 256 places, one for each sail number, empty at opening"
  pub empty : (i : ℕ) → i < 256 → EmptyPlace (record_of r.cache) i

-- the report of the struct alone, so with no rival's figures, on a lent page: "a report 17, 15"; a struct that is not valid leaves every
-- byte of the page as before
pub record ReportedBy (c : Cache) (before : List ℕ) (r : Result ℕ Refusal) (after : List ℕ) : Type 0 where
  pub fine : by_value.Valid c → Put (report_of (by_value.view c) None) before r after
  pub invalid : (by_value.Valid c → ⊥) → (answer_told r ≡ telling 17 0 0) × (after ≡ before)

-- ---- the season: each call is handed the cache that the last one handed back

-- the three conclusions; the total is that of the struct's own two fields
pub record SeasonByValue (o : Opening Catalog) (calls : List Call) (numbers : List ℕ) (d : Cache) : Type 0 where
  pub season : Season by_value o calls numbers d
  pub cost : Closing calls numbers → Bounded o calls (d.loadcost + d.writecost)

-- from c, by these calls as methods, each on the cache that the last one handed back, with these answers, to d
pub data FollowsBy : Cache → List Call → List Answer → Cache → Type 0 where
  no_call : {c : Cache} → FollowsBy c [] [] c
  then_call :
      {c d : Cache} {call : Call} {calls : List Call} {answers : List Answer} {r : Answered} →
      CalledBy c call r →
      FollowsBy r.cache calls answers d →
      FollowsBy c (call ∷ calls) (r.answer ∷ answers) d

-- the list starts from what an opening handed back, which was not refused
pub record ChainBy (o : Opening Catalog) (calls : List Call) (answers : List Answer) (d : Cache) : Type 0 where
  pub reply : Answered
  pub opening : OpenedBy o reply
  pub taken : answer_number reply.answer ≡ 0
  pub follows : FollowsBy reply.cache calls answers d

-- The first conclusion for the answers themselves: answer i tells the number that the table gives, from the opening's arguments and
-- the calls before it, with the call's item and no line. The other two are stated for the numbers.
pub record SeasonByMethods (o : Opening Catalog) (calls : List Call) (answers : List Answer) (d : Cache) : Type 0 where
  pub count : length answers ≡ length calls
  pub each :
      (i : ℕ) → i < length calls →
      answer_told (get_or answers i (Ok tt)) ≡ telling (refusal o.k o.catalog (take i calls) (get_or calls i close)) 0 (call_item (get_or calls i close))
  pub by_number : SeasonByValue o calls (map answer_number answers) d

-- The season theorem of the arguments alone: a refused opening answers 3 or 18, notes nothing and hands back the one cache of a refused
-- opening; else the three conclusions hold of the answers noted and of the cache handed back.
pub record Ran (o : Opening Catalog) (calls : List Call) (before after : List ℕ) (r : Answered) : Type 0 where
  pub tells : answer_told r.answer ≡ telling (opening_refusal o) 0 0
  pub refused : answer_number r.answer ≢ 0 → (after ≡ before) × OpenedBy o r
  pub numbers : List ℕ
  pub season : answer_number r.answer ≡ 0 → SeasonByValue o calls numbers r.cache × (after ≡ sets before 0 numbers)
