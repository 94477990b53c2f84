-- The season as one list: the season theorem's hypothesis and its conclusions, and a list of calls run by one function. Assumes nothing.
use mathlib.Core.{Path.◌≡◌, Logic.◌≢◌, List.{List, [], ◌∷◌}}
use Rattle.std.specs.Prelude.{ℕ, ◌<◌, ◌+◌}
use lib.{ListN.{length, get_or, take, drop}, Seq.sets}
use Rattle.landlord.specs.{Figures.total_cost, Calls.{Opening, Call, close, log_of, refusal, rule_from, season_from}, Catalog.Catalog, Claims.WithinBound}
use Rattle.queue.specs.Machine.{lazy_from}
use Rattle.fields.specs.LittleEndian.{number_at}
use Rattle.cache_open.specs.Opening.{opening_in, opening_number, OpenedLent}
use Rattle.cache.specs.Contract.{Kind, lent, Called}

-- ---- the season as one list: each call is handed the state that the last one handed back or left in the lent bytes. `o` is the
-- opening: the rule, the table and a rival plan go by its catalog with the log's arrivals and departures (landlord's `catalog_next`).

-- from c, by these calls with these numbers as answers, to d
pub data Follows {C : Type 0} (kind : Kind C) : C → List Call → List ℕ → C → Type 0 where
  none : {c : C} → Follows kind c [] [] c
  then :
      {c d e : C} {call : Call} {calls : List Call} {answer : ℕ} {numbers : List ℕ} →
      Called kind c call answer d →
      Follows kind d calls numbers e →
      Follows kind c (call ∷ calls) (answer ∷ numbers) e

-- the answer to call i is the number that the table gives it, from the opening's arguments and the calls before it: never 17
pub record TableAnswers (o : Opening Catalog) (calls : List Call) (numbers : List ℕ) : Type 0 where
  pub count : length numbers ≡ length calls
  pub each : (i : ℕ) → i < length calls → get_or numbers i 0 ≡ refusal o.k o.catalog (take i calls) (get_or calls i close)

-- some closing of the list was answered 0
pub record Closing (calls : List Call) (numbers : List ℕ) : Type 0 where
  pub place : ℕ
  pub within : place < length calls
  pub is_close : get_or calls place close ≡ close
  pub answered : get_or numbers place 0 ≡ 0

-- The cost of a closed season: exactly the total by the opening's rule over the log and its closing, and within the bound: for every h from 1 to k
-- and every plan of h blocks that is legal over the same steps at cost c, total × (k - h + 1) ≤ k × c.
pub record Bounded (o : Opening Catalog) (calls : List Call) (total : ℕ) : Type 0 where
  pub exact : total ≡ total_cost (season_from o (log_of o.k o.catalog calls).steps).figures
  pub bound : WithinBound o.k o.catalog (log_of o.k o.catalog calls).steps total

-- the three conclusions, after the whole list, refused calls after the closing included
pub record Season {C : Type 0} (kind : Kind C) (o : Opening Catalog) (calls : List Call) (numbers : List ℕ) (d : C) : Type 0 where
  pub answers : TableAnswers o calls numbers
  pub valid : kind.Valid d
  pub stands : kind.view d ≡ rule_from o (log_of o.k o.catalog calls)
  -- and level, keys and stored credits are the lazy form's over that log
  pub lazy : kind.lazy d ≡ lazy_from o (log_of o.k o.catalog calls)
  pub cost : Closing calls numbers → Bounded o calls (total_cost (kind.view d).figures)

-- The state after the first i calls of a list: it is on the way, valid, and stands where the rule stands over the log of those calls.
pub record Prefix {C : Type 0} (kind : Kind C) (o : Opening Catalog) (first : C) (calls : List Call) (numbers : List ℕ) (d : C) (i : ℕ) : Type 0 where
  pub state : C
  pub reached : Follows kind first (take i calls) (take i numbers) state
  pub rest : Follows kind state (drop i calls) (drop i numbers) d
  pub valid : kind.Valid state
  pub stands : kind.view state ≡ rule_from o (log_of o.k o.catalog (take i calls))
  pub lazy : kind.lazy state ≡ lazy_from o (log_of o.k o.catalog (take i calls))

-- the list starts from an opening that was not refused; nothing else writes the bytes meanwhile
pub record ChainLent (o : Opening (List ℕ)) (calls : List Call) (numbers d : List ℕ) : Type 0 where
  pub before : List ℕ
  pub first : List ℕ
  pub opening : OpenedLent before o 0 first
  pub follows : Follows lent first calls numbers d

-- the three conclusions; the total is that of the two numbers at the layout's places of load cost and write cost
pub record SeasonLent (o : Opening Catalog) (calls : List Call) (numbers d : List ℕ) : Type 0 where
  pub season : Season lent o calls numbers d
  pub cost : Closing calls numbers → Bounded o calls (number_at d 40 8 + number_at d 48 8)

-- ---- a list of calls as one slice of numbers (landlord's `calls_of`), and what running it gives

-- The season theorem of the arguments alone: a refused opening leaves every byte and every answer as it was; else the three
-- conclusions hold of the answers noted and of the bytes left.
pub record RanLent (b : List ℕ) (o : Opening (List ℕ)) (calls : List Call) (before after : List ℕ) (number : ℕ) (d : List ℕ) : Type 0 where
  pub answer : number ≡ opening_number (length b) o
  pub refused : number ≢ 0 → (d ≡ b) × (after ≡ before)
  pub numbers : List ℕ
  pub season : number ≡ 0 → SeasonLent (opening_in o) calls numbers d × (after ≡ sets before 0 numbers)
