-- The season theorem, for every kind of state: whatever the calls, the answers are those of the table, the state stands where the
-- rule stands over the log, and after a closing the total is the rule's and within the wear bound. Assumes nothing.
use mathlib.Core.Path.{◌≡◌, refl, sym, ap, subst, ◌∙◌}
use mathlib.Core.Bool.{Bool, true, cond}
use mathlib.Core.List.{List, [], ◌∷◌}
use Prim.Native.Nat.{ℕ, zero, suc, ◌<◌}
use native.Mathlib.Omega.{arith}
use lib.ListN.{length, get_or, take, drop}
use Rattle.types.specs.Types.{deduction_of}
use Rattle.landlord.specs.Fold.{fold}
use Rattle.landlord.specs.Catalog.{Catalog, CatalogOk}
use Rattle.landlord.specs.Figures.{Standing, total_cost, ran}
use Rattle.landlord.specs.Calls.{Opening, Call, close, Log, no_log, refusal_now, refusal_in, refusal, joins, log_of, rule_over, rule_from, season_from, start_of, after}
use Rattle.landlord.specs.Claims.{AllowedLog, WithinBound, SplitOk}
use Rattle.landlord.proofs.Slots.{deduction_ok}
use Rattle.landlord.proofs.Calls.{log_allowed, joins_either, logged_allowed, same_refusal, one_call, closing_ends}
use Rattle.landlord.proofs.Competitive.{competitive_bound}
use Rattle.queue.specs.Machine.{LazyStanding, lazy_from, after_in}
use Rattle.queue.proofs.Calls.{one_call_in}
use Rattle.cache_open.specs.Opening.{opening_in, OpenedLent}
use Rattle.cache_open.proofs.Openings.{right}
use Rattle.cache.specs.Contract.{Kind, lent}
use Rattle.cache_run.specs.Season.{Follows, none, then, TableAnswers, Closing, Bounded, Season, Prefix, ChainLent, SeasonLent}
use Rattle.cache_run.specs.Inner.{BeginsAt}

-- each rule of deduction splits as it may
split_ok : (o : Opening Catalog) → SplitOk (start_of o).split
split_ok o = deduction_ok (deduction_of o.rule)

module _ {C : Type 0} (kind : Kind C) (o : Opening Catalog) (good : CatalogOk o.catalog) where
  abbrev k : ℕ
  k = o.k

  abbrev cat : Catalog
  cat = o.catalog

  -- where a list of calls leads from a state that stands after a log
  record Leads (l : Log) (calls : List Call) (numbers : List ℕ) (d : C) : Type 0 where
    valid : kind.Valid d
    stands : kind.view d ≡ rule_from o (fold (joins k cat) l calls)
    lazy : kind.lazy d ≡ lazy_from o (fold (joins k cat) l calls)
    count : length numbers ≡ length calls
    each : (i : ℕ) → i < length calls → get_or numbers i 0 ≡ refusal_in k cat (fold (joins k cat) l (take i calls)) (get_or calls i close)

  leads :
      (l : Log) {c d : C} {calls : List Call} {numbers : List ℕ} →
      AllowedLog k cat l.steps →
      kind.Valid c →
      kind.view c ≡ rule_from o l →
      kind.lazy c ≡ lazy_from o l →
      Follows kind c calls numbers d →
      Leads l calls numbers d
  unfolding fold
  leads l a ok at now none = record { valid = ok; stands = at; lazy = now; count = refl; each = λ i b. absurd (let z : i < 0 = b in omega arith) }
  leads l {c = c} a ok at now (then {call = call} {calls = calls} {answer = answer} {numbers = numbers} h f) =
      let m : Log = joins k cat l call in
      let next = (h.fine ok).stands ∙ ap (λ (v : Standing). after v call) at ∙ one_call (start_of o) (split_ok o) good l call a in
      let open' : AllowedLog k cat m.steps = joins_either k cat l call (λ z. AllowedLog k cat z.steps) (λ e. logged_allowed k cat l call a e) a in
      let on = (h.fine ok).lazy ∙ ap (λ (v : LazyStanding). after_in v call) now ∙ one_call_in o good l call a in
      let rest = leads m open' (h.fine ok).valid next on f in
      record {
        valid = rest.valid;
        stands = rest.stands;
        lazy = rest.lazy;
        count = ap suc rest.count;
        each = answers ((h.fine ok).answer ∙ ap (λ (v : Standing). refusal_now v call) at ∙ same_refusal (start_of o) (split_ok o) good l call a) rest.each;
      }
    where
      answers :
          answer ≡ refusal_in k cat l call →
          ((i : ℕ) → i < length calls → get_or numbers i 0 ≡ refusal_in k cat (fold (joins k cat) (joins k cat l call) (take i calls)) (get_or calls i close)) →
          (i : ℕ) → i < suc (length calls) → get_or (answer ∷ numbers) i 0 ≡ refusal_in k cat (fold (joins k cat) l (take i (call ∷ calls))) (get_or (call ∷ calls) i close)
      answers head tail zero b = head
      answers head tail (suc i) b = tail i (omega arith)

-- the total after a closing that was answered 0
bounded :
    (o : Opening Catalog) (calls : List Call) (numbers : List ℕ) (v : Standing) →
    CatalogOk o.catalog →
    v ≡ rule_from o (log_of o.k o.catalog calls) →
    TableAnswers o calls numbers →
    Closing calls numbers →
    Bounded o calls (total_cost v.figures)
unfolding rule_over
bounded o calls numbers v good at answers closing =
    let k = o.k in
    let cat = o.catalog in
    let l : Log = log_of k cat calls in
    let asked : refusal k cat (take closing.place calls) close ≡ 0 =
    ap (λ (z : Call). refusal k cat (take closing.place calls) z) (sym closing.is_close) ∙ sym (answers.each closing.place closing.within) ∙ closing.answered
    in
    let ended : l.closed ≡ true = closing_ends k cat calls closing.place closing.within closing.is_close asked in
    let exact : total_cost v.figures ≡ total_cost (season_from o l.steps).figures =
    ap (λ (u : Standing). total_cost u.figures) at ∙ ap (λ (t : Bool). total_cost (cond t (season_from o l.steps) (ran (start_of o) l.steps)).figures) ended
    in
    record {
      exact = exact;
      bound = subst (WithinBound k cat l.steps) (sym exact) (competitive_bound (start_of o) (split_ok o) good l.steps (log_allowed k cat calls));
    }

-- Demand 3.
pub season_theorem :
    {C : Type 0} (kind : Kind C) {o : Opening Catalog} {first d : C} {calls : List Call} {numbers : List ℕ} →
    BeginsAt kind o first →
    Follows kind first calls numbers d →
    Season kind o calls numbers d
unfolding fold rule_over lazy_from
season_theorem kind {o = o} {d = d} {calls = calls} {numbers = numbers} begins follows =
    let good : CatalogOk o.catalog = begins.fine.ranges.catalog in
    let so = leads kind o good no_log (log_allowed o.k o.catalog []) begins.valid begins.stands begins.lazy follows in
    let answers : TableAnswers o calls numbers = record { count = so.count; each = so.each } in
    record {
      answers = answers;
      valid = so.valid;
      stands = so.stands;
      lazy = so.lazy;
      cost = λ closing. bounded o calls numbers (kind.view d) good so.stands answers closing;
    }

-- ---- after each call

-- a list of calls as its first i and the rest
record Parted {C : Type 0} (kind : Kind C) (c : C) (calls : List Call) (numbers : List ℕ) (d : C) (i : ℕ) : Type 0 where
  state : C
  reached : Follows kind c (take i calls) (take i numbers) state
  rest : Follows kind state (drop i calls) (drop i numbers) d

parted :
    {C : Type 0} (kind : Kind C) {c d : C} {calls : List Call} {numbers : List ℕ} (i : ℕ) →
    Follows kind c calls numbers d →
    Parted kind c calls numbers d i
parted kind {c = c} zero f = record { state = c; reached = none; rest = f }
parted kind {c = c} (suc i) none = record { state = c; reached = none; rest = none }
parted kind (suc i) (then h f) =
    let p = parted kind i f in
    record { state = p.state; reached = then h p.reached; rest = p.rest }

-- no call hands back an invalid state: the theorem of the first i calls, for every i
pub season_prefix :
    {C : Type 0} (kind : Kind C) (o : Opening Catalog) (first : C) (calls : List Call) (numbers : List ℕ) (d : C) →
    BeginsAt kind o first →
    Follows kind first calls numbers d →
    (i : ℕ) →
    Prefix kind o first calls numbers d i
season_prefix kind o first calls numbers d begins follows i =
    let p : Parted kind first calls numbers d i = parted kind i follows in
    let s : Season kind o (take i calls) (take i numbers) p.state = season_theorem kind begins p.reached in
    record { state = p.state; reached = p.reached; rest = p.rest; valid = s.valid; stands = s.stands; lazy = s.lazy }

-- ---- in lent bytes

-- an opening that was not refused
pub lent_begins : (b first : List ℕ) (o : Opening (List ℕ)) → OpenedLent b o 0 first → BeginsAt lent (opening_in o) first
lent_begins b first o h = record { fine = (right h.answer).accepted; valid = h.valid refl; stands = h.stands refl; lazy = h.lazy refl }

pub season_lent : (o : Opening (List ℕ)) (calls : List Call) (numbers d : List ℕ) → ChainLent o calls numbers d → SeasonLent (opening_in o) calls numbers d
season_lent o calls numbers d chain =
    let s : Season lent (opening_in o) calls numbers d = season_theorem lent (lent_begins chain.before chain.first o chain.opening) chain.follows in
    record { season = s; cost = s.cost }

-- no call leaves invalid bytes
pub prefix_lent :
    (o : Opening (List ℕ)) (calls : List Call) (numbers d : List ℕ) (chain : ChainLent o calls numbers d) (i : ℕ) →
    Prefix lent (opening_in o) chain.first calls numbers d i
prefix_lent o calls numbers d chain i =
    season_prefix lent (opening_in o) chain.first calls numbers d (lent_begins chain.before chain.first o chain.opening) chain.follows i
