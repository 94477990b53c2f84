-- A whole list of calls from an opening on: the calls are made in place, and the season theorem of the bytes carries over to the struct
-- that they stand for. Assumes nothing.
use mathlib.Core.Path.{◌≡◌, refl, sym, ap, subst, ◌∙◌}
use mathlib.Core.Logic.{◌≢◌}
use mathlib.Core.List.{List, []}
use Prim.Native.Nat.{ℕ}
use mathlib.Core.Bool.{true, false≢true}
use Rattle.std.specs.Prelude.{Ok, Err}
use Rattle.std.specs.Result.{is_ok}
use Rattle.types.specs.Types.{telling, answer_number}
use Rattle.landlord.specs.Catalog.{Catalog}
use Rattle.landlord.specs.Figures.{Standing, total_cost}
use Rattle.landlord.specs.Calls.{Opening, Call}
use Rattle.landlord.proofs.Ranges.{opening_taken}
use Rattle.cache_state.specs.Cache.{lazy, view, Valid}
use Rattle.layout.specs.Layout.{cache_of}
use Rattle.layout.specs.Inner.{Stands}
use Rattle.cache.specs.Contract.{lent}
use Rattle.cache_run.specs.Season.{Bounded, Season}
use Rattle.cache_run.specs.Inner.{BeginsAt, RanCalls}
use Rattle.cache_run.proofs.Season.{season_theorem}
use Rattle.cache_value.specs.declared.Cache.{Cache}
use Rattle.cache_value.specs.declared.Answered.{Answered}
use Rattle.cache_value.specs.Inner.{Opened}
use Rattle.cache_value.specs.Contract.{Answer, record_of, by_value, OpenedBy, SeasonByValue, Ran}
use Rattle.cache_value.proofs.Openings.{at_opening, lazy_opened}
use Rattle.cache_value.proofs.Answers.{opened_by}
use Rattle.cache_value.proofs.Calls.{valid_there, same_view, same_lazy}

pub run_refused : (o : Opening Catalog) (calls : List Call) (before : List ℕ) (r : Answered) → OpenedBy o r → answer_number r.answer ≢ 0 → Ran o calls before before r
run_refused o calls before r h d = record { tells = h.tells; refused = λ z. (refl, h); numbers = []; season = λ z. absurd (d z) }

-- the bytes of an opened cache begin a season in place
bytes_begin : (o : Opening Catalog) (n : ℕ) (c : Cache) (b : List ℕ) → Opened o n c → n ≡ 0 → Stands b (record_of c) → BeginsAt lent o b
bytes_begin o n c b h z s =
    record {
      fine = opening_taken o (sym h.answer ∙ z);
      valid = valid_there c s h.valid;
      stands = same_view c s ∙ h.stands ∙ ap (at_opening o) z;
      lazy = same_lazy c s ∙ h.lazy ∙ ap (lazy_opened o) z;
    }

-- the conclusions for bytes are those for the struct that they stand for
season_carried :
    (o : Opening Catalog) (calls : List Call) (numbers last : List ℕ) (d : Cache) →
    record_of d ≡ cache_of last →
    Season lent o calls numbers last →
    SeasonByValue o calls numbers d
season_carried o calls numbers last d e s = record { season = season; cost = season.cost }
  where
    season : Season by_value o calls numbers d
    season =
        record {
          answers = s.answers;
          valid = subst Valid (sym e) s.valid.cache;
          stands = ap view e ∙ s.stands;
          lazy = ap lazy e ∙ s.lazy;
          cost = λ closing. subst (λ (v : Standing). Bounded o calls (total_cost v.figures)) (sym (ap view e)) (s.cost closing);
        }

taken_number : (a : Answer) → is_ok a ≡ true → answer_number a ≡ 0
taken_number (Ok _) e = refl
taken_number (Err r) e = absurd (false≢true e)

pub run_taken :
    (o : Opening Catalog) (calls : List Call) (before : List ℕ) (r : Answered) (d : Cache) {after b last : List ℕ} →
    OpenedBy o r →
    is_ok r.answer ≡ true →
    Stands b (record_of r.cache) →
    RanCalls lent b calls before after last →
    record_of d ≡ cache_of last →
    Ran o calls before after (record { answer = Ok tt; cache = d })
run_taken o calls before r d {b = b} {last = last} h ok s ran e =
    let first = opened_by o r h in
    let z = taken_number r.answer ok in
    record {
      tells = ap (λ (m : ℕ). telling m 0 0) (sym z ∙ first.answer);
      refused = λ w. absurd (w refl);
      numbers = ran.numbers;
      season = λ w. (season_carried o calls ran.numbers last d e (season_theorem lent (bytes_begin o (answer_number r.answer) r.cache b first z s) ran.follows), ran.noted);
    }
