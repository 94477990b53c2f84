-- The season theorem by value, read off the one for every kind of state. Assumes nothing.
use mathlib.Core.Path.{◌≡◌, refl, sym, ap, subst, ◌∙◌}
use mathlib.Core.List.{List, map}
use Prim.Native.Nat.{ℕ, zero, suc}
use lib.ListN.{get_or, length-map}
use Rattle.types.specs.Types.{telling, answer_told, answer_number}
use Rattle.landlord.specs.Catalog.{Catalog}
use Rattle.landlord.proofs.Ranges.{opening_taken}
use Rattle.landlord.specs.Calls.{Opening, Call, close, call_item}
use Rattle.cache_run.specs.Season.{Follows, none, then, Season, Prefix}
use Rattle.cache_run.specs.Inner.{BeginsAt}
use Rattle.cache_run.proofs.Season.{season_theorem, season_prefix}
use Rattle.cache_value.specs.declared.Cache.{Cache}
use Rattle.std.specs.Prelude.{Ok}
use Rattle.cache_value.specs.Contract.{by_value, Answer, SeasonByValue, FollowsBy, no_call, then_call, ChainBy, SeasonByMethods}
use Rattle.cache_value.specs.Inner.{Opened, Chain}
use Rattle.cache_value.proofs.Answers.{opened_by}

-- an opening that was not refused
value_begins : (o : Opening Catalog) (first : Cache) → Opened o 0 first → BeginsAt by_value o first
value_begins o first h = record { fine = opening_taken o (sym h.answer); valid = h.valid; stands = h.stands; lazy = h.lazy }

-- Demand 3 by value.
pub season_by_value : (o : Opening Catalog) (calls : List Call) (numbers : List ℕ) (d : Cache) → Chain o calls numbers d → SeasonByValue o calls numbers d
season_by_value o calls numbers d chain =
    let s : Season by_value o calls numbers d = season_theorem by_value (value_begins o chain.first chain.opening) chain.follows in
    record { season = s; cost = s.cost }

-- no call hands back an invalid cache
pub prefix_by_value :
    (o : Opening Catalog) (calls : List Call) (numbers : List ℕ) (d : Cache) (chain : Chain o calls numbers d) (i : ℕ) →
    Prefix by_value o chain.first calls numbers d i
prefix_by_value o calls numbers d chain i =
    season_prefix by_value o chain.first calls numbers d (value_begins o chain.first chain.opening) chain.follows i

-- ---- by methods

-- a list of methods is a list of calls, with the numbers of the answers
pub method_follows : {c d : Cache} {calls : List Call} {answers : List Answer} → FollowsBy c calls answers d → Follows by_value c calls (map answer_number answers) d
method_follows no_call = none
method_follows (then_call m f) = then m.called (method_follows f)

-- an answer tells the number that is in its place and its call's item, and no line
told_at :
    {c d : Cache} {calls : List Call} {answers : List Answer} →
    FollowsBy c calls answers d →
    (i : ℕ) →
    answer_told (get_or answers i (Ok tt)) ≡ telling (get_or (map answer_number answers) i 0) 0 (call_item (get_or calls i close))
told_at no_call i = refl
told_at (then_call m f) zero = m.tells
told_at (then_call m f) (suc i) = told_at f i

-- so from an opening on
numbered : {o : Opening Catalog} {calls : List Call} {answers : List Answer} {d : Cache} → ChainBy o calls answers d → Chain o calls (map answer_number answers) d
numbered {o = o} chain =
    record {
      first = chain.reply.cache;
      opening = subst (λ (n : ℕ). Opened o n chain.reply.cache) chain.taken (opened_by o chain.reply chain.opening);
      follows = method_follows chain.follows;
    }

-- Demand 3 by value, for the methods and their answers.
pub season_by_methods : (o : Opening Catalog) (calls : List Call) (answers : List Answer) (d : Cache) → ChainBy o calls answers d → SeasonByMethods o calls answers d
season_by_methods o calls answers d chain =
    record {
      count = sym (length-map answers answer_number) ∙ s.season.answers.count;
      each = λ i l. told_at chain.follows i ∙ ap (λ (n : ℕ). telling n 0 (call_item (get_or calls i close))) (s.season.answers.each i l);
      by_number = s;
    }
  where
    s : SeasonByValue o calls (map answer_number answers) d
    s = season_by_value o calls (map answer_number answers) d (numbered chain)

-- no method hands back an invalid cache
pub prefix_by_methods :
    (o : Opening Catalog) (calls : List Call) (answers : List Answer) (d : Cache) (chain : ChainBy o calls answers d) (i : ℕ) →
    Prefix by_value o chain.reply.cache calls (map answer_number answers) d i
unfolding numbered
prefix_by_methods o calls answers d chain i = prefix_by_value o calls (map answer_number answers) d (numbered chain) i
