-- An accepted text as a list of calls: each is accepted, the log is the text's steps and the closing, and so every state that such
-- calls lead to stands where the rule stands over the closed season, within the wear bound of the text's plan. Assumes nothing.
use mathlib.Core.Path.{◌≡◌, refl, sym, ap, subst, ◌∙◌}
use mathlib.Core.Bool.{true, false}
use mathlib.Core.List.{List, [], ◌∷◌, ◌++◌, map}
use Prim.Native.Nat.{ℕ, zero, suc, ◌≤◌, ◌<◌}
use native.Mathlib.Omega.{arith}
use native.Mathlib.Decide.{ℕ_discrete}
use lib.ListN.{length, get_or, take, length-append, length-map}
use lib.Seq.{length-take-le, take-take, get_or-take, get_or_at}
use Rattle.types.specs.declared.Deduction.{Deduction}
use Rattle.types.specs.declared.Step.{Step}
use Rattle.types.specs.declared.Step.TheVariants.{Flush}
use Rattle.landlord.specs.Fold.{fold}
use Rattle.landlord.specs.Catalog.{Catalog, catalog_after}
use Rattle.types.specs.Types.{numbers_of}
use Rattle.landlord.specs.Slot.{split_of}
use Rattle.landlord.specs.Figures.{start, ran, total_cost, left_side, right_side}
use Rattle.landlord.specs.Plan.{costs}
use Rattle.landlord.specs.Steps.{step_refusal}
use Rattle.landlord.specs.Calls.{Call, close, call_of, Log, no_log, refusal_at, refusal_in, refusal, joins, log_of, rule_over, opening_refusal}
use Rattle.landlord.specs.Claims.{AllowedLog}
use Rattle.landlord.proofs.Folds.{fold_append}
use Rattle.types.proofs.Deductions.{deduction_number_lem}
use Rattle.landlord.proofs.Slots.{deduction_ok}
use Rattle.landlord.proofs.Calls.{allowed_logged}
use Rattle.landlord.proofs.Logs.{all_served, ran_stands, closes_stands}
use Rattle.landlord.proofs.Competitive.{competitive_bound}
use Rattle.landlord.proofs.Ranges.{opening_accepts}
use Rattle.cache_state.specs.Cache.{view}
use Rattle.layout.specs.Layout.{cache_of}
use Rattle.cache.specs.Contract.{lent}
use Rattle.cache_run.specs.Season.{Season}
use Rattle.cache_run.proofs.Season.{season_lent}
use Rattle.season_tables.specs.Tables.{Tables}
use Rattle.season_tables.specs.InnerSound.{Sound}
use Rattle.season_plan.specs.Plans.{price_of}
use Rattle.season_plan.specs.Inner.{plan_of}
use Rattle.season_text.specs.Answer.{closed_season, calls_in, opening_for, AllAccepted, Compared}

-- call i is step i
call_at_step : (steps : List Step) (i : ℕ) → i < length steps → get_or (map call_of steps ++ (close ∷ [])) i close ≡ call_of (get_or steps i Flush)
call_at_step [] i l = absurd (let z : i < 0 = l in omega arith)
call_at_step (s ∷ steps) zero l = refl
call_at_step (s ∷ steps) (suc i) l = call_at_step steps i (omega arith)

-- the calls before call i are the steps before step i
calls_before : (steps : List Step) (i : ℕ) → i ≤ length steps → take i (map call_of steps ++ (close ∷ [])) ≡ map call_of (take i steps)
calls_before steps zero l = refl
calls_before [] (suc i) l = absurd (let z : suc i ≤ 0 = l in omega arith)
calls_before (s ∷ steps) (suc i) l = ap (λ (z : List Call). call_of s ∷ z) (calls_before steps i (omega arith))

-- the first of the steps that the table lets through
allowed_first : (k : ℕ) (cat : Catalog) (steps : List Step) (i : ℕ) → i ≤ length steps → AllowedLog k cat steps → AllowedLog k cat (take i steps)
allowed_first k cat steps i l a = record { each = λ j b. through j (omega (arith, length-take-le i steps l)) }
  where
    through : (j : ℕ) → j < i → step_refusal k (catalog_after cat (take j (take i steps))) j (numbers_of (get_or (take i steps) j Flush)) ≡ 0
    through j b =
        (λ z. step_refusal k (catalog_after cat (take-take j i steps (omega arith) z)) j (numbers_of (get_or-take i steps j Flush b z)))
        ∙ a.each j (omega arith)

module _ (v : Tables) (ok : Sound v) where
  -- the log before call i: the steps before it, not closed
  log_before : (i : ℕ) → i ≤ length v.steps → log_of v.k v.catalog (take i (calls_in v)) ≡ record { steps = take i v.steps; closed = false }
  log_before i l =
      ap (λ (z : List Call). log_of v.k v.catalog z) (calls_before v.steps i l)
      ∙ allowed_logged v.k v.catalog (take i v.steps) (allowed_first v.k v.catalog v.steps i l ok.allowed)

  -- the log of all the calls: the steps, closed
  pub text_log : log_of v.k v.catalog (calls_in v) ≡ record { steps = v.steps; closed = true }
  unfolding fold joins refusal_at
  text_log =
      fold_append (joins v.k v.catalog) no_log (map call_of v.steps) (close ∷ [])
      ∙ ap (λ (l : Log). joins v.k v.catalog l close) (allowed_logged v.k v.catalog v.steps ok.allowed)

  -- where the season theorem says that a state stands after these calls
  pub text_stands : (numbers d : List ℕ) → Season lent (opening_for v v.catalog) (calls_in v) numbers d → view (cache_of d) ≡ closed_season v
  unfolding rule_over
  text_stands numbers d so =
      so.stands
      ∙ ap (λ (r : Deduction). rule_over (start (split_of r) v.k v.catalog) (log_of v.k v.catalog (calls_in v))) (deduction_number_lem v.rule).0
      ∙ ap (rule_over (start (split_of v.rule) v.k v.catalog)) text_log

  -- an opening with the text's numbers is accepted
  pub text_opens : opening_refusal (opening_for v v.catalog) ≡ 0
  text_opens =
      opening_accepts (opening_for v v.catalog)
      (record { ranges = record { capacity = ok.capacity; catalog = ok.catalog; fresh = ok.fresh }; rule = (deduction_number_lem v.rule).1 })

  -- the rule keeps the text's capacity
  pub season_capacity : (closed_season v).k ≡ v.k
  season_capacity =
      let k = v.k in
      let cat = v.catalog in
      let steps = v.steps in
      let o = start (split_of v.rule) k cat in
      (closes_stands k (catalog_after cat steps) (length steps) (ran o steps)
      (ran_stands o steps (deduction_ok v.rule) ok.catalog (all_served k cat steps ok.allowed))).capacity

  -- "The steps of an accepted text, with its closing, are such a list."
  pub calls_accepted : AllAccepted v
  calls_accepted =
      record {
        opening = text_opens;
        each = λ i l. asked_at i (ℕ_discrete i (length v.steps)) (omega (arith, length-append (map call_of v.steps) (close ∷ []), length-map v.steps call_of));
      }
    where
      asked :
          (i : ℕ) (call : Call) →
          i ≤ length v.steps →
          refusal v.k v.catalog (take i (calls_in v)) call ≡ refusal_at v.k (catalog_after v.catalog (take i v.steps)) i false call
      asked i call l =
          ap (λ (z : Log). refusal_in v.k v.catalog z call) (log_before i l)
          ∙ ap (λ (t : ℕ). refusal_at v.k (catalog_after v.catalog (take i v.steps)) t false call) (length-take-le i v.steps l)

      open_asked : (cat : Catalog) (t : ℕ) (s : Step) → refusal_at v.k cat t false (call_of s) ≡ step_refusal v.k cat t (numbers_of s)
      open_asked cat t s = unfold refusal_at in refl

      asked_at : (i : ℕ) → Dec (i ≡ length v.steps) → i ≤ length v.steps → refusal v.k v.catalog (take i (calls_in v)) (get_or (calls_in v) i close) ≡ 0
      asked_at i (yes e) l = unfold refusal_at in rw (asked i, get_or_at (map call_of v.steps) close [] close i (length-map v.steps call_of ∙ (omega arith)))
      asked_at i (no e) l =
          let b : i < length v.steps = omega arith in
          rw (asked i, call_at_step v.steps i b, open_asked (catalog_after v.catalog (take i v.steps)) i (get_or v.steps i Flush)) (ok.allowed.each i b)

-- the figures reported are those of every such state, and left is at most right
pub text_compared : (v : Tables) (cost : ℕ) → Sound v → price_of v ≡ costs cost → Compared v cost
text_compared v cost ok e =
    record {
      figures = λ xs numbers d same chain.
          text_stands v ok numbers d
          (subst (λ (cat : Catalog). Season lent (opening_for v cat) (calls_in v) numbers d) same
          (season_lent (opening_for v xs) (calls_in v) numbers d chain).season);
      capacity = season_capacity v ok;
      bound = subst (λ (k : ℕ). left_side k v.h (total_cost (closed_season v).figures) ≤ right_side k cost) (sym (season_capacity v ok))
          (competitive_bound (start (split_of v.rule) v.k v.catalog) (deduction_ok v.rule) ok.catalog v.steps ok.allowed v.h ok.rival_low ok.rival_high (plan_of v.acts) cost e);
    }
