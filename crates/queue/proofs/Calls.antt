-- A call on the lazy form and on the plain rule: where the lazy form stands after it, the plain rule stands. Assumes nothing.
use mathlib.Core.Path.{◌≡◌, refl, sym, ap, ◌∙◌}
use mathlib.Core.Bool.{Bool, true, false, cond}
use mathlib.Core.List.{[], ◌∷◌}
use Prim.Native.Nat.{ℕ}
use lib.Dec.{eqb}
use lib.ListN.{length}
use borrow.Author.Tests.{eqb-true}
use Rattle.types.specs.declared.Numbers.{Numbers}
use Rattle.types.specs.Types.{step_of, deduction_of}
use Rattle.landlord.specs.Fold.{fold}
use Rattle.landlord.specs.Catalog.{Catalog, CatalogOk, catalog_after}
use Rattle.landlord.specs.Slot.{split_of}
use Rattle.landlord.specs.Figures.{Standing, ran, season}
use Rattle.landlord.specs.Claims.{SplitOk, AllowedLog}
use Rattle.landlord.specs.Calls.{Opening, Call, step_call, close, Log, logged, joins, refusal_in, refusal_now, accepted, after, rule_over, start_of, rule_from}
use Rattle.landlord.proofs.Folds.{fold_append}
use Rattle.landlord.proofs.Slots.{deduction_ok}
use Rattle.landlord.proofs.Keeps.{Served}
use Rattle.landlord.proofs.Logs.{allowed_served}
use Rattle.landlord.proofs.Steps.{means}
use Rattle.landlord.proofs.Calls.{open_step, open_log, same_refusal}
use Rattle.queue.specs.Queue.{SplitAdds}
use Rattle.queue.specs.Machine.{LazyStanding, LazyOk, standing, lazy_starts_at, took_in, closes_in, ran_in, lazy_from, accepted_in, after_in}
use Rattle.queue.specs.Claims.{FormsAgree}
use Rattle.queue.proofs.Logs.{took_agrees, took_ok, closes_agrees, closes_ok, rule_agrees}

module _ (v : LazyStanding) (fit : SplitOk v.split) (adds : SplitAdds v.split) (so : LazyOk v) where
  -- a step that the table lets through can be served
  served : (n : Numbers) → refusal_now (standing v) (step_call n) ≡ 0 → Served v.k v.queue.catalog (step_of n)
  served n e =
      let taken : ℕ = v.figures.totals.steps in
      allowed_served v.k v.queue.catalog taken (step_of n) (means v.k v.queue.catalog taken n (open_step v.k v.queue.catalog taken v.closed n e))

  accepted_agrees : (call : Call) → refusal_now (standing v) call ≡ 0 → standing (accepted_in v call) ≡ accepted (standing v) call
  accepted_agrees (step_call n) e = took_agrees v fit adds so (step_of n) (served n e)
  accepted_agrees close e = closes_agrees v fit adds so

  accepted_ok : (call : Call) → refusal_now (standing v) call ≡ 0 → LazyOk (accepted_in v call)
  accepted_ok (step_call n) e = took_ok v fit adds so (step_of n) (served n e)
  accepted_ok close e = closes_ok v fit adds so

  -- after every call, refused or not
  pub after_agrees : (call : Call) → standing (after_in v call) ≡ after (standing v) call
  unfolding after_in after
  after_agrees call = go (eqb (refusal_now (standing v) call) 0) refl
    where
      go : (t : Bool) → eqb (refusal_now (standing v) call) 0 ≡ t → standing (cond t (accepted_in v call) v) ≡ cond t (accepted (standing v) call) (standing v)
      go true e = accepted_agrees call (eqb-true (refusal_now (standing v) call) 0 e)
      go false e = refl

  pub after_ok : (call : Call) → LazyOk (after_in v call)
  unfolding after_in
  after_ok call = go (eqb (refusal_now (standing v) call) 0) refl
    where
      go : (t : Bool) → eqb (refusal_now (standing v) call) 0 ≡ t → LazyOk (cond t (accepted_in v call) v)
      go true e = accepted_ok call (eqb-true (refusal_now (standing v) call) 0 e)
      go false e = so

-- ---- a log from an opening, call by call

module _ (o : Opening Catalog) (good : CatalogOk o.catalog) where
  -- over every log that the table lets through both stand in one place
  from_agrees : (l : Log) → AllowedLog o.k o.catalog l.steps → standing (lazy_from o l) ≡ rule_from o l
  unfolding lazy_from rule_over
  from_agrees l a = go l.closed
    where
      both : FormsAgree (split_of (deduction_of o.rule)) o.k o.catalog l.steps
      both = rule_agrees (deduction_of o.rule) o.k o.catalog l.steps good a

      v : LazyStanding
      v = ran_in (split_of (deduction_of o.rule)) o.k o.catalog l.steps

      go : (c : Bool) → standing (cond c (closes_in v) v) ≡ cond c (season (start_of o) l.steps) (ran (start_of o) l.steps)
      go true = both.closed
      go false = both.ran

  from_more : (l : Log) (call : Call) → l.closed ≡ false → accepted_in (lazy_from o l) call ≡ lazy_from o (logged l call)
  unfolding lazy_from fold
  from_more l (step_call n) e = rw e (sym (fold_append took_in (lazy_starts_at o) l.steps (step_of n ∷ [])))
  from_more l close e = rw e

  -- one call more
  pub one_call_in :
      (l : Log) (call : Call) → AllowedLog o.k o.catalog l.steps → after_in (lazy_from o l) call ≡ lazy_from o (joins o.k o.catalog l call)
  unfolding after_in joins
  one_call_in l call a = rw asked (go (eqb (refusal_in o.k o.catalog l call) 0) refl)
    where
      asked : refusal_now (standing (lazy_from o l)) call ≡ refusal_in o.k o.catalog l call
      asked =
          ap (λ (v : Standing). refusal_now v call) (from_agrees l a)
          ∙ same_refusal (start_of o) (deduction_ok (deduction_of o.rule)) good l call a

      go :
          (t : Bool) →
          eqb (refusal_in o.k o.catalog l call) 0 ≡ t →
          cond t (accepted_in (lazy_from o l) call) (lazy_from o l) ≡ lazy_from o (cond t (logged l call) l)
      go true e =
          from_more l call
          (open_log o.k (catalog_after o.catalog l.steps) (length l.steps) l.closed call (eqb-true (refusal_in o.k o.catalog l call) 0 e))
      go false e = refl
