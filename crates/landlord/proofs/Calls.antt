-- A list of calls against its log: the table lets the log through, every list of steps that the table lets through is the log
-- of some calls, and the rule, asked call by call, stands where it stands over the log. Assumes nothing.
use mathlib.Core.Path.{◌≡◌, refl, sym, ap, ◌∙◌}
use mathlib.Core.Bool.{Bool, true, false, cond}
use mathlib.Core.List.{List, [], ◌∷◌, ◌++◌, append-nil, map}
use Prim.Native.Nat.{ℕ, zero, suc, ◌≤◌, ◌<◌}
use native.Mathlib.Omega.{arith}
use lib.ListN.{length, get_or, drop, length-append, get_or-append}
use lib.Seq.{get_or-append_seam, append_snoc, split_at}
use lib.Dec.{eqb}
use borrow.Author.Tests.{eqb-true, eq-eqb}
use Rattle.types.specs.declared.Step.{Step}
use Rattle.types.specs.declared.Step.TheVariants.{Flush}
use Rattle.types.specs.declared.Numbers.{Numbers}
use Rattle.types.specs.Types.{numbers_of, step_of}
use Rattle.types.proofs.Steps.{same_step}
use Rattle.landlord.specs.Fold.{fold}
use Rattle.landlord.specs.Catalog.{Catalog, CatalogOk, catalog_after}
use Rattle.landlord.specs.Figures.{Standing, Start, opened, took, ran, season}
use Rattle.landlord.specs.Steps.{step_refusal}
use Rattle.landlord.specs.Calls.{Call, step_call, close, Log, no_log, call_of, refusal_at, refusal_in, refusal, refusal_now, logged, joins, log_of, rule_over, accepted, after}
use Rattle.landlord.specs.Claims.{SplitOk, AllowedLog}
use Rattle.landlord.proofs.Folds.{fold_append, fold_more}
use Rattle.landlord.proofs.Steps.{means}
use Rattle.landlord.proofs.Logs.{StandsAfter, all_served, ran_stands, closes_stands}
use Rattle.std.proofs.lemmas.Grind.{common_steps}

-- an open log: a refused step on a closed one is refused with 9
pub open_log : (k : ℕ) (cat : Catalog) (t : ℕ) (c : Bool) (call : Call) → refusal_at k cat t c call ≡ 0 → c ≡ false
unfolding refusal_at
open_log k cat t c call h = grind arith

-- and what the table says to a step then
pub open_step : (k : ℕ) (cat : Catalog) (t : ℕ) (c : Bool) (n : Numbers) → refusal_at k cat t c (step_call n) ≡ 0 → step_refusal k cat t n ≡ 0
unfolding refusal_at
open_step k cat t c n e = grind arith

-- the first i of two lists joined, where the first list has so many
take-front {ℓ} : {A : Type ℓ} (xs ys : List A) (i : ℕ) → i ≤ length xs → lib.ListN.take i (xs ++ ys) ≡ lib.ListN.take i xs
take-front [] ys zero l = refl
take-front [] ys (suc i) l = absurd (omega arith)
take-front (x ∷ xs) ys zero l = refl
take-front (x ∷ xs) ys (suc i) l = ap (λ (z : List _). x ∷ z) (take-front xs ys i (omega arith))

take_all {ℓ} : {A : Type ℓ} (xs : List A) → lib.ListN.take (length xs) xs ≡ xs
take_all [] = refl
take_all (x ∷ xs) = ap (λ (z : List _). x ∷ z) (take_all xs)

-- one step more at the end of a list that the table lets through
allowed_more :
    (k : ℕ) (cat : Catalog) (steps : List Step) (s : Step) →
    AllowedLog k cat steps →
    step_refusal k (catalog_after cat steps) (length steps) (numbers_of s) ≡ 0 →
    AllowedLog k cat (steps ++ (s ∷ []))
allowed_more k cat steps s a e = grind (arith, common_steps)

-- a call that is refused leaves the log, and one that is not joins it
pub joins_either : (k : ℕ) (cat : Catalog) (l : Log) (call : Call) (P : Log → Type 0) → (refusal_in k cat l call ≡ 0 → P (logged l call)) → P l → P (joins k cat l call)
unfolding joins
joins_either k cat l call P taken kept = grind arith

pub logged_allowed : (k : ℕ) (cat : Catalog) (l : Log) (call : Call) → AllowedLog k cat l.steps → refusal_in k cat l call ≡ 0 → AllowedLog k cat (logged l call).steps
logged_allowed k cat l (step_call n) a e =
    let now : Catalog = catalog_after cat l.steps in
    let t : ℕ = length l.steps in
    allowed_more k cat l.steps (step_of n) a (means k now t n (open_step k now t l.closed n e))
logged_allowed k cat l close a e = a

-- what holds of the empty log, and of a log that one call more joins, holds of the log of every list of calls
log_induction :
    (k : ℕ) (cat : Catalog) (P : Log → Type 0) →
    ((l : Log) (call : Call) → P l → refusal_in k cat l call ≡ 0 → P (logged l call)) →
    (l : Log) (calls : List Call) →
    P l →
    P (fold (joins k cat) l calls)
unfolding fold
log_induction k cat P more l [] p = p
log_induction k cat P more l (call ∷ calls) p =
    log_induction k cat P more (joins k cat l call) calls (joins_either k cat l call P (λ e. more l call p e) p)

-- the table lets through the log of every list of calls
pub log_allowed : (k : ℕ) (cat : Catalog) (calls : List Call) → AllowedLog k cat (log_of k cat calls).steps
log_allowed k cat calls =
    log_induction k cat (λ l. AllowedLog k cat l.steps) (λ l call a e. logged_allowed k cat l call a e) no_log calls
    (record { each = λ i b. absurd (let z : i < 0 = b in omega arith) })

abbrev open_with : List Step → Log
open_with steps = record { steps = steps; closed = false }

logged_one :
    (k : ℕ) (cat : Catalog) (seen rest : List Step) (s : Step) →
    AllowedLog k cat (seen ++ (s ∷ rest)) →
    joins k cat (open_with seen) (call_of s) ≡ open_with (seen ++ (s ∷ []))
unfolding joins refusal_at
logged_one k cat seen rest s a =
    let b : length seen < length (seen ++ (s ∷ rest)) = omega (arith, length-append seen (s ∷ rest)) in
    let now : Catalog = catalog_after cat seen in
    let same : catalog_after cat (lib.ListN.take (length seen) (seen ++ (s ∷ rest))) ≡ now =
    ap (λ (z : List Step). catalog_after cat z) (take-front seen (s ∷ rest) (length seen) (omega arith) ∙ take_all seen)
    in
    let e : step_refusal k now (length seen) (numbers_of s) ≡ 0 =
    (λ z. step_refusal k (sym same z) (length seen) (numbers_of (sym (get_or-append_seam seen s rest Flush) z))) ∙ a.each (length seen) b
    in
    rw (eq-eqb (step_refusal k now (length seen) (numbers_of s)) 0 e) (ap (λ (q : Step). open_with (seen ++ (q ∷ []))) (same_step s))

-- and every list of steps that the table lets through is the log of those steps as calls
pub allowed_logged : (k : ℕ) (cat : Catalog) (steps : List Step) → AllowedLog k cat steps → log_of k cat (map call_of steps) ≡ open_with steps
unfolding fold
allowed_logged k cat steps a = from [] steps a
  where
    from : (seen steps : List Step) → AllowedLog k cat (seen ++ steps) → fold (joins k cat) (open_with seen) (map call_of steps) ≡ open_with (seen ++ steps)
    from seen [] a = ap open_with (sym (append-nil seen))
    from seen (s ∷ steps) a =
        ap (λ (l : Log). fold (joins k cat) l (map call_of steps)) (logged_one k cat seen steps s a)
        ∙ from (seen ++ (s ∷ [])) steps (rw (append_snoc seen s steps) a)
        ∙ ap open_with (append_snoc seen s steps)

module _ (o : Start) (ok : SplitOk o.split) (good : CatalogOk o.catalog) where
  abbrev k : ℕ
  k = o.k

  abbrev cat : Catalog
  cat = o.catalog

  -- where the rule stands after a log that the table lets through
  pub stands_over :
      (l : Log) →
      AllowedLog k cat l.steps →
      StandsAfter k (catalog_after cat l.steps) (length l.steps) l.closed (rule_over o l)
  unfolding rule_over
  stands_over l a = go l.closed
    where
      now : Catalog
      now = catalog_after cat l.steps

      so : StandsAfter k now (length l.steps) false (ran o l.steps)
      so = ran_stands o l.steps ok good (all_served k cat l.steps a)

      go : (c : Bool) → StandsAfter k now (length l.steps) c (cond c (season o l.steps) (ran o l.steps))
      go true = closes_stands k now (length l.steps) (ran o l.steps) so
      go false = so

  -- the table gives the same answer to the rule where it stands as to the log
  pub same_refusal : (l : Log) (call : Call) → AllowedLog k cat l.steps → refusal_now (rule_over o l) call ≡ refusal_in k cat l call
  same_refusal l call a =
      let so = stands_over l a in
      rw (so.capacity, so.catalog, so.taken, so.closed)

  over_more : (l : Log) (call : Call) → l.closed ≡ false → accepted (rule_over o l) call ≡ rule_over o (logged l call)
  unfolding rule_over fold
  over_more l (step_call n) e = rw e (sym (fold_append took (opened o) l.steps (step_of n ∷ [])))
  over_more l close e = rw e

  pub one_call : (l : Log) (call : Call) → AllowedLog k cat l.steps → after (rule_over o l) call ≡ rule_over o (joins k cat l call)
  unfolding after joins
  one_call l call a = rw (same_refusal l call a) (go (eqb (refusal_in k cat l call) 0) refl)
    where
      go :
          (t : Bool) →
          eqb (refusal_in k cat l call) 0 ≡ t →
          cond t (accepted (rule_over o l) call) (rule_over o l) ≡ rule_over o (cond t (logged l call) l)
      go true e = over_more l call (open_log k (catalog_after cat l.steps) (length l.steps) l.closed call (eqb-true (refusal_in k cat l call) 0 e))
      go false e = refl

  -- the rule asked call by call stands where it stands over the log of the calls
  pub rule_follows : (calls : List Call) → fold after (opened o) calls ≡ rule_over o (log_of k cat calls)
  unfolding fold rule_over
  rule_follows calls = from no_log calls (log_allowed k cat [])
    where
      from : (l : Log) (calls : List Call) → AllowedLog k cat l.steps → fold after (rule_over o l) calls ≡ rule_over o (fold (joins k cat) l calls)
      from l [] a = refl
      from l (call ∷ calls) a =
          ap (λ (v : Standing). fold after v calls) (one_call l call a)
          ∙ from (joins k cat l call) calls (joins_either k cat l call (λ m. AllowedLog k cat m.steps) (λ e. logged_allowed k cat l call a e) a)

-- A closed log stays as it is: every call after the closing is refused.
pub closed_stays : (k : ℕ) (cat : Catalog) (l : Log) (calls : List Call) → l.closed ≡ true → fold (joins k cat) l calls ≡ l
unfolding fold joins
closed_stays k cat l [] e = refl
closed_stays k cat l (call ∷ calls) e =
    let same : joins k cat l call ≡ l = rw (refused call) in
    ap (λ (m : Log). fold (joins k cat) m calls) same ∙ closed_stays k cat l calls e
  where
    refused : (call : Call) → refusal_in k cat l call ≡ 9
    refused (step_call n) = unfold refusal_at in rw e
    refused close = unfold refusal_at in rw e

closes_log : (k : ℕ) (cat : Catalog) (l : Log) → refusal_in k cat l close ≡ 0 → joins k cat l close ≡ record { steps = l.steps; closed = true }
unfolding joins
closes_log k cat l e = rw e

-- A closing that is not refused ends the log.
pub closing_ends :
    (k : ℕ) (cat : Catalog) (calls : List Call) (i : ℕ) →
    i < length calls →
    get_or calls i close ≡ close →
    refusal k cat (lib.ListN.take i calls) close ≡ 0 →
    (log_of k cat calls).closed ≡ true
closing_ends k cat calls i l e none =
    let before : Log = log_of k cat (lib.ListN.take i calls) in
    let rest : List Call = drop (suc i) calls in
    let ended : joins k cat before close ≡ record { steps = before.steps; closed = true } = closes_log k cat before none in
    ap (λ (z : List Call). (log_of k cat z).closed) (split_at calls i close l ∙ ap (λ (z : Call). lib.ListN.take i calls ++ (z ∷ rest)) e)
    ∙ ap (λ (z : Log). z.closed) (fold_append (joins k cat) no_log (lib.ListN.take i calls) (close ∷ rest))
    ∙ ap (λ (z : Log). z.closed) (fold_more (joins k cat) before close rest)
    ∙ ap (λ (z : Log). (fold (joins k cat) z rest).closed) ended
    ∙ ap (λ (z : Log). z.closed) (closed_stays k cat (record { steps = before.steps; closed = true }) rest refl)
