-- The line of a plan's fault, against the bytes of the text: the fault is of an act that its step has, or of a step that there is, and
-- an accepted text has a line for each of them. Assumes nothing.
use mathlib.Core.Path.{◌≡◌, refl, ap, subst}
use mathlib.Core.Bool.{Bool, true, false, cond}
use mathlib.Core.List.{List, [], ◌∷◌}
use Prim.Native.Nat.{ℕ, suc, ◌+◌, ◌≤◌, ◌<◌}
use native.Mathlib.Omega.{arith}
use lib.ListN.{length}
use lib.Dec.{ltb, eqb}
use borrow.Author.Tests.{ltb-true, eqb-true}
use Rattle.types.specs.declared.Step.{Step}
use Rattle.types.specs.declared.Act.{Act}
use Rattle.landlord.specs.Fold.{tab}
use Rattle.landlord.specs.Catalog.{Catalog, catalog_next}
use Rattle.landlord.specs.Plan.{Plan, Copy, no_copy, Fault, unknown_item, retired_item, not_held, already_held, request_not_held, over_capacity, Done, done, faulty, Priced, costs, fault, plan_acts, and_paid, and_then, all_acts, plan_serves, priced_with, price_then, price_from}
use Rattle.std.specs.Prelude.{Ok}
use Rattle.season_tables.specs.Tables.{Placed, Tables, reading_of}
use Rattle.season_tables.proofs.LineNumbers.{accepted_lines}
use Rattle.season_plan.specs.Plans.{acts_at, acts_before, fault_line, price_of}
use Rattle.season_plan.specs.Inner.{plan_of}
use Rattle.season_plan.proofs.Costs.{Faults, faults_are, of_act, of_step, act_faults, serve_fault}

-- a fault of an act that its step has, or of one of the first n steps
abbrev InPlan : Plan → ℕ → Fault → Type 0
InPlan plan n (unknown_item s a i) = a < length (plan s)
InPlan plan n (retired_item s a i) = a < length (plan s)
InPlan plan n (not_held s a i) = a < length (plan s)
InPlan plan n (already_held s a i) = a < length (plan s)
InPlan plan n (request_not_held s i) = s < n
InPlan plan n (over_capacity s) = s < n

-- what holds of the fault of a price, if there is one
abbrev PriceFaults : (Fault → Type 0) → Priced → Type 0
PriceFaults P (costs c) = Unit {0}
PriceFaults P (fault f) = P f

-- a fault of two parts of a plan, and of what is priced after them, is of one of the three
turn_faults :
    (P : Fault → Type 0) (d : Done) (serves : List Copy → Done) (next : List Copy → Priced) →
    Faults P d →
    ((q : List Copy) → Faults P (serves q)) →
    ((q : List Copy) → PriceFaults P (next q)) →
    PriceFaults P (price_then (and_then d serves) next)
turn_faults P (done q c) serves next first second later = go (serves q) (second q)
  where
    paid : (b : ℕ) (x : Priced) → PriceFaults P x → PriceFaults P (priced_with b x)
    paid b (costs k) h = tt
    paid b (fault f) h = h

    go : (t : Done) → Faults P t → PriceFaults P (price_then (and_paid c t) next)
    go (done r b) h = paid (c + b) (next r) (later r)
    go (faulty f) h = h
turn_faults P (faulty f) serves next first second later = first

-- a part of a plan has the fault that its price has with nothing after it
alone : (P : Fault → Type 0) (d : Done) → PriceFaults P (price_then d (λ q. costs 0)) → Faults P d
alone P (done q c) h = tt
alone P (faulty f) h = h

module _ (h : ℕ) (plan : Plan) (n : ℕ) where
  act_in_plan : (s a : ℕ) → a < length (plan s) → (f : Fault) → of_act s 0 a f → InPlan plan n f
  act_in_plan s a l (unknown_item t b j) of = omega (arith, of.1, ap (λ u. length (plan u)) of.0)
  act_in_plan s a l (retired_item t b j) of = omega (arith, of.1, ap (λ u. length (plan u)) of.0)
  act_in_plan s a l (not_held t b j) of = omega (arith, of.1, ap (λ u. length (plan u)) of.0)
  act_in_plan s a l (already_held t b j) of = omega (arith, of.1, ap (λ u. length (plan u)) of.0)
  act_in_plan s a l (request_not_held t j) of = absurd of
  act_in_plan s a l (over_capacity t) of = absurd of

  step_in_plan : (s : ℕ) → s < n → (f : Fault) → of_step s f → InPlan plan n f
  step_in_plan s l (unknown_item t a j) of = absurd of
  step_in_plan s l (retired_item t a j) of = absurd of
  step_in_plan s l (not_held t a j) of = absurd of
  step_in_plan s l (already_held t a j) of = absurd of
  step_in_plan s l (request_not_held t j) of = omega (arith, of)
  step_in_plan s l (over_capacity t) of = omega (arith, of)

  -- the acts from act a of step s on
  acts_in_plan : (cat : Catalog) (s a : ℕ) (acts : List Act) (q : List Copy) → a + length acts ≤ length (plan s) → Faults (InPlan plan n) (all_acts cat s a acts q)
  unfolding all_acts
  acts_in_plan cat s a [] q l = tt
  acts_in_plan cat s a (act ∷ acts) q l =
      alone (InPlan plan n) (and_then (plan_acts cat s a act q) (all_acts cat s (suc a) acts))
      (turn_faults (InPlan plan n) (plan_acts cat s a act q) (all_acts cat s (suc a) acts) (λ r. costs 0)
      (faults_are (of_act s 0 a) (InPlan plan n) (plan_acts cat s a act q)
      (act_in_plan s a (omega arith)) (act_faults cat s 0 a a act q (omega arith)))
      (λ r. acts_in_plan cat s (suc a) acts r (omega arith)) (λ r. tt))

  -- the plan from step s on
  price_in_plan : (cat : Catalog) (s : ℕ) (steps : List Step) (q : List Copy) → s + length steps ≤ n → PriceFaults (InPlan plan n) (price_from cat h plan s steps q)
  unfolding price_from
  price_in_plan cat s [] q l = tt
  price_in_plan cat s (step ∷ steps) q l =
      turn_faults (InPlan plan n) (all_acts cat s 0 (plan s) q) (plan_serves cat h s step) (price_from (catalog_next cat step) h plan (suc s) steps)
      (acts_in_plan cat s 0 (plan s) q (omega arith))
      (λ r. faults_are (of_step s) (InPlan plan n) (plan_serves cat h s step r)
      (step_in_plan s (omega arith)) (serve_fault cat h s step r))
      (λ r. price_in_plan (catalog_next cat step) (suc s) steps r (omega arith))

-- the acts before those of a step, and those, are no more than all acts
acts_count : (s : ℕ) (acts : List Placed) → acts_before s acts + length (acts_at s acts) ≤ length acts
unfolding acts_before acts_at
acts_count s [] = omega arith
acts_count s (x ∷ acts) = go (ltb x.place s) (eqb x.place s) refl refl (acts_count s acts)
  where
    go :
        (before here : Bool) →
        ltb x.place s ≡ before →
        eqb x.place s ≡ here →
        acts_before s acts + length (acts_at s acts) ≤ length acts →
        cond before (suc (acts_before s acts)) (acts_before s acts) + length (cond here (x.act ∷ acts_at s acts) (acts_at s acts)) ≤ suc (length acts)
    go true true e f rest = absurd (omega (arith, ltb-true x.place s e, eqb-true x.place s f))
    go true false e f rest = omega arith
    go false true e f rest = omega arith
    go false false e f rest = omega arith

-- the line of a fault that has its place among the acts and steps of a text
in_plan_line :
    (b : ℕ) (v : Tables) (f : Fault) →
    8 + length v.catalog + length v.steps + length v.acts ≤ b →
    InPlan (plan_of v.acts) (length v.steps) f →
    fault_line v f ≤ b + 1
in_plan_line b v (unknown_item s a i) l p = omega (arith, p, acts_count s v.acts)
in_plan_line b v (retired_item s a i) l p = omega (arith, p, acts_count s v.acts)
in_plan_line b v (not_held s a i) l p = omega (arith, p, acts_count s v.acts)
in_plan_line b v (already_held s a i) l p = omega (arith, p, acts_count s v.acts)
in_plan_line b v (request_not_held s i) l p = omega (arith, p)
in_plan_line b v (over_capacity s) l p = omega (arith, p)

-- a plan's fault is told on a line that is at most one more than the text's bytes
pub fault_line_lem : (s : List ℕ) (v : Tables) (f : Fault) → reading_of s ≡ Ok v → price_of v ≡ fault f → fault_line v f ≤ length s + 1
fault_line_lem s v f is faults =
    let all = length v.steps in
    let plan = plan_of v.acts in
    in_plan_line (length s) v f (accepted_lines s v is)
    (subst (PriceFaults (InPlan plan all)) faults
    (price_in_plan v.h plan all v.catalog 0 v.steps (tab (length v.catalog) (λ i. no_copy)) (omega arith)))
