-- A plan priced: the rest of it from here, with what is paid, leads to its price from the start. Assumes nothing.
use mathlib.Core.Path.{◌≡◌, refl, sym, ap, subst, ◌∙◌}
use mathlib.Core.Bool.{cond}
use mathlib.Core.List.{List}
use Prim.Native.Nat.{ℕ, suc, ◌+◌, ◌*◌, ◌≤◌, ◌<◌}
use native.Mathlib.Nat.{add_assoc, zero-add}
use native.Mathlib.Numerals.{add-one}
use native.Mathlib.Omega.{arith}
use native.Mathlib.Decide.{dec_lt}
use lib.ListN.{length, drop, replicate, get_or-replicate, length-replicate, get_or-eq_default, drop_of_length-le}
use lib.Seq.{drop-cons}
use Rattle.std.specs.Prelude.{Result, Ok, Err}
use Rattle.types.specs.declared.Refusal.{Refusal}
use Rattle.types.specs.declared.Step.{Step}
use Rattle.types.specs.declared.Step.TheVariants.{Read, Write, Flush, Arrive, Retire}
use Rattle.types.specs.Types.{step_of}
use Rattle.landlord.specs.Fold.{tab, fold}
use Rattle.landlord.specs.Catalog.{Catalog, CatalogOk, item_at, catalog_next}
use Rattle.landlord.specs.CallNumbers.{numbers_behind}
use Rattle.landlord.specs.Plan.{Copy, no_copy, has, copy_at, plan_used, Fault, unknown_item, retired_item, not_held, already_held, request_not_held, over_capacity, fault_refusal, Done, done, faulty, Priced, costs, fault, and_paid, and_then, all_acts, plan_serves, priced_with, price_then, price_from}
use Rattle.landlord.proofs.Folds.{tab_eq}
use Rattle.landlord.proofs.Sums.{sum_zero}
use Rattle.landlord.proofs.Keeps.{Served}
use Rattle.season_tables.specs.declared.Seen.{Seen}
use Rattle.season_tables.specs.Tables.{Tables}
use Rattle.season_tables.specs.Inner.{Holds}
use Rattle.season_tables.specs.InnerSound.{Sound, catalog_before}
use Rattle.season_plan.specs.declared.Copies.{Copies}
use Rattle.season_plan.specs.declared.Mark.TheVariants.{Absent}
use Rattle.season_plan.specs.Plans.{acts_before, line_of_step, fault_line, price_of, PricedBy}
use Rattle.season_plan.specs.Inner.{plan_of, copy_from, mark_at, copies_of, copies_in, HoldsCopies, PlanStands, Does, PlanReady, Owes, StepKnown, PlanServable, Serves, ActsDone, Priceable, most, Actable, RunsActs, PricedAs}
use Rattle.landlord.proofs.Ranges.{catalog_facts}
use Rattle.season_plan.proofs.Marks.{copy_at_lem}
use Rattle.season_plan.proofs.Places.{step_at, items_before, before_next, before_ok, step_served, step_is, parted_is}
use Rattle.season_plan.proofs.Deeds.{stands_there}
use Rattle.season_plan.proofs.Costs.{Faults, of_step, serve_cheap, serve_fault}
use Rattle.season_plan.proofs.Acting.{did_ready}

-- the acts before step s, the step, and the log from step s on
abbrev acts_of : Tables → ℕ → List Copy → Done
acts_of v s = all_acts (catalog_before v s) s 0 (plan_of v.acts s)

abbrev step_on : Tables → ℕ → List Copy → Done
step_on v s = plan_serves (catalog_before v s) v.h s (step_at v.steps s)

abbrev log_from : Tables → ℕ → List Copy → Priced
log_from v s = price_from (catalog_before v s) v.h (plan_of v.acts) s (drop s v.steps)

-- Steps 0 to s - 1 are served, and a is the first act that stands before no earlier step than s.
pub record Pricing (x : Seen) (xs calls acts : List ℕ) (p : Copies) (a s : ℕ) : Type 0 where
  pub within : s ≤ x.steps
  pub next : a ≤ x.acts
  pub low : p.paid ≤ most a s
  pub begins : (v : Tables) → Holds x xs calls acts v → Sound v → a ≡ acts_before s v.acts
  pub stands : (v : Tables) → Holds x xs calls acts v → Sound v → PlanStands (catalog_before v s) p
  pub leads :
      (v : Tables) →
      Holds x xs calls acts v →
      Sound v →
      priced_with p.paid (log_from v s (copies_in p)) ≡ price_of v

-- what was paid adds up
with_none : (d : Priced) → priced_with 0 d ≡ d
with_none (costs c) = ap costs (zero-add c)
with_none (fault f) = refl

with_with : (a b : ℕ) (d : Priced) → priced_with a (priced_with b d) ≡ priced_with (a + b) d
with_with a b (costs c) = ap costs (sym (add_assoc a b c))
with_with a b (fault f) = refl

-- the acts are done, then the step is served, then the rest
turn :
    (v : Tables) (s : ℕ) (then : Catalog) (d : Done) (serves : List Copy → Done) (next : List Copy → Priced) (paid n line : ℕ) (b r : Copies) →
    ActsDone v s d paid (Ok n) b →
    ((q : List Copy) (c : ℕ) → HoldsCopies (catalog_before v s) b q c → Does then (serves q) c line (Ok tt) r) →
    priced_with r.paid (next (copies_in r)) ≡ priced_with paid (price_then (and_then d serves) next)
turn v s then (done q c) serves next paid n line b r did served = go (serves q) (served q (paid + c) did.0)
  where
    go : (t : Done) → Does then t (paid + c) line (Ok tt) r → priced_with r.paid (next (copies_in r)) ≡ priced_with paid (price_then (and_paid c t) next)
    go (done o k) st =
        ap (λ u. priced_with u (next (copies_in r))) (st.sum ∙ add_assoc paid c k)
        ∙ ap (λ u. priced_with (paid + (c + k)) (next u)) st.copies
        ∙ sym (with_with paid (c + k) (next o))
    go (faulty w) st = absurd st
turn v s then (faulty w) serves next paid n line b r did served = absurd did

-- an act's fault is the price
act_faulty :
    (v : Tables) (s : ℕ) (d : Done) (serves : List Copy → Done) (next : List Copy → Priced) (paid : ℕ) (b : Copies) (y : Refusal) →
    ActsDone v s d paid (Err y) b →
    PricedBy v (priced_with paid (price_then (and_then d serves) next)) (Err y)
act_faulty v s (done q c) serves next paid b y did = absurd did
act_faulty v s (faulty f) serves next paid b y did = ap Err did

-- and a step's, told on the step's line
step_faulty :
    (v : Tables) (s : ℕ) (then : Catalog) (d : Done) (serves : List Copy → Done) (next : List Copy → Priced) (paid n line : ℕ) (b r : Copies) (y : Refusal) →
    ActsDone v s d paid (Ok n) b →
    ((q : List Copy) (c : ℕ) → HoldsCopies (catalog_before v s) b q c → Does then (serves q) c line (Err y) r) →
    ((q : List Copy) → Faults (of_step s) (serves q)) →
    line ≡ line_of_step v s →
    PricedBy v (priced_with paid (price_then (and_then d serves) next)) (Err y)
step_faulty v s then (done q c) serves next paid n line b r y did served of l = go (serves q) (served q (paid + c) did.0) (of q)
  where
    at : (f : Fault) → of_step s f → line ≡ fault_line v f
    at (unknown_item t a i) of = absurd of
    at (retired_item t a i) of = absurd of
    at (not_held t a i) of = absurd of
    at (already_held t a i) of = absurd of
    at (request_not_held t i) of = l ∙ ap (line_of_step v) of
    at (over_capacity t) of = l ∙ ap (line_of_step v) of

    go : (t : Done) → Does then t (paid + c) line (Err y) r → Faults (of_step s) t → PricedBy v (priced_with paid (price_then (and_paid c t) next)) (Err y)
    go (done o k) st here = absurd st
    go (faulty w) st here = ap Err (st ∙ ap (fault_refusal w) (at w here))
step_faulty v s then (faulty w) serves next paid n line b r y did served of l = absurd did

-- what the acts leave, if they are done
acts_next : (v : Tables) (s : ℕ) (d : Done) (paid n : ℕ) (b : Copies) → ActsDone v s d paid (Ok n) b → n ≡ acts_before (suc s) v.acts
acts_next v s (done q c) paid n b did = did.1
acts_next v s (faulty f) paid n b did = absurd did

acts_stand : (v : Tables) (s : ℕ) (d : Done) (paid n : ℕ) (b : Copies) → ActsDone v s d paid (Ok n) b → PlanStands (catalog_before v s) b
acts_stand v s (done q c) paid n b did = stands_there (catalog_before v s) b q (paid + c) did.0
acts_stand v s (faulty f) paid n b did = absurd did

-- the item that a step of the log asks for, marks or loses is known
step_known : (k : ℕ) (cat : Catalog) (p : Copies) (st : Step) → p.n ≡ length cat → Served k cat st → StepKnown p st
step_known k cat p (Read i) count served = omega (arith, served.0)
step_known k cat p (Write i m) count served = omega (arith, served.0)
step_known k cat p Flush count served = tt
step_known k cat p (Arrive i b l w) count served = tt
step_known k cat p (Retire i) count served = omega (arith, served.0)

module _ {x : Seen} {xs calls acts : List ℕ} (pre : Priceable x xs calls acts) where
  pub pricing_few : x.n ≤ 256
  pricing_few = omega (arith, pre.holds.item_count, (catalog_facts pre.text.catalog pre.sound.catalog).few)

  -- nothing is held, and nothing paid
  pub pricing_starts : (p : Copies) → p.n ≡ x.n → p.marks ≡ replicate 256 Absent → p.used ≡ 0 → p.paid ≡ 0 → Pricing x xs calls acts p 0 0
  unfolding plan_used copies_of fold
  pricing_starts p count marks used paid =
      record {
        within = omega arith;
        next = omega arith;
        low = omega arith;
        begins = λ v h sound. sym (parted_is 0 v.acts 0 (record { within = omega arith; below = λ i l. absurd (let z : i < 0 = l in omega arith); above = λ i l b. omega arith }));
        stands =
            λ v h sound.
            record {
              count = count ∙ h.item_count;
              copies = refl;
              used =
                  used
                  ∙ sym (sum_zero (length v.catalog) (λ i. cond (has (copy_at (copies_in p) i)) (item_at v.catalog i).blocks 0)
                  (λ i l. ap (λ t. cond (has t) (item_at v.catalog i).blocks 0)
                  (copy_at_lem p.n p.marks i (omega (arith, count, h.item_count)) ∙ ap copy_from (mark i))));
              past = λ i l. mark i;
              sum = refl;
            };
        leads =
            λ v h sound.
            ap (λ t. priced_with t (log_from v 0 (copies_in p))) paid ∙ with_none (log_from v 0 (copies_in p)) ∙ ap (log_from v 0) (empty v h);
      }
    where
      mark : (i : ℕ) → mark_at p.marks i ≡ Absent
      mark i = go (dec_lt i 256)
        where
          go : Dec (i < 256) → mark_at p.marks i ≡ Absent
          go (yes l) = ap (λ t. mark_at t i) marks ∙ get_or-replicate 256 i Absent Absent l
          go (no l) = get_or-eq_default p.marks Absent (let z : length p.marks ≤ i = omega (arith, ap length marks, length-replicate 256 Absent) in z)

      empty : (v : Tables) → Holds x xs calls acts v → copies_in p ≡ tab (length v.catalog) (λ i. no_copy)
      empty v h =
          tab_eq p.n (λ i. copy_from (mark_at p.marks i)) (λ i. no_copy) (λ i l. ap copy_from (mark i))
          ∙ ap (λ n. tab n (λ (i : ℕ). no_copy)) (count ∙ h.item_count)

  module _ {p : Copies} {a s : ℕ} (so : Pricing x xs calls acts p a s) where
    -- the sum is far from the end of its word
    pub pricing_low : p.paid ≤ 900000000000
    pricing_low = omega (arith, so.low, so.within, so.next, pre.few.acts, pre.few.steps)

    -- the catalog of the text before step s
    abbrev cat : Catalog
    cat = catalog_before pre.text s

    cat_ok : CatalogOk cat
    cat_ok = before_ok pre.text pre.sound s (omega (arith, so.within, pre.holds.step_count))

    ready_at : (q : Copies) → PlanStands cat q → q.paid ≤ 1000000000000 → PlanReady xs q
    ready_at q stands low =
        record { room = pre.roomy.for_items; catalog = cat; items = items_before x xs calls acts pre.text pre.holds s; ok = cat_ok; stands = stands; low = low }

    pub pricing_ready : PlanReady xs p
    pricing_ready = ready_at p (so.stands pre.text pre.holds pre.sound) (omega (arith, pricing_low))

    module _ (l : s < x.steps) where
      pub pricing_acts : Actable x xs p acts a s
      pricing_acts =
          record {
            calls = calls;
            priceable = pre;
            begins = so.begins pre.text pre.holds pre.sound;
            stands = so.stands pre.text pre.holds pre.sound;
            inside = l;
            paid = so.low;
          }

      -- the step with the rest of the log
      unrolled :
          (v : Tables) →
          Holds x xs calls acts v →
          Sound v →
          priced_with p.paid (price_then (and_then (acts_of v s (copies_in p)) (step_on v s)) (log_from v (suc s))) ≡ price_of v
      unfolding price_from
      unrolled v h sound =
          ap (λ (c : Catalog). priced_with p.paid (price_then (and_then (acts_of v s (copies_in p)) (step_on v s)) (price_from c v.h (plan_of v.acts) (suc s) (drop (suc s) v.steps))))
          (sym (before_next v s (omega (arith, h.step_count))))
          ∙ ap (λ t. priced_with p.paid (price_from (catalog_before v s) v.h (plan_of v.acts) s t (copies_in p)))
          (sym (drop-cons v.steps s Flush (omega (arith, h.step_count))))
          ∙ so.leads v h sound

      -- 11 or 12, on the act's line
      pub pricing_act_fails : (y : Refusal) (b : Copies) → RunsActs x xs p acts a s (Err y) b → PricedAs x xs calls acts (Err y)
      pricing_act_fails y b ran v h sound =
          subst (λ (z : Priced). PricedBy v z (Err y)) (unrolled v h sound)
          (act_faulty v s (acts_of v s (copies_in p)) (step_on v s) (log_from v (suc s)) p.paid b y
          (ran calls v (record { holds = h; sound = sound; begins = so.begins v h sound; stands = so.stands v h sound })))

      module _ (n : ℕ) (b : Copies) (ran : RunsActs x xs p acts a s (Ok n) b) (inside : n ≤ x.acts) (low : b.paid ≤ most n s) where
        -- the acts before the step, for a text that the slices hold
        did : (v : Tables) → Holds x xs calls acts v → Sound v → ActsDone v s (acts_of v s (copies_in p)) p.paid (Ok n) b
        did v h sound = ran calls v (record { holds = h; sound = sound; begins = so.begins v h sound; stands = so.stands v h sound })

        -- where the program stands before the step
        ready : (v : Tables) → Holds x xs calls acts v → Sound v → PlanStands (catalog_before v s) b
        ready v h sound = acts_stand v s (acts_of v s (copies_in p)) p.paid n b (did v h sound)

        module _ (st : Step) (noted : st ≡ step_of (numbers_behind calls (7 * s))) where
          step_same : (v : Tables) → Holds x xs calls acts v → st ≡ step_at v.steps s
          step_same v h = noted ∙ step_is x xs calls acts v h s l

          pub pricing_serves : PlanServable xs b st
          pricing_serves =
              let v = pre.text in
              let stands = ready v pre.holds pre.sound in
              record {
                ready = ready_at b stands (omega (arith, low, inside, pre.few.acts, pre.few.steps));
                known =
                    subst (StepKnown b) (sym (step_same v pre.holds))
                    (step_known v.k cat b (step_at v.steps s) stands.count (step_served v pre.sound s (omega (arith, pre.holds.step_count))));
              }

          -- the step as the definition serves it, for a text that the slices hold
          serves :
              (line : ℕ) (r : Result (Unit {0}) Refusal) (then : Copies) →
              Serves xs x.h b st line r then →
              (v : Tables) →
              Holds x xs calls acts v →
              (q : List Copy) (c : ℕ) →
              HoldsCopies (catalog_before v s) b q c →
              Does (catalog_before v (suc s)) (step_on v s q) c line r then
          serves line r then served v h q c hold =
              subst (λ (n : Catalog). Does n (step_on v s q) c line r then) (before_next v s (omega (arith, h.step_count)))
              (subst (λ (n : ℕ). Does (catalog_next (catalog_before v s) (step_at v.steps s)) (plan_serves (catalog_before v s) n s (step_at v.steps s) q) c line r then) h.h
              (subst (λ (t : Step). Does (catalog_next (catalog_before v s) t) (plan_serves (catalog_before v s) x.h s t q) c line r then) (step_same v h)
              (served (catalog_before v s) s c q (items_before x xs calls acts v h s) hold)))

          -- 14 or 13, on the step's line
          pub pricing_step_fails :
              (line : ℕ) (y : Refusal) (then : Copies) →
              line ≡ 7 + x.n + s →
              Serves xs x.h b st line (Err y) then →
              PricedAs x xs calls acts (Err y)
          pricing_step_fails line y then is served v h sound =
              subst (λ (z : Priced). PricedBy v z (Err y)) (unrolled v h sound)
              (step_faulty v s (catalog_before v (suc s)) (acts_of v s (copies_in p)) (step_on v s)
              (log_from v (suc s)) p.paid n line b then y (did v h sound) (serves line (Err y) then served v h)
              (serve_fault (catalog_before v s) v.h s (step_at v.steps s)) (omega (arith, is, h.item_count)))

          module _ (line : ℕ) (then : Copies) (served : Serves xs x.h b st line (Ok tt) then) where
            -- what the step leaves
            after :
                (v : Tables) →
                Holds x xs calls acts v →
                Sound v →
                PlanStands (catalog_before v (suc s)) then × (then.paid ≤ b.paid + 16776960)
            after v h sound =
                did_ready (catalog_before v (suc s)) (step_on v s (copies_in b)) 16776960 b.paid line then
                (serves line (Ok tt) then served v h (copies_in b) b.paid (ready v h sound))
                (serve_cheap (catalog_before v s) (before_ok v sound s (omega (arith, h.step_count))) v.h s (step_at v.steps s) (copies_in b))

            -- the step is served
            pub pricing_turn : Pricing x xs calls acts then n (s + 1)
            pricing_turn =
                record {
                  within = omega arith;
                  next = inside;
                  low = omega (arith, (after pre.text pre.holds pre.sound).1, low);
                  begins =
                      λ v h sound.
                      rw add-one
                      (acts_next v s (acts_of v s (copies_in p)) p.paid n b (did v h sound));
                  stands = λ v h sound. rw add-one (after v h sound).0;
                  leads =
                      λ v h sound.
                      rw add-one
                      (turn v s (catalog_before v (suc s)) (acts_of v s (copies_in p)) (step_on v s)
                      (log_from v (suc s)) p.paid n line b then (did v h sound) (serves line (Ok tt) then served v h)
                      ∙ unrolled v h sound);
                }

    -- the closing flush is paid
    pub pricing_ends : (o total : ℕ) → x.steps ≤ s → Owes xs p o → total ≡ p.paid + o → PricedAs x xs calls acts (Ok total)
    unfolding price_from
    pricing_ends o total l e is v h sound =
        subst (λ (z : Priced). PricedBy v z (Ok total))
        (ap (λ t. priced_with p.paid (price_from (catalog_before v s) v.h (plan_of v.acts) s t (copies_in p)))
        (sym (drop_of_length-le v.steps (let z : length v.steps ≤ s = omega (arith, h.step_count) in z)))
        ∙ so.leads v h sound)
        (ap Ok (is ∙ ap (λ t. p.paid + t) (e.0 (catalog_before v s) (items_before x xs calls acts v h s) (so.stands v h sound).count)))
