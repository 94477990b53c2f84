-- The acts before one step: what is left of them from here leads where all of them lead from the first. Assumes nothing.
use mathlib.Core.Path.{◌≡◌, sym, ap, subst, ◌∙◌}
use mathlib.Core.Logic.{◌≢◌}
use mathlib.Core.Bool.{false}
use mathlib.Core.List.{List, ◌∷◌}
use Prim.Native.Nat.{ℕ, suc, ◌+◌, ◌*◌, ◌-◌, ◌≤◌, ◌<◌}
use native.Mathlib.Nat.{add_assoc, add-zero}
use native.Mathlib.Numerals.{add-one}
use native.Mathlib.Omega.{arith}
use native.Mathlib.Decide.{ℕ_discrete, dec_lt}
use lib.ListN.{length, get_or, drop}
use Rattle.types.specs.declared.Act.{Act}
use Rattle.std.specs.Prelude.{Result, Ok, Err}
use Rattle.types.specs.declared.Refusal.{Refusal}
use Rattle.types.specs.Types.{act_item, act_of}
use Rattle.landlord.specs.Catalog.{Catalog, CatalogOk, item_at}
use Rattle.landlord.proofs.Ranges.{catalog_facts}
use Rattle.landlord.specs.Plan.{Copy, Fault, unknown_item, retired_item, not_held, already_held, request_not_held, over_capacity, fault_refusal, Done, done, faulty, plan_acts, and_paid, and_then, all_acts}
use Rattle.season_tables.specs.declared.Seen.{Seen}
use Rattle.season_tables.specs.Tables.{Tables}
use Rattle.season_tables.specs.InnerSound.{placed_at, catalog_before}
use Rattle.season_plan.specs.declared.Copies.{Copies}
use Rattle.season_plan.specs.Plans.{acts_at, acts_before, line_of_act, fault_line}
use Rattle.season_plan.specs.Inner.{copies_in, HoldsCopies, PlanStands, Does, PlanReady, Known, Acts, ActsDone, most, Actable, Before, RunsActs}
use Rattle.season_plan.proofs.Places.{items_before, before_ok, noted_act, act_is, sound_ordered, parted, parted_is, at_skip, at_here, at_none}
use Rattle.season_plan.proofs.Deeds.{stands_there}
use Rattle.season_plan.proofs.Costs.{Cheap, Faults, faults_are, of_act, act_cheap, act_faults}

-- what the acts of step s from act a on end in, the j-th of them and those after it
abbrev Left : Tables → ℕ → ℕ → ℕ → Copies → Result ℕ Refusal → Copies → Type 0
Left v s j a q r after = ActsDone v s (all_acts (catalog_before v s) s j (acts_at s (drop a v.acts)) (copies_in q)) q.paid r after

-- The acts that are done are of step s. For every text that the slices hold the program stands at the catalog before the step; and
-- whatever the acts that are left end in, from these copies and this sum, all of them end in from the first copies and the first sum.
pub record Acting (x : Seen) (xs acts : List ℕ) (p : Copies) (first s : ℕ) (q : Copies) (a : ℕ) : Type 0 where
  pub begun : first ≤ a
  pub within : a ≤ x.acts
  pub low : q.paid ≤ most a s
  pub here : (i : ℕ) → first ≤ i → i < a → get_or acts (3 * i) 0 ≡ s
  pub stands : (calls : List ℕ) (v : Tables) → Before x xs p acts first s calls v → PlanStands (catalog_before v s) q
  pub leads :
      (calls : List ℕ) (v : Tables) (r : Result ℕ Refusal) (after : Copies) →
      Before x xs p acts first s calls v →
      Left v s (a - first) a q r after →
      Left v s 0 first p r after

-- what was paid before counts, whatever follows
and_done : (v : Tables) (s : ℕ) (d : Done) (c before : ℕ) (r : Result ℕ Refusal) (after : Copies) → ActsDone v s d (before + c) r after → ActsDone v s (and_paid c d) before r after
and_done v s (done q b) c before (Ok next) after h = (subst (λ (t : ℕ). HoldsCopies (catalog_before v s) after q t) (add_assoc before c b) h.0, h.1)
and_done v s (done q b) c before (Err y) after h = h
and_done v s (faulty f) c before (Ok next) after h = h
and_done v s (faulty f) c before (Err y) after h = h

-- an act that was done, and then the others
then_done :
    (v : Tables) (s : ℕ) (d : Done) (next : List Copy → Done) (before line : ℕ) (q : Copies) (r : Result ℕ Refusal) (after : Copies) →
    Does (catalog_before v s) d before line (Ok tt) q →
    ActsDone v s (next (copies_in q)) q.paid r after →
    ActsDone v s (and_then d next) before r after
then_done v s (done o c) next before line q r after did rest =
    and_done v s (next o) c before r after
    (subst (λ (b : ℕ). ActsDone v s (next o) b r after) did.sum
    (subst (λ (t : List Copy). ActsDone v s (next t) q.paid r after) did.copies rest))
then_done v s (faulty f) next before line q r after did rest = absurd did

-- an act that was not, told on its line
then_fails :
    (v : Tables) (s : ℕ) (d : Done) (next : List Copy → Done) (before line : ℕ) (q : Copies) (y : Refusal) (after : Copies) →
    Does (catalog_before v s) d before line (Err y) q →
    Faults (λ f. line ≡ fault_line v f) d →
    ActsDone v s (and_then d next) before (Err y) after
then_fails v s (done o c) next before line q y after did at = absurd did
then_fails v s (faulty f) next before line q y after did at = did ∙ ap (fault_refusal f) at

-- the line of an act is that of its fault
act_fault_line : (v : Tables) (s n : ℕ) (f : Fault) → of_act s (acts_before s v.acts) n f → line_of_act v n ≡ fault_line v f
act_fault_line v s n (unknown_item t a i) (same, is) = ap (line_of_act v) (is ∙ ap (λ u. acts_before u v.acts + a) same)
act_fault_line v s n (retired_item t a i) (same, is) = ap (line_of_act v) (is ∙ ap (λ u. acts_before u v.acts + a) same)
act_fault_line v s n (not_held t a i) (same, is) = ap (line_of_act v) (is ∙ ap (λ u. acts_before u v.acts + a) same)
act_fault_line v s n (already_held t a i) (same, is) = ap (line_of_act v) (is ∙ ap (λ u. acts_before u v.acts + a) same)
act_fault_line v s n (request_not_held t i) of = absurd of
act_fault_line v s n (over_capacity t) of = absurd of

-- what a part that was done leaves: the program stands there, with a sum
pub did_ready :
    (cat : Catalog) (d : Done) (m before line : ℕ) (r : Copies) →
    Does cat d before line (Ok tt) r →
    Cheap m d →
    PlanStands cat r × (r.paid ≤ before + m)
did_ready cat (done q c) m before line r did cheap = (stands_there cat r q (before + c) did, omega (arith, did.sum, cheap))
did_ready cat (faulty f) m before line r did cheap = absurd did

module _ {x : Seen} {xs acts : List ℕ} {p : Copies} {first s : ℕ} (pre : Actable x xs p acts first s) where
  -- the text that the slices are said to hold
  own : Before x xs p acts first s pre.calls pre.priceable.text
  own = record { holds = pre.priceable.holds; sound = pre.priceable.sound; begins = pre.begins; stands = pre.stands }

  -- its catalog before the step
  abbrev cat : Catalog
  cat = catalog_before pre.priceable.text s

  cat_ok : CatalogOk cat
  cat_ok = before_ok pre.priceable.text pre.priceable.sound s (omega (arith, pre.inside, pre.priceable.holds.step_count))

  -- every line of the text has a small number
  pub acting_line : 9 + x.n + x.steps + x.acts ≤ 30000
  acting_line =
      let h = pre.priceable in
      omega (arith, h.holds.item_count, (catalog_facts h.text.catalog h.sound.catalog).few, h.few.steps, h.few.acts)

  pub acting_starts : Acting x xs acts p first s p first
  acting_starts =
      let begins = parted s pre.priceable.text.acts (sound_ordered pre.priceable.text pre.priceable.sound) in
      record {
        begun = omega arith;
        within = omega (arith, begins.within, pre.begins, pre.priceable.holds.act_count);
        low = pre.paid;
        here = λ i l b. absurd (omega arith);
        stands = λ calls v h. h.stands;
        leads = λ calls v r after h so. subst (λ (t : ℕ). Left v s t first p r after) (let z : first - first ≡ 0 = omega arith in z) so;
      }

  -- all acts before the step are those from the first one on
  whole :
      (calls : List ℕ) (v : Tables) (r : Result ℕ Refusal) (after : Copies) →
      Before x xs p acts first s calls v →
      Left v s 0 first p r after →
      ActsDone v s (all_acts (catalog_before v s) s 0 (acts_at s v.acts) (copies_in p)) p.paid r after
  whole calls v r after h so =
      let part = parted s v.acts (sound_ordered v h.sound) in
      let skip : acts_at s (drop first v.acts) ≡ acts_at s v.acts =
      at_skip s first v.acts (λ i l b e. let z = part.below i (omega (arith, h.begins)) in omega arith)
      in
      subst (λ (u : List Act). ActsDone v s (all_acts (catalog_before v s) s 0 u (copies_in p)) p.paid r after) skip so

  module _ {q : Copies} {a : ℕ} (so : Acting x xs acts p first s q a) where
    -- the sum is far from the end of its word
    pub acting_low : q.paid ≤ 900000000000
    acting_low = omega (arith, so.low, so.within, pre.inside, pre.priceable.few.acts, pre.priceable.few.steps)

    acting_ready : PlanReady xs q
    acting_ready =
        record {
          room = pre.priceable.roomy.for_items;
          catalog = cat;
          items = items_before x xs pre.calls acts pre.priceable.text pre.priceable.holds s;
          ok = cat_ok;
          stands = so.stands pre.calls pre.priceable.text own;
          low = omega (arith, acting_low);
        }

    module _ (l : a < x.acts) (place : get_or acts (3 * a) 0 ≡ s) {act : Act} (noted : act ≡ act_of (get_or acts (3 * a + 1) 0) (get_or acts (3 * a + 2) 0)) where
      -- it is the text's act, it stands before this step, and its item is there
      act_same : (calls : List ℕ) (v : Tables) → Before x xs p acts first s calls v → act ≡ (placed_at v.acts a).act
      act_same calls v h = noted ∙ act_is x xs calls acts v h.holds a l

      at_step : (calls : List ℕ) (v : Tables) → Before x xs p acts first s calls v → (placed_at v.acts a).place ≡ s
      at_step calls v h = sym (noted_act x xs calls acts v h.holds a l).place ∙ place

      there : (calls : List ℕ) (v : Tables) → Before x xs p acts first s calls v → (item_at (catalog_before v s) (act_item act)).left ≡ false
      there calls v h =
          ap (λ (t : Act). (item_at (catalog_before v s) (act_item t)).left) (act_same calls v h)
          ∙ ap (λ (t : ℕ). (item_at (catalog_before v t) (act_item (placed_at v.acts a).act)).left) (sym (at_step calls v h))
          ∙ (h.sound.each a (omega (arith, h.holds.act_count))).there

      -- the act's item is known
      pub acting_known : Known xs q (act_item act)
      acting_known =
          let v = pre.priceable.text in
          let known : act_item (placed_at v.acts a).act < length (catalog_before v (placed_at v.acts a).place) =
          (pre.priceable.sound.each a (omega (arith, pre.priceable.holds.act_count))).known
          in
          record {
            ready = acting_ready;
            known =
                omega (
                  arith,
                  ap act_item (act_same pre.calls v own),
                  known,
                  ap (λ (t : ℕ). length (catalog_before v t)) (at_step pre.calls v own),
                  (so.stands pre.calls v own).count,
                );
          }

      -- the acts that are left begin with it
      left :
          (calls : List ℕ) (v : Tables) →
          Before x xs p acts first s calls v →
          acts_at s (drop a v.acts) ≡ (placed_at v.acts a).act ∷ acts_at s (drop (suc a) v.acts)
      left calls v h = at_here s a v.acts (omega (arith, h.holds.act_count)) (at_step calls v h)

      module _ (line : ℕ) (r : Result (Unit {0}) Refusal) (then : Copies) (acted : Acts xs q act line r then) where
        -- the act as the definition does it, for a text that the slices hold
        does :
            (calls : List ℕ) (v : Tables) →
            Before x xs p acts first s calls v →
            (j : ℕ) →
            Does (catalog_before v s) (plan_acts (catalog_before v s) s j (placed_at v.acts a).act (copies_in q)) q.paid line r then
        does calls v h j =
            subst (λ (t : Act). Does (catalog_before v s) (plan_acts (catalog_before v s) s j t (copies_in q)) q.paid line r then) (act_same calls v h)
            (acted (catalog_before v s) s j q.paid (copies_in q) (items_before x xs calls acts v h.holds s) (there calls v h) (so.stands calls v h))

      -- it was done
      module _ (line : ℕ) (then : Copies) (acted : Acts xs q act line (Ok tt) then) where
        after :
            (calls : List ℕ) (v : Tables) →
            Before x xs p acts first s calls v →
            CatalogOk (catalog_before v s) →
            PlanStands (catalog_before v s) then × (then.paid ≤ q.paid + 65535)
        after calls v h ok =
            did_ready (catalog_before v s) (plan_acts (catalog_before v s) s 0 (placed_at v.acts a).act (copies_in q)) 65535 q.paid line then
            (does line (Ok tt) then acted calls v h 0)
            (act_cheap (catalog_before v s) ok s 0 (placed_at v.acts a).act (copies_in q))

        pub acting_turn : Acting x xs acts p first s then (a + 1)
        unfolding all_acts
        acting_turn =
            record {
              begun = omega (arith, so.begun);
              within = omega arith;
              low = omega (arith, (after pre.calls pre.priceable.text own cat_ok).1, so.low);
              here = λ i b k. earlier i b k (ℕ_discrete i a);
              stands =
                  λ calls v h.
                  (after calls v h (before_ok v h.sound s (omega (arith, pre.inside, h.holds.step_count)))).0;
              leads = turn;
            }
          where
            earlier : (i : ℕ) → first ≤ i → i < a + 1 → Dec (i ≡ a) → get_or acts (3 * i) 0 ≡ s
            earlier i b k (yes z) = ap (λ t. get_or acts (3 * t) 0) z ∙ place
            earlier i b k (no z) = so.here i b (omega arith)

            turn :
                (calls : List ℕ) (v : Tables) (r : Result ℕ Refusal) (end : Copies) →
                Before x xs p acts first s calls v →
                Left v s (a + 1 - first) (a + 1) then r end →
                Left v s 0 first p r end
            turn calls v r end h rest =
                so.leads calls v r end h
                (subst (λ (o : List Act). ActsDone v s (all_acts (catalog_before v s) s (a - first) o (copies_in q)) q.paid r end) (sym (left calls v h))
                (then_done v s (plan_acts (catalog_before v s) s (a - first) (placed_at v.acts a).act (copies_in q))
                (all_acts (catalog_before v s) s (suc (a - first)) (acts_at s (drop (suc a) v.acts))) q.paid line then r end
                (does line (Ok tt) then acted calls v h (a - first))
                (subst
                (λ (n : ℕ). Left v s n (suc a) then r end)
                (let z : a + 1 - first ≡ suc (a - first) = omega (arith, so.begun) in z)
                (subst
                (λ (n : ℕ). Left v s (a + 1 - first) n then r end)
                (add-one a) rest))))

      -- it was not
      pub acting_fails :
          (line : ℕ) (y : Refusal) (then end : Copies) →
          line ≡ 9 + x.n + x.steps + a →
          Acts xs q act line (Err y) then →
          RunsActs x xs p acts first s (Err y) end
      unfolding all_acts
      acting_fails line y then end at acted calls v h =
          let d = plan_acts (catalog_before v s) s (a - first) (placed_at v.acts a).act (copies_in q) in
          let of : Faults (of_act s (acts_before s v.acts) a) d =
          act_faults (catalog_before v s) s (acts_before s v.acts) a (a - first) (placed_at v.acts a).act (copies_in q) (omega (arith, h.begins, so.begun)) in
          let here : line ≡ line_of_act v a = omega (arith, at, h.holds.item_count, h.holds.step_count) in
          whole calls v (Err y) end h
          (so.leads calls v (Err y) end h
          (subst (λ (u : List Act). ActsDone v s (all_acts (catalog_before v s) s (a - first) u (copies_in q)) q.paid (Err y) end) (sym (left calls v h))
          (then_fails v s d
          (all_acts (catalog_before v s) s (suc (a - first)) (acts_at s (drop (suc a) v.acts))) q.paid line then y end (does line (Err y) then acted calls v h (a - first))
          (faults_are (of_act s (acts_before s v.acts) a) (λ f. line ≡ fault_line v f) d (λ f g. here ∙ act_fault_line v s a f g) of))))

    -- no act is left where every further one stands behind the step
    ends :
        (calls : List ℕ) (v : Tables) →
        Before x xs p acts first s calls v →
        ((i : ℕ) → a ≤ i → i < length v.acts → s < (placed_at v.acts i).place) →
        Left v s (a - first) a q (Ok a) q
    unfolding all_acts
    ends calls v h past =
        subst (λ (u : List Act). ActsDone v s (all_acts (catalog_before v s) s (a - first) u (copies_in q)) q.paid (Ok a) q)
        (sym (at_none s a v.acts (λ i l b e. let z = past i l b in omega arith))) (
          subst (λ (n : ℕ). HoldsCopies (catalog_before v s) q (copies_in q) n) (sym (add-zero q.paid)) (so.stands calls v h),
          sym (parted_is (suc s) v.acts a (record { within = omega (arith, so.within, h.holds.act_count); below = low; above = past })),
        )
      where
        low : (i : ℕ) → i < a → (placed_at v.acts i).place < suc s
        low i l = by_first (dec_lt i first)
          where
            by_first : Dec (i < first) → (placed_at v.acts i).place < suc s
            by_first (yes b) = let z = (parted s v.acts (sound_ordered v h.sound)).below i (omega (arith, h.begins)) in omega arith
            by_first (no b) =
                omega (arith, (noted_act x xs calls acts v h.holds i (omega (arith, so.within))).place, so.here i (omega arith) l)

    -- all acts are done
    pub acting_ends : x.acts ≤ a → RunsActs x xs p acts first s (Ok x.acts) q
    acting_ends l =
        subst (λ (n : ℕ). RunsActs x xs p acts first s (Ok n) q) (let e : a ≡ x.acts = omega (arith, so.within) in e)
        (λ calls v h. whole calls v (Ok a) q h (so.leads calls v (Ok a) q h (ends calls v h (λ i b k. absurd (omega (arith, h.holds.act_count))))))

    -- or the next one stands before a later step
    pub acting_stops : a < x.acts → get_or acts (3 * a) 0 ≢ s → RunsActs x xs p acts first s (Ok a) q
    acting_stops l e calls v h = whole calls v (Ok a) q h (so.leads calls v (Ok a) q h (ends calls v h behind))
      where
        here : s < (placed_at v.acts a).place
        here =
            let z = (parted s v.acts (sound_ordered v h.sound)).above a (omega (arith, h.begins, so.begun)) (omega (arith, h.holds.act_count)) in
            omega (arith, (noted_act x xs calls acts v h.holds a l).place)

        behind : (i : ℕ) → a ≤ i → i < length v.acts → s < (placed_at v.acts i).place
        behind i b k = omega (arith, here, sound_ordered v h.sound a i b k)
