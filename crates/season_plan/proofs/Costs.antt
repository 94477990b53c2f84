-- What a part of a plan costs at most, and which faults it can end in. Assumes nothing.
use mathlib.Core.Path.{◌≡◌, refl, ap}
use mathlib.Core.Bool.{cond}
use mathlib.Core.List.{List}
use Prim.Native.Nat.{ℕ, ◌+◌, ◌≤◌, ◌<◌}
use native.Mathlib.Omega.{arith}
use native.Mathlib.Decide.{dec_lt}
use lib.ListN.{length, get_or-eq_default}
use lib.Dec.{ltb, leb}
use borrow.Author.Tests.{ltb-true}
use Rattle.types.specs.declared.Step.{Step}
use Rattle.types.specs.declared.Step.TheVariants.{Read, Write, Flush, Arrive, Retire}
use Rattle.types.specs.declared.Act.{Act}
use Rattle.types.specs.declared.Act.TheVariants.{Evict, Fetch}
use Rattle.landlord.specs.Catalog.{Catalog, Item, CatalogOk, no_item, item_at}
use Rattle.landlord.specs.Plan.{Copy, has, is_changed, copy_at, plan_used, owed, Fault, unknown_item, retired_item, not_held, already_held, request_not_held, over_capacity, Done, done, faulty, if_present, plan_acts, within_capacity, plan_serves}
use Rattle.landlord.proofs.Folds.{either}
use Rattle.landlord.proofs.Ranges.{catalog_facts}
use Rattle.season_plan.proofs.Marks.{cond_most, sum_most}

-- a part of a plan costs at most so much
abbrev pub Cheap : ℕ → Done → Type 0
Cheap m (done q c) = c ≤ m
Cheap m (faulty f) = Unit {0}

-- a fault of act n of the text, before step s, where the acts before the step begin at act `first`
abbrev pub of_act : ℕ → ℕ → ℕ → Fault → Type 0
of_act s first n (unknown_item t a j) = (s ≡ t) × (n ≡ first + a)
of_act s first n (retired_item t a j) = (s ≡ t) × (n ≡ first + a)
of_act s first n (not_held t a j) = (s ≡ t) × (n ≡ first + a)
of_act s first n (already_held t a j) = (s ≡ t) × (n ≡ first + a)
of_act s first n (request_not_held t j) = ⊥
of_act s first n (over_capacity t) = ⊥

-- a fault of step s itself
abbrev pub of_step : ℕ → Fault → Type 0
of_step s (unknown_item t a j) = ⊥
of_step s (retired_item t a j) = ⊥
of_step s (not_held t a j) = ⊥
of_step s (already_held t a j) = ⊥
of_step s (request_not_held t j) = s ≡ t
of_step s (over_capacity t) = s ≡ t

-- what holds of the fault, if there is one
abbrev pub Faults : (Fault → Type 0) → Done → Type 0
Faults P (done q c) = Unit {0}
Faults P (faulty f) = P f

-- faults of one sort are of another, if each such fault is
pub faults_are : (P Q : Fault → Type 0) (d : Done) → ((f : Fault) → P f → Q f) → Faults P d → Faults Q d
faults_are P Q (done q c) so h = tt
faults_are P Q (faulty f) so h = so f h

module _ (cat : Catalog) (ok : CatalogOk cat) where
  -- what an act with an item costs, if the item is there
  present_cheap : (s a i : ℕ) (d : Done) → (i < length cat → Cheap 65535 d) → Cheap 65535 (if_present cat s a i d)
  present_cheap s a i d h =
      either (Cheap 65535) (ltb i (length cat)) _ _
      (λ l. either (Cheap 65535) (item_at cat i).left _ _ (λ e. tt) (λ e. h (ltb-true i (length cat) l)))
      (λ l. tt)

  -- an act costs at most one load or write cost
  pub act_cheap : (s a : ℕ) (act : Act) (q : List Copy) → Cheap 65535 (plan_acts cat s a act q)
  unfolding plan_acts
  act_cheap s a (Evict i) q =
      present_cheap s a i _
      (λ l. either (Cheap 65535) (has (copy_at q i)) _ _
      (λ h. cond_most (is_changed (copy_at q i)) (item_at cat i).write 65535 ((catalog_facts cat ok).each i l).write)
      (λ h. tt))
  act_cheap s a (Fetch i) q =
      present_cheap s a i _ (λ l. either (Cheap 65535) (has (copy_at q i)) _ _ (λ h. tt) (λ h. ((catalog_facts cat ok).each i l).load))

  -- a flush at most all write costs
  pub owed_most : (q : List Copy) → owed cat q ≤ 16776960
  unfolding owed
  owed_most q =
      omega (
        arith,
        (catalog_facts cat ok).few,
        sum_most (length cat) 65535 (λ i. cond (is_changed (copy_at q i)) (item_at cat i).write 0)
            (λ i l. cond_most (is_changed (copy_at q i)) (item_at cat i).write 65535 ((catalog_facts cat ok).each i l).write),
      )

  -- a write cost, of an item or of none
  write_most : (i : ℕ) → (item_at cat i).write ≤ 16776960
  write_most i = go (dec_lt i (length cat))
    where
      go : Dec (i < length cat) → (item_at cat i).write ≤ 16776960
      go (yes l) = omega (arith, ((catalog_facts cat ok).each i l).write)
      go (no l) = omega (arith, ap (λ (t : Item). t.write) (get_or-eq_default cat no_item (let z : length cat ≤ i = omega arith in z)))

  within_cheap : (h s : ℕ) (q : List Copy) (d : Done) → Cheap 16776960 d → Cheap 16776960 (within_capacity cat h s q d)
  within_cheap h s q d c = either (Cheap 16776960) (leb (plan_used cat q) h) _ _ (λ f. c) (λ f. tt)

  pub serve_cheap : (h s : ℕ) (st : Step) (q : List Copy) → Cheap 16776960 (plan_serves cat h s st q)
  unfolding plan_serves
  serve_cheap h s (Read i) q = either (Cheap 16776960) (has (copy_at q i)) _ _ (λ e. within_cheap h s q _ (omega arith)) (λ e. tt)
  serve_cheap h s (Write i m) q = either (Cheap 16776960) (has (copy_at q i)) _ _ (λ e. within_cheap h s q _ (omega arith)) (λ e. tt)
  serve_cheap h s Flush q = within_cheap h s q _ (owed_most q)
  serve_cheap h s (Arrive i b l w) q = within_cheap h s q _ (omega arith)
  serve_cheap h s (Retire i) q = within_cheap h s q _ (cond_most (is_changed (copy_at q i)) (item_at cat i).write 16776960 (write_most i))

module _ (cat : Catalog) where
  -- an item that is not there, or has left, is a fault of that act too
  present_faults : (s first n a i : ℕ) (d : Done) → n ≡ first + a → Faults (of_act s first n) d → Faults (of_act s first n) (if_present cat s a i d)
  present_faults s first n a i d e h =
      either (Faults (of_act s first n)) (ltb i (length cat)) _ _
      (λ l. either (Faults (of_act s first n)) (item_at cat i).left _ _ (λ f. (refl, e)) (λ f. h))
      (λ l. (refl, e))

  -- an act's fault is of that act
  pub act_faults : (s first n a : ℕ) (act : Act) (q : List Copy) → n ≡ first + a → Faults (of_act s first n) (plan_acts cat s a act q)
  unfolding plan_acts
  act_faults s first n a (Evict i) q e =
      present_faults s first n a i _ e (either (Faults (of_act s first n)) (has (copy_at q i)) _ _ (λ h. tt) (λ h. (refl, e)))
  act_faults s first n a (Fetch i) q e =
      present_faults s first n a i _ e (either (Faults (of_act s first n)) (has (copy_at q i)) _ _ (λ h. (refl, e)) (λ h. tt))

  -- a step's fault is of that step
  within_fault : (h s : ℕ) (q : List Copy) (d : Done) → Faults (of_step s) d → Faults (of_step s) (within_capacity cat h s q d)
  within_fault h s q d f = either (Faults (of_step s)) (leb (plan_used cat q) h) _ _ (λ e. f) (λ e. refl)

  pub serve_fault : (h s : ℕ) (st : Step) (q : List Copy) → Faults (of_step s) (plan_serves cat h s st q)
  unfolding plan_serves
  serve_fault h s (Read i) q = either (Faults (of_step s)) (has (copy_at q i)) _ _ (λ e. within_fault h s q _ tt) (λ e. refl)
  serve_fault h s (Write i m) q = either (Faults (of_step s)) (has (copy_at q i)) _ _ (λ e. within_fault h s q _ tt) (λ e. refl)
  serve_fault h s Flush q = within_fault h s q _ tt
  serve_fault h s (Arrive i b l w) q = within_fault h s q _ tt
  serve_fault h s (Retire i) q = within_fault h s q _ tt
