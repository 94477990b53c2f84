-- D and F: what one store does to the copies, and what an act costs. Assumes nothing.
use mathlib.Core.Path.{◌≡◌, refl, sym, ap, subst, ◌∙◌}
use mathlib.Core.Logic.{◌≢◌}
use mathlib.Core.Bool.{Bool, true, false, cond}
use mathlib.Core.List.{List}
use Prim.Native.Nat.{ℕ, ◌+◌, ◌≤◌, ◌<◌}
use native.Mathlib.Omega.{arith}
use lib.ListN.{length, set}
use lib.Seq.{get_or-set_other}
use borrow.Author.Tests.{lt-ltb}
use Rattle.std.specs.Prelude.{Result, Ok, Err}
use Rattle.types.specs.declared.Refusal.{Refusal}
use Rattle.types.specs.declared.Refusal.TheVariants.{NotHeld, AlreadyHeld}
use Rattle.types.specs.declared.Act.TheVariants.{Evict, Fetch}
use Rattle.landlord.specs.Catalog.{Catalog, item_at}
use Rattle.landlord.specs.Plan.{Copy, clean_copy, has, is_changed, copy_at, plan_used, Done, done, faulty, already_held, plan_evicts, plan_fetches, if_present, plan_acts}
use Rattle.landlord.proofs.Sums.{sum_term}
use Rattle.landlord.proofs.Ranges.{catalog_facts}
use Rattle.catalog_bytes.specs.Catalogs.{item_in}
use Rattle.catalog_bytes.specs.Inner.{HasItem}
use Rattle.season_plan.specs.declared.Copies.{Copies}
use Rattle.season_plan.specs.declared.Mark.{Mark}
use Rattle.season_plan.specs.declared.Mark.TheVariants.{Absent, Clean}
use Rattle.season_plan.specs.Inner.{copy_from, mark_at, copies_of, copies_in, HoldsCopies, PlanStands, Does, PlanReady, Known, Loses, Evicts, Fetches, Acts}
use Rattle.season_plan.proofs.Marks.{blocks_at, load_at, write_at, held_mark, copy_at_lem, copies_length, copies_set, used_set, cond_most, sum_most}

-- what holds these copies and this sum stands there
pub stands_there : (cat : Catalog) (p : Copies) (q : List Copy) (paid : ℕ) → HoldsCopies cat p q paid → PlanStands cat p
stands_there cat p q paid st =
    record {
      count = st.count;
      copies = refl;
      used = st.used ∙ ap (plan_used cat) (sym st.copies);
      past = st.past;
      sum = refl;
    }

-- there is a copy, or none, for each item
pub held_length : (cat : Catalog) (p : Copies) (q : List Copy) (paid : ℕ) → HoldsCopies cat p q paid → length q ≡ length cat
held_length cat p q paid st = ap length (sym st.copies) ∙ copies_length p.n p.marks ∙ st.count

-- the copy of an item, by its mark
pub copy_of :
    (cat : Catalog) (p : Copies) (q : List Copy) (paid i : ℕ) →
    HoldsCopies cat p q paid →
    i < p.n →
    copy_at q i ≡ copy_from (mark_at p.marks i)
copy_of cat p q paid i st l = ap (λ t. copy_at t i) (sym st.copies) ∙ copy_at_lem p.n p.marks i l

-- a mark is stored, and the sums follow it
pub stored :
    (cat : Catalog) (p r : Copies) (q : List Copy) (paid i : ℕ) (m : Mark) (c : ℕ) →
    HoldsCopies cat p q paid →
    i < p.n →
    i < length p.marks →
    r.n ≡ p.n →
    r.marks ≡ set p.marks i m →
    r.used + cond (has (copy_at q i)) (item_at cat i).blocks 0 ≡ p.used + cond (has (copy_from m)) (item_at cat i).blocks 0 →
    r.paid ≡ p.paid + c →
    HoldsCopies cat r (set q i (copy_from m)) (paid + c)
stored cat p r q paid i m c st l b count marks used sum =
    record {
      count = count ∙ st.count;
      copies =
          ap (λ t. copies_of t r.marks) count
          ∙ ap (copies_of p.n) marks
          ∙ copies_set p.n p.marks i m l b
          ∙ ap (λ t. set t i (copy_from m)) st.copies;
      used = omega (arith, used_set cat q i (copy_from m) (omega (arith, st.count)) (omega (arith, held_length cat p q paid st, st.count)), st.used);
      past = λ j k. ap (λ t. mark_at t j) marks ∙ get_or-set_other p.marks i j m Absent (λ (e : j ≡ i). omega (arith, count)) ∙ st.past j (omega (arith, count));
      sum = omega (arith, st.sum);
    }

-- no more items than places
pub few_items_lem : (xs : List ℕ) (p : Copies) → PlanReady xs p → p.n ≤ 256
few_items_lem xs p ready = omega (arith, ready.stands.count, (catalog_facts ready.catalog ready.ok).few)

-- all blocks that can be used
pub used_most : (xs : List ℕ) (p : Copies) → PlanReady xs p → p.used ≤ 4096
unfolding plan_used
used_most xs p ready =
    let cat = ready.catalog in
    let facts = catalog_facts cat ready.ok in
    omega (
      arith,
      ready.stands.used,
      facts.few,
      sum_most (length cat) 16 (λ j. cond (has (copy_at (copies_in p) j)) (item_at cat j).blocks 0)
          (λ j b. cond_most (has (copy_at (copies_in p) j)) (item_at cat j).blocks 16 (facts.each j b).small),
    )

-- what is known of an item has a place, bytes, and sums that are far from the end of their words
pub record Placed (xs : List ℕ) (p : Copies) (i : ℕ) : Type 0 where
  pub place : i < 256
  pub there : HasItem xs i
  pub used : p.used ≤ 4096
  pub low : p.paid ≤ 1000000000000

pub placed : {xs : List ℕ} {p : Copies} {i : ℕ} → Known xs p i → Placed xs p i
placed {xs = xs} {p = p} {i = i} k =
    let l : i < 256 = omega (arith, few_items_lem xs p k.ready, k.known) in
    record {
      place = l;
      there = record { place = omega arith; inside = omega (arith, k.ready.room) };
      used = used_most xs p k.ready;
      low = k.ready.low;
    }

module _ {xs : List ℕ} {p : Copies} {i : ℕ} (k : Known xs p i) (full : length p.marks ≡ 256) where
  l : i < p.n
  l = k.known

  b : i < length p.marks
  b = omega (arith, (placed k).place)

  -- a held item's blocks are among those that are used
  pub used_some : mark_at p.marks i ≢ Absent → (item_in xs i).blocks ≤ p.used
  unfolding plan_used
  used_some m =
      let ready = k.ready in
      let cat = ready.catalog in
      let q = copies_in p in
      let below : i < length cat = omega (arith, ready.stands.count) in
      let has-it : cond (has (copy_at q i)) (item_at cat i).blocks 0 ≡ (item_in xs i).blocks =
      ap (λ t. cond (has t) (item_at cat i).blocks 0) (copy_at_lem p.n p.marks i l)
      ∙ ap (λ t. cond t (item_at cat i).blocks 0) (held_mark (mark_at p.marks i) m)
      ∙ blocks_at cat xs ready.items i below
      in
      omega (arith, sum_term (length cat) i (λ j. cond (has (copy_at q j)) (item_at cat j).blocks 0) below, ready.stands.used)

  -- the copy that the mark says goes, at its cost
  pub lost :
      (r : Copies) (m : Mark) →
      mark_at p.marks i ≡ m →
      r.n ≡ p.n →
      r.marks ≡ set p.marks i Absent →
      r.used + cond (has (copy_from m)) (item_in xs i).blocks 0 ≡ p.used →
      r.paid ≡ p.paid + cond (is_changed (copy_from m)) (item_in xs i).write 0 →
      Loses xs p i r
  lost r m from count marks used sum cat paid q items st =
      let below : i < length cat = omega (arith, st.count) in
      let is : copy_at q i ≡ copy_from m = copy_of cat p q paid i st l ∙ ap copy_from from in
      let blocks : cond (has (copy_at q i)) (item_at cat i).blocks 0 ≡ cond (has (copy_from m)) (item_in xs i).blocks 0 =
      ap (λ t. cond (has t) (item_at cat i).blocks 0) is ∙ ap (λ t. cond (has (copy_from m)) t 0) (blocks_at cat xs items i below)
      in
      let cost : cond (is_changed (copy_at q i)) (item_at cat i).write 0 ≡ cond (is_changed (copy_from m)) (item_in xs i).write 0 =
      ap (λ t. cond (is_changed t) (item_at cat i).write 0) is ∙ ap (λ t. cond (is_changed (copy_from m)) t 0) (write_at cat xs items i below)
      in
      stored cat p r q paid i Absent (cond (is_changed (copy_at q i)) (item_at cat i).write 0) st l b count marks (omega (arith, used, blocks)) (omega (arith, sum, cost))

  pub holds_not : (cat : Catalog) (q : List Copy) (paid : ℕ) → HoldsCopies cat p q paid → mark_at p.marks i ≡ Absent → has (copy_at q i) ≡ false
  holds_not cat q paid st m = ap has (copy_of cat p q paid i st l ∙ ap copy_from m)

  pub holds_it : (cat : Catalog) (q : List Copy) (paid : ℕ) → HoldsCopies cat p q paid → mark_at p.marks i ≢ Absent → has (copy_at q i) ≡ true
  holds_it cat q paid st m = ap has (copy_of cat p q paid i st l) ∙ held_mark (mark_at p.marks i) m

  -- 11
  pub evict_fails : (r : Copies) (line : ℕ) → mark_at p.marks i ≡ Absent → Evicts xs p i line (Err (NotHeld line i)) r
  evict_fails r line m cat s j paid q items st = rw (holds_not cat q paid st m)

  -- a held copy goes
  pub evict_does : (r : Copies) (line : ℕ) → mark_at p.marks i ≢ Absent → Loses xs p i r → Evicts xs p i line (Ok tt) r
  evict_does r line m loses cat s j paid q items st = rw (holds_it cat q paid st m) (loses cat paid q items st)

  -- 12
  pub fetch_fails : (r : Copies) (line : ℕ) → mark_at p.marks i ≢ Absent → Fetches xs p i line (Err (AlreadyHeld line i)) r
  fetch_fails r line m cat s j paid q items st = rw (holds_it cat q paid st m)

  -- an item not held comes, clean, at its load cost
  pub fetch_does :
      (r : Copies) (line : ℕ) →
      mark_at p.marks i ≡ Absent →
      r.n ≡ p.n →
      r.marks ≡ set p.marks i Clean →
      r.used ≡ p.used + (item_in xs i).blocks →
      r.paid ≡ p.paid + (item_in xs i).load →
      Fetches xs p i line (Ok tt) r
  fetch_does r line m count marks used sum cat s j paid q items st =
      let below : i < length cat = omega (arith, st.count) in
      let none : has (copy_at q i) ≡ false = holds_not cat q paid st m in
      subst (λ (t : Bool). Does cat (cond t (faulty (already_held s j i)) (done (set q i clean_copy) (item_at cat i).load)) paid line (Ok tt) r)
      (sym none)
      (stored cat p r q paid i Clean (item_at cat i).load st l b count marks
      (ap (λ t. r.used + cond t (item_at cat i).blocks 0) none ∙ omega (arith, blocks_at cat xs items i below))
      (omega (arith, load_at cat xs items i below)))

-- an item that is there is no fault
pub present : (cat : Catalog) (s j i : ℕ) (d : Done) → i < length cat → (item_at cat i).left ≡ false → if_present cat s j i d ≡ d
present cat s j i d l e = rw (lt-ltb i (length cat) l, e)

-- an act is D or F, of a known item
module _ {xs : List ℕ} {p : Copies} {i : ℕ} (k : Known xs p i) {line : ℕ} {a : Result (Unit {0}) Refusal} {r : Copies} where
  pub act_evicts : Evicts xs p i line a r → Acts xs p (Evict i) line a r
  unfolding plan_acts
  act_evicts h cat s j paid q items there st = rw (present cat s j i (plan_evicts cat s j i q) (omega (arith, k.known, st.count)) there) (h cat s j paid q items st)

  pub act_fetches : Fetches xs p i line a r → Acts xs p (Fetch i) line a r
  unfolding plan_acts
  act_fetches h cat s j paid q items there st = rw (present cat s j i (plan_fetches cat s j i q) (omega (arith, k.known, st.count)) there) (h cat s j paid q items st)
