-- How the program holds what a plan has, and what its functions give. Assumes nothing.
use Rattle.types.specs.{declared.{Step.{Step, TheVariants.{Read, Write, Flush, Arrive, Retire}}, Act.Act, Refusal.{Refusal, TheVariants.RequestNotHeld}}, Types.act_item}
use Rattle.landlord.specs.{Plan.{Plan, Copy, no_copy, clean_copy, dirty_copy, copy_at, is_changed, cleaned, owed, Done, done, faulty, fault_refusal, plan_used, plan_evicts, plan_fetches, plan_acts, all_acts, plan_serves}, Fold.tab, Catalog.{Catalog, CatalogOk, item_at, catalog_next}}
use Rattle.season_items.specs.Inner.{item_room, HasItems}
use Rattle.season_tables.specs.{Tables.{Placed, Tables}, declared.Seen.Seen, Inner.{Holds, Roomy, FewRead}, InnerSound.{Sound, catalog_before}}
use Rattle.season_plan.specs.declared.{Copies.Copies, Mark.{Mark, TheVariants.{Absent, Clean, Dirty}}}
use Rattle.season_plan.specs.Plans.{acts_at, acts_before, fault_line, price_of, PricedBy}
use mathlib.Core.{Path.◌≡◌, Bool.{false, cond}, List.List}
use Rattle.std.specs.Prelude.{ℕ, suc, ◌+◌, ◌*◌, ◌≤◌, ◌<◌, Result, Ok, Err}
use lib.ListN.{length, get_or, set}

-- the text's acts as a plan
abbrev pub plan_of : List Placed → Plan
plan_of acts = λ i. acts_at i acts

-- what a mark says that the plan has
abbrev pub copy_from : Mark → Copy
copy_from Absent = no_copy
copy_from Clean = clean_copy
copy_from Dirty = dirty_copy

-- the mark of an item
abbrev pub mark_at : List Mark → ℕ → Mark
mark_at marks i = get_or marks i Absent

unfoldable pub copies_of : ℕ → List Mark → List Copy
copies_of n marks = tab n (λ i. copy_from (mark_at marks i))

-- the copies that the marks stand for, of the items that there are
abbrev pub copies_in : Copies → List Copy
copies_in p = copies_of p.n p.marks

-- the program holds these copies of a catalog's items, and has paid so much; an item that is still to arrive has no mark
pub record HoldsCopies (cat : Catalog) (p : Copies) (q : List Copy) (paid : ℕ) : Type 0 where
  pub count : p.n ≡ length cat
  pub copies : copies_in p ≡ q
  pub used : p.used ≡ plan_used cat q
  pub past : (i : ℕ) → p.n ≤ i → mark_at p.marks i ≡ Absent
  pub sum : p.paid ≡ paid

-- the program stands where its marks say
abbrev pub PlanStands : Catalog → Copies → Type 0
PlanStands cat p = HoldsCopies cat p (copies_in p) p.paid

-- a part of the plan was done at a cost, or ended in a fault, which is told on a line
abbrev pub Does : Catalog → Done → ℕ → ℕ → Result (Unit {0}) Refusal → Copies → Type 0
Does cat (done q c) before line (Ok _) p = HoldsCopies cat p q (before + c)
Does cat (done q c) before line (Err y) p = ⊥
Does cat (faulty f) before line (Ok _) p = ⊥
Does cat (faulty f) before line (Err y) p = y ≡ fault_refusal f line

-- what a part of the plan asks: the bytes of a catalog in range, where the program stands, and sums far from the end of their words
pub record PlanReady (xs : List ℕ) (p : Copies) : Type 0 where
  pub room : item_room ≤ length xs
  pub catalog : Catalog
  pub items : HasItems catalog xs
  pub ok : CatalogOk catalog
  pub stands : PlanStands catalog p
  pub low : p.paid ≤ 1000000000000

-- and that the item is known
pub record Known (xs : List ℕ) (p : Copies) (item : ℕ) : Type 0 where
  pub ready : PlanReady xs p
  pub known : item < p.n

-- the copy of an item goes, if there is one, and a dirty one is paid for
abbrev pub Loses : List ℕ → Copies → ℕ → Copies → Type 0
Loses xs p i r =
    (cat : Catalog) (paid : ℕ) (q : List Copy) →
    HasItems cat xs →
    HoldsCopies cat p q paid →
    HoldsCopies cat r (set q i no_copy) (paid + cond (is_changed (copy_at q i)) (item_at cat i).write 0)

-- D of an item; s and j are the places of the step and of the act, which a fault names
abbrev pub Evicts : List ℕ → Copies → ℕ → ℕ → Result (Unit {0}) Refusal → Copies → Type 0
Evicts xs p i line r after =
    (cat : Catalog) (s j paid : ℕ) (q : List Copy) →
    HasItems cat xs →
    HoldsCopies cat p q paid →
    Does cat (plan_evicts cat s j i q) paid line r after

-- F of an item
abbrev pub Fetches : List ℕ → Copies → ℕ → ℕ → Result (Unit {0}) Refusal → Copies → Type 0
Fetches xs p i line r after =
    (cat : Catalog) (s j paid : ℕ) (q : List Copy) →
    HasItems cat xs →
    HoldsCopies cat p q paid →
    Does cat (plan_fetches cat s j i q) paid line r after

-- an act, with an item that has not left
abbrev pub Acts : List ℕ → Copies → Act → ℕ → Result (Unit {0}) Refusal → Copies → Type 0
Acts xs p act line r after =
    (cat : Catalog) (s j paid : ℕ) (q : List Copy) →
    HasItems cat xs →
    (item_at cat (act_item act)).left ≡ false →
    HoldsCopies cat p q paid →
    Does cat (plan_acts cat s j act q) paid line r after

-- the write costs that a flush makes it pay
abbrev pub Owes : List ℕ → Copies → ℕ → Type 0
Owes xs p r = ((cat : Catalog) → HasItems cat xs → p.n ≡ length cat → r ≡ owed cat (copies_in p)) × (r ≤ 16776960)

-- every copy is clean then, and nothing else changes
pub record Cleans (p r : Copies) : Type 0 where
  pub count : r.n ≡ p.n
  pub copies : copies_in r ≡ tab p.n (λ i. cleaned (copy_at (copies_in p) i))
  pub used : r.used ≡ p.used
  pub past : (i : ℕ) → p.n ≤ i → mark_at r.marks i ≡ mark_at p.marks i
  pub sum : r.paid ≡ p.paid

-- the item that a step asks for, marks or loses is known
abbrev pub StepKnown : Copies → Step → Type 0
StepKnown p (Read i) = i < p.n
StepKnown p (Write i minutes) = i < p.n
StepKnown p Flush = Unit {0}
StepKnown p (Arrive i b l w) = Unit {0}
StepKnown p (Retire i) = i < p.n

-- the answer to a read or write by its item's mark: it is held, or 14 is told
abbrev pub request_of : Mark → ℕ → ℕ → Result (Unit {0}) Refusal
request_of Absent line i = Err (RequestNotHeld line i)
request_of Clean line i = Ok tt
request_of Dirty line i = Ok tt

-- and to any step
abbrev pub request : Copies → Step → ℕ → Result (Unit {0}) Refusal
request p (Read i) line = request_of (mark_at p.marks i) line i
request p (Write i minutes) line = request_of (mark_at p.marks i) line i
request p Flush line = Ok tt
request p (Arrive i b l w) line = Ok tt
request p (Retire i) line = Ok tt

-- a step that is in the log
pub record PlanServable (xs : List ℕ) (p : Copies) (st : Step) : Type 0 where
  pub ready : PlanReady xs p
  pub known : StepKnown p st

-- a step is served; the catalog is then as the step leaves it
abbrev pub Serves : List ℕ → ℕ → Copies → Step → ℕ → Result (Unit {0}) Refusal → Copies → Type 0
Serves xs h p st line r after =
    (cat : Catalog) (s paid : ℕ) (q : List Copy) →
    HasItems cat xs →
    HoldsCopies cat p q paid →
    Does (catalog_next cat st) (plan_serves cat h s st q) paid line r after

-- the acts before step s were done, and the answer is the first behind them; or the fault of one of them is told on its line
abbrev pub ActsDone : Tables → ℕ → Done → ℕ → Result ℕ Refusal → Copies → Type 0
ActsDone v s (done q c) before (Ok next) p = HoldsCopies (catalog_before v s) p q (before + c) × (next ≡ acts_before (suc s) v.acts)
ActsDone v s (done q c) before (Err y) p = ⊥
ActsDone v s (faulty f) before (Ok next) p = ⊥
ActsDone v s (faulty f) before (Err y) p = y ≡ fault_refusal f (fault_line v f)

-- what pricing asks: the slices hold an accepted text
pub record Priceable (x : Seen) (xs calls acts : List ℕ) : Type 0 where
  pub text : Tables
  pub holds : Holds x xs calls acts text
  pub sound : Sound text
  pub few : FewRead x
  pub roomy : Roomy xs calls acts

-- at most so much is paid for so many acts, and so many steps that are flushes
abbrev pub most : ℕ → ℕ → ℕ
most acts steps = 65535 * acts + 16776960 * steps

-- what the acts before step s ask: they begin at act `first`, the program stands at the catalog before the step, and the sum is far from
-- the end of its word
pub record Actable (x : Seen) (xs : List ℕ) (p : Copies) (acts : List ℕ) (first s : ℕ) : Type 0 where
  pub calls : List ℕ
  pub priceable : Priceable x xs calls acts
  pub begins : first ≡ acts_before s priceable.text.acts
  pub stands : PlanStands (catalog_before priceable.text s) p
  pub inside : s < x.steps
  pub paid : p.paid ≤ most first s

-- a text that the slices hold, whose acts before step s begin at act `first`, with the program where it stands before them
pub record Before (x : Seen) (xs : List ℕ) (p : Copies) (acts : List ℕ) (first s : ℕ) (calls : List ℕ) (v : Tables) : Type 0 where
  pub holds : Holds x xs calls acts v
  pub sound : Sound v
  pub begins : first ≡ acts_before s v.acts
  pub stands : PlanStands (catalog_before v s) p

-- for every such text, its acts before step s are done, or the first fault among them is told
abbrev pub RunsActs : Seen → List ℕ → Copies → List ℕ → ℕ → ℕ → Result ℕ Refusal → Copies → Type 0
RunsActs x xs p acts first s r after =
    (calls : List ℕ) (v : Tables) →
    Before x xs p acts first s calls v →
    ActsDone v s (all_acts (catalog_before v s) s 0 (plan_of v.acts s) (copies_in p)) p.paid r after

-- whatever text the slices hold, this is the price of its plan
abbrev pub PricedAs : Seen → List ℕ → List ℕ → List ℕ → Result ℕ Refusal → Type 0
PricedAs x xs calls acts r = (v : Tables) → Holds x xs calls acts v → Sound v → PricedBy v (price_of v) r
