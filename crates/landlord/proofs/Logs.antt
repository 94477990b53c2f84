-- Laws of logs: what the table lets through can be served; what a log's events add up to; where the rule stands after a log
-- that the table lets through; and a list of calls against its log. Assumes nothing.
use mathlib.Core.Path.{◌≡◌, refl, sym, ap, ◌∙◌}
use mathlib.Core.Bool.{Bool, true, false, cond}
use mathlib.Core.List.{List, [], ◌∷◌, ◌++◌}
use Prim.Native.Nat.{ℕ, zero, suc, ◌+◌, ◌≤◌, ◌<◌}
use native.Mathlib.Omega.{arith}
use native.Mathlib.Nat.{add-zero, zero-add, add_assoc}
use lib.ListN.{length, get_or, take}
use lib.Dec.{leb, ltb, eqb}
use borrow.Author.Tests.{ltb-true, leb-true, eqb-true}
use Rattle.types.specs.declared.Step.{Step}
use Rattle.types.specs.declared.Step.TheVariants.{Read, Write, Flush, Arrive, Retire}
use Rattle.types.specs.Types.{numbers_of}
use Rattle.types.proofs.Steps.{same_step}
use Rattle.landlord.specs.Fold.{fold, sum_to}
use Rattle.landlord.specs.Catalog.{Catalog, CatalogOk, item_at, listed, item_in_range, catalog_next, catalog_after}
use Rattle.landlord.specs.Slot.{Split, held, is_dirty}
use Rattle.landlord.specs.Rule.{State, Event, evicted, wrote_back, wrote, retired, Moved, drop_item, evict, victim, make_room, found, slot_at, write_backs, flush, step, size, blocks_at}
use Rattle.landlord.specs.Figures.{Totals, Figures, Standing, Start, totals_of, plus_totals, adds, tally, opened, took, closes, ran}
use Rattle.landlord.specs.Steps.{in_range, item_refusal, step_refusal}
use Rattle.landlord.specs.Claims.{SplitOk, Kept, AllowedLog}
use Rattle.landlord.specs.Inner.{paid}
use Rattle.landlord.proofs.Sums.{sum_zero}
use Rattle.landlord.proofs.Ranges.{and_left, and_right}
use Rattle.landlord.proofs.Steps.{free_range, passes}
use Rattle.landlord.proofs.Keeps.{Evicting, enough, more, RoomMade, make_room_lem, Served, next_ok, step_kept, step_catalog, flush_keeps, flush_catalog, empty_kept}

-- the item of a step is in the catalog, no larger than the cache, and has not left
known :
    (k : ℕ) (cat : Catalog) (i : ℕ) →
    (ltb i (length cat) ≡ true) × ((item_at cat i).left ≡ false) × (leb (item_at cat i).blocks k ≡ true) →
    (i < length cat) × ((item_at cat i).blocks ≤ k) × ((item_at cat i).left ≡ false)
known k cat i f = grind arith

-- the tests of an item that an answer of 0 has passed
clear : (c g d : Bool) → ◌≡◌ {A = ℕ} (cond c (cond g 20 (cond d 0 7)) 6) 0 → (c ≡ true) × (g ≡ false) × (d ≡ true)
clear c g d e = grind arith

clear_arrival : (c : Bool) → ◌≡◌ {A = ℕ} (cond c 0 19) 0 → c ≡ true
clear_arrival c e = grind arith

pub allowed_served : (k : ℕ) (cat : Catalog) (t : ℕ) (s : Step) → step_refusal k cat t (numbers_of s) ≡ 0 → Served k cat s
allowed_served k cat t s e =
    let p = passes k cat t (numbers_of s) e in
    by s (free_range (numbers_of s) p.range) (ap (item_refusal k cat) (sym (same_step s)) ∙ p.item)
  where
    by : (s : Step) → in_range (numbers_of s) ≡ true → item_refusal k cat s ≡ 0 → Served k cat s
    by (Read i) r e = known k cat i (clear (ltb i (length cat)) (item_at cat i).left (leb (item_at cat i).blocks k) e)
    by (Write i minutes) r e = known k cat i (clear (ltb i (length cat)) (item_at cat i).left (leb (item_at cat i).blocks k) e)
    by Flush r e = tt
    by (Arrive i b l w) r e =
        let next : i ≡ length cat = eqb-true i (length cat) (clear_arrival (eqb i (length cat)) e) in
        let small : i ≤ 255 = leb-true i 255 (and_left (leb i 255) (item_in_range (listed b l w)) r) in
        (next, omega arith, and_right (leb i 255) (item_in_range (listed b l w)) r)
    by (Retire i) r e =
        let f = clear (ltb i (length cat)) (item_at cat i).left true e in
        (ltb-true i (length cat) f.0, f.1)

-- each step of a list can be served, by the catalog as the steps before it have left it
abbrev pub AllServed : ℕ → Catalog → List Step → Type 0
AllServed k cat [] = Unit {0}
AllServed k cat (s ∷ steps) = Served k cat s × AllServed k (catalog_next cat s) steps

pub all_served : (k : ℕ) (cat : Catalog) (steps : List Step) → AllowedLog k cat steps → AllServed k cat steps
unfolding fold
all_served k cat steps a = from 0 cat steps (λ i l. rw (let e : 0 + i ≡ i = omega arith in e) (a.each i l))
  where
    from :
        (t : ℕ) (cat : Catalog) (steps : List Step) →
        ((i : ℕ) → i < length steps → step_refusal k (catalog_after cat (take i steps)) (t + i) (numbers_of (get_or steps i Flush)) ≡ 0) →
        AllServed k cat steps
    from t cat [] h = tt
    from t cat (s ∷ steps) h = (
      allowed_served k cat (t + 0) s (h 0 (omega arith)),
      from (t + 1) (catalog_next cat s) steps (λ i l. rw (let e : t + 1 + i ≡ t + suc i = omega arith in e) (h (suc i) (omega arith))),
    )

-- so a catalog in range is in range after them
pub after_ok : (k : ℕ) (cat : Catalog) (steps : List Step) → CatalogOk cat → AllServed k cat steps → CatalogOk (catalog_after cat steps)
unfolding fold
after_ok k cat [] ok served = ok
after_ok k cat (s ∷ steps) ok served = after_ok k (catalog_next cat s) steps (next_ok k cat s ok served.0) served.1

-- the sum of a weight over events
unfoldable pub event_sum : (Event → ℕ) → List Event → ℕ
event_sum w [] = 0
event_sum w (e ∷ es) = w e + event_sum w es

pub event_sum_none : (w : Event → ℕ) → event_sum w [] ≡ 0
unfolding event_sum
event_sum_none w = refl

pub event_sum_one : (w : Event → ℕ) (e : Event) → event_sum w (e ∷ []) ≡ w e
unfolding event_sum
event_sum_one w e = omega arith

pub event_append : (w : Event → ℕ) (xs ys : List Event) → event_sum w (xs ++ ys) ≡ event_sum w xs + event_sum w ys
unfolding event_sum
event_append w [] ys = omega arith
event_append w (x ∷ xs) ys = omega (arith, event_append w xs ys)

-- Each of the totals grows by the sum of what the events add to it.
pub tally_part :
    (p : Totals → ℕ) →
    ((a b : Totals) → p (plus_totals a b) ≡ p a + p b) →
    (cat : Catalog) (f : Figures) (es : List Event) →
    p (fold (tally cat) f es).totals ≡ p f.totals + event_sum (λ e. p (adds cat e)) es
unfolding fold event_sum
tally_part p plus cat f [] = omega arith
tally_part p plus cat f (e ∷ es) = omega (arith, tally_part p plus cat (tally cat f e) es, plus f.totals (adds cat e))

-- totals added up: to nothing, and in any order of the sums
plus_nothing : (a : Totals) → plus_totals a (totals_of 0 0 0 0 0 0 0 0 0 0 0) ≡ a
plus_nothing a = simp add-zero

nothing_plus : (a : Totals) → plus_totals (totals_of 0 0 0 0 0 0 0 0 0 0 0) a ≡ a
nothing_plus a = simp zero-add

plus_assoc : (a b c : Totals) → plus_totals (plus_totals a b) c ≡ plus_totals a (plus_totals b c)
plus_assoc a b c = simp add_assoc

-- The totals grow by what the events add up to.
pub tally_paid : (cat : Catalog) (f : Figures) (es : List Event) → (fold (tally cat) f es).totals ≡ plus_totals f.totals (paid cat es)
unfolding fold paid
tally_paid cat f [] = sym (plus_nothing f.totals)
tally_paid cat f (e ∷ es) = tally_paid cat (tally cat f e) es ∙ plus_assoc f.totals (adds cat e) (paid cat es)

-- What two lists of events add up to is added up.
pub paid_append : (cat : Catalog) (xs ys : List Event) → paid cat (xs ++ ys) ≡ plus_totals (paid cat xs) (paid cat ys)
unfolding paid
paid_append cat [] ys = sym (nothing_plus (paid cat ys))
paid_append cat (x ∷ xs) ys = ap (plus_totals (adds cat x)) (paid_append cat xs ys) ∙ sym (plus_assoc (adds cat x) (paid cat xs) (paid cat ys))

-- the writebacks of a flush, added up
pub write_backs_sum :
    (w : Event → ℕ) (n : ℕ) (is_due : ℕ → Bool) →
    event_sum w (write_backs n is_due) ≡ sum_to n (λ i. cond (is_due i) (w (wrote_back i)) 0)
unfolding write_backs sum_to
write_backs_sum w zero is_due = event_sum_none w
write_backs_sum w (suc n) is_due =
    omega (arith, event_append w (write_backs n is_due) (cond (is_due n) (wrote_back n ∷ []) []), write_backs_sum w n is_due, last (is_due n))
  where
    last : (t : Bool) → event_sum w (cond t (wrote_back n ∷ []) []) ≡ cond t (w (wrote_back n)) 0
    last true = event_sum_one w (wrote_back n)
    last false = event_sum_none w

-- a weight that evictions do not have adds nothing while room is made
evicting_sum :
    (w : Event → ℕ) →
    ((i : ℕ) (d : Bool) → w (evicted i d) ≡ 0) →
    (split : Split) (k blocks : ℕ) (x : State) (m : Moved) →
    Evicting split k blocks x m →
    event_sum w m.events ≡ 0
evicting_sum w none split k blocks x m (enough l) = event_sum_none w
evicting_sum w none split k blocks x m (more {m = n} over low next) =
    omega (
      arith,
      event_append w (evict split x).events n.events,
      event_sum_one w (evicted (victim x) (is_dirty (slot_at x (victim x)))),
      none (victim x) (is_dirty (slot_at x (victim x))),
      evicting_sum w none split k blocks (evict split x).state n next,
    )

pub room_sum :
    (w : Event → ℕ) →
    ((i : ℕ) (d : Bool) → w (evicted i d) ≡ 0) →
    (split : Split) (k i : ℕ) (x : State) (m : Moved) →
    RoomMade split k i x m →
    event_sum w m.events ≡ 0
room_sum w none split k i x m room = go (held (slot_at x i)) refl
  where
    go : (t : Bool) → held (slot_at x i) ≡ t → event_sum w m.events ≡ 0
    go true e = rw (room.stayed e) (event_sum_none w)
    go false e = evicting_sum w none split k (blocks_at x i) x m (room.ran e).1

-- what an event adds to the count of steps
abbrev pub steps_added : Catalog → Event → ℕ
steps_added cat e = (adds cat e).steps

pub no_step : (cat : Catalog) (i : ℕ) (d : Bool) → steps_added cat (evicted i d) ≡ 0
no_step cat i d = grind arith

found_step : (cat : Catalog) (x : State) (i : ℕ) → steps_added cat (found x i) ≡ 1
found_step cat x i = grind arith

-- a step counts as one step, and a flush by itself as none
flush_steps : (cat : Catalog) (x : State) → event_sum (steps_added cat) (flush x).events ≡ 0
unfolding flush
flush_steps cat x = write_backs_sum (steps_added cat) (size x) (λ i. is_dirty (slot_at x i)) ∙ sum_zero (size x) _ (λ i l. even (is_dirty (slot_at x i)))
  where
    even : (t : Bool) → ◌≡◌ {A = ℕ} (cond t 0 0) 0
    even true = refl
    even false = refl

-- a weight that evictions do not have adds nothing where an item is dropped
pub drop_events : (w : Event → ℕ) → ((i : ℕ) (d : Bool) → w (evicted i d) ≡ 0) → (x : State) (i : ℕ) → event_sum w (drop_item i x).events ≡ 0
unfolding drop_item
drop_events w none x i = go (held (slot_at x i))
  where
    go : (t : Bool) → event_sum w (cond t (evicted i (is_dirty (slot_at x i)) ∷ []) []) ≡ 0
    go true = event_sum_one w (evicted i (is_dirty (slot_at x i))) ∙ none i (is_dirty (slot_at x i))
    go false = event_sum_none w

step_steps : (split : Split) (k : ℕ) (s : Step) (x : State) (cat : Catalog) → SplitOk split → Served k x.catalog s → event_sum (steps_added cat) (step split k s x).events ≡ 1
unfolding step event_sum
step_steps split k (Read i) x cat ok served =
    let m : Moved = make_room split k i x in
    omega (
      arith,
      event_append (steps_added cat) m.events (found m.state i ∷ []),
      room_sum (steps_added cat) (no_step cat) split k i x m (make_room_lem split k i x ok served.0 served.1),
      found_step cat m.state i,
    )
step_steps split k (Write i minutes) x cat ok served =
    let m : Moved = make_room split k i x in
    omega (
      arith,
      event_append (steps_added cat) m.events (found m.state i ∷ wrote i minutes ∷ []),
      room_sum (steps_added cat) (no_step cat) split k i x m (make_room_lem split k i x ok served.0 served.1),
      found_step cat m.state i,
    )
step_steps split k Flush x cat ok served = omega (arith, flush_steps cat x)
step_steps split k (Arrive i b l w) x cat ok served = refl
step_steps split k (Retire i) x cat ok served =
    omega (arith, event_append (steps_added cat) (drop_item i x).events (retired i ∷ []), drop_events (steps_added cat) (no_step cat) x i)

-- where the rule stands in a season of capacity k and catalog cat, after t steps, with a split that is fit
pub record StandsAfter (k : ℕ) (cat : Catalog) (t : ℕ) (is_closed : Bool) (v : Standing) : Type 0 where
  pub capacity : v.k ≡ k
  pub catalog : v.state.catalog ≡ cat
  pub kept : Kept k v.state
  pub taken : v.figures.totals.steps ≡ t
  pub closed : v.closed ≡ is_closed
  pub fit : SplitOk v.split

pub opened_stands : (o : Start) → SplitOk o.split → CatalogOk o.catalog → StandsAfter o.k o.catalog 0 false (opened o)
opened_stands o ok good =
    record { capacity = refl; catalog = refl; kept = empty_kept o.k o.catalog good; taken = refl; closed = refl; fit = ok }

pub took_stands :
    (k : ℕ) (cat : Catalog) (t : ℕ) (v : Standing) (s : Step) →
    StandsAfter k cat t false v →
    Served k cat s →
    StandsAfter k (catalog_next cat s) (t + 1) false (took v s)
unfolding took
took_stands k cat t v s so served =
    let here : Served v.k v.state.catalog s = rw (so.capacity, so.catalog) served in
    record {
      capacity = so.capacity;
      catalog = step_catalog v.split v.k s v.state so.fit here ∙ ap (λ (c : Catalog). catalog_next c s) so.catalog;
      kept = rw so.capacity (step_kept v.split k s v.state so.fit so.kept (rw so.catalog served));
      taken =
          omega (
            arith,
            so.taken,
            tally_part (λ (a : Totals). a.steps) (λ a b. refl) v.state.catalog v.figures (step v.split v.k s v.state).events,
            step_steps v.split v.k s v.state v.state.catalog so.fit here,
          );
      closed = so.closed;
      fit = so.fit;
    }

pub closes_stands : (k : ℕ) (cat : Catalog) (t : ℕ) (v : Standing) → StandsAfter k cat t false v → StandsAfter k cat t true (closes v)
unfolding closes
closes_stands k cat t v so =
    record {
      capacity = so.capacity;
      catalog = flush_catalog v.state ∙ so.catalog;
      kept = flush_keeps k v.state so.kept;
      taken =
          omega (
            arith,
            so.taken,
            tally_part (λ (a : Totals). a.steps) (λ a b. refl) v.state.catalog v.figures (flush v.state).events,
            flush_steps v.state.catalog v.state,
          );
      closed = refl;
      fit = so.fit;
    }

-- What the rule keeps, for every log that the table lets through and every split in multiples of the blocks.
pub ran_stands :
    (o : Start) (steps : List Step) →
    SplitOk o.split →
    CatalogOk o.catalog →
    AllServed o.k o.catalog steps →
    StandsAfter o.k (catalog_after o.catalog steps) (length steps) false (ran o steps)
unfolding fold
ran_stands o steps ok good served =
    rw (let e : length steps ≡ 0 + length steps = omega arith in e) (from 0 o.catalog (opened o) steps (opened_stands o ok good) served)
  where
    k : ℕ
    k = o.k

    from :
        (t : ℕ) (cat : Catalog) (v : Standing) (steps : List Step) →
        StandsAfter k cat t false v →
        AllServed k cat steps →
        StandsAfter k (catalog_after cat steps) (t + length steps) false (fold took v steps)
    from t cat v [] so served = rw (let e : t + 0 ≡ t = omega arith in e) so
    from t cat v (s ∷ steps) so served =
        rw (let e : t + suc (length steps) ≡ t + 1 + length steps = omega arith in e)
        (from (t + 1) (catalog_next cat s) (took v s) steps (took_stands k cat t v s so served.0) served.1)
