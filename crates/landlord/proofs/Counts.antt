-- What the figures count, one event at a time: an event about an item of the catalog adds to the totals what it adds to that
-- item's line, and every claim on the figures by themselves is kept by each event. Assumes nothing.
use mathlib.Core.Path.{◌≡◌, refl, ap, ◌∙◌}
use mathlib.Core.Bool.{Bool, true, false, cond}
use mathlib.Core.List.{[], ◌∷◌}
use Prim.Native.Nat.{ℕ, zero, suc, ◌+◌, ◌*◌, ◌≤◌, ◌<◌}
use native.Mathlib.Numerals.{add-one}
use native.Mathlib.Omega.{arith}
use native.Mathlib.Decide.{ℕ_discrete}
use lib.ListN.{length, get_or-eq_default}
use lib.Dec.{eqb}
use borrow.Author.Tests.{eq-eqb, ne_eqb}
use Rattle.landlord.specs.Fold.{sum_to, fold}
use Rattle.landlord.specs.Catalog.{Catalog, CatalogOk, item_at}
use Rattle.landlord.specs.Inner.{ItemFacts}
use Rattle.landlord.specs.Rule.{Event, hit, loaded, evicted, wrote_back, wrote, flush_step, arrived, retired, write_backs}
use Rattle.landlord.specs.Figures.{Totals, Use, Figures, adds, usage, is_about, no_use, use_at, plus_use, lines_after, tally, nothing}
use Rattle.landlord.proofs.Ranges.{catalog_facts}
use Rattle.landlord.proofs.Sums.{sum_eq, sum_add, sum_zero, sum_change}
use Rattle.landlord.proofs.Folds.{tab_length, tab_at, fold_append}

-- an event is about an item below n, or about none; an arrival, about the next, is counted by itself (arrived_counted)
abbrev pub Names : ℕ → Event → Type 0
Names n (hit i) = i < n
Names n (loaded i) = i < n
Names n (evicted i was_dirty) = i < n
Names n (wrote_back i) = i < n
Names n (wrote i minutes) = i < n
Names n flush_step = Unit {0}
Names n (arrived i) = ⊥
Names n (retired i) = i < n

-- such an event adds no line
lines_same : (cat : Catalog) (e : Event) → Names (length cat) e → lines_after cat e ≡ length cat
lines_same cat e h = grind arith

-- a sum with a term at one number only
sum_one : (n v w : ℕ) → v < n → sum_to n (λ i. cond (eqb i v) w 0) ≡ w
sum_one n v w l =
    omega (
      arith,
      sum_change n v (λ i. cond (eqb i v) w 0) (λ i. 0) l (λ i b e. rw (ne_eqb i v e)),
      sum_zero n (λ i. 0) (λ i b. refl),
      ap (λ (t : Bool). cond t w 0) (eq-eqb v v refl),
    )

-- a part of an item's line that adds up: minutes, loads and writebacks are three of them
module _ (p : Use → ℕ) (plus : (a b : Use) → p (plus_use a b) ≡ p a + p b) (none : p no_use ≡ 0) where
  use_part :
      (cat : Catalog) (f : Figures) (e : Event) (i : ℕ) →
      i < lines_after cat e →
      p (use_at (tally cat f e) i) ≡ p (use_at f i) + cond (is_about i e) (p (usage e)) 0
  use_part cat f e i l =
      ap p (tab_at (lines_after cat e) _ i no_use l)
      ∙ plus (use_at f i) (cond (is_about i e) (usage e) no_use)
      ∙ ap (λ (z : ℕ). p (use_at f i) + z) (part (is_about i e))
    where
      part : (t : Bool) → p (cond t (usage e) no_use) ≡ cond t (p (usage e)) 0
      part true = refl
      part false = none

  about_sum : (n : ℕ) (e : Event) → Names n e → sum_to n (λ i. cond (is_about i e) (p (usage e)) 0) ≡ p (usage e)
  about_sum n (hit i) l = sum_one n i (p (usage (hit i))) l
  about_sum n (loaded i) l = sum_one n i (p (usage (loaded i))) l
  about_sum n (evicted i d) l = sum_one n i (p (usage (evicted i d))) l
  about_sum n (wrote_back i) l = sum_one n i (p (usage (wrote_back i))) l
  about_sum n (wrote i m) l = sum_one n i (p (usage (wrote i m))) l
  about_sum n flush_step l = omega (arith, none, sum_zero n (λ i. 0) (λ i b. refl))
  about_sum n (arrived i) l = absurd l
  about_sum n (retired i) l = sum_one n i (p (usage (retired i))) l

  -- the sum over all lines grows by what the event adds to one of them
  uses_part :
      (cat : Catalog) (f : Figures) (e : Event) →
      Names (length cat) e →
      sum_to (length cat) (λ i. p (use_at (tally cat f e) i)) ≡ sum_to (length cat) (λ i. p (use_at f i)) + p (usage e)
  uses_part cat f e l =
      omega (
        arith,
        sum_eq (length cat) (λ i. p (use_at (tally cat f e) i)) (λ i. p (use_at f i) + cond (is_about i e) (p (usage e)) 0)
            (λ i b. use_part cat f e i (rw (lines_same cat e l) b)),
        sum_add (length cat) (λ i. p (use_at f i)) (λ i. cond (is_about i e) (p (usage e)) 0),
        about_sum (length cat) e l,
      )

-- what the table of specs/Figures.antt adds for one event is in proportion: to the totals, and to the line of the item
record Fair (a : Totals) (u : Use) : Type 0 where
  steps : a.hits + a.loads + a.flushes + a.arrivals + a.retirements ≡ a.steps
  dirty_evictions : a.dirty_evictions ≤ a.evictions
  dirty_written : a.dirty_evictions ≤ a.writebacks
  load_cost : a.load_cost ≤ 65535 * a.loads
  write_cost : a.write_cost ≤ 65535 * a.writebacks
  loads : u.loads ≡ a.loads
  writebacks : u.writebacks ≡ a.writebacks

fair : (cat : Catalog) (e : Event) → CatalogOk cat → Names (length cat) e → Fair (adds cat e) (usage e)
fair cat (hit i) good l = omega arith
fair cat (loaded i) good l = let ok : ItemFacts (item_at cat i) = (catalog_facts cat good).each i l in omega arith
fair cat (evicted i true) good l = let ok : ItemFacts (item_at cat i) = (catalog_facts cat good).each i l in omega arith
fair cat (evicted i false) good l = omega arith
fair cat (wrote_back i) good l = let ok : ItemFacts (item_at cat i) = (catalog_facts cat good).each i l in omega arith
fair cat (wrote i m) good l = omega arith
fair cat flush_step good l = omega arith
fair cat (arrived i) good l = absurd l
fair cat (retired i) good l = omega arith

-- The claims of `StandingOk` (specs/Valid.antt) on the figures by themselves, for a catalog of n items, g of them gone, t steps, h items
-- held, d of them dirty, and no line of more than `top` minutes. A step's events are counted one by one, so `top` is not 1,440 × t here:
-- between a write's first event and its second the step is counted and its minutes are not.
pub record CountsKept (n g t h d top : ℕ) (f : Figures) : Type 0 where
  pub steps : f.totals.hits + f.totals.loads + f.totals.flushes + f.totals.arrivals + f.totals.retirements ≡ t
  pub retirements : f.totals.retirements ≡ g
  pub taken : f.totals.steps ≡ t
  pub evictions : f.totals.evictions + h ≡ f.totals.loads
  pub dirty_evictions : f.totals.dirty_evictions ≤ f.totals.evictions
  pub dirty_written : f.totals.dirty_evictions ≤ f.totals.writebacks
  pub writebacks : f.totals.writebacks + d ≤ t
  pub load_cost : f.totals.load_cost ≤ 65535 * f.totals.loads
  pub write_cost : f.totals.write_cost ≤ 65535 * f.totals.writebacks
  pub uses : length f.uses ≡ n
  pub loads_add : sum_to n (λ i. (use_at f i).loads) ≡ f.totals.loads
  pub writebacks_add : sum_to n (λ i. (use_at f i).writebacks) ≡ f.totals.writebacks
  pub minutes : (i : ℕ) → i < n → (use_at f i).minutes ≤ top

pub nothing_counted : (cat : Catalog) → CountsKept (length cat) 0 0 0 0 0 (nothing cat)
nothing_counted cat =
    record {
      steps = refl;
      retirements = refl;
      taken = refl;
      evictions = refl;
      dirty_evictions = omega arith;
      dirty_written = omega arith;
      writebacks = omega arith;
      load_cost = omega arith;
      write_cost = omega arith;
      uses = tab_length (length cat) _;
      loads_add = sum_zero (length cat) _ (λ i l. ap (λ (u : Use). u.loads) (line i l));
      writebacks_add = sum_zero (length cat) _ (λ i l. ap (λ (u : Use). u.writebacks) (line i l));
      minutes = λ i l. omega (arith, ap (λ (u : Use). u.minutes) (line i l));
    }
  where
    line : (i : ℕ) → i < length cat → use_at (nothing cat) i ≡ no_use
    line i l = tab_at (length cat) (λ j. no_use) i no_use l

-- one event more, and how many are then gone, held, and dirty
pub tallied :
    (cat : Catalog) (f : Figures) (e : Event) (g t h d top g' t' h' d' top' : ℕ) →
    CatalogOk cat →
    Names (length cat) e →
    CountsKept (length cat) g t h d top f →
    g + (adds cat e).retirements ≡ g' →
    t + (adds cat e).steps ≡ t' →
    (adds cat e).evictions + h' ≡ h + (adds cat e).loads →
    (adds cat e).writebacks + d' ≤ d + (adds cat e).steps →
    top + (usage e).minutes ≤ top' →
    CountsKept (length cat) g' t' h' d' top' (tally cat f e)
tallied cat f e g t h d top g' t' h' d' top' good l o gone step held dirty line =
    let a : Fair (adds cat e) (usage e) = fair cat e good l in
    record {
      steps = omega arith;
      retirements = omega arith;
      taken = omega arith;
      evictions = omega arith;
      dirty_evictions = omega arith;
      dirty_written = omega arith;
      writebacks = omega arith;
      load_cost = omega arith;
      write_cost = omega arith;
      uses = tab_length (lines_after cat e) _ ∙ lines_same cat e l;
      loads_add = omega (arith, uses_part (λ (u : Use). u.loads) (λ x y. refl) refl cat f e l);
      writebacks_add = omega (arith, uses_part (λ (u : Use). u.writebacks) (λ x y. refl) refl cat f e l);
      minutes =
          λ i b. omega (
            arith,
            use_part (λ (u : Use). u.minutes) (λ x y. refl) refl cat f e i (rw (lines_same cat e l) b),
            o.minutes i b,
            most (is_about i e) (usage e).minutes,
          );
    }
  where
    most : (t : Bool) (w : ℕ) → cond t w 0 ≤ w
    most true w = omega arith
    most false w = omega arith

-- an eviction, of a dirty item or not
pub evicted_counted :
    (cat : Catalog) (f : Figures) (i : ℕ) (was_dirty : Bool) (g t h d top h' d' : ℕ) →
    CatalogOk cat →
    i < length cat →
    CountsKept (length cat) g t h d top f →
    h' + 1 ≡ h →
    d' + cond was_dirty 1 0 ≡ d →
    CountsKept (length cat) g t h' d' top (tally cat f (evicted i was_dirty))
evicted_counted cat f i true g t h d top h' d' good l o held dirty =
    tallied cat f (evicted i true) g t h d top g t h' d' top good l o (omega arith) (omega arith) (omega arith) (omega arith) (omega arith)
evicted_counted cat f i false g t h d top h' d' good l o held dirty =
    tallied cat f (evicted i false) g t h d top g t h' d' top good l o (omega arith) (omega arith) (omega arith) (omega arith) (omega arith)

-- a hit or a load; a step makes at most one item dirty
pub found_counted :
    (cat : Catalog) (f : Figures) (i : ℕ) (was_held : Bool) (g t h d top h' d' top' : ℕ) →
    CatalogOk cat →
    i < length cat →
    CountsKept (length cat) g t h d top f →
    h' + cond was_held 1 0 ≡ h + 1 →
    d' ≤ d + 1 →
    top ≤ top' →
    CountsKept (length cat) g (t + 1) h' d' top' (tally cat f (cond was_held (hit i) (loaded i)))
found_counted cat f i true g t h d top h' d' top' good l o held dirty line =
    tallied cat f (hit i) g t h d top g (t + 1) h' d' top' good l o (omega arith) (omega arith) (omega arith) (omega arith) (omega arith)
found_counted cat f i false g t h d top h' d' top' good l o held dirty line =
    tallied cat f (loaded i) g t h d top g (t + 1) h' d' top' good l o (omega arith) (omega arith) (omega arith) (omega arith) (omega arith)

-- the writebacks of a flush: each takes one from the dirty ones
pub flush_counted :
    (cat : Catalog) (n : ℕ) (is_due : ℕ → Bool) (f : Figures) (g t h d top : ℕ) →
    CatalogOk cat →
    n ≤ length cat →
    CountsKept (length cat) g t h (d + sum_to n (λ i. cond (is_due i) 1 0)) top f →
    CountsKept (length cat) g t h d top (fold (tally cat) f (write_backs n is_due))
unfolding fold write_backs sum_to
flush_counted cat zero is_due f g t h d top good l o = rw (let e : d + 0 ≡ d = omega arith in e) at o
flush_counted cat (suc n) is_due f g t h d top good l o =
    let due : ℕ = cond (is_due n) 1 0 in
    let e : d + (sum_to n (λ i. cond (is_due i) 1 0) + due) ≡ d + due + sum_to n (λ i. cond (is_due i) 1 0) = omega arith in
    rw fold_append (last (is_due n) (flush_counted cat n is_due f g t h (d + due) top good (omega arith) (rw e at o)))
  where
    last :
        (due : Bool) {q : Figures} →
        CountsKept (length cat) g t h (d + cond due 1 0) top q →
        CountsKept (length cat) g t h d top (fold (tally cat) q (cond due (wrote_back n ∷ []) []))
    last true {q} o =
        tallied cat q (wrote_back n) g t h (d + 1) top g t h d top good (omega arith) o (omega arith) (omega arith) (omega arith) (omega arith) (omega arith)
    last false {q} o = rw (let e : d + 0 ≡ d = omega arith in e) at o

-- an arrival: a step, and one line more, with nothing in it
pub arrived_counted :
    (cat : Catalog) (f : Figures) (i g t h d top top' : ℕ) →
    CountsKept (length cat) g t h d top f →
    top ≤ top' →
    CountsKept (suc (length cat)) g (t + 1) h d top' (tally cat f (arrived i))
unfolding sum_to
arrived_counted cat f i g t h d top top' o up =
    record {
      steps = omega (arith, o.steps);
      retirements = omega (arith, o.retirements);
      taken = omega (arith, o.taken);
      evictions = omega (arith, o.evictions);
      dirty_evictions = omega (arith, o.dirty_evictions);
      dirty_written = omega (arith, o.dirty_written);
      writebacks = omega (arith, o.writebacks);
      load_cost = omega (arith, o.load_cost);
      write_cost = omega (arith, o.write_cost);
      uses = tab_length (lines_after cat (arrived i)) _ ∙ add-one (length cat);
      loads_add = omega (arith, o.loads_add, total (λ (u : Use). u.loads) (λ x y. refl) refl refl);
      writebacks_add = omega (arith, o.writebacks_add, total (λ (u : Use). u.writebacks) (λ x y. refl) refl refl);
      minutes = λ j b. line j b (ℕ_discrete j (length cat));
    }
  where
    past : use_at f (length cat) ≡ no_use
    past = get_or-eq_default f.uses no_use (omega (arith, o.uses))

    even : (t : Bool) → ◌≡◌ {A = ℕ} (cond t 0 0) 0
    even true = refl
    even false = refl

    part :
        (p : Use → ℕ) →
        ((a b : Use) → p (plus_use a b) ≡ p a + p b) →
        p no_use ≡ 0 →
        p (usage (arrived i)) ≡ 0 →
        (j : ℕ) →
        j < suc (length cat) →
        p (use_at (tally cat f (arrived i)) j) ≡ p (use_at f j)
    part p plus none nil j b =
        omega (arith, use_part p plus none cat f (arrived i) j (omega arith), ap (λ (n : ℕ). cond (is_about j (arrived i)) n 0) nil, even (eqb j i))

    total :
        (p : Use → ℕ) →
        ((a b : Use) → p (plus_use a b) ≡ p a + p b) →
        p no_use ≡ 0 →
        p (usage (arrived i)) ≡ 0 →
        sum_to (suc (length cat)) (λ j. p (use_at (tally cat f (arrived i)) j)) ≡ sum_to (length cat) (λ j. p (use_at f j))
    total p plus none nil =
        omega (
          arith,
          sum_eq (length cat) (λ j. p (use_at (tally cat f (arrived i)) j)) (λ j. p (use_at f j)) (λ j b. part p plus none nil j (omega arith)),
          part p plus none nil (length cat) (omega arith),
          ap p past,
          none,
        )

    line : (j : ℕ) → j < suc (length cat) → Dec (j ≡ length cat) → (use_at (tally cat f (arrived i)) j).minutes ≤ top'
    line j b (yes e) =
        omega (
          arith,
          part (λ (u : Use). u.minutes) (λ x y. refl) refl refl j b,
          ap (λ (z : ℕ). (use_at f z).minutes) e,
          ap (λ (u : Use). u.minutes) past,
        )
    line j b (no e) = omega (arith, part (λ (u : Use). u.minutes) (λ x y. refl) refl refl j b, o.minutes j (omega arith))
