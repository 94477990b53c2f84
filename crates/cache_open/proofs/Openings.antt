-- Laws of an opening in lent bytes: its tests are the table's, the items are stored, and the rule starts. Assumes nothing.
use mathlib.Core.Path.{◌≡◌, refl, sym, ap, subst, ◌∙◌}
use mathlib.Core.Logic.{◌≢◌}
use mathlib.Core.Bool.{Bool, true, false, cond, ◌&&◌}
use mathlib.Core.List.{List}
use Prim.Native.Nat.{ℕ, ◌+◌, ◌/◌, ◌%◌, ◌≤◌, ◌<◌}
use native.Mathlib.Decide.{ℕ_discrete}
use native.Mathlib.Omega.{arith}
use lib.Dec.{eqb, leb}
use lib.ListN.{length, set, replicate, get_or-replicate, length-replicate}
use borrow.Author.Tests.{eq-eqb, ne_eqb, le-leb, lt-leb, eqb-true, leb-true}
use Rattle.types.specs.declared.Deduction.{Deduction}
use Rattle.types.specs.Types.{Told, deduction_of, telling}
use Rattle.landlord.specs.Catalog.{CatalogOk, none_left}
use Rattle.landlord.specs.Slot.{split_of}
use Rattle.landlord.specs.Valid.{StandingOk}
use Rattle.landlord.specs.Calls.{Opening, opening_refusal}
use Rattle.landlord.specs.Inner.{CapacityFacts, OpeningRanges, OpeningOk}
use Rattle.landlord.proofs.Valid.{ok_starts}
use Rattle.landlord.proofs.Ranges.{capacity_facts, capacity_ok, listed_none_left, opening_taken, opening_accepts, range_refused, rule_refused}
use Rattle.queue.specs.Machine.{standing, lazy_at_opening, lazy_starts_at}
use Rattle.queue.proofs.Logs.{opening_ok, opening_stands}
use Rattle.fields.specs.Inner.{Below}
use Rattle.catalog_bytes.specs.Catalogs.{item_in, catalog_in}
use Rattle.catalog_bytes.proofs.Laws.{load_lt, write_lt}
use Rattle.cache_state.specs.Cache.{Cache, lazy, EmptyPlace}
use Rattle.cache_state.proofs.Tells.{empty_heap}
use Rattle.cache_state.specs.InnerBecomes.{Becomes}
use Rattle.cache_state.specs.InnerWith.{with_capacity, with_count, with_rule, with_catalog, with_blocks, with_item_load_cost, with_item_write_cost}
use Rattle.layout.specs.Layout.{state_bytes, cache_of, ValidBytes}
use Rattle.layout.specs.Inner.{Stands, BecomesAt, cleared}
use Rattle.layout.proofs.Places.{stands_as, stands_on, stands_become, becomes_valid, valid_reads, becomes_one}
use Rattle.layout.proofs.Rounds.{whole}
use Rattle.basis.specs.InnerStores.{store_to}
use Rattle.basis.proofs.Stores.{store_more, store_past, store_at}
use Rattle.cache_open.specs.Opening.{opening_in, opening_number, OpenedLent}
use Rattle.cache_open.specs.Inner.{BlocksOk, entered_of, Column}
use Rattle.cache_open.proofs.Blocks.{catalog_blocks, blocks_catalog}
use Rattle.cache_open.proofs.Empty.{empty_place, empty_becomes}

-- ---- the tests

-- lengths that are right
pub record Lengths (size : ℕ) (xs : List ℕ) : Type 0 where
  pub state : size ≡ state_bytes
  pub whole : length xs % 5 ≡ 0
  pub few : length xs ≤ 1280

-- an answer tells its number alone
pub tells : {n m : ℕ} → n ≡ m → telling n 0 0 ≡ telling m 0 0
tells e = ap (λ (n : ℕ). telling n 0 0) e

-- and so its number
pub number_told : {n m : ℕ} → telling n 0 0 ≡ telling m 0 0 → n ≡ m
number_told e = ap (λ (t : Told). t.number) e

module _ (size : ℕ) (o : Opening (List ℕ)) where
  abbrev xs : List ℕ
  xs = o.catalog

  pub wrong_size : size ≢ state_bytes → 17 ≡ opening_number size o
  unfolding opening_number
  wrong_size e = rw (ne_eqb size state_bytes e)

  pub ragged : size ≡ state_bytes → length xs % 5 ≢ 0 → 3 ≡ opening_number size o
  unfolding opening_number
  ragged e d = rw (eq-eqb size state_bytes e, ne_eqb (length xs % 5) 0 d)

  pub too_long : size ≡ state_bytes → length xs % 5 ≡ 0 → 1280 < length xs → 3 ≡ opening_number size o
  unfolding opening_number
  too_long e d l = rw (eq-eqb size state_bytes e, eq-eqb (length xs % 5) 0 d, lt-leb (length xs) 1280 l)

  pub asks : Lengths size xs → opening_number size o ≡ opening_refusal (opening_in o)
  unfolding opening_number
  asks s = rw (eq-eqb size state_bytes s.state, eq-eqb (length xs % 5) 0 s.whole, le-leb (length xs) 1280 s.few)

  pub no_capacity : Lengths size xs → (CapacityFacts o.k → ⊥) → 3 ≡ opening_number size o
  no_capacity s bad = range_refused (opening_in o) (λ f. bad (capacity_facts o.k f.capacity)) ∙ sym (asks s)

  -- the blocks of the catalog's items
  abbrev blocks : ℕ → ℕ
  blocks i = (item_in xs i).blocks

  pub blocks_refused : Lengths size xs → (BlocksOk (length xs / 5) blocks → ⊥) → 3 ≡ opening_number size o
  unfolding catalog_in
  blocks_refused s bad = range_refused (opening_in o) (λ f. bad (catalog_blocks (length xs / 5) (item_in xs) f.catalog)) ∙ sym (asks s)

  -- costs of two bytes are in range, so what is left is the rule's number
  module _ (s : Lengths size xs) (room : CapacityFacts o.k) (bytes : Below 256 xs) (ok : BlocksOk (length xs / 5) blocks) where
    good : CatalogOk (catalog_in xs)
    unfolding catalog_in
    good = blocks_catalog (length xs / 5) (item_in xs) (omega (arith, s.few)) ok (λ i. omega (arith, load_lt xs i bytes)) (λ i. omega (arith, write_lt xs i bytes))

    new : none_left (catalog_in xs) ≡ true
    unfolding catalog_in
    new = listed_none_left (length xs / 5) (λ i. (item_in xs i).blocks) (λ i. (item_in xs i).load) (λ i. (item_in xs i).write)

    fine : OpeningRanges (opening_in o)
    fine = record { capacity = capacity_ok o.k room; catalog = good; fresh = new }

    pub rule_odd : 1 < o.rule → 18 ≡ opening_number size o
    rule_odd l = rule_refused (opening_in o) fine (lt-leb o.rule 1 l) ∙ sym (asks s)

    pub all_taken : o.rule ≤ 1 → 0 ≡ opening_number size o
    all_taken l = sym (asks s ∙ opening_accepts (opening_in o) (record { ranges = fine; rule = le-leb o.rule 1 l }))

-- an opening that was not refused has passed them all
pub record Right (size : ℕ) (o : Opening (List ℕ)) : Type 0 where
  pub lengths : Lengths size o.catalog
  pub accepted : OpeningOk (opening_in o)

pub right : {size : ℕ} {o : Opening (List ℕ)} → 0 ≡ opening_number size o → Right size o
unfolding opening_number
right {size = size} {o = o} none = go (eqb size state_bytes) (eqb (length o.catalog % 5) 0) (leb (length o.catalog) 1280) refl refl refl (sym none)
  where
    go :
        (a b c : Bool) →
        eqb size state_bytes ≡ a →
        eqb (length o.catalog % 5) 0 ≡ b →
        leb (length o.catalog) 1280 ≡ c →
        cond a (cond (b && c) (opening_refusal (opening_in o)) 3) 17 ≡ 0 →
        Right size o
    go true true true p q r e =
        record {
          lengths = record { state = eqb-true size state_bytes p; whole = eqb-true (length o.catalog % 5) 0 q; few = leb-true (length o.catalog) 1280 r };
          accepted = opening_taken (opening_in o) e;
        }
    go true true false p q r e = absurd (let y : ◌≡◌ {A = ℕ} 3 0 = e in omega arith)
    go true false c p q r e = absurd (let y : ◌≡◌ {A = ℕ} 3 0 = e in omega arith)
    go false b c p q r e = absurd (let y : ◌≡◌ {A = ℕ} 17 0 = e in omega arith)

-- ---- the items stored

pub entered_none : {b : List ℕ} (xs : List ℕ) → Stands b (cache_of b) → Stands b (entered_of (cache_of b) xs 0)
unfolding store_to
entered_none xs s = s

pub entered_more :
    {b one two after : List ℕ} (c : Cache) (xs : List ℕ) (i : ℕ) {x y z : ℕ} →
    Stands b (entered_of c xs i) →
    x ≡ (item_in xs i).blocks →
    y ≡ (item_in xs i).load →
    z ≡ (item_in xs i).write →
    Stands one (with_blocks (cache_of b) i x) →
    Stands two (with_item_load_cost (cache_of one) i y) →
    Stands after (with_item_write_cost (cache_of two) i z) →
    Stands after (entered_of c xs (i + 1))
entered_more c xs i s ex ey ez p q r =
    stands_as
    (stands_on (λ d v. with_item_write_cost d i v) r (stands_on (λ d v. with_item_load_cost d i v) q (stands_on (λ d v. with_blocks d i v) p s)))
    (λ j. with_catalog c c.k c.n (stored (λ n. (item_in xs n).blocks) c.blocks ex j) (stored (λ n. (item_in xs n).load) c.load ey j) (stored (λ n. (item_in xs n).write) c.write ez j) c.left)
  where
    stored : (f : ℕ → ℕ) (l : List ℕ) {v : ℕ} → v ≡ f i → set (store_to i f l) i v ≡ store_to (i + 1) f l
    stored f l e = ap (set (store_to i f l) i) e ∙ sym (store_more i f l)

-- ---- the whole opening

-- capacity, count, rule and items stored in a cleared state
abbrev opened_of : ℕ → Deduction → List ℕ → Cache
opened_of k r xs = entered_of (with_rule (with_count (with_capacity cleared k) (length xs / 5)) r) xs (length xs / 5)

stored_column : (n : ℕ) (f : ℕ → ℕ) → n ≤ 256 → Column n f (store_to n f (replicate 256 0))
stored_column n f few =
    record {
      front = λ i l. store_at n f (replicate 256 0) i (omega (arith, length-replicate {A = ℕ} 256 0, few)) l;
      rest = λ i m u. store_past n f (replicate 256 0) i m ∙ get_or-replicate 256 i 0 0 u;
    }

opened_becomes : (k : ℕ) (r : Deduction) (xs : List ℕ) → length xs / 5 ≤ 256 → Becomes (lazy_at_opening (split_of r) k (catalog_in xs)) (opened_of k r xs)
unfolding catalog_in
opened_becomes k r xs few =
    empty_becomes k (length xs / 5) (item_in xs) false r _ _ _ few (stored_column (length xs / 5) (λ i. (item_in xs i).blocks) few)
    (stored_column (length xs / 5) (λ i. (item_in xs i).load) few) (stored_column (length xs / 5) (λ i. (item_in xs i).write) few) (λ i. refl)

-- the bytes were cleared and capacity, count, rule and items stored
pub opening_done :
    (b : List ℕ) (o : Opening (List ℕ)) {r : Deduction} {one two three four after : List ℕ} →
    0 ≡ opening_number (length b) o →
    Stands one cleared →
    Stands two (with_capacity (cache_of one) o.k) →
    Stands three (with_count (cache_of two) (length o.catalog / 5)) →
    r ≡ deduction_of o.rule →
    Stands four (with_rule (cache_of three) r) →
    Stands after (entered_of (cache_of four) o.catalog (length o.catalog / 5)) →
    OpenedLent b o 0 after
opening_done b o {after = after} e p q u is t s =
    let k = o.k in
    let xs = o.catalog in
    let rule = o.rule in
    let split = split_of (deduction_of rule) in
    let ranges = right e in
    let so : Stands after (opened_of k (deduction_of rule) xs) =
    stands_as (stands_on (λ d v. entered_of d xs v) s (stands_on with_rule t (stands_on with_count u (stands_on with_capacity q p)))) (ap (λ (d : Deduction). opened_of k d xs) is)
    in
    let stood = stands_become so (opened_becomes k (deduction_of rule) xs (omega (arith, ranges.lengths.few))) in
    record {
      answer = e;
      valid =
          λ w.
          becomes_valid (opening_ok split k (catalog_in xs) ranges.accepted.ranges.catalog)
          (subst StandingOk (sym (opening_stands split k (catalog_in xs))) (ok_starts (opening_in o) ranges.accepted)) stood;
      stands = λ w. ap standing stood.cache.stands ∙ opening_stands split k (catalog_in xs);
      lazy = λ w. stood.cache.stands;
      empty = λ w i l. subst (λ (c : Cache). EmptyPlace c i) (sym so.cache) (empty_place k (length xs / 5) _ _ _ false (deduction_of rule) i l);
      refused = λ w. absurd (w refl);
    }

-- An opening leaves no choice: one answer, and one list of bytes, since a heap of nothing has one arrangement.
pub opening_one :
    (b d e : List ℕ) (o : Opening (List ℕ)) (n m : ℕ) →
    Below 256 d →
    Below 256 e →
    OpenedLent b o n d →
    OpenedLent b o m e →
    (n ≡ m) × (d ≡ e)
opening_one b d e o n m hd he p q = (same, go (ℕ_discrete n 0))
  where
    same : n ≡ m
    same = p.answer ∙ sym q.answer

    becomes : (x : List ℕ) → ValidBytes x → lazy (cache_of x) ≡ lazy_starts_at (opening_in o) → BecomesAt (lazy_starts_at (opening_in o)) x
    becomes x ok is = record { reads = valid_reads ok; cache = record { stands = is; fields = ok.cache.fields } }

    unheld : (x : List ℕ) → ValidBytes x → ((i : ℕ) → i < 256 → EmptyPlace (cache_of x) i) → (cache_of x).heap ≡ replicate 256 0
    unheld x ok empty = empty_heap (cache_of x) ok.cache.fields (λ i u. (empty i u).held) (whole x).heap

    go : Dec (n ≡ 0) → d ≡ e
    go (yes z) =
        let y : m ≡ 0 = sym same ∙ z in
        becomes_one (lazy_starts_at (opening_in o)) d e hd he (becomes d (p.valid z) (p.lazy z)) (becomes e (q.valid y) (q.lazy y))
        (unheld d (p.valid z) (p.empty z) ∙ sym (unheld e (q.valid y) (q.empty y)))
    go (no z) = p.refused z ∙ sym (q.refused (λ y. z (same ∙ y)))
