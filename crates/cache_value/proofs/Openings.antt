-- Laws of an opening by value: its arrays as a catalog in bytes, the opening in place of that, and the empty cache that is handed back.
-- Assumes nothing.
use mathlib.Core.Path.{◌≡◌, refl, sym, ap, subst, ◌∙◌}
use mathlib.Core.Logic.{◌≢◌}
use mathlib.Core.Bool.{Bool, true, false, cond}
use mathlib.Core.List.{List, [], ◌∷◌, ◌++◌}
use Prim.Native.Nat.{ℕ, ◌+◌, ◌*◌, ◌≤◌, ◌<◌}
use native.Mathlib.Numerals.{add-one}
use native.Mathlib.Omega.{arith}
use lib.Dec.{eqb}
use lib.ListN.{length, take, get_or, replicate, get_or-replicate}
use lib.Seq.{sets, length-take-le}
use borrow.Author.Tests.{ne_eqb}
use Rattle.types.specs.declared.Deduction.{Deduction}
use Rattle.types.specs.declared.Deduction.TheVariants.{WriteFirst}
use Rattle.types.specs.Types.{deduction_of}
use Rattle.landlord.specs.Fold.{tab_from, fold}
use Rattle.landlord.specs.Catalog.{Catalog, Item, item_at, no_item, listed, none_left, CapacityOk, CatalogOk, all_in_range, catalog_in_range}
use Rattle.landlord.specs.Slot.{write_first, split_of}
use Rattle.landlord.specs.Rule.{flush, write_backs}
use Rattle.landlord.specs.Figures.{Standing, start, opened, closes}
use Rattle.landlord.specs.Calls.{Opening, opening, opening_refusal, starts_at}
use Rattle.landlord.specs.Valid.{StandingOk}
use Rattle.landlord.proofs.Folds.{tab_length, tab_at, tab_more}
use Rattle.landlord.proofs.Valid.{ok_opened, ok_closes}
use Rattle.landlord.proofs.Ranges.{range_refused}
use Rattle.queue.specs.Machine.{LazyStanding, LazyOk, standing, lazy_at_opening, lazy_starts_at}
use Rattle.queue.proofs.Logs.{opening_ok, opening_stands}
use Rattle.catalog_bytes.specs.Inner.{catalog_of_first, item_bytes}
use Rattle.catalog_bytes.proofs.Laws.{none_first, one_more}
use Rattle.cache_state.specs.Cache.{lazy, view, Valid, EmptyPlace, Blank}
use Rattle.cache_state.specs.InnerView.{item_of}
use Rattle.cache_state.specs.InnerBecomes.{Becomes}
use Rattle.cache_state.specs.Cache as records
use Rattle.cache_state.proofs.Views.{size_is, item_is}
use Rattle.layout.specs.Layout.{state_bytes, cache_of}
use Rattle.cache_open.specs.Opening.{OpenedLent}
use Rattle.cache_open.specs.Inner.{Column, empty_with}
use Rattle.cache_open.proofs.Blocks.{catalog_few}
use Rattle.cache_open.proofs.Empty.{empty_place, empty_becomes}
use Rattle.cache_open.proofs.Openings.{asks}
use Rattle.cache_value.specs.declared.Cache.{Cache}
use Rattle.cache_value.specs.Contract.{record_of, by_value, catalog_from, refused_opening, refused_lazy}
use Rattle.cache_value.specs.Inner.{nothing_opened, Opened}

-- where an opening stands, by the number of its answer
abbrev pub at_opening : Opening Catalog → ℕ → Standing
at_opening o number = cond (eqb number 0) (starts_at o) refused_opening

abbrev pub lazy_opened : Opening Catalog → ℕ → LazyStanding
lazy_opened o number = cond (eqb number 0) (lazy_starts_at o) refused_lazy

-- the rule stands where that stands for
refused_stands : standing refused_lazy ≡ refused_opening
unfolding tab_from
refused_stands = refl

opened_stands : (o : Opening Catalog) (number : ℕ) → standing (lazy_opened o number) ≡ at_opening o number
opened_stands o number = go (eqb number 0)
  where
    go :
        (t : Bool) →
        standing (cond t (lazy_starts_at o) refused_lazy)
        ≡ cond t (starts_at o) refused_opening
    go true = opening_stands (split_of (deduction_of o.rule)) o.k o.catalog
    go false = refused_stands

-- a struct that stands there in order, empty in all its places
stood :
    (o : Opening Catalog) (number : ℕ) (c : Cache) {k n : ℕ} {blocks load write : List ℕ} {is_closed : Bool} {r : Deduction} →
    number ≡ opening_refusal o →
    LazyOk (lazy_opened o number) →
    StandingOk (at_opening o number) →
    Becomes (lazy_opened o number) (empty_with k n blocks load write is_closed r) →
    record_of c ≡ empty_with k n blocks load write is_closed r →
    Opened o number c
stood o number c {k = k} {n = n} {blocks = blocks} {load = load} {write = write} {is_closed = is_closed} {r = r} asked fit ok h e =
    let so : Becomes (lazy_opened o number) (record_of c) = subst (Becomes (lazy_opened o number)) (sym e) h in
    let at : by_value.view c ≡ at_opening o number = ap standing so.stands ∙ opened_stands o number in
    record {
      answer = asked;
      valid = record { fields = so.fields; lazy = subst LazyOk (sym so.stands) fit; standing = subst StandingOk (sym at) ok };
      stands = at;
      lazy = so.stands;
      empty = λ i l. subst (λ (z : records.Cache). EmptyPlace z i) (sym e) (empty_place k n blocks load write is_closed r i l);
    }

-- a closed cache of 1 block with no items is in order
refused_ok : StandingOk refused_opening
refused_ok = unfold closes flush write_backs tab_from fold in ok_closes (opened (start write_first 1 [])) (ok_opened (start write_first 1 []) size none (unfold none_left in refl))
  where
    size : CapacityOk 1
    size = refl

    none : CatalogOk []
    none = unfold catalog_in_range all_in_range in refl

refused_fits : LazyOk refused_lazy
refused_fits = let l = opening_ok write_first 1 [] (unfold catalog_in_range all_in_range in refl) in record { catalog = l.catalog; queue = l.queue; level = l.level }

no_column : (f : ℕ → ℕ) → Column 0 f (replicate 256 0)
no_column f = record { front = λ i l. absurd (let z : i < 0 = l in omega arith); rest = λ i l u. get_or-replicate 256 i 0 0 u }

module _ (k rule n : ℕ) (blocks load write : List ℕ) where
  abbrev cat : Catalog
  cat = catalog_from n blocks load write

  abbrev asked : Opening Catalog
  asked = opening k rule cat

  abbrev item : ℕ → Item
  item i = listed (get_or blocks i 0) (get_or load i 0) (get_or write i 0)

  -- refused with a number that the table gives
  refused_with :
      (number : ℕ) (c : Cache) →
      number ≡ opening_refusal asked →
      eqb number 0 ≡ false →
      record_of c ≡ nothing_opened →
      Opened asked number c
  unfolding tab_from
  refused_with number c same some e =
      stood asked number c same (rw some refused_fits) (rw some refused_ok)
      (rw some
      (empty_becomes 1 0 item true WriteFirst (replicate 256 0) (replicate 256 0) (replicate 256 0) (omega arith) (no_column (λ i. (item i).blocks)) (no_column (λ i. (item i).load)) (no_column (λ i. (item i).write)) (λ i. refl)))
      e

  -- more items than there are places are out of range
  pub open_many : (c : Cache) → 256 < n → record_of c ≡ nothing_opened → Opened asked 3 c
  unfolding catalog_from
  open_many c many e =
      refused_with 3 c (range_refused asked (λ f. omega (arith, catalog_few n item f.catalog))) refl e

  -- the opening in place, of the same catalog in bytes
  module _ (b xs : List ℕ) {number : ℕ} {after : List ℕ} (few : n ≤ 256) (size : length b ≡ state_bytes) (long : length xs ≡ 1280) (same : catalog_of_first n xs ≡ cat) (h : OpenedLent b (opening k rule (take (5 * n) xs)) number after) where
    table : number ≡ opening_refusal asked
    table =
        let items : length (take (5 * n) xs) ≡ 5 * n = length-take-le (5 * n) xs (omega arith) in
        h.answer
        ∙ asks (length b) (opening k rule (take (5 * n) xs)) (record { state = size; whole = omega arith; few = omega arith })
        ∙ ap (λ (d : Catalog). opening_refusal (opening k rule d)) same

    pub open_refused : (c : Cache) → number ≢ 0 → record_of c ≡ nothing_opened → Opened asked number c
    open_refused c some e = refused_with number c table (ne_eqb number 0 some) e

    -- what the opening left in the bytes, read as a struct
    pub open_stored : (d : Cache) → number ≡ 0 → record_of d ≡ cache_of after → Opened asked 0 d
    open_stored d none read =
        record {
          answer = sym none ∙ table;
          valid = subst Valid (sym read) (h.valid none).cache;
          stands = ap view read ∙ h.stands none ∙ ap (λ (x : Catalog). starts_at (opening k rule x)) same;
          lazy = ap lazy read ∙ h.lazy none ∙ ap (λ (x : Catalog). lazy_at_opening (split_of (deduction_of rule)) k x) same;
          empty = λ i l. subst (λ (z : records.Cache). EmptyPlace z i) (sym read) (h.empty none i l);
        }

    -- its blocks and costs are those of the items, and 0 past them
    module _ (d : Cache) (none : number ≡ 0) (read : record_of d ≡ cache_of after) where
      there : Opened asked 0 d
      there = open_stored d none read

      count : d.n ≡ n
      unfolding catalog_from
      count = sym (size_is (record_of d)) ∙ ap (λ (v : Standing). length v.state.catalog) there.stands ∙ tab_length n item

      at : (i : ℕ) → i < n → item_of (record_of d) i ≡ item i
      unfolding catalog_from
      at i l = sym (item_is (record_of d) i (omega (arith, count))) ∙ ap (λ (v : Standing). item_at v.state.catalog i) there.stands ∙ tab_at n item i no_item l

      past : (i : ℕ) → n ≤ i → i < 256 → Blank (record_of d) i
      past i m u = there.valid.fields.past i (omega (arith, count)) u

      -- so the empty cache with these stands where the rule starts
      pub open_taken : {r : Deduction} (c : Cache) → r ≡ deduction_of rule → record_of c ≡ empty_with k n d.blocks d.load d.write false r → Opened asked 0 c
      unfolding catalog_from
      open_taken c is e =
          stood asked 0 c there.answer (subst LazyOk there.lazy there.valid.lazy) (subst StandingOk there.stands there.valid.standing)
          (empty_becomes k n item false (deduction_of rule) d.blocks d.load d.write few
          (record { front = λ i l. ap (λ (x : Item). x.blocks) (at i l); rest = λ i m u. (past i m u).blocks })
          (record { front = λ i l. ap (λ (x : Item). x.load) (at i l); rest = λ i m u. (past i m u).load })
          (record { front = λ i l. ap (λ (x : Item). x.write) (at i l); rest = λ i m u. (past i m u).write })
          (λ i. refl))
          (e ∙ ap (empty_with k n d.blocks d.load d.write false) is)

-- ---- the arrays as a catalog in bytes

module _ (blocks load write : List ℕ) where
  pub catalog_none : (xs : List ℕ) → catalog_of_first 0 xs ≡ catalog_from 0 blocks load write
  unfolding catalog_from tab_from
  catalog_none xs = none_first xs

  pub catalog_more :
      {next : List ℕ} (xs : List ℕ) (i : ℕ) →
      5 * i + 5 ≤ length xs →
      catalog_of_first i xs ≡ catalog_from i blocks load write →
      next ≡ sets xs (5 * i) (item_bytes (listed (get_or blocks i 0) (get_or load i 0) (get_or write i 0))) →
      catalog_of_first (i + 1) next ≡ catalog_from (i + 1) blocks load write
  unfolding catalog_from
  catalog_more xs i room so is =
      ap (catalog_of_first (i + 1)) is
      ∙ one_more i xs (get_or blocks i 0) (get_or load i 0) (get_or write i 0) room
      ∙ ap (λ (c : Catalog). c ++ (listed (get_or blocks i 0) (get_or load i 0) (get_or write i 0) ∷ [])) so
      ∙ rw add-one (sym (tab_more i (λ j. listed (get_or blocks j 0) (get_or load j 0) (get_or write j 0))))
