-- A step served: the two faults in their order, and what each kind of step does. Assumes nothing.
use mathlib.Core.Path.{◌≡◌, refl, sym, ap, subst, ◌∙◌}
use mathlib.Core.Bool.{Bool, true, false, cond}
use mathlib.Core.List.{List, [], ◌∷◌, ◌++◌}
use Prim.Native.Nat.{ℕ, ◌+◌, ◌≤◌, ◌<◌}
use native.Mathlib.Nat.{add-zero}
use native.Mathlib.Omega.{arith}
use lib.ListN.{length, set}
use lib.Dec.{leb}
use borrow.Author.Tests.{le-leb, lt-leb}
use Rattle.std.specs.Prelude.{Result, Ok, Err}
use Rattle.types.specs.declared.Refusal.{Refusal}
use Rattle.types.specs.declared.Refusal.TheVariants.{RequestNotHeld, OverCapacity}
use Rattle.types.specs.declared.Step.{Step}
use Rattle.types.specs.declared.Step.TheVariants.{Read, Write, Flush, Arrive, Retire}
use Rattle.landlord.specs.Fold.{tab}
use Rattle.landlord.specs.Catalog.{Catalog, item_at, listed, catalog_next}
use Rattle.landlord.specs.Plan.{Copy, no_copy, clean_copy, dirty_copy, has, is_changed, copy_at, cleaned, plan_used, owed, Done, done, faulty, over_capacity, within_capacity, plan_serves}
use Rattle.landlord.proofs.Folds.{tab_at}
use Rattle.landlord.proofs.Sums.{sum_eq}
use Rattle.landlord.proofs.Catalogs.{one_longer, retired_length}
use Rattle.season_items.specs.Inner.{HasItems}
use Rattle.season_plan.specs.declared.Copies.{Copies}
use Rattle.season_plan.specs.declared.Mark.{Mark}
use Rattle.season_plan.specs.declared.Mark.TheVariants.{Absent, Clean, Dirty}
use Rattle.season_plan.specs.Inner.{copy_from, mark_at, copies_of, copies_in, HoldsCopies, Does, Loses, Owes, Cleans, StepKnown, request_of, request, Serves}
use Rattle.season_plan.proofs.Marks.{copies_more, used_arrived, used_retired}
use Rattle.season_plan.proofs.Deeds.{copy_of, held_length, stored}

-- ## The two tests

-- what a step does that passes both
abbrev passed : Catalog → Step → List Copy → Done
passed cat (Read i) q = done q 0
passed cat (Write i minutes) q = done (set q i dirty_copy) 0
passed cat Flush q = done (tab (length cat) (λ i. cleaned (copy_at q i))) (owed cat q)
passed cat (Arrive i b l w) q = done (q ++ (no_copy ∷ [])) 0
passed cat (Retire i) q = done (set q i no_copy) (cond (is_changed (copy_at q i)) (item_at cat i).write 0)

-- a mark that answers a request is there
request_held : (m : Mark) (line i : ℕ) → Ok tt ≡ request_of m line i → has (copy_from m) ≡ true
request_held Absent line i e = absurd (cc)
request_held Clean line i e = refl
request_held Dirty line i e = refl

request_fails : (m : Mark) (line i : ℕ) (y : Refusal) → Err y ≡ request_of m line i → (has (copy_from m) ≡ false) × (y ≡ RequestNotHeld line i)
request_fails Absent line i y e = (refl, cc)
request_fails Clean line i y e = absurd (cc)
request_fails Dirty line i y e = absurd (cc)

module _ (h line : ℕ) (p : Copies) where
  tested :
      (st : Step) (cat : Catalog) (s paid : ℕ) (q : List Copy) →
      StepKnown p st →
      Ok tt ≡ request p st line →
      HoldsCopies cat p q paid →
      plan_serves cat h s st q ≡ within_capacity cat h s q (passed cat st q)
  unfolding plan_serves
  tested (Read i) cat s paid q l e st = rw (copy_of cat p q paid i st l, request_held (mark_at p.marks i) line i e)
  tested (Write i minutes) cat s paid q l e st = rw (copy_of cat p q paid i st l, request_held (mark_at p.marks i) line i e)
  tested Flush cat s paid q l e st = refl
  tested (Arrive i b j w) cat s paid q l e st = refl
  tested (Retire i) cat s paid q l e st = refl

  module _ (xs : List ℕ) (st : Step) (known : StepKnown p st) where
    -- within the capacity or not, by the blocks that the program counts
    by_capacity :
        (t : Bool) (r : Result (Unit {0}) Refusal) (after : Copies) →
        leb p.used h ≡ t →
        Ok tt ≡ request p st line →
        ((cat : Catalog) (s paid : ℕ) (q : List Copy) →
        HasItems cat xs →
        HoldsCopies cat p q paid →
        Does (catalog_next cat st) (cond t (passed cat st q) (faulty (over_capacity s))) paid line r after) →
        Serves xs h p st line r after
    by_capacity t r after fits asked does cat s paid q items hold =
        subst (λ (d : Done). Does (catalog_next cat st) d paid line r after)
        (sym (tested st cat s paid q known asked hold
        ∙ ap (λ u. cond u (passed cat st q) (faulty (over_capacity s))) (ap (λ u. leb u h) (sym hold.used) ∙ fits)))
        (does cat s paid q items hold)

    -- 13
    pub serve_over : (after : Copies) → Ok tt ≡ request p st line → h < p.used → Serves xs h p st line (Err (OverCapacity line)) after
    serve_over after asked over =
        by_capacity false (Err (OverCapacity line)) after (lt-leb p.used h over) asked (λ cat s paid q items hold. refl)

    serve_within :
        (after : Copies) →
        Ok tt ≡ request p st line →
        p.used ≤ h →
        ((cat : Catalog) (s paid : ℕ) (q : List Copy) →
        HasItems cat xs →
        HoldsCopies cat p q paid →
        Does (catalog_next cat st) (passed cat st q) paid line (Ok tt) after) →
        Serves xs h p st line (Ok tt) after
    serve_within after asked fits does = by_capacity true (Ok tt) after (le-leb p.used h fits) asked does

  -- 14
  pub serve_missing :
      (xs : List ℕ) (st : Step) (y : Refusal) (after : Copies) →
      StepKnown p st →
      Err y ≡ request p st line →
      Serves xs h p st line (Err y) after
  unfolding plan_serves
  serve_missing xs (Read i) y after l e cat s paid q items st =
      let f = request_fails (mark_at p.marks i) line i y e in rw (copy_of cat p q paid i st l, f.0) f.1
  serve_missing xs (Write i minutes) y after l e cat s paid q items st =
      let f = request_fails (mark_at p.marks i) line i y e in rw (copy_of cat p q paid i st l, f.0) f.1
  serve_missing xs Flush y after l e cat s paid q items st = absurd (cc)
  serve_missing xs (Arrive i b j w) y after l e cat s paid q items st = absurd (cc)
  serve_missing xs (Retire i) y after l e cat s paid q items st = absurd (cc)

-- ## What the steps leave

-- a cleaned copy has its blocks
has_cleaned : (c : Copy) → has (cleaned c) ≡ has c
has_cleaned no_copy = refl
has_cleaned clean_copy = refl
has_cleaned dirty_copy = refl

used_cleaned : (cat : Catalog) (q : List Copy) → plan_used cat (tab (length cat) (λ i. cleaned (copy_at q i))) ≡ plan_used cat q
unfolding plan_used
used_cleaned cat q =
    sum_eq (length cat) (λ i. cond (has (copy_at (tab (length cat) (λ j. cleaned (copy_at q j))) i)) (item_at cat i).blocks 0)
    (λ i. cond (has (copy_at q i)) (item_at cat i).blocks 0)
    (λ i l. ap (λ t. cond t (item_at cat i).blocks 0) (ap has (tab_at (length cat) (λ j. cleaned (copy_at q j)) i no_copy l) ∙ has_cleaned (copy_at q i)))

-- every copy clean, for what is owed
flushed :
    (cat : Catalog) (p paying r : Copies) (q : List Copy) (paid o : ℕ) →
    HoldsCopies cat p q paid →
    o ≡ owed cat (copies_in p) →
    paying.n ≡ p.n →
    paying.marks ≡ p.marks →
    paying.used ≡ p.used →
    paying.paid ≡ p.paid + o →
    Cleans paying r →
    HoldsCopies cat r (tab (length cat) (λ j. cleaned (copy_at q j))) (paid + owed cat q)
flushed cat p paying r q paid o st owes count marks used sum cleans =
    let same : copies_in paying ≡ q = (λ k. copies_of (count k) (marks k)) ∙ st.copies in
    record {
      count = cleans.count ∙ count ∙ st.count;
      copies =
          cleans.copies
          ∙ ap (λ t. tab t (λ j. cleaned (copy_at (copies_in paying) j))) (count ∙ st.count)
          ∙ ap (λ t. tab (length cat) (λ j. cleaned (copy_at t j))) same;
      used = cleans.used ∙ used ∙ st.used ∙ sym (used_cleaned cat q);
      past = λ j k. cleans.past j (omega (arith, cleans.count)) ∙ ap (λ t. mark_at t j) marks ∙ st.past j (omega (arith, cleans.count, count));
      sum = omega (arith, cleans.sum, sum, st.sum, owes ∙ ap (owed cat) st.copies);
    }

-- one item more, of which there is no copy
arrived :
    (cat : Catalog) (b l w : ℕ) (p r : Copies) (q : List Copy) (paid : ℕ) →
    HoldsCopies cat p q paid →
    r.n ≡ p.n + 1 →
    r.marks ≡ p.marks →
    r.used ≡ p.used →
    r.paid ≡ p.paid →
    HoldsCopies (cat ++ (listed b l w ∷ [])) r (q ++ (no_copy ∷ [])) (paid + 0)
arrived cat b l w p r q paid st count marks used sum =
    record {
      count = omega (arith, count, st.count, one_longer cat (listed b l w));
      copies =
          (λ k. copies_of (count k) (marks k))
          ∙ copies_more p.n p.marks (st.past p.n (omega arith))
          ∙ ap (λ t. t ++ (no_copy ∷ [])) st.copies;
      used = used ∙ st.used ∙ sym (used_arrived cat (listed b l w) q (omega (arith, held_length cat p q paid st)));
      past = λ j k. ap (λ t. mark_at t j) marks ∙ st.past j (omega (arith, count));
      sum = omega (arith, sum, st.sum);
    }

-- the same copies of a catalog that marks one item as left
retired : (cat : Catalog) (i : ℕ) (p : Copies) (q : List Copy) (paid : ℕ) → i < length cat → HoldsCopies cat p q paid → HoldsCopies (catalog_next cat (Retire i)) p q paid
retired cat i p q paid l st =
    record {
      count = st.count ∙ sym (retired_length cat i);
      copies = st.copies;
      used = st.used ∙ sym (used_retired cat i q l);
      past = st.past;
      sum = st.sum;
    }

-- ## The ways through `serve`, past both tests

module _ (xs : List ℕ) (h line : ℕ) (p r : Copies) (fits : p.used ≤ h) where
  -- a read changes nothing
  pub serve_read : (i : ℕ) → i < p.n → Ok tt ≡ request p (Read i) line → Serves xs h p (Read i) line (Ok tt) p
  serve_read i l asked = serve_within h line p xs (Read i) l p asked fits (λ cat s paid q items hold. rw (add-zero paid) hold)

  -- a write makes its item dirty
  pub serve_write :
      (i minutes : ℕ) →
      i < p.n →
      Ok tt ≡ request p (Write i minutes) line →
      i < length p.marks →
      r.n ≡ p.n →
      r.marks ≡ set p.marks i Dirty →
      r.used ≡ p.used →
      r.paid ≡ p.paid →
      Serves xs h p (Write i minutes) line (Ok tt) r
  serve_write i minutes l asked b count marks used sum =
      serve_within h line p xs (Write i minutes) l r asked fits
      (λ cat s paid q items hold.
      let held : has (copy_at q i) ≡ true = ap has (copy_of cat p q paid i hold l) ∙ request_held (mark_at p.marks i) line i asked in
      stored cat p r q paid i Dirty 0 hold l b count marks (ap (λ t. r.used + cond t (item_at cat i).blocks 0) held ∙ omega arith) (omega arith))

  -- a flush pays what is owed and cleans
  pub serve_flush :
      (paying : Copies) (o : ℕ) →
      Owes xs p o →
      paying.n ≡ p.n →
      paying.marks ≡ p.marks →
      paying.used ≡ p.used →
      paying.paid ≡ p.paid + o →
      Cleans paying r →
      Serves xs h p Flush line (Ok tt) r
  serve_flush paying o owes count marks used sum cleans =
      serve_within h line p xs Flush tt r refl fits
      (λ cat s paid q items hold. flushed cat p paying r q paid o hold (owes.0 cat items hold.count) count marks used sum cleans)

  -- an arrival counts one item more
  pub serve_arrive :
      (i b l w : ℕ) →
      r.n ≡ p.n + 1 →
      r.marks ≡ p.marks →
      r.used ≡ p.used →
      r.paid ≡ p.paid →
      Serves xs h p (Arrive i b l w) line (Ok tt) r
  serve_arrive i b l w count marks used sum =
      serve_within h line p xs (Arrive i b l w) tt r refl fits
      (λ cat s paid q items hold. arrived cat b l w p r q paid hold count marks used sum)

  -- a retirement loses the copy, if there is one
  pub serve_retire : (i : ℕ) → i < p.n → Loses xs p i r → Serves xs h p (Retire i) line (Ok tt) r
  serve_retire i l loses =
      serve_within h line p xs (Retire i) l r refl fits
      (λ cat s paid q items hold.
      retired cat i r (set q i no_copy) (paid + cond (is_changed (copy_at q i)) (item_at cat i).write 0)
      (omega (arith, hold.count)) (loses cat paid q items hold))
