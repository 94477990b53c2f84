-- A flush: the sum of what it makes the plan pay, and the copies clean. Assumes nothing.
use mathlib.Core.Path.{◌≡◌, refl, sym, ap, ◌∙◌}
use mathlib.Core.Logic.{◌≢◌}
use mathlib.Core.Bool.{false, cond}
use mathlib.Core.List.{List}
use Prim.Native.Nat.{ℕ, ◌+◌, ◌*◌, ◌≤◌, ◌<◌}
use native.Mathlib.Numerals.{add-one}
use native.Mathlib.Omega.{arith}
use lib.ListN.{length}
use Rattle.landlord.specs.Fold.{sum_to}
use Rattle.landlord.specs.Catalog.{Catalog, item_at}
use Rattle.landlord.specs.Plan.{is_changed, copy_at, cleaned, owed}
use Rattle.landlord.proofs.Folds.{tab_eq}
use Rattle.landlord.proofs.Sums.{sum_eq}
use Rattle.catalog_bytes.specs.Catalogs.{item_in}
use Rattle.season_items.specs.Inner.{HasItems}
use Rattle.season_plan.specs.declared.Copies.{Copies}
use Rattle.season_plan.specs.declared.Mark.{Mark}
use Rattle.season_plan.specs.declared.Mark.TheVariants.{Absent, Clean, Dirty}
use Rattle.season_plan.specs.Inner.{copy_from, mark_at, copies_of, copies_in, Owes, Cleans}
use Rattle.season_plan.proofs.Marks.{write_at, copy_at_lem}

-- what item i adds to what is owed, by its mark and its bytes
abbrev owed_at : List ℕ → Copies → ℕ → ℕ
owed_at xs p i = cond (is_changed (copy_from (mark_at p.marks i))) (item_in xs i).write 0

-- what the items below i make it pay, each no more than a cost can be
pub record Owed (xs : List ℕ) (p : Copies) (i sum : ℕ) : Type 0 where
  pub is : sum ≡ sum_to i (owed_at xs p)
  pub low : sum ≤ 65535 * i

pub owed_none : (xs : List ℕ) (p : Copies) → Owed xs p 0 0
unfolding sum_to
owed_none xs p = record { is = refl; low = omega arith }

-- a dirty item is paid for
pub owed_dirty :
    (xs : List ℕ) (p : Copies) (i sum w : ℕ) →
    Owed xs p i sum →
    mark_at p.marks i ≡ Dirty →
    w ≡ (item_in xs i).write →
    w ≤ 65535 →
    Owed xs p (i + 1) (sum + w)
unfolding sum_to
owed_dirty xs p i sum w so m e few =
    record {
      is = rw (add-one, m) (omega (arith, so.is));
      low = omega (arith, so.low);
    }

-- another is not
pub owed_other : (xs : List ℕ) (p : Copies) (i sum : ℕ) → Owed xs p i sum → mark_at p.marks i ≢ Dirty → Owed xs p (i + 1) sum
unfolding sum_to
owed_other xs p i sum so m =
    record {
      is = rw add-one (omega (arith, so.is, ap (λ t. cond t (item_in xs i).write 0) (not_dirty (mark_at p.marks i) m)));
      low = omega (arith, so.low);
    }
  where
    not_dirty : (t : Mark) → t ≢ Dirty → is_changed (copy_from t) ≡ false
    not_dirty Absent e = refl
    not_dirty Clean e = refl
    not_dirty Dirty e = absurd (e refl)

pub owed_all : (xs : List ℕ) (p : Copies) (i sum : ℕ) → Owed xs p i sum → i ≡ p.n → i ≤ 256 → Owes xs p sum
unfolding owed
owed_all xs p i sum so e few = (λ cat items count. so.is ∙ total cat items (e ∙ count), omega (arith, so.low))
  where
    total : (cat : Catalog) → HasItems cat xs → i ≡ length cat → sum_to i (owed_at xs p) ≡ owed cat (copies_in p)
    total cat items count =
        ap (λ t. sum_to t (owed_at xs p)) count
        ∙ sum_eq (length cat) (owed_at xs p) (λ i. cond (is_changed (copy_at (copies_in p) i)) (item_at cat i).write 0)
        (λ i l. sym
        (ap (λ t. cond (is_changed t) (item_at cat i).write 0) (copy_at_lem p.n p.marks i (omega arith))
        ∙ ap (λ t. cond (is_changed (copy_from (mark_at p.marks i))) t 0) (write_at cat xs items i l)))

-- the items below i are clean in q, which else is p
pub record Cleaning (p q : Copies) (i : ℕ) : Type 0 where
  pub count : q.n ≡ p.n
  pub used : q.used ≡ p.used
  pub sum : q.paid ≡ p.paid
  pub before : (j : ℕ) → j < i → copy_from (mark_at q.marks j) ≡ cleaned (copy_from (mark_at p.marks j))
  pub behind : (j : ℕ) → i ≤ j → mark_at q.marks j ≡ mark_at p.marks j

pub clean_all : (p q : Copies) (i : ℕ) → Cleaning p q i → i ≡ p.n → Cleans p q
unfolding copies_of
clean_all p q i so e =
    record {
      count = so.count;
      copies =
          ap (λ t. copies_of t q.marks) so.count
          ∙ tab_eq p.n (λ j. copy_from (mark_at q.marks j)) (λ j. cleaned (copy_at (copies_in p) j))
          (λ j b. so.before j (omega arith) ∙ sym (ap cleaned (copy_at_lem p.n p.marks j b)));
      used = so.used;
      past = λ j b. so.behind j (omega arith);
      sum = so.sum;
    }
