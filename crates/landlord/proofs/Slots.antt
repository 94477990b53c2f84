-- Laws of one slot: the share fact, and what each change of a slot keeps. Assumes nothing.
use mathlib.Core.Path.{◌≡◌, refl, ap, ◌∙◌}
use mathlib.Core.Bool.{true, false, false≢true}
use Prim.Native.Nat.{ℕ, zero, suc, ◌+◌, ◌*◌, ◌/◌, ◌≤◌, ◌∣◌, ◌%◌, min}
use native.Mathlib.Nat.{dvd-zero, dvd-sub, dvd-mul_left_of_dvd, div-mul_cancel, dvd_of_mod-eq-zero, mul_assoc}
use native.Mathlib.Decide.{dec_le}
use native.Mathlib.Omega.{arith}
use borrow.Author.Tests.{eqb-true}
use lib.Dec.{eqb}
use Rattle.types.specs.declared.Deduction.{Deduction}
use Rattle.types.specs.declared.Deduction.TheVariants.{WriteFirst, LoadFirst}
use Rattle.landlord.specs.Catalog.{Item, full, unit, shares_per_block}
use Rattle.landlord.specs.Inner.{ItemFacts}
use Rattle.landlord.specs.Slot.{Slot, absent, clean, dirty, held, is_dirty, load_credit, write_credit, Split, write_first, load_first, split_of, lose, brought, refilled, written, flushed}
use Rattle.basis.proofs.Tables.{every, every_at}
use Rattle.landlord.specs.Claims.{Bears, SplitOk, SlotKept}
use Rattle.std.proofs.lemmas.Grind.{common_steps}

-- The share fact, for a general s: where s divides the unit, a cost spread over s blocks loses nothing.
pub share_fact : (cost s : ℕ) → s ∣ unit → shares_per_block cost s * s ≡ full cost
share_fact cost s d = mul_assoc cost (unit / s) s ∙ ap (λ (z : ℕ). cost * z) (div-mul_cancel s d)

-- and so a full credit is a multiple of the blocks
pub full_whole : (cost s : ℕ) → s ∣ unit → s ∣ full cost
full_whole cost s d = dvd-mul_left_of_dvd s d cost

-- the sixteen block counts, as one computed test: each leaves nothing over
sixteen : every (λ i. eqb (unit % suc i) 0) 16 ≡ true
sixteen = refl

-- the test as a fact about each
pub sixteen_divide : (s : ℕ) → 1 ≤ s → s ≤ 16 → s ∣ unit
sixteen_divide zero low high = absurd (let z : 1 ≤ 0 = low in omega arith)
sixteen_divide (suc s) low high =
    dvd_of_mod-eq-zero (suc s) (eqb-true (unit % suc s) 0 (every_at (λ i. eqb (unit % suc i) 0) 16 sixteen s (omega arith)))

pub blocks_divide : (x : Item) → ItemFacts x → x.blocks ∣ unit
blocks_divide x ok = sixteen_divide x.blocks ok.some ok.small

-- write-first splits in multiples of the blocks: the lesser of two multiples is one of them
pub write_first_ok : SplitOk write_first
write_first_ok =
    record {
      each =
          λ s loss a b l dl da db le.
          record { whole = lesser s loss b dl db; part = omega arith; within = omega arith; rest = omega arith };
    }
  where
    lesser : (s m n : ℕ) → s ∣ m → s ∣ n → s ∣ min m n
    lesser s m n dm dn = go (dec_le m n)
      where
        go : Dec (m ≤ n) → s ∣ min m n
        go (yes l) = rw (let e : min m n ≡ m = omega arith in e) dm
        go (no l) = rw (let e : min m n ≡ n = omega arith in e) dn

-- and so does load-first: what is left over of one multiple by another is one
pub load_first_ok : SplitOk load_first
load_first_ok =
    record {
      each =
          λ s loss a b l dl da db le.
          record { whole = dvd-sub s dl da; part = omega arith; within = omega arith; rest = omega arith };
    }

-- each rule of deduction
pub deduction_ok : (r : Deduction) → SplitOk (split_of r)
deduction_ok WriteFirst = write_first_ok
deduction_ok LoadFirst = load_first_ok

-- The two rules differ: of a loss of 1 where both credits have 1, write-first takes from the write credit and load-first does not.
-- So a standing tells its rule, and with it the rule's number.
pub deduction_one : (r s : Deduction) → split_of r ≡ split_of s → r ≡ s
deduction_one WriteFirst WriteFirst e = refl
deduction_one WriteFirst LoadFirst e = absurd (let z : 1 ≡ 0 = ap (λ (f : Split). f 1 1 1 1) e in omega arith)
deduction_one LoadFirst WriteFirst e = absurd (let z : 0 ≡ 1 = ap (λ (f : Split). f 1 1 1 1) e in omega arith)
deduction_one LoadFirst LoadFirst e = refl

-- a loss changes no mark
pub lose_held : (split : Split) (s loss : ℕ) (x : Slot) → held (lose split s loss x) ≡ held x
lose_held split s loss x = grind arith

pub lose_dirty : (split : Split) (s loss : ℕ) (x : Slot) → is_dirty (lose split s loss x) ≡ is_dirty x
lose_dirty split s loss x = grind arith

-- what a loss does to a slot that can bear it: neither credit grows, and together they fall by the loss
pub record Lost (loss : ℕ) (x y : Slot) : Type 0 where
  pub load : load_credit y ≤ load_credit x
  pub write : write_credit y ≤ write_credit x
  pub both : load_credit x + write_credit x ≡ (load_credit y + write_credit y) + loss

module _ (split : Split) (ok : SplitOk split) (it : Item) (some : 1 ≤ it.blocks) where
  abbrev after : ℕ → Slot → Slot
  after loss x = lose split it.blocks loss x

  pub lose_lost :
      (loss : ℕ) (x : Slot) →
      held x ≡ true →
      it.blocks ∣ loss →
      SlotKept it x →
      loss ≤ load_credit x + write_credit x →
      Lost loss x (after loss x)
  lose_lost loss absent h d kept l = absurd (false≢true h)
  lose_lost loss (clean a) h d kept l = record { load = omega arith; write = omega arith; both = omega arith }
  lose_lost loss (dirty a b) h d kept l =
      let t : Bears it.blocks loss a b (split it.blocks loss a b) = ok.each it.blocks loss a b some d kept.whole_load kept.whole_write l in
      record { load = omega arith; write = omega arith; both = omega arith }

  pub lose_kept :
      (loss : ℕ) (x : Slot) →
      it.blocks ∣ loss →
      SlotKept it x →
      (held x ≡ true → loss ≤ load_credit x + write_credit x) →
      SlotKept it (after loss x)
  lose_kept loss absent d kept l = kept
  lose_kept loss (clean a) d kept l =
      record {
        whole_load = dvd-sub it.blocks kept.whole_load d;
        whole_write = kept.whole_write;
        load_top = omega arith;
        write_top = kept.write_top;
      }
  lose_kept loss (dirty a b) d kept l =
      let t : Bears it.blocks loss a b (split it.blocks loss a b) = ok.each it.blocks loss a b some d kept.whole_load kept.whole_write (l refl) in
      record {
        whole_load = dvd-sub it.blocks kept.whole_load (dvd-sub it.blocks d t.whole);
        whole_write = dvd-sub it.blocks kept.whole_write t.whole;
        load_top = omega arith;
        write_top = omega arith;
      }

-- an empty place has no credit
pub absent_kept : (it : Item) → SlotKept it absent
absent_kept it = grind (arith, common_steps)

-- a requested item, brought in and refilled
pub read_kept : (it : Item) (x : Slot) → it.blocks ∣ unit → SlotKept it x → SlotKept it (refilled (full it.load) (brought x))
read_kept it absent d kept =
    record { whole_load = full_whole it.load it.blocks d; whole_write = kept.whole_write; load_top = omega arith; write_top = kept.write_top }
read_kept it (clean a) d kept =
    record { whole_load = full_whole it.load it.blocks d; whole_write = kept.whole_write; load_top = omega arith; write_top = kept.write_top }
read_kept it (dirty a b) d kept =
    record { whole_load = full_whole it.load it.blocks d; whole_write = kept.whole_write; load_top = omega arith; write_top = kept.write_top }

pub write_kept : (it : Item) (x : Slot) → it.blocks ∣ unit → SlotKept it x → SlotKept it (written (full it.write) x)
write_kept it absent d kept = kept
write_kept it (clean a) d kept =
    record { whole_load = kept.whole_load; whole_write = full_whole it.write it.blocks d; load_top = kept.load_top; write_top = omega arith }
write_kept it (dirty a b) d kept =
    record { whole_load = kept.whole_load; whole_write = full_whole it.write it.blocks d; load_top = kept.load_top; write_top = omega arith }

pub flush_kept : (it : Item) (x : Slot) → SlotKept it x → SlotKept it (flushed x)
flush_kept it absent kept = kept
flush_kept it (clean a) kept = kept
flush_kept it (dirty a b) kept =
    record { whole_load = kept.whole_load; whole_write = dvd-zero it.blocks; load_top = kept.load_top; write_top = omega arith }

-- after a request the item is held
pub read_held : (top : ℕ) (x : Slot) → held (refilled top (brought x)) ≡ true
read_held top x = grind arith

pub write_held : (top : ℕ) (x : Slot) → held (written top x) ≡ held x
write_held top x = grind arith

pub flush_held : (x : Slot) → held (flushed x) ≡ held x
flush_held x = grind arith

-- and after a flush it is not dirty
pub flush_clean : (x : Slot) → is_dirty (flushed x) ≡ false
flush_clean x = grind arith
