-- Laws of one slot in the queue's form. Assumes nothing.
use mathlib.Core.Path.{◌≡◌, refl, sym, ap, ◌∙◌}
use mathlib.Core.Bool.{Bool, true, false, false≢true}
use Prim.Native.Nat.{ℕ, ◌+◌, ◌*◌, ◌-◌, ◌/◌, ◌≤◌, ◌<◌, ◌∣◌, ◌^◌}
use native.Mathlib.Nat.{dvd-zero, dvd-sub, dvd-add, dvd-mul_right, mul-div_cancel_left, mul-div_cancel', div-le_self, mul-le-mul_left}
use native.Mathlib.Omega.{arith}
use Rattle.types.specs.declared.Deduction.{Deduction}
use Rattle.types.specs.declared.Deduction.TheVariants.{WriteFirst, LoadFirst}
use Rattle.landlord.specs.Catalog.{Item}
use Rattle.landlord.specs.Inner.{ItemFacts}
use Rattle.landlord.specs.Slot.{Slot, absent, clean, dirty, held, load_credit, write_credit, Split, write_first, load_first, split_of, lose, flushed}
use Rattle.landlord.specs.Claims.{Bears, SplitOk, SlotKept}
use Rattle.landlord.proofs.Slots.{Lost, lose_lost, lose_kept, lose_held}
use Rattle.queue.specs.Queue.{worth, key_now, loss_since, slot_now, KeyOk, SplitAdds, most_rise}

-- of a wrong definition the row that it breaks is told before the laws

-- both rules may be taken in one sum
pub write_first_adds : SplitAdds write_first
write_first_adds = record { each = λ s x y a b l dx dy da db le. omega arith }

pub load_first_adds : SplitAdds load_first
load_first_adds = record { each = λ s x y a b l dx dy da db le. omega arith }

-- each rule of deduction
pub deduction_adds : (r : Deduction) → SplitAdds (split_of r)
deduction_adds WriteFirst = write_first_adds
deduction_adds LoadFirst = load_first_adds

-- what is left of a credit that bears the rest of two losses
in_turn_lem : (a x y t u : ℕ) → t ≤ x → u ≤ y → a - (x + y - (t + u)) ≡ (a - (x - t)) - (y - u)
in_turn_lem a x y t u l m = omega arith

sub_sub : (b t u : ℕ) → b - (t + u) ≡ (b - t) - u
sub_sub b t u = omega arith

module _ (split : Split) (ok : SplitOk split) (adds : SplitAdds split) (it : Item) (some : 1 ≤ it.blocks) where
  abbrev s : ℕ
  s = it.blocks

  -- to lose x and then y
  pub lose_adds :
      (x y : ℕ) (t : Slot) →
      SlotKept it t →
      s ∣ x →
      s ∣ y →
      x + y ≤ load_credit t + write_credit t →
      lose split s (x + y) t ≡ lose split s y (lose split s x t)
  lose_adds x y absent kept dx dy l = refl
  lose_adds x y (clean a) kept dx dy l = ap clean (omega arith)
  lose_adds x y (dirty a b) kept dx dy l =
      let e : split s (x + y) a b ≡ split s x a b + split s y (a - (x - split s x a b)) (b - split s x a b) =
      adds.each s x y a b some dx dy kept.whole_load kept.whole_write l
      in
      let one : Bears s x a b (split s x a b) = ok.each s x a b some dx kept.whole_load kept.whole_write (omega arith) in
      let two : Bears s y (a - (x - split s x a b)) (b - split s x a b) (split s y (a - (x - split s x a b)) (b - split s x a b)) =
      ok.each s y (a - (x - split s x a b)) (b - split s x a b) some dy (dvd-sub s kept.whole_load (dvd-sub s dx one.whole))
      (dvd-sub s kept.whole_write one.whole) (omega arith)
      in
      let t : ℕ = split s x a b in
      let u : ℕ = split s y (a - (x - split s x a b)) (b - split s x a b) in
      let p : a - (x + y - split s (x + y) a b) ≡ (a - (x - t)) - (y - u) = ap (λ (z : ℕ). a - (x + y - z)) e ∙ in_turn_lem a x y t u one.part two.part in
      let q : b - split s (x + y) a b ≡ (b - t) - u = ap (λ (z : ℕ). b - z) e ∙ sub_sub b t u in
      λ z. dirty (p z) (q z)

  -- a loss of nothing
  pub lose_none : (t : Slot) → SlotKept it t → lose split s 0 t ≡ t
  lose_none absent kept = refl
  lose_none (clean a) kept = ap clean (omega arith)
  lose_none (dirty a b) kept =
      let one : Bears s 0 a b (split s 0 a b) = ok.each s 0 a b some (dvd-zero s) kept.whole_load kept.whole_write (omega arith) in
      let p : a - (0 - split s 0 a b) ≡ a = omega arith in
      let q : b - split s 0 a b ≡ b = omega arith in
      λ z. dirty (p z) (q z)

  -- credits are blocks × worth
  pub worth_whole : (t : Slot) → SlotKept it t → s * worth s t ≡ load_credit t + write_credit t
  worth_whole t kept = mul-div_cancel' s (dvd-add s kept.whole_load kept.whole_write)

  module _ (level key : ℕ) (t : Slot) (kept : SlotKept it t) where
    abbrev now : Slot
    now = slot_now split s level key t

    -- the loss can be borne
    borne : KeyOk s level key t → s * loss_since s level key t ≤ load_credit t + write_credit t
    borne k =
        let l : loss_since s level key t ≤ worth s t = omega (arith, k.due, k.within) in
        omega (arith, mul-le-mul_left s l, worth_whole t kept)

    pub now_held : held now ≡ held t
    now_held = lose_held split s (s * loss_since s level key t) t

    -- the credits that a key stands for are as the rule keeps them
    pub now_kept : (held t ≡ true → KeyOk s level key t) → SlotKept it now
    now_kept k =
        lose_kept split ok it some (s * loss_since s level key t) t (dvd-mul_right s (loss_since s level key t)) kept (λ h. borne (k h))

    -- and a block of them is worth the key less the level
    pub now_worth : held t ≡ true → KeyOk s level key t → worth s now ≡ key - level
    now_worth h k =
        let lost : Lost (s * loss_since s level key t) t now =
        lose_lost split ok it some (s * loss_since s level key t) t h (dvd-mul_right s (loss_since s level key t)) kept (borne k)
        in
        let e : worth s t ≡ (key - level) + loss_since s level key t = omega (arith, k.due, k.within) in
        let f : load_credit now + write_credit now ≡ s * (key - level) =
        omega (arith, lost.both, worth_whole t kept, ap (λ (z : ℕ). s * z) e)
        in
        ap (λ (z : ℕ). z / s) f ∙ mul-div_cancel_left (key - level) some

    -- the level rises: each item loses the rise
    pub now_later :
        (higher : ℕ) →
        (held t ≡ true → KeyOk s level key t) →
        level ≤ higher →
        (held t ≡ true → higher ≤ key) →
        slot_now split s higher key t ≡ lose split s (s * (higher - level)) now
    now_later higher k up within = go (held t) refl
      where
        go : (b : Bool) → held t ≡ b → slot_now split s higher key t ≡ lose split s (s * (higher - level)) now
        go true h =
            let l : higher ≤ key = within h in
            let m : KeyOk s level key t = k h in
            let e : loss_since s higher key t ≡ loss_since s level key t + (higher - level) = omega (arith, m.due, m.within) in
            let w : loss_since s higher key t ≤ worth s t = omega (arith, m.due) in
            let f : s * loss_since s higher key t ≡ s * loss_since s level key t + s * (higher - level) = omega (arith, ap (λ (z : ℕ). s * z) e) in
            let bound : s * loss_since s level key t + s * (higher - level) ≤ load_credit t + write_credit t =
            omega (arith, mul-le-mul_left s w, worth_whole t kept, f)
            in
            ap (λ (z : ℕ). lose split s z t) f
            ∙ lose_adds (s * loss_since s level key t) (s * (higher - level)) t kept (dvd-mul_right s (loss_since s level key t)) (dvd-mul_right s (higher - level)) bound
        go false h = gone t h
          where
            gone : (t : Slot) → held t ≡ false → slot_now split s higher key t ≡ lose split s (s * (higher - level)) (slot_now split s level key t)
            gone absent h = refl
            gone (clean a) h = absurd (false≢true (sym h))
            gone (dirty a b) h = absurd (false≢true (sym h))

  -- a slot reckoned now stands for itself
  pub fresh : (level : ℕ) (t : Slot) → SlotKept it t → slot_now split s level (key_now s level t) t ≡ t
  fresh level t kept =
      let e : s * loss_since s level (key_now s level t) t ≡ 0 =
      (let z : loss_since s level (key_now s level t) t ≡ 0 = omega arith in omega (arith, ap (λ (z : ℕ). s * z) z))
      in
      ap (λ (z : ℕ). lose split s z t) e ∙ lose_none t kept

  pub fresh_ok : (level : ℕ) (t : Slot) → KeyOk s level (key_now s level t) t
  fresh_ok level t = record { due = omega arith; within = omega arith }

  -- A landing reckons held items anew. A clean one has the same key and the same standing credits then, so it need not be stored again.
  pub clean_stays :
      (level key a : ℕ) →
      SlotKept it (clean a) →
      KeyOk s level key (clean a) →
      (key_now s level (flushed (slot_now split s level key (clean a))) ≡ key)
      × (slot_now split s level key (flushed (slot_now split s level key (clean a))) ≡ slot_now split s level key (clean a))
  clean_stays level key a kept k =
      let now : Slot = slot_now split s level key (clean a) in
      let same : key_now s level now ≡ key = omega (arith, now_worth level key (clean a) kept refl k, k.within) in
      (same, ap (λ (z : ℕ). slot_now split s level z now) (sym same) ∙ fresh level now (now_kept level key (clean a) kept (λ h. k)))

-- 64 bits: a drop raises the level by at most 131,070 × 720,720, for that is the most that a block can be worth
pub worth_most : (it : Item) (t : Slot) → ItemFacts it → SlotKept it t → worth it.blocks t ≤ most_rise
worth_most it t ok kept = omega (arith, div-le_self (load_credit t + write_credit t) it.blocks, kept.load_top, kept.write_top, ok.load, ok.write)

pub level_fits : (drops level : ℕ) → drops ≤ 1000000 → level ≤ drops * most_rise → level < 2 ^ 64
level_fits drops level d l = omega arith

pub key_fits : (drops level key : ℕ) → drops ≤ 1000000 → level ≤ drops * most_rise → key ≤ level + most_rise → key < 2 ^ 64
key_fits drops level key d l k = omega arith
