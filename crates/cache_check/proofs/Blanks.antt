-- Bytes that are 0: how they are looked for, and the numbers and flags that they stand for. Assumes nothing.
use mathlib.Core.Path.{◌≡◌, refl, sym, ap, subst, ◌∙◌}
use mathlib.Core.Bool.{false, not}
use mathlib.Core.List.{List, [], ◌∷◌}
use Prim.Native.Nat.{ℕ, zero, suc, ◌+◌, ◌*◌, ◌-◌, ◌^◌, ◌≤◌, ◌<◌}
use Rattle.std.proofs.Common.{◌↔◌, EachIndex}
use native.Mathlib.Nat.{mul-le-mul_right, le_refl}
use native.Mathlib.Decide.{dec_lt, ℕ_discrete}
use native.Mathlib.Omega.{arith}
use lib.Bits.{bit_or, or_add_and, and_le_l, and_le_r}
use lib.Dec.{eqb}
use lib.ListN.{length, take, drop, get_or}
use lib.Seq.{get_or-drop}
use borrow.Author.Tests.{eq-eqb, eqb-true, not-false}
use Rattle.fields.specs.LittleEndian.{from_bytes, number_at, run_from_bytes, flags_from_bytes}
use Rattle.basis.specs.InnerDecided.{Decided}
use Rattle.layout.specs.Layout.{numbers_at}
use Rattle.layout.proofs.Places.{number_at_lem, flag_at}
use Rattle.layout.proofs.Tests.{part_below}
use Rattle.cache_check.specs.Inner.{Zeros, ZerosThree}

-- ---- bits joined by |

or_none : (a x : ℕ) → bit_or a x ≡ 0 → (a ≡ 0) × (x ≡ 0)
or_none a x e = (omega (arith, or_add_and a x, and_le_l a x, and_le_r a x), omega (arith, or_add_and a x, and_le_l a x, and_le_r a x))

-- the bits of every byte of a part tell whether each is 0
pub zeros_so :
    (b : List ℕ) (from to bits : ℕ) →
    (from ≤ to) × (to ≤ length b) →
    ((k : ℕ) → (bits < 2 ^ k) ↔ EachIndex (take (to - from) (drop from b)) (λ i. get_or (take (to - from) (drop from b)) i 0 < 2 ^ k)) →
    Decided (Zeros b from to) (eqb bits 0)
zeros_so b from to bits l each =
    let part = part_below b from (to - from) 1 (omega (arith, l.0, l.1)) in
    record {
      yes = λ t. record { each = λ j a m. zero j a ((part.0 ((each 0).0 (omega (arith, eqb-true bits 0 t)))) (j - from) (omega arith)) };
      only = λ z. eq-eqb bits 0 (let low = (each 0).1 (part.1 (λ i m. omega (arith, z.each (from + i) (omega arith) (omega arith)))) in omega (arith, low));
    }
  where
    zero : (j : ℕ) → from ≤ j → get_or b (from + (j - from)) 0 < 1 → get_or b j 0 ≡ 0
    zero j a h =
        let e : from + (j - from) ≡ j = omega arith in
        rw e at (let z : get_or b (from + (j - from)) 0 ≡ 0 = omega arith in z)

-- ---- three stretches at once

module _ (b : List ℕ) (x from i : ℕ) where
  zeros_less : Zeros b (x + from) (x + (i + 1)) → Zeros b (x + from) (x + i)
  zeros_less z = record { each = λ j l m. z.each j l (omega arith) }

  zeros_last : from ≤ i → Zeros b (x + from) (x + (i + 1)) → get_or b (x + i) 0 ≡ 0
  zeros_last l z = z.each (x + i) (omega arith) (omega arith)

  zeros_more : Zeros b (x + from) (x + i) → get_or b (x + i) 0 ≡ 0 → Zeros b (x + from) (x + (i + 1))
  zeros_more z e = record { each = λ j l m. go j l m (ℕ_discrete j (x + i)) }
    where
      go : (j : ℕ) → x + from ≤ j → j < x + (i + 1) → Dec (j ≡ x + i) → get_or b j 0 ≡ 0
      go j l m (yes s) = ap (λ (k : ℕ). get_or b k 0) s ∙ e
      go j l m (no s) = z.each j l (omega arith)

pub record PassedThree (b : List ℕ) (x y z from i all : ℕ) : Type 0 where
  pub after : from ≤ i
  pub yes : all ≡ 0 → ZerosThree b x y z from i
  pub only : ZerosThree b x y z from i → all ≡ 0

none_passed : (b : List ℕ) (x from : ℕ) → Zeros b (x + from) (x + from)
none_passed b x from = record { each = λ j l m. absurd (let p : x + from ≤ j = l in let q : j < x + from = m in omega arith) }

module _ (b : List ℕ) (x y z from : ℕ) where
  pub three_none : PassedThree b x y z from from 0
  three_none =
      record {
        after = le_refl from;
        yes = λ e. record { first = none_passed b x from; second = none_passed b y from; third = none_passed b z from };
        only = λ o. refl;
      }

  pub three_more : (i all : ℕ) → PassedThree b x y z from i all → PassedThree b x y z from (i + 1) (bit_or all (bit_or (bit_or (get_or b (x + i) 0) (get_or b (y + i) 0)) (get_or b (z + i) 0)))
  three_more i all p =
      record {
        after = omega (arith, p.after);
        yes = λ e.
            let r = or_none all (bit_or (bit_or (get_or b (x + i) 0) (get_or b (y + i) 0)) (get_or b (z + i) 0)) e in
            let o = or_none (bit_or (get_or b (x + i) 0) (get_or b (y + i) 0)) (get_or b (z + i) 0) r.1 in
            let q = or_none (get_or b (x + i) 0) (get_or b (y + i) 0) o.0 in
            let s = p.yes r.0 in
            record {
              first = zeros_more b x from i s.first q.0;
              second = zeros_more b y from i s.second q.1;
              third = zeros_more b z from i s.third o.1;
            };
        only = λ o.
            let e : all ≡ 0 =
            p.only (record { first = zeros_less b x from i o.first; second = zeros_less b y from i o.second; third = zeros_less b z from i o.third })
            in
            let u : get_or b (x + i) 0 ≡ 0 = zeros_last b x from i p.after o.first in
            let v : get_or b (y + i) 0 ≡ 0 = zeros_last b y from i p.after o.second in
            let w : get_or b (z + i) 0 ≡ 0 = zeros_last b z from i p.after o.third in
            (λ t. bit_or (e t) (bit_or (bit_or (u t) (v t)) (w t)));
      }

  pub three_all : (to i all : ℕ) → i ≡ to → PassedThree b x y z from i all → Decided (ZerosThree b x y z from to) (eqb all 0)
  three_all to i all e p =
      record {
        yes = λ t. subst (ZerosThree b x y z from) e (p.yes (eqb-true all 0 t));
        only = λ o. eq-eqb all 0 (p.only (subst (ZerosThree b x y z from) (sym e) o));
      }

-- ---- numbers of bytes 0

-- of the 256 numbers of w bytes at a place, those from n on are 0
pub record BlankRun (b : List ℕ) (at w n : ℕ) : Type 0 where
  pub each : (i : ℕ) → n ≤ i → i < 256 → get_or (numbers_at b at 256 w) i 0 ≡ 0

-- of the 256 flags at a place, those from n on are not set
pub record BlankFlags (b : List ℕ) (at n : ℕ) : Type 0 where
  pub each : (i : ℕ) → n ≤ i → i < 256 → get_or (flags_from_bytes 256 (drop at b)) i false ≡ false

from_zero : (w : ℕ) (bs : List ℕ) → ((j : ℕ) → j < w → get_or bs j 0 ≡ 0) → from_bytes (take w bs) ≡ 0
unfolding from_bytes
from_zero zero bs h = refl
from_zero (suc w) [] h = refl
from_zero (suc w) (x ∷ bs) h = omega (arith, h 0 (omega arith), from_zero w bs (λ j l. h (suc j) (omega arith)))

zero_from : (w : ℕ) (bs : List ℕ) → from_bytes (take w bs) ≡ 0 → (j : ℕ) → j < w → get_or bs j 0 ≡ 0
unfolding from_bytes
zero_from zero bs e j l = absurd (omega arith)
zero_from (suc w) [] e j l = refl
zero_from (suc w) (x ∷ bs) e zero l = omega arith
zero_from (suc w) (x ∷ bs) e (suc j) l = zero_from w bs (omega arith) j (omega arith)

pub run_zero : (b : List ℕ) (at w n : ℕ) → Zeros b (at + n * w) (at + 256 * w) → BlankRun b at w n
unfolding number_at
run_zero b at w n z =
    record {
      each = λ i l m.
          sym (number_at_lem w 256 at b i _ m refl)
          ∙ from_zero w (drop (at + i * w) b)
          (λ j s.
          get_or-drop (at + i * w) b j 0
          ∙ z.each (at + i * w + j) (omega (arith, mul-le-mul_right w l)) (let k : suc i ≤ 256 = m in omega (arith, mul-le-mul_right w k)));
    }

-- the bytes of m numbers that are all 0
zeros_go : (w m : ℕ) (bs : List ℕ) → ((i : ℕ) → i < m → get_or (run_from_bytes w m bs) i 0 ≡ 0) → (j : ℕ) → j < m * w → get_or bs j 0 ≡ 0
unfolding run_from_bytes
zeros_go w zero bs h j l = absurd (omega arith)
zeros_go w (suc m) bs h j l = go (dec_lt j w) (λ k. zeros_go w m (drop w bs) (λ i s. h (suc i) (omega arith)) (j - w) (omega arith))
  where
    go : Dec (j < w) → (w ≤ j → get_or (drop w bs) (j - w) 0 ≡ 0) → get_or bs j 0 ≡ 0
    go (yes k) rest = zero_from w bs (h 0 (omega arith)) j k
    go (no k) rest =
        let e : w + (j - w) ≡ j = omega arith in
        ap (λ (x : ℕ). get_or bs x 0) (sym e) ∙ sym (get_or-drop w bs (j - w) 0) ∙ rest (omega arith)

pub zero_run : (b : List ℕ) (at w n : ℕ) → n ≤ 256 → BlankRun b at w n → Zeros b (at + n * w) (at + 256 * w)
unfolding numbers_at
zero_run b at w n few r =
    record {
      each = λ j l m.
          let e : at + n * w + (j - (at + n * w)) ≡ j = omega arith in
          let f : (256 - n) * w + n * w ≡ 256 * w = (let g : 256 - n + n ≡ 256 = omega arith in omega (arith, ap (λ (x : ℕ). x * w) g)) in
          ap (λ (x : ℕ). get_or b x 0) (sym e)
          ∙ sym (get_or-drop (at + n * w) b (j - (at + n * w)) 0)
          ∙ zeros_go w (256 - n) (drop (at + n * w) b) same (j - (at + n * w)) (omega arith);
    }
  where
    same : (i : ℕ) → i < 256 - n → get_or (run_from_bytes w (256 - n) (drop (at + n * w) b)) i 0 ≡ 0
    same i l =
        let e : at + n * w + i * w ≡ at + (n + i) * w = omega arith in
        sym (number_at_lem w (256 - n) (at + n * w) b i _ l refl)
        ∙ ap (λ (x : ℕ). number_at b x w) e
        ∙ number_at_lem w 256 at b (n + i) _ (omega arith) refl
        ∙ r.each (n + i) (omega arith) (omega arith)

-- ---- flags of bytes 0

unset : (v : ℕ) → not (eqb v 0) ≡ false → v ≡ 0
unset v e = eqb-true v 0 (not-false (eqb v 0) e)

pub flags_zero : (b : List ℕ) (at n : ℕ) → Zeros b (at + n) (at + 256) → BlankFlags b at n
flags_zero b at n z =
    record { each = λ i l m. flag_at 256 at b i m ∙ ap (λ (v : ℕ). not (eqb v 0)) (z.each (at + i) (omega arith) (omega arith)) }

pub zero_flags : (b : List ℕ) (at n : ℕ) → BlankFlags b at n → Zeros b (at + n) (at + 256)
zero_flags b at n x =
    record {
      each = λ j l m.
          let e : at + (j - at) ≡ j = omega arith in
          ap (λ (z : ℕ). get_or b z 0) (sym e)
          ∙ unset (get_or b (at + (j - at)) 0) (sym (flag_at 256 at b (j - at) (omega arith)) ∙ x.each (j - at) (omega arith) (omega arith));
    }
