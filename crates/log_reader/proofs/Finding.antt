-- The laws of a step that a text begins with: digits found one after another, the number that they are the text of, and texts that stand
-- one behind the other. Assumes nothing.
use mathlib.Core.Path.{◌≡◌, refl, sym, ap, ◌∙◌}
use mathlib.Core.Bool.{Bool, true, false, cond, ◌||◌, false≢true}
use mathlib.Core.List.{List, [], ◌∷◌, ◌++◌}
use Prim.Native.Nat.{ℕ, suc, ◌+◌, ◌*◌, ◌-◌, ◌≤◌, ◌<◌}
use native.Mathlib.Nat.{add-zero}
use native.Mathlib.Omega.{arith}
use borrow.Author.Tests.{ltb-true, eqb-true, le-leb}
use lib.Dec.{ltb, eqb}
use lib.ListN.{length, get_or, take, drop, length-append, length-take, length-drop}
use lib.Seq.{length-take-le, take-suc, drop-cons, get_or-take, get_or-drop, drop-drop, take-add}
use Rattle.decimal.specs.Decimal.{text_of, all_digits, shaped, value_of, digits_of}
use Rattle.decimal.proofs.Laws.{value_snoc, is_digit_lem, all_snoc, all_at, digits_value, shape_one, shape_more}
use Rattle.types.specs.declared.Step.TheVariants.{Read, Write, Flush}
use Rattle.types.specs.declared.Numbers.{Numbers}
use Rattle.types.specs.Types.{numbers_of}
use Rattle.landlord.specs.Steps.{in_range, range_refusal}
use Rattle.landlord.proofs.Steps.{range_free}
use Rattle.season_lines.specs.Lines.{kind_under, range_under}
use Rattle.season_log.specs.Log.{no_values, step_text}
use Rattle.season_log.proofs.Lines.{under_same}
use Rattle.std.specs.{Prelude.Some}
use Rattle.log_reader.specs.Inner.{part, DigitsAt, NumberAt, TextAt, EndAt, Begins}

-- ## Digits found

part_length : (text : List ℕ) (from end : ℕ) → from ≤ end → end ≤ length text → length (part from end text) ≡ end - from
part_length text from end h k = length-take-le (end - from) (drop from text) (omega (arith, length-drop from text))

part_none : (text : List ℕ) (from : ℕ) → part from from text ≡ []
part_none text from = let e : from - from ≡ 0 = omega arith in ap (λ (n : ℕ). take n (drop from text)) e

-- one byte more
part_next :
    (text : List ℕ) (from at : ℕ) → from ≤ at → at < length text → part from (at + 1) text ≡ part from at text ++ (get_or text at 0 ∷ [])
part_next text from at h k =
    let e : at + 1 - from ≡ suc (at - from) = omega arith in
    let p : from + (at - from) ≡ at = omega arith in
    ap (λ (n : ℕ). take n (drop from text)) e
    ∙ take-suc (drop from text) (at - from) 0 (omega (arith, length-drop from text))
    ∙ ap (λ (b : ℕ). part from at text ++ (b ∷ [])) (get_or-drop from text (at - from) 0 ∙ ap (λ (n : ℕ). get_or text n 0) p)

pub digits_none : (text : List ℕ) (from : ℕ) → from ≤ length text → DigitsAt text from 0 from
unfolding all_digits value_of
digits_none text from h =
    record {
      onward = omega arith;
      within = h;
      few = omega arith;
      digits = ap all_digits (part_none text from);
      worth = sym (ap value_of (part_none text from));
    }

-- at most three digits stand for less than 1,000
three_worth : (s : List ℕ) → all_digits s ≡ true → length s ≤ 3 → value_of s < 1000
unfolding value_of
three_worth [] h k = omega arith
three_worth (a ∷ []) h k = omega (arith, (all_at (a ∷ []) 0 h (omega arith)).1)
three_worth (a ∷ b ∷ []) h k =
    omega (arith, (all_at (a ∷ b ∷ []) 0 h (omega arith)).1, (all_at (a ∷ b ∷ []) 1 h (omega arith)).1)
three_worth (a ∷ b ∷ c ∷ []) h k =
    omega
    (arith, (all_at (a ∷ b ∷ c ∷ []) 0 h (omega arith)).1, (all_at (a ∷ b ∷ c ∷ []) 1 h (omega arith)).1, (all_at (a ∷ b ∷ c ∷ []) 2 h (omega arith)).1)
three_worth (a ∷ b ∷ c ∷ d ∷ s) h k = absurd (omega arith)

module _ {text : List ℕ} {from v end : ℕ} (d : DigitsAt text from v end) where
  count : length (part from end text) ≡ end - from
  count = part_length text from end d.onward d.within

  pub digits_small : end - from < 4 → v < 1000
  digits_small h = omega (arith, d.worth, three_worth (part from end text) d.digits (omega (arith, count)))

  pub digits_next :
      end < length text → end - from < 4 → 48 ≤ get_or text end 0 → get_or text end 0 ≤ 57 →
      DigitsAt text from (v * 10 + (get_or text end 0 - 48)) (end + 1)
  digits_next h k low high =
      let p = part_next text from end d.onward h in
      let b = get_or text end 0 in
      record {
        onward = omega (arith, d.onward);
        within = omega arith;
        few = omega (arith, d.onward);
        digits = ap all_digits p ∙ all_snoc (part from end text) b d.digits (is_digit_lem b low high);
        worth =
            ap (λ (n : ℕ). n * 10 + (b - 48)) d.worth
            ∙ sym (ap value_of p ∙ value_snoc (part from end text) b);
      }

  -- ## A number found

  number_shaped : from < end → shaped (part from end text) ≡ true → NumberAt text from v end
  number_shaped k s = record { some = k; within = d.within; number = sym (ap digits_of d.worth ∙ digits_value (part from end text) s) }

  -- a digit alone
  pub number_one : from < end → end ≤ from + 1 → NumberAt text from v end
  number_one k h =
      number_shaped k (shape_one (part from end text) (omega (arith, count)) (omega (arith, count)) d.digits)

  -- or digits of which the first is no zero
  pub number_more : from < end → (get_or text from 0 ≡ 48 → ⊥) → NumberAt text from v end
  number_more k h =
      let first : get_or (part from end text) 0 0 ≡ get_or text from 0 =
      get_or-take (end - from) (drop from text) 0 0 (omega arith) ∙ get_or-drop from text 0 0 ∙ ap (λ (n : ℕ). get_or text n 0) (add-zero from) in
      number_shaped k (shape_more (part from end text) (omega (arith, count)) (λ e. h (sym first ∙ e)) d.digits)

-- ## Texts that stand one behind the other

-- the text t stands at a place, and u behind it
stands_then :
    (text : List ℕ) (at next : ℕ) (t u : List ℕ) → TextAt text at t → at + length t ≡ next → TextAt text next u → TextAt text at (t ++ u)
stands_then text at next t u h e k =
    ap (λ (n : ℕ). take n (drop at text)) (length-append t u)
    ∙ take-add (length t) (length u) (drop at text)
    ∙ (λ i. h i ++ take (length u) (drop-drop (length t) at text i))
    ∙ ap (λ (n : ℕ). t ++ take (length u) (drop n text)) e
    ∙ ap (λ (s : List ℕ). t ++ s) k

pub stands_within : (text : List ℕ) (at : ℕ) (t : List ℕ) → TextAt text at t → length t ≤ length text - at
stands_within text at t h = omega (arith, ap length h, length-take (length t) (drop at text), length-drop at text)

-- a byte stands where it was found
pub stands_byte :
    (text : List ℕ) (at b : ℕ) (found : Bool) → found ≡ cond (ltb at (length text)) (eqb (get_or text at 0) b) false → found ≡ true → TextAt text at (b ∷ [])
stands_byte text at b found e k = go (ltb at (length text)) refl (sym e ∙ k)
  where
    go : (t : Bool) → ltb at (length text) ≡ t → cond t (eqb (get_or text at 0) b) false ≡ true → TextAt text at (b ∷ [])
    go true e h =
        ap (λ (s : List ℕ). take 1 s) (drop-cons text at 0 (ltb-true at (length text) e))
        ∙ ap (λ (x : ℕ). x ∷ []) (eqb-true (get_or text at 0) b h)
    go false e h = absurd (false≢true h)

module _ {text : List ℕ} {from v end : ℕ} (n : NumberAt text from v end) where
  digits_count : from + length (digits_of v) ≡ end
  digits_count =
      omega (arith, n.some, ap length n.number, part_length text from end (omega (arith, n.some)) n.within)

  stands_number : TextAt text from (digits_of v)
  stands_number =
      let e : length (digits_of v) ≡ end - from = omega (arith, digits_count) in
      ap (λ (k : ℕ). take k (drop from text)) e ∙ n.number

-- ## A line found

-- a step that every heading has
ranged_under : (heading : ℕ) (n : Numbers) → (eqb n.kind 65 || eqb n.kind 81) ≡ false → in_range n ≡ true → range_under heading n ≡ 0
ranged_under heading n e r = let kind : kind_under heading n.kind ≡ n.kind = grind arith in ap range_refusal (under_same heading n kind) ∙ range_free n r

module _ (heading : ℕ) (text : List ℕ) where
  pub read_begins :
      (v end bytes : ℕ) →
      take 2 text ≡ text_of "R " →
      NumberAt text 2 v end →
      v ≤ 255 →
      TextAt text end (32 ∷ []) →
      TextAt text (end + 1) (45 ∷ []) →
      EndAt heading text (end + 2) (Some bytes) →
      Begins heading text (Read v) bytes
  unfolding step_text
  read_begins v end bytes kind item small space dash feed =
      let last : List ℕ = text_of " -" ++ no_values heading in
      let close : TextAt text end last =
      stands_then text end (end + 1) (32 ∷ []) (45 ∷ no_values heading) space refl
      (stands_then text (end + 1) (end + 2) (45 ∷ []) (no_values heading) dash (omega arith) feed.1) in
      let line : TextAt text 0 (step_text heading (Read v)) =
      stands_then text 0 2 (text_of "R ") (digits_of v ++ last) kind refl
      (stands_then text 2 end (digits_of v) last (stands_number item) (digits_count item) close) in
      let count : bytes ≡ length (step_text heading (Read v)) =
      omega (arith, feed.0, digits_count item, length-append (digits_of v) last) in
      record {
        count = count;
        line = ap (λ (n : ℕ). take n text) count ∙ line;
        ranged = ranged_under heading (numbers_of (Read v)) refl (le-leb v 255 small);
      }

  pub write_begins :
      (v space m end bytes : ℕ) →
      take 2 text ≡ text_of "W " →
      NumberAt text 2 v space →
      v ≤ 255 →
      TextAt text space (32 ∷ []) →
      NumberAt text (space + 1) m end →
      m ≤ 1440 →
      EndAt heading text end (Some bytes) →
      Begins heading text (Write v m) bytes
  unfolding step_text
  write_begins v space m end bytes kind item small between minutes few feed =
      let last : List ℕ = digits_of m ++ no_values heading in
      let close : TextAt text (space + 1) last =
      stands_then text (space + 1) end (digits_of m) (no_values heading) (stands_number minutes) (digits_count minutes) feed.1 in
      let line : TextAt text 0 (step_text heading (Write v m)) =
      stands_then text 0 2 (text_of "W ") (digits_of v ++ (text_of " " ++ last)) kind refl
      (stands_then text 2 space (digits_of v) (text_of " " ++ last) (stands_number item) (digits_count item)
      (stands_then text space (space + 1) (text_of " ") last between refl close)) in
      let count : bytes ≡ length (step_text heading (Write v m)) =
      omega (arith, feed.0, digits_count item, digits_count minutes, length-append (digits_of v) (text_of " " ++ last), length-append (digits_of m) (no_values heading)) in
      record {
        count = count;
        line = ap (λ (n : ℕ). take n text) count ∙ line;
        ranged = ranged_under heading (numbers_of (Write v m)) refl (rw (le-leb v 255 small) (le-leb m 1440 few));
      }

  pub flush_begins : (bytes : ℕ) → take 5 text ≡ text_of "L - -" → EndAt heading text 5 (Some bytes) → Begins heading text Flush bytes
  unfolding step_text
  flush_begins bytes h feed =
      let line : TextAt text 0 (step_text heading Flush) =
      stands_then text 0 5 (text_of "L - -") (no_values heading) h refl feed.1 in
      let count : bytes ≡ length (step_text heading Flush) = omega (arith, feed.0) in
      record {
        count = count;
        line = ap (λ (n : ℕ). take n text) count ∙ line;
        ranged = ranged_under heading (numbers_of Flush) refl refl;
      }
