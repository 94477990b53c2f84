-- How many bytes the parts of a step's line have. Assumes nothing.
use mathlib.Core.Path.{◌≡◌, refl, sym, ap, ◌∙◌}
use mathlib.Core.Bool.{Bool, true, false, cond, not, ◌||◌, false≢true}
use mathlib.Core.List.{List, [], ◌++◌, append-nil}
use mathlib.Core.Logic.{◌≢◌}
use Prim.Native.Nat.{ℕ, zero, suc, ◌+◌, ◌-◌, ◌≤◌}
use native.Mathlib.Omega.{arith}
use borrow.Rule.Slice.PartMut.{mid_of, put_mid}
use lib.Dec.{eqb}
use lib.ListN.{length, length-append}
use Rattle.decimal.specs.Decimal.{text_of, digits_of}
use Rattle.decimal.specs.InnerPages.{text_over}
use Rattle.decimal.proofs.Laws.{digits_length}
use Rattle.decimal.proofs.Pages.{TextGoing, go_as, go_next, go_end}
use Rattle.types.specs.declared.Numbers.{Numbers}
use Rattle.types.specs.declared.Step.TheVariants.{Flush, Write}
use Rattle.types.specs.Types.{step_of}
use Rattle.landlord.specs.Steps.{in_range, range_refusal}
use Rattle.landlord.proofs.Steps.{free_range}
use Rattle.season_log.proofs.Lines.{kind_kept, under_same}
use Rattle.season_lines.specs.Lines.{headings, numbers_under, range_under}
use Rattle.season_log.specs.Log.{step_text, list_number, list_numbers}
use Rattle.season_log.specs.Inner.{names_text, named_text, arrival_text, range_at, step_at}

-- numbers in range under a heading are so as they are
pub range_kept : (heading : ℕ) (n : Numbers) → in_range (numbers_under heading n) ≡ true → in_range n ≡ true
range_kept heading n r = grind arith

-- of those that are in range as they are, the three names have no arrival and no retirement
pub range_named : (heading : ℕ) (n : Numbers) → in_range n ≡ true → in_range (numbers_under heading n) ≡ (eqb heading 1 || not (eqb n.kind 65 || eqb n.kind 81))
range_named heading n r = grind arith

-- and what is out of range as it is, is so under a heading, and told by the same number
pub range_stays : (heading : ℕ) (n : Numbers) → range_refusal n ≢ 0 → range_refusal n ≡ range_under heading n
unfolding range_refusal
range_stays heading n some = go (in_range n) (in_range (numbers_under heading n)) refl refl
  where
    go : (t u : Bool) → in_range n ≡ t → in_range (numbers_under heading n) ≡ u → ◌≡◌ {A = ℕ} (cond (in_range n) 0 3) (cond (in_range (numbers_under heading n)) 0 3)
    go true u e d = absurd (some (rw e))
    go false true e d = absurd (false≢true (sym e ∙ range_kept heading n d))
    go false false e d = rw (e, d)

pub joined_length : (s t : List ℕ) → length (s ++ t) ≡ length s + length t
joined_length s t = length-append s t

-- the digits of each number
pub item_digits : (i : ℕ) → i ≤ 255 → length (digits_of i) ≤ 3
item_digits i h = digits_length i 3 (omega arith) (omega arith)

pub minutes_digits : (m : ℕ) → m ≤ 1440 → length (digits_of m) ≤ 4
minutes_digits m h = digits_length m 4 (omega arith) (omega arith)

pub blocks_digits : (b : ℕ) → b ≤ 16 → length (digits_of b) ≤ 2
blocks_digits b h = digits_length b 2 (omega arith) (omega arith)

pub cost_digits : (c : ℕ) → c ≤ 65535 → length (digits_of c) ≤ 5
cost_digits c h = digits_length c 5 (omega arith) (omega arith)

-- the names under each heading
pub names_are : (heading : ℕ) → names_text heading ≡ cond (eqb heading 1) (text_of "step sail minutes blocks load write\n") (text_of "step sail minutes\n")
unfolding headings
names_are zero = refl
names_are (suc zero) = refl
names_are (suc (suc heading)) = grind arith

-- ## A step in range

pub item_range : (n : Numbers) → in_range n ≡ true → n.kind ≢ 76 → n.item ≤ 255
item_range n r k = grind arith

pub minutes_range : (n : Numbers) → in_range n ≡ true → n.kind ≡ 87 → n.minutes ≤ 1440
minutes_range n r k = grind arith

pub kind_range : (n : Numbers) → in_range n ≡ true → n.kind ≤ 87
kind_range n r = grind arith

-- where numbers are in range under a heading, it keeps them
pub under_kept : (heading : ℕ) (n : Numbers) → range_under heading n ≡ 0 → numbers_under heading n ≡ n
under_kept heading n r = under_same heading n (kind_kept heading n (free_range (numbers_under heading n) r))

pub under_range : (heading : ℕ) (n : Numbers) → range_under heading n ≡ 0 → in_range n ≡ true
under_range heading n r = range_kept heading n (free_range (numbers_under heading n) r)

-- the line of a step in range, by its kind
line_kind :
    (heading : ℕ) (n : Numbers) →
    in_range n ≡ true →
    step_text heading (step_of n)
    ≡ cond (eqb n.kind 76) (step_text heading Flush)
    (cond (eqb n.kind 87) (step_text heading (Write n.item n.minutes))
    (cond (eqb n.kind 65) (arrival_text n) (named_text heading n.kind n.item)))
unfolding step_text step_of
line_kind heading n r = grind arith

-- ## The step in range at a place of a list

module _ (heading at : ℕ) (list : List ℕ) (r : range_at heading at list ≡ 0) where
  in_list : in_range (list_numbers at list) ≡ true
  in_list = under_range heading (list_numbers at list) r

  pub kind_at : list_number at list ≤ 87
  kind_at = kind_range (list_numbers at list) in_list

  pub item_at : list_number at list ≢ 76 → list_number (at + 4) list ≤ 255
  item_at = item_range (list_numbers at list) in_list

  pub minutes_at : list_number at list ≡ 87 → list_number (at + 8) list ≤ 1440
  minutes_at = minutes_range (list_numbers at list) in_list

  pub line_at :
      step_text heading (step_at heading at list)
      ≡ cond (eqb (list_number at list) 76) (step_text heading Flush)
      (cond (eqb (list_number at list) 87) (step_text heading (Write (list_number (at + 4) list) (list_number (at + 8) list)))
      (cond (eqb (list_number at list) 65) (arrival_text (list_numbers at list)) (named_text heading (list_number at list) (list_number (at + 4) list))))
  line_at =
      ap (λ (m : Numbers). step_text heading (step_of m)) (under_kept heading (list_numbers at list) r)
      ∙ line_kind heading (list_numbers at list) in_list

-- ## A page

-- the last part of a text is written
pub go_last :
    {all before : List ℕ} (room : length all ≤ length before) {a : ℕ} (t : List ℕ) {page ys : List ℕ} {w : ℕ} →
    TextGoing all before a t page →
    w ≡ length t →
    ys ≡ text_over t (mid_of a (length page - a) page) →
    put_mid a (length page - a) page ys ≡ text_over all before
go_last room t g l e = (go_end (go_next room t [] (go_as (sym (append-nil t)) g) l e)).1
