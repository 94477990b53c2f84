-- A field as the program holds it makes the line that the field itself makes: each range ends far below `beyond`, so every test gives
-- the same, and a line in range has the same numbers. Assumes nothing.
use mathlib.Core.Path.{◌≡◌, refl}
use mathlib.Core.List.{List, map}
use Prim.Native.Nat.{ℕ, ◌≤◌}
use native.Mathlib.Omega.{arith}
use lib.ListN.{length-map}
use Rattle.landlord.specs.Steps.{range_refusal}
use Rattle.types.specs.Types.{numbers_from, step_of}
use Rattle.types.specs.declared.Numbers.{Numbers}
use Rattle.line_fields.specs.declared.Field.{Field}
use Rattle.line_fields.specs.declared.Field.TheVariants.{Number, Letter, Dash, Word, Empty, Rule}
use Rattle.line_fields.specs.Fields.{value_in}
use Rattle.line_fields.specs.Inner.{held_field}
use Rattle.line_fields.proofs.Held.{held_number, held_dash, held_most, held_least, held_same, at_held_lem, none_held}
use Rattle.season_lines.specs.Lines.{sizes_line, rule_field, item_line, kind_under, value_field, step_shape, step_line, act_line, values_in, line_in}

held_sizes : (k h rule : Field) (n : ℕ) → sizes_line (held_field k) (held_field h) (held_field rule) n ≡ sizes_line k h rule n
unfolding sizes_line
held_sizes k h rule n = grind arith

held_item :
    (i b l w : Field) (n : ℕ) →
    item_line (held_field i) (held_field b) (held_field l) (held_field w) n ≡ item_line i b l w n
unfolding item_line
held_item i b l w n = grind arith

held_act :
    (place kind item : Field) (n : ℕ) →
    act_line (held_field place) (held_field kind) (held_field item) n ≡ act_line place kind item n
unfolding act_line
held_act place kind item n = grind arith

-- numbers of one letter that are the same as far as the table's ranges go mean the same step, if they are in range
module _
    (letter i m b l w j o c k x : ℕ)
    (item : i ≤ 255 → j ≡ i)
    (minutes : m ≤ 1440 → o ≡ m)
    (blocks : b ≤ 16 → c ≡ b)
    (load : l ≤ 65535 → k ≡ l)
    (write : w ≤ 65535 → x ≡ w)
  where
    same_step : range_refusal (numbers_from letter i m b l w) ≡ 0 → step_of (numbers_from letter j o c k x) ≡ step_of (numbers_from letter i m b l w)
    unfolding range_refusal step_of
    same_step e = grind arith

-- behind one letter
module _ (letter : ℕ) (item minutes blocks load write : Field) where
  abbrev numbers : (Field → Field) → Numbers
  numbers hold = numbers_from letter (value_in (hold item)) (value_in (hold minutes)) (value_in (hold blocks)) (value_in (hold load)) (value_in (hold write))

  held_shape :
      step_shape letter (held_field item) (held_field minutes) (held_field blocks) (held_field load) (held_field write)
      ≡ step_shape letter item minutes blocks load write
  unfolding step_shape
  held_shape = simp (held_number, held_dash)

  held_range : range_refusal (numbers held_field) ≡ range_refusal (numbers (λ f. f))
  unfolding range_refusal
  held_range =
      rw (
        held_most item 255 (omega arith),
        held_most minutes 1440 (omega arith),
        held_least blocks 1 (omega arith),
        held_most blocks 16 (omega arith),
        held_most load 65535 (omega arith),
        held_most write 65535 (omega arith),
      )

  held_step_of : range_refusal (numbers (λ f. f)) ≡ 0 → step_of (numbers held_field) ≡ step_of (numbers (λ f. f))
  held_step_of =
      same_step letter _ _ _ _ _ _ _ _ _ _
      (held_same item 255 (omega arith)) (held_same minutes 1440 (omega arith)) (held_same blocks 16 (omega arith)) (held_same load 65535 (omega arith)) (held_same write 65535 (omega arith))

-- a letter is held as it is, and behind another field there is no step
held_step :
    (heading : ℕ) (kind item minutes blocks load write : Field) (n : ℕ) →
    step_line heading (held_field kind) (held_field item) (held_field minutes) (held_field blocks) (held_field load) (held_field write) n
    ≡ step_line heading kind item minutes blocks load write n
unfolding step_line
held_step heading (Letter b) item minutes blocks load write n =
    let letter = kind_under heading b in
    grind (arith, held_shape letter item minutes blocks load write, held_range letter item minutes blocks load write, held_step_of letter item minutes blocks load write)
held_step heading (Number v) item minutes blocks load write n = refl
held_step heading Dash item minutes blocks load write n = refl
held_step heading Word item minutes blocks load write n = refl
held_step heading Empty item minutes blocks load write n = refl
held_step heading (Rule r) item minutes blocks load write n = refl

-- ## A line

rule_held : (heading : ℕ) (f : Field) → rule_field heading (held_field f) ≡ held_field (rule_field heading f)
rule_held heading f = grind arith

value_held : (heading : ℕ) (f : Field) → value_field heading (held_field f) ≡ held_field (value_field heading f)
value_held heading f = grind arith

values_held : (table heading : ℕ) (fs : List Field) (n : ℕ) → values_in table heading (map held_field fs) n ≡ values_in table heading fs n
unfolding values_in
values_held table heading fs n =
    simp (at_held_lem, rule_held, value_held, held_sizes, held_item, held_step, held_act)

-- the line that fields make is the line that they make as they are held
pub held_line : (table heading : ℕ) (fs : List Field) (n : ℕ) → line_in table heading (map held_field fs) n ≡ line_in table heading fs n
unfolding line_in
held_line table heading fs n = rw (length-map fs held_field, none_held fs, values_held table heading fs n)
