-- The laws that a scan over lines by positions cites: which lines are torn whatever their heading, and what a line says. How a text
-- falls into pieces is in crates/line_fields/proofs/Pieces.antt. Assumes nothing.
use mathlib.Core.Path.{◌≡◌, refl}
use mathlib.Core.Bool.{Bool, true, cond, ◌&&◌}
use mathlib.Core.List.{List}
use Prim.Native.Nat.{ℕ, ◌≤◌, ◌<◌}
use native.Mathlib.Omega.{arith}
use borrow.Author.Tests.{eqb-true}
use lib.Dec.{leb, eqb}
use lib.ListN.{length}
use Rattle.std.specs.Prelude.{Result, Ok, Err}
use Rattle.types.specs.declared.Refusal.{Refusal, TheVariants.{Malformed}}
use Rattle.types.specs.declared.Numbers.{Numbers}
use Rattle.types.specs.Types.{act_of, numbers_from, numbers_of, step_of, telling, refusal_line}
use Rattle.types.proofs.Refusals.{refusal_line_lem}
use Rattle.landlord.specs.Steps.{in_range, range_refusal}
use Rattle.landlord.specs.Catalog.{listed, capacity_in_range, item_in_range}
use Rattle.landlord.proofs.Steps.{free_range, range_means}
use Rattle.line_fields.specs.declared.Field.{Field}
use Rattle.line_fields.specs.Fields.{field_at, is_number, is_letter, is_rule, is_either, is_empty, value_in, rule_in, none_empty}
use Rattle.line_fields.proofs.Pieces.{one_empty}
use Rattle.season_lines.specs.declared.Line.{Line}
use Rattle.season_lines.specs.declared.Line.TheVariants.{Sizes, Item as ItemLine, Step, Act as ActLine}
use Rattle.season_lines.specs.Lines.{names_in, judged, sizes_line, item_line, numbers_under, step_shape, step_line, is_act_kind, act_line, values_in, line_in}
use Rattle.std.proofs.lemmas.Bool.{cond_both}
use Rattle.season_lines.proofs.Laws.{names_are}

-- ## Lines that are torn whatever their heading

module _ (table heading : ℕ) (fs : List Field) (n : ℕ) where
  -- more fields than names
  pub many_malformed : names_in table heading < length fs → line_in table heading fs n ≡ Err (Malformed n)
  unfolding line_in
  many_malformed h = grind arith

  -- an empty field
  pub empty_malformed : (j : ℕ) → j < length fs → is_empty (field_at fs j) ≡ true → line_in table heading fs n ≡ Err (Malformed n)
  unfolding line_in
  empty_malformed j h e = grind (arith, one_empty fs j h e)

-- ## What a line says

-- A line stands in its own table, its values are in range, and a step or an act has three fields or more; a refusal is told on this line.
abbrev pub Says : ℕ → ℕ → ℕ → Result Line Refusal → Type 0
Says table fields n (Ok (Sizes k h r)) = (table ≡ 0) × (1 ≤ k) × (k ≤ 4096) × (1 ≤ h)
Says table fields n (Ok (ItemLine i b l w)) = (table ≡ 1) × (i ≤ 255) × (item_in_range (listed b l w) ≡ true)
Says table fields n (Ok (Step s)) = (table ≡ 2) × (3 ≤ fields) × (in_range (numbers_of s) ≡ true)
Says table fields n (Ok (ActLine place act)) = (3 ≤ table) × (3 ≤ fields)
Says table fields n (Err r) = refusal_line r ≡ n

module _ (table fields n : ℕ) where
  -- so of a line that is judged
  judged_says :
      (shape : Bool) (number : ℕ) (l : Line) →
      (number ≡ 0 → Says table fields n (Ok l)) →
      Says table fields n (judged shape number l n)
  judged_says shape number l f =
      let P : Result Line Refusal → Type 0 = Says table fields n in
      cond_both shape _ (Err (Malformed n)) P (λ s. cond_both (eqb number 0) (Ok l) _ P (λ z. f (eqb-true number 0 z)) (λ z. refusal_line_lem (telling number n 0))) (λ s. refl)

  -- and so the line of each table
  sizes_says : (k h rule : Field) → table ≡ 0 → Says table fields n (sizes_line k h rule n)
  unfolding sizes_line
  sizes_says k h rule e =
      judged_says (is_number k && is_number h) (cond (capacity_in_range (value_in k) && capacity_in_range (value_in h)) (cond (is_rule rule) 0 18) 3) (Sizes (value_in k) (value_in h) (rule_in rule))
      (λ z. grind arith)

  item_says : (i b l w : Field) → table ≡ 1 → Says table fields n (item_line i b l w n)
  unfolding item_line
  item_says i b l w e =
      judged_says (is_number i && is_number b && is_number l && is_number w)
      (cond (leb (value_in i) 255 && item_in_range (listed (value_in b) (value_in l) (value_in w))) 0 3)
      (ItemLine (value_in i) (value_in b) (value_in l) (value_in w))
      (λ z. grind arith)

  step_says :
      (heading : ℕ) (kind item minutes blocks load write : Field) →
      table ≡ 2 →
      3 ≤ fields →
      Says table fields n (step_line heading kind item minutes blocks load write n)
  unfolding step_line
  step_says heading kind item minutes blocks load write e f =
      judged_says (is_letter kind && step_shape x.kind item minutes blocks load write) (range_refusal x) (Step (step_of x))
      (λ z. (e, f, free_range (numbers_of (step_of x)) (range_means x z)))
    where
      x : Numbers
      x = numbers_under heading (numbers_from (value_in kind) (value_in item) (value_in minutes) (value_in blocks) (value_in load) (value_in write))

  act_says : (place kind item : Field) → 3 ≤ table → 3 ≤ fields → Says table fields n (act_line place kind item n)
  unfolding act_line
  act_says place kind item e f =
      judged_says (is_number place && is_letter kind && cond (is_act_kind (value_in kind)) (is_number item) (is_either item))
      (cond (leb (value_in place) 999999 && is_act_kind (value_in kind) && leb (value_in item) 255) 0 3)
      (ActLine (value_in place) (act_of (value_in kind) (value_in item)))
      (λ z. (e, f))

pub line_says : (table heading : ℕ) (fs : List Field) (n : ℕ) → Says table (length fs) n (line_in table heading fs n)
unfolding line_in values_in
line_says table heading fs n =
    let P : Result Line Refusal → Type 0 = Says table (length fs) n in
    cond_both (eqb (length fs) (names_in table heading) && none_empty fs) (values_in table heading fs n) (Err (Malformed n)) P
    (λ due.
    let names = names_are table heading in
    cond_both (eqb table 0) _ _ P (λ t. sizes_says table (length fs) n _ _ _ (grind arith))
    (λ not_0. cond_both (eqb table 1) _ _ P (λ t. item_says table (length fs) n _ _ _ _ (grind arith))
    (λ not_1. cond_both (eqb table 2) _ _ P (λ t. step_says table (length fs) n heading _ _ _ _ _ _ (grind arith) (grind arith))
    (λ not_2. act_says table (length fs) n _ _ _ (grind arith) (grind arith)))))
    (λ due. refl)
