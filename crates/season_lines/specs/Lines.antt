-- The headings of the tables, and a value line under each heading judged by its fields alone; what a field is, and how a line falls
-- into fields, is in crates/line_fields/specs/Fields.antt. Nothing here knows a catalogue, a capacity or a place among the tables.
-- Paper 01, 'The text input' and 'When the library says no', and paper 02, 'Three' and 'Six'. Assumes nothing.
use mathlib.Core.{Bool.{Bool, cond, not, ◌&&◌, ◌||◌}, List.{List, [], ◌∷◌}}
use Rattle.std.specs.Prelude.{ℕ, suc, Option, Some, None, Result, Ok, Err}
use lib.{ListN.{length, get_or}, Dec.{leb, eqb}}
use Rattle.decimal.specs.Decimal.{text_of, same_text}
use Rattle.line_fields.specs.{declared.Field.{Field, TheVariants.{Dash, Rule}}, Fields.{split, field_at, is_number, is_letter, is_dash, is_rule, value_in, rule_in, is_either, none_empty}}
use Rattle.season_lines.specs.declared.Line.{Line, TheVariants.{Sizes, Item as ItemLine, Step, Act as ActLine}}
use Rattle.types.specs.declared.{Numbers.Numbers, Deduction.TheVariants.WriteFirst, Refusal.{Refusal, TheVariants.Malformed}}
use Rattle.types.specs.Types.{act_of, numbers_from, read_kind, write_kind, flush_kind, arrive_kind, retire_kind, evict_kind, fetch_kind, step_of, telling, refusal_from}
use Rattle.landlord.specs.{Catalog.{listed, item_in_range, capacity_in_range}, Steps.range_refusal}

-- ## The headings: "A table is a line of names"

-- the lines of names that a table may have, the tables counted from 0
unfoldable pub headings : ℕ → List (List ℕ)
headings table =
    cond (eqb table 0) (text_of "locker rival" ∷ text_of "locker rival rule" ∷ [])
    (cond (eqb table 1) (text_of "sail blocks load write" ∷ [])
    (cond (eqb table 2) (text_of "step sail minutes" ∷ text_of "step sail minutes blocks load write" ∷ [])
    (text_of "at act sail" ∷ [])))

-- the text of a heading of a table, its headings counted from 0; of the first one if there is no such heading
abbrev pub heading_text : ℕ → ℕ → List ℕ
heading_text table heading = get_or (headings table) heading (get_or (headings table) 0 [])

-- how many names it has
unfoldable pub names_in : ℕ → ℕ → ℕ
names_in table heading = length (split 32 (heading_text table heading))

-- which of some headings a line is, counted from f
unfoldable pub heading_among : ℕ → List (List ℕ) → List ℕ → Option ℕ
heading_among f [] l = None
heading_among f (names ∷ rest) l = cond (same_text l names) (Some f) (heading_among (suc f) rest l)

-- which heading of a table a line is
unfoldable pub heading_of : ℕ → List ℕ → Option ℕ
heading_of table l = heading_among 0 (headings table) l

-- ## A value line under each heading, judged by its fields alone: its shape (1), then its ranges (3), then a rule's word (18)

-- "in the order .. shape, 3": a line that has its table's shape is refused with the number that its values are given, and where that is 0
-- says what stands in it
abbrev pub judged : Bool → ℕ → Line → ℕ → Result Line Refusal
judged shape number l n = cond shape (cond (eqb number 0) (Ok l) (Err (refusal_from (telling number n 0)))) (Err (Malformed n))

-- `locker rival rule`: "k and h, each 1 to 4,096"; then "18 when the rule word, any field of one byte or more, is neither"
unfoldable pub sizes_line : Field → Field → Field → ℕ → Result Line Refusal
sizes_line k h rule n =
    judged (is_number k && is_number h)
    (cond (capacity_in_range (value_in k) && capacity_in_range (value_in h)) (cond (is_rule rule) 0 18) 3)
    (Sizes (value_in k) (value_in h) (rule_in rule)) n

-- the field of the rule's word: only heading 1, `locker rival rule`, has one, and "the old heading means write-first"
abbrev pub rule_field : ℕ → Field → Field
rule_field heading f = cond (eqb heading 1) f (Rule WriteFirst)

-- `sail blocks load write`: the sail's number 0 to 255, and an item in range
unfoldable pub item_line : Field → Field → Field → Field → ℕ → Result Line Refusal
item_line i b l w n =
    judged (is_number i && is_number b && is_number l && is_number w)
    (cond (leb (value_in i) 255 && item_in_range (listed (value_in b) (value_in l) (value_in w))) 0 3)
    (ItemLine (value_in i) (value_in b) (value_in l) (value_in w)) n

-- A kind as the heading takes it: heading 1 has "step A" and "step Q"; "A and Q under the old one are off the tape", and 0 is no kind.
abbrev pub kind_under : ℕ → ℕ → ℕ
kind_under heading kind = cond (eqb heading 1) kind (cond (eqb kind arrive_kind || eqb kind retire_kind) 0 kind)

-- a step's numbers as the heading takes them
abbrev pub numbers_under : ℕ → Numbers → Numbers
numbers_under heading n = numbers_from (kind_under heading n.kind) n.item n.minutes n.blocks n.load n.write

-- what the table says to them then by their ranges
abbrev pub range_under : ℕ → Numbers → ℕ
range_under heading n = range_refusal (numbers_under heading n)

-- one of the three fields behind the minutes: only heading 1 has them, and under the old one there is nothing in them
abbrev pub value_field : ℕ → Field → Field
value_field heading f = cond (eqb heading 1) f Dash

-- R, W, L, A or Q
abbrev pub is_step_kind : ℕ → Bool
is_step_kind kind = eqb kind read_kind || eqb kind write_kind || eqb kind flush_kind || eqb kind arrive_kind || eqb kind retire_kind

-- behind a known kind what the step has is a number, and what it lacks is `-`; "after an unknown one each field may be a number or `-`"
abbrev pub is_due : Bool → Bool → Field → Bool
is_due known has f = cond known (cond has (is_number f) (is_dash f)) (is_either f)

-- "Minutes is `-` for R; sail and minutes are `-` for L. Nothing else may be `-`", and of the three last only A has any: every step but L
-- has a sail, W alone has minutes, A alone has the three values.
unfoldable pub step_shape : ℕ → Field → Field → Field → Field → Field → Bool
step_shape kind item minutes blocks load write =
    let known = is_step_kind kind in
    is_due known (not (eqb kind flush_kind)) item && is_due known (eqb kind write_kind) minutes
    && is_due known (eqb kind arrive_kind) blocks && is_due known (eqb kind arrive_kind) load && is_due known (eqb kind arrive_kind) write

-- `step sail minutes blocks load write`; the ranges are those of a call
unfoldable pub step_line : ℕ → Field → Field → Field → Field → Field → Field → ℕ → Result Line Refusal
step_line heading kind item minutes blocks load write n =
    let values = numbers_from (value_in kind) (value_in item) (value_in minutes) (value_in blocks) (value_in load) (value_in write) in
    let numbers = numbers_under heading values in
    judged (is_letter kind && step_shape numbers.kind item minutes blocks load write) (range_under heading values) (Step (step_of numbers)) n

-- D or F
abbrev pub is_act_kind : ℕ → Bool
is_act_kind kind = eqb kind evict_kind || eqb kind fetch_kind

-- `at act sail`: "`at` from 0 to 999,999"; only behind an unknown kind may the sail be `-`
unfoldable pub act_line : Field → Field → Field → ℕ → Result Line Refusal
act_line place kind item n =
    judged (is_number place && is_letter kind && cond (is_act_kind (value_in kind)) (is_number item) (is_either item))
    (cond (leb (value_in place) 999999 && is_act_kind (value_in kind) && leb (value_in item) 255) 0 3)
    (ActLine (value_in place) (act_of (value_in kind) (value_in item))) n

-- a value line with as many fields as are due, by its table's own rules
unfoldable pub values_in : ℕ → ℕ → List Field → ℕ → Result Line Refusal
values_in table heading fs n =
    let a = field_at fs 0 in
    let b = field_at fs 1 in
    let c = field_at fs 2 in
    cond (eqb table 0) (sizes_line a b (rule_field heading c) n)
    (cond (eqb table 1) (item_line a b c (field_at fs 3) n)
    (cond (eqb table 2) (step_line heading a b c (value_field heading (field_at fs 3)) (value_field heading (field_at fs 4)) (value_field heading (field_at fs 5)) n)
    (act_line a b c n)))

-- "lines of values in that order, split by single spaces": as many fields as the heading has names, none of them empty; then its own rules
unfoldable pub line_in : ℕ → ℕ → List Field → ℕ → Result Line Refusal
line_in table heading fs n =
    cond (eqb (length fs) (names_in table heading) && none_empty fs) (values_in table heading fs n) (Err (Malformed n))
