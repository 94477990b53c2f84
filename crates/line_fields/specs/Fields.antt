-- A text split into lines, a line into fields, and what a field is. Nothing here knows a heading: the lines are in
-- crates/season_lines/specs/Lines.antt. Paper 01, 'The text input', and paper 02, 'Three'. Assumes nothing.
use mathlib.Core.{Bool.{Bool, true, false, cond, not, ◌&&◌, ◌||◌}, List.{List, [], ◌∷◌}}
use Rattle.std.specs.Prelude.{ℕ}
use lib.{ListN.{length, get_or}, Dec.{leb, eqb}}
use Rattle.decimal.specs.Decimal.{text_of, same_text, shaped, value_of}
use Rattle.line_fields.specs.declared.Field.{Field, TheVariants.{Number, Letter, Dash, Word, Empty, Rule}}
use Rattle.types.specs.declared.Deduction.{Deduction, TheVariants.{WriteFirst, LoadFirst}}

-- a byte in front of the first piece
abbrev pub onto : ℕ → List (List ℕ) → List (List ℕ)
onto x [] = (x ∷ []) ∷ []
onto x (p ∷ ps) = (x ∷ p) ∷ ps

-- the pieces between the b's: one more than there are b's, and the last is what stands behind the last b
unfoldable pub split : ℕ → List ℕ → List (List ℕ)
split b [] = [] ∷ []
split b (x ∷ s) = cond (eqb x b) ([] ∷ split b s) (onto x (split b s))

-- "A kind is one capital letter"; `-` is 45
abbrev pub mark_of : ℕ → Field
mark_of b = cond (eqb b 45) Dash (cond (leb 65 b && leb b 90) (Letter b) Word)

-- the word of a rule of deduction: "`write-first` or `load-first`" (paper 02, 'Three')
unfoldable pub rule_word : Deduction → List ℕ
rule_word WriteFirst = text_of "write-first"
rule_word LoadFirst = text_of "load-first"

-- a field of some bytes that is nothing else: the word of a rule, or another word
unfoldable pub rule_or_word : List ℕ → Field
rule_or_word s = cond (same_text s (rule_word WriteFirst)) (Rule WriteFirst) (cond (same_text s (rule_word LoadFirst)) (Rule LoadFirst) Word)

-- what a field is: a number of any size, a capital letter, `-`, the word of a rule, another word of one byte or more, or empty
unfoldable pub field_of : List ℕ → Field
field_of s =
    cond (shaped s) (Number (value_of s))
    (cond (eqb (length s) 1) (mark_of (get_or s 0 0)) (cond (eqb (length s) 0) Empty (rule_or_word s)))

unfoldable pub all_fields : List (List ℕ) → List Field
all_fields [] = []
all_fields (p ∷ ps) = field_of p ∷ all_fields ps

-- the fields of a line, "split by single spaces"
abbrev pub fields_of : List ℕ → List Field
fields_of l = all_fields (split 32 l)

-- field j of a line; past the last one there is nothing
abbrev pub field_at : List Field → ℕ → Field
field_at fs j = get_or fs j Empty

abbrev pub is_number : Field → Bool
is_number f = elim f [ Number v ↦ true | Letter b ↦ false | Dash ↦ false | Word ↦ false | Empty ↦ false | Rule r ↦ false ]

abbrev pub is_letter : Field → Bool
is_letter f = elim f [ Number v ↦ false | Letter b ↦ true | Dash ↦ false | Word ↦ false | Empty ↦ false | Rule r ↦ false ]

abbrev pub is_dash : Field → Bool
is_dash f = elim f [ Number v ↦ false | Letter b ↦ false | Dash ↦ true | Word ↦ false | Empty ↦ false | Rule r ↦ false ]

abbrev pub is_rule : Field → Bool
is_rule f = elim f [ Number v ↦ false | Letter b ↦ false | Dash ↦ false | Word ↦ false | Empty ↦ false | Rule r ↦ true ]

-- the number that a field is, or the code of its letter; `-` has none, and it is not looked at
abbrev pub value_in : Field → ℕ
value_in f = elim f [ Number v ↦ v | Letter b ↦ b | Dash ↦ 0 | Word ↦ 0 | Empty ↦ 0 | Rule r ↦ 0 ]

-- the rule whose word a field is; another field is not looked at
abbrev pub rule_in : Field → Deduction
rule_in f = elim f [ Number v ↦ WriteFirst | Letter b ↦ WriteFirst | Dash ↦ WriteFirst | Word ↦ WriteFirst | Empty ↦ WriteFirst | Rule r ↦ r ]

abbrev pub is_empty : Field → Bool
is_empty f = elim f [ Number v ↦ false | Letter b ↦ false | Dash ↦ false | Word ↦ false | Empty ↦ true | Rule r ↦ false ]

-- what may stand behind a kind that is none: "after an unknown one each field may be a number or `-`"
abbrev pub is_either : Field → Bool
is_either f = is_number f || is_dash f

-- "split by single spaces": no field is empty
unfoldable pub none_empty : List Field → Bool
none_empty [] = true
none_empty (f ∷ fs) = not (is_empty f) && none_empty fs
