-- A step's line. Texts that are joined fall apart again into them, and the pieces of a text joined are the text (split_joined,
-- join_split). So a step's text is read as that step (step_reads), and a line that is read as a step is that step's text
-- (step_written). Assumes nothing.
use mathlib.Core.Path.{◌≡◌, refl, sym, ap, ◌∙◌}
use mathlib.Core.Bool.{Bool, true, false, cond, not, ◌&&◌, ◌||◌, false≢true}
use mathlib.Core.List.{List, [], ◌∷◌, ◌++◌, map, append_assoc, append_cancel_right}
use Prim.Native.Nat.{ℕ, ◌≤◌, ◌<◌}
use native.Mathlib.Omega.{arith}
use borrow.Author.Tests.{eqb-true, eq-eqb}
use lib.Dec.{eqb}
use lib.ListN.{length, get_or}
use Rattle.decimal.specs.Decimal.{all_digits, leading_zero, shaped, digits_of}
use Rattle.decimal.proofs.Laws.{shaped_digits, value_digits, digits_value, digits_all}
use Rattle.types.specs.declared.Step.{Step}
use Rattle.types.specs.declared.Step.TheVariants.{Read, Write, Flush, Arrive, Retire}
use Rattle.types.specs.declared.Numbers.{Numbers}
use Rattle.types.specs.Types.{numbers_from, numbers_of, step_of}
use Rattle.landlord.specs.Steps.{in_range, range_refusal}
use Rattle.landlord.proofs.Steps.{free_range, range_means}
use Rattle.line_fields.specs.declared.Field.{Field}
use Rattle.line_fields.specs.declared.Field.TheVariants.{Number, Letter, Dash, Word, Empty, Rule}
use Rattle.season_lines.specs.declared.Line.TheVariants.{Step as StepLine}
use Rattle.line_fields.specs.Fields.{onto, split, rule_or_word, field_of, all_fields, fields_of, field_at, is_number, is_letter, is_dash, value_in, none_empty}
use Rattle.season_lines.specs.Lines.{names_in, kind_under, numbers_under, range_under, value_field, is_step_kind, is_due, step_shape, step_line, values_in, line_in}
use Rattle.season_lines.proofs.Laws.{names_are}
use Rattle.std.specs.Prelude.{Ok}
use Rattle.line_fields.proofs.Pieces.{split_some}
use Rattle.season_log.specs.Log.{step_text}

-- ## Texts joined, and a text split

-- no b in a text
unfoldable pub lacks : ℕ → List ℕ → Bool
lacks b [] = true
lacks b (x ∷ s) = not (eqb x b) && lacks b s

-- and in none of some texts
unfoldable all_lack : ℕ → List (List ℕ) → Bool
all_lack b [] = true
all_lack b (p ∷ ps) = lacks b p && all_lack b ps

-- texts with a b between each two
unfoldable pub joined : ℕ → List (List ℕ) → List ℕ
joined b [] = []
joined b (p ∷ []) = p
joined b (p ∷ q ∷ ps) = p ++ (b ∷ joined b (q ∷ ps))

lacks_append : (b : ℕ) (s t : List ℕ) → lacks b s ≡ true → lacks b t ≡ true → lacks b (s ++ t) ≡ true
unfolding lacks
lacks_append b [] t h k = k
lacks_append b (x ∷ s) t h k = grind (arith, lacks_append b s t)

lacks_joined : (b c : ℕ) (ps : List (List ℕ)) → (c ≡ b → ⊥) → all_lack b ps ≡ true → lacks b (joined c ps) ≡ true
unfolding lacks all_lack joined
lacks_joined b c [] n h = refl
lacks_joined b c (p ∷ []) n h = grind arith
lacks_joined b c (p ∷ q ∷ ps) n h = lacks_append b p (c ∷ joined c (q ∷ ps)) (grind arith) (grind (arith, lacks_joined b c (q ∷ ps) n))

-- a text without b is one piece
split_one : (b : ℕ) (s : List ℕ) → lacks b s ≡ true → split b s ≡ s ∷ []
unfolding lacks split
split_one b [] h = refl
split_one b (x ∷ s) h = grind (arith, split_one b s)

-- and with a b behind it the first piece
pub split_first : (b : ℕ) (s t : List ℕ) → lacks b s ≡ true → split b (s ++ (b ∷ t)) ≡ s ∷ split b t
unfolding lacks split
split_first b [] t h = grind arith
split_first b (x ∷ s) t h = grind (arith, split_first b s t)

-- splitting undoes joining
split_joined : (b : ℕ) (ps : List (List ℕ)) → 1 ≤ length ps → all_lack b ps ≡ true → split b (joined b ps) ≡ ps
unfolding all_lack joined
split_joined b [] n h = absurd (omega arith)
split_joined b (p ∷ []) n h = split_one b p (grind arith)
split_joined b (p ∷ q ∷ ps) n h = grind (arith, split_first b p (joined b (q ∷ ps)), split_joined b (q ∷ ps))

join_onto : (b x : ℕ) (ps : List (List ℕ)) → joined b (onto x ps) ≡ x ∷ joined b ps
unfolding joined
join_onto b x [] = refl
join_onto b x (p ∷ []) = refl
join_onto b x (p ∷ q ∷ ps) = refl

join_empty : (b : ℕ) (s : List ℕ) → joined b ([] ∷ split b s) ≡ b ∷ joined b (split b s)
unfolding joined
join_empty b s = rw (split_some b s).1

-- and joining undoes splitting
pub join_split : (b : ℕ) (s : List ℕ) → joined b (split b s) ≡ s
unfolding split joined
join_split b [] = refl
join_split b (x ∷ s) = grind (arith, join_empty b s, join_onto b x (split b s), join_split b s)

-- ## The texts of fields

-- a field that has one text
abbrev plain : Field → Bool
plain f = is_number f || is_letter f || is_dash f

unfoldable all_plain : List Field → Bool
all_plain [] = true
all_plain (f ∷ fs) = plain f && all_plain fs

-- and that text; the others are in no step's line
abbrev field_text : Field → List ℕ
field_text (Number v) = digits_of v
field_text (Letter b) = b ∷ []
field_text Dash = 45 ∷ []
field_text Word = []
field_text Empty = []
field_text (Rule r) = []

one_byte : (s : List ℕ) → length s ≡ 1 → get_or s 0 0 ∷ [] ≡ s
one_byte [] h = absurd (omega arith)
one_byte (x ∷ []) h = refl
one_byte (x ∷ y ∷ s) h = absurd (omega arith)

-- what reads as such a field is its text
field_text_lem : (s : List ℕ) → plain (field_of s) ≡ true → field_text (field_of s) ≡ s
unfolding field_of rule_or_word
field_text_lem s h = grind (arith, digits_value s, one_byte s)

pieces_text : (ps : List (List ℕ)) → all_plain (all_fields ps) ≡ true → map field_text (all_fields ps) ≡ ps
unfolding all_plain all_fields
pieces_text [] h = refl
pieces_text (p ∷ ps) h = grind (arith, field_text_lem p, pieces_text ps)

-- the text of a number reads as that number, and `-` as itself
number_field : (v : ℕ) → field_of (digits_of v) ≡ Number v
unfolding field_of
number_field v = rw (shaped_digits v, value_digits v)

dash_field : field_of (45 ∷ []) ≡ Dash
unfolding field_of shaped all_digits leading_zero
dash_field = refl

-- ## A step's fields, and its line

-- whether a step may be in a log under a heading
abbrev pub ranged : ℕ → Step → Bool
ranged heading s = eqb (range_under heading (numbers_of s)) 0

-- then its numbers are in range as the heading takes them
pub ranged_in : (heading : ℕ) (s : Step) → ranged heading s ≡ true → in_range (numbers_under heading (numbers_of s)) ≡ true
ranged_in heading s r = free_range (numbers_under heading (numbers_of s)) (eqb-true _ 0 r)

-- a value that a step has, or `-`
abbrev shown : Bool → ℕ → Field
shown has v = cond has (Number v) Dash

-- the three last fields, if the heading has them
abbrev last_fields : Bool → Field → Field → Field → List Field
last_fields true b l w = b ∷ l ∷ w ∷ []
last_fields false b l w = []

-- the fields that a step's numbers make
abbrev fields_under : Bool → Numbers → List Field
fields_under t n =
    let arrives = eqb n.kind 65 in
    Letter n.kind ∷ shown (not (eqb n.kind 76)) n.item ∷ shown (eqb n.kind 87) n.minutes
    ∷ last_fields t (shown arrives n.blocks) (shown arrives n.load) (shown arrives n.write)

abbrev step_fields : ℕ → Step → List Field
step_fields heading s = fields_under (eqb heading 1) (numbers_of s)

-- a step's line without its line feed
abbrev pub line_of : ℕ → Step → List ℕ
line_of heading s = joined 32 (map field_text (step_fields heading s))

pub step_line_lem : (heading : ℕ) (s : Step) → ranged heading s ≡ true → step_text heading s ≡ line_of heading s ++ (10 ∷ [])
unfolding step_text joined
step_line_lem heading s r = go (eqb heading 1) refl s (ranged_in heading s r)
  where
    go :
        (t : Bool) →
        eqb heading 1 ≡ t →
        (s : Step) →
        in_range (numbers_under heading (numbers_of s)) ≡ true →
        step_text heading s ≡ joined 32 (map field_text (fields_under t (numbers_of s))) ++ (10 ∷ [])
    go true e (Read i) r = rw e (simp append_assoc)
    go true e (Write i m) r = rw e (simp append_assoc)
    go true e Flush r = rw e
    go true e (Arrive i b l w) r = simp append_assoc
    go true e (Retire i) r = rw e (simp append_assoc)
    go false e (Read i) r = rw e (simp append_assoc)
    go false e (Write i m) r = rw e (simp append_assoc)
    go false e Flush r = rw e
    go false e (Arrive i b l w) r = absurd (false≢true (rw e at r))
    go false e (Retire i) r = absurd (false≢true (rw e at r))

-- neither a space nor a line feed is in its texts
digits_lack : (b : ℕ) (s : List ℕ) → b < 48 → all_digits s ≡ true → lacks b s ≡ true
unfolding lacks all_digits
digits_lack b [] h e = refl
digits_lack b (x ∷ s) h e = grind (arith, digits_lack b s)

number_lacks : (b v : ℕ) → b < 45 → lacks b (digits_of v) ≡ true
number_lacks b v h = digits_lack b (digits_of v) (omega arith) (digits_all v)

byte_lacks : (b x : ℕ) → b < x → lacks b (x ∷ []) ≡ true
unfolding lacks
byte_lacks b x h = grind arith

shown_lacks : (b : ℕ) (has : Bool) (v : ℕ) → b < 45 → lacks b (field_text (shown has v)) ≡ true
shown_lacks b has v h = grind (arith, number_lacks b v, byte_lacks b 45)

-- a step's letter is a capital one
kind_large : (s : Step) → 65 ≤ (numbers_of s).kind
kind_large s = grind arith

texts_lack : (b : ℕ) (t : Bool) (n : Numbers) → b < 45 → 65 ≤ n.kind → all_lack b (map field_text (fields_under t n)) ≡ true
unfolding all_lack
texts_lack b true n h k =
    rw (
      byte_lacks b n.kind (omega arith),
      shown_lacks b (not (eqb n.kind 76)) n.item h,
      shown_lacks b (eqb n.kind 87) n.minutes h,
      shown_lacks b (eqb n.kind 65) n.blocks h,
      shown_lacks b (eqb n.kind 65) n.load h,
      shown_lacks b (eqb n.kind 65) n.write h,
    )
texts_lack b false n h k =
    rw (
      byte_lacks b n.kind (omega arith),
      shown_lacks b (not (eqb n.kind 76)) n.item h,
      shown_lacks b (eqb n.kind 87) n.minutes h,
    )

pub line_lacks : (heading : ℕ) (s : Step) → lacks 10 (line_of heading s) ≡ true
line_lacks heading s =
    lacks_joined 10 32 (map field_text (step_fields heading s)) (λ e. omega arith) (texts_lack 10 (eqb heading 1) (numbers_of s) (omega arith) (kind_large s))

-- the fields of its line are those of the step
kind_field : (s : Step) → field_of ((numbers_of s).kind ∷ []) ≡ Letter (numbers_of s).kind
unfolding field_of shaped all_digits leading_zero
kind_field (Read i) = refl
kind_field (Write i m) = refl
kind_field Flush = refl
kind_field (Arrive i b l w) = refl
kind_field (Retire i) = refl

shown_field : (has : Bool) (v : ℕ) → field_of (field_text (shown has v)) ≡ shown has v
shown_field has v = grind (arith, number_field v, dash_field)

texts_fields :
    (t : Bool) (n : Numbers) → field_of (n.kind ∷ []) ≡ Letter n.kind → all_fields (map field_text (fields_under t n)) ≡ fields_under t n
unfolding all_fields
texts_fields true n k = rw k (simp shown_field)
texts_fields false n k = rw k (simp shown_field)

line_fields : (heading : ℕ) (s : Step) → fields_of (line_of heading s) ≡ step_fields heading s
line_fields heading s =
    ap all_fields
    (split_joined 32 (map field_text (step_fields heading s)) (omega arith) (texts_lack 32 (eqb heading 1) (numbers_of s) (omega arith) (kind_large s)))
    ∙ texts_fields (eqb heading 1) (numbers_of s) (kind_field s)

shown_plain : (has : Bool) (v : ℕ) → plain (shown has v) ≡ true
shown_plain has v = grind arith

fields_plain : (t : Bool) (n : Numbers) → all_plain (fields_under t n) ≡ true
unfolding all_plain
fields_plain true n = simp shown_plain
fields_plain false n = simp shown_plain

-- ## A line of a step's fields

fields_step : (heading : ℕ) (s : Step) (n : ℕ) → ranged heading s ≡ true → line_in 2 heading (step_fields heading s) n ≡ Ok (StepLine s)
unfolding range_refusal line_in values_in none_empty step_line step_shape step_of
fields_step heading (Read i) n r = grind (arith, names_are 2 heading)
fields_step heading (Write i m) n r = grind (arith, names_are 2 heading)
fields_step heading Flush n r = grind (arith, names_are 2 heading)
fields_step heading (Arrive i b l w) n r = grind (arith, names_are 2 heading)
fields_step heading (Retire i) n r = grind (arith, names_are 2 heading)

-- and a line that is a step has that step's fields
letter_is : (f : Field) → is_letter f ≡ true → f ≡ Letter (value_in f)
letter_is f h = grind arith

due_shown : (has : Bool) (f : Field) → is_due true has f ≡ true → f ≡ shown has (value_in f)
due_shown has f h = grind arith

-- a kind in range is known
range_known : (n : Numbers) → in_range n ≡ true → is_step_kind n.kind ≡ true
range_known n e = grind arith

-- the step that numbers in range mean has the same fields
same_fields : (t : Bool) (n : Numbers) → in_range n ≡ true → fields_under t n ≡ fields_under t (numbers_of (step_of n))
unfolding step_of
same_fields true n e = grind arith
same_fields false n e = grind arith

same_kind : (n : Numbers) → in_range n ≡ true → (numbers_of (step_of n)).kind ≡ n.kind
unfolding step_of
same_kind n e = grind arith

-- ## Numbers under a heading

-- a kind in range is kept
pub kind_kept : (heading : ℕ) (n : Numbers) → in_range (numbers_under heading n) ≡ true → kind_under heading n.kind ≡ n.kind
kind_kept heading n r = grind arith

-- and so are all the numbers
pub under_same : (heading : ℕ) (n : Numbers) → kind_under heading n.kind ≡ n.kind → numbers_under heading n ≡ n
under_same heading n e = λ i. numbers_from (e i) n.item n.minutes n.blocks n.load n.write

-- a step that numbers in range under a heading mean may be in its log
pub step_ranged : (heading : ℕ) (n : Numbers) → range_under heading n ≡ 0 → ranged heading (step_of (numbers_under heading n)) ≡ true
step_ranged heading n r =
    let x = numbers_under heading n in
    let s = step_of x in
    let here = kind_kept heading n (free_range x r) in
    let kind : (numbers_of s).kind ≡ n.kind = same_kind x (free_range x r) ∙ here in
    let kept : kind_under heading (numbers_of s).kind ≡ (numbers_of s).kind = ap (kind_under heading) kind ∙ here ∙ sym kind in
    eq-eqb _ 0 (ap range_refusal (under_same heading (numbers_of s) kept) ∙ range_means x r)

five_parts :
    (p q r s t : Bool) → (p && q && r && s && t) ≡ true → (p ≡ true) × (q ≡ true) × (r ≡ true) × (s ≡ true) × (t ≡ true)
five_parts p q r s t e = grind arith

-- a line that is a step: its fields, and that the step may be in the log
module _ (heading : ℕ) (k f g b l w : Field) (n : ℕ) (s : Step) where
  abbrev values : Numbers
  values = numbers_from (value_in k) (value_in f) (value_in g) (value_in b) (value_in l) (value_in w)

  abbrev letter : ℕ
  letter = kind_under heading (value_in k)

  -- what its tests told
  step_is :
      step_line heading k f g b l w n ≡ Ok (StepLine s) →
      (is_letter k ≡ true) × (step_shape letter f g b l w ≡ true) × (range_under heading values ≡ 0) × (step_of (numbers_under heading values) ≡ s)
  unfolding step_line
  step_is e = grind arith

  shaped_fields :
      (t : Bool) →
      is_letter k ≡ true →
      step_shape letter f g b l w ≡ true →
      in_range (numbers_under heading values) ≡ true →
      k ∷ f ∷ g ∷ last_fields t b l w ≡ fields_under t (numbers_under heading values)
  unfolding step_shape
  shaped_fields t a h r =
      let named = not (eqb letter 76) in
      let timed = eqb letter 87 in
      let new = eqb letter 65 in
      let due =
      five_parts (is_due true named f) (is_due true timed g) (is_due true new b) (is_due true new l) (is_due true new w)
      (rw (range_known (numbers_under heading values) r) at h) in
      let kind : k ≡ Letter letter = letter_is k a ∙ ap Letter (sym (kind_kept heading values r)) in
      (λ i. kind i ∷ due_shown named f due.0 i ∷ due_shown timed g due.1 i
      ∷ last_fields t (due_shown new b due.2 i) (due_shown new l due.3 i) (due_shown new w due.4 i))

  line_step : (t : Bool) → step_line heading k f g b l w n ≡ Ok (StepLine s) → (k ∷ f ∷ g ∷ last_fields t b l w ≡ fields_under t (numbers_of s)) × (ranged heading s ≡ true)
  line_step t e =
      let told = step_is e in
      let near = free_range (numbers_under heading values) told.2 in
      rw (← told.3) (shaped_fields t told.0 told.1 near ∙ same_fields t (numbers_under heading values) near, step_ranged heading values told.2)

step_fields_lem :
    (heading : ℕ) (fs : List Field) (n : ℕ) (s : Step) → line_in 2 heading fs n ≡ Ok (StepLine s) → (fs ≡ step_fields heading s) × (ranged heading s ≡ true)
unfolding line_in values_in
step_fields_lem heading fs n s e =
    let told : (length fs ≡ names_in 2 heading) × (step_line heading (field_at fs 0) (field_at fs 1) (field_at fs 2) (values 3) (values 4) (values 5) n ≡ Ok (StepLine s)) = grind arith in
    let line = line_step heading (field_at fs 0) (field_at fs 1) (field_at fs 2) (values 3) (values 4) (values 5) n s (eqb heading 1) told.1 in
    (all (eqb heading 1) refl (told.0 ∙ names_are 2 heading) ∙ line.0, line.1)
  where
    three : (fs : List Field) → length fs ≡ 3 → fs ≡ field_at fs 0 ∷ field_at fs 1 ∷ field_at fs 2 ∷ []
    three [] h = absurd (omega arith)
    three (a ∷ []) h = absurd (omega arith)
    three (a ∷ b ∷ []) h = absurd (omega arith)
    three (a ∷ b ∷ c ∷ []) h = refl
    three (a ∷ b ∷ c ∷ d ∷ fs) h = absurd (omega arith)

    six : (fs : List Field) → length fs ≡ 6 → fs ≡ field_at fs 0 ∷ field_at fs 1 ∷ field_at fs 2 ∷ field_at fs 3 ∷ field_at fs 4 ∷ field_at fs 5 ∷ []
    six [] h = absurd (omega arith)
    six (a ∷ []) h = absurd (omega arith)
    six (a ∷ b ∷ []) h = absurd (omega arith)
    six (a ∷ b ∷ c ∷ fs) h = ap (λ (gs : List Field). a ∷ b ∷ c ∷ gs) (three fs (omega arith))

    values : ℕ → Field
    values j = value_field heading (field_at fs j)

    -- the fields that there are, by the heading
    all : (t : Bool) → eqb heading 1 ≡ t → length fs ≡ cond t 6 3 → fs ≡ field_at fs 0 ∷ field_at fs 1 ∷ field_at fs 2 ∷ last_fields t (values 3) (values 4) (values 5)
    all true e h = rw e (six fs h)
    all false e h = three fs h

-- ## A step's text

pub step_written :
    (heading : ℕ) (l : List ℕ) (n : ℕ) (s : Step) →
    line_in 2 heading (fields_of l) n ≡ Ok (StepLine s) →
    (step_text heading s ≡ l ++ (10 ∷ [])) × (ranged heading s ≡ true)
step_written heading l n s e =
    let line_is = step_fields_lem heading (fields_of l) n s e in
    let fields : fields_of l ≡ step_fields heading s = line_is.0 in
    let pieces : map field_text (fields_of l) ≡ split 32 l = pieces_text (split 32 l) (rw fields (fields_plain (eqb heading 1) (numbers_of s))) in
    let line : line_of heading s ≡ l =
    ap (λ (fs : List Field). joined 32 (map field_text fs)) (sym fields) ∙ ap (joined 32) pieces ∙ join_split 32 l in
    (step_line_lem heading s line_is.1 ∙ ap (λ (t : List ℕ). t ++ (10 ∷ [])) line, line_is.1)

pub step_reads :
    (heading : ℕ) (l : List ℕ) (n : ℕ) (s : Step) →
    ranged heading s ≡ true →
    step_text heading s ≡ l ++ (10 ∷ []) →
    line_in 2 heading (fields_of l) n ≡ Ok (StepLine s)
step_reads heading l n s r e =
    let line : l ≡ line_of heading s = append_cancel_right l (line_of heading s) (10 ∷ []) (sym e ∙ step_line_lem heading s r) in
    ap (λ (t : List ℕ). line_in 2 heading (fields_of t) n) line
    ∙ ap (λ (fs : List Field). line_in 2 heading fs n) (line_fields heading s)
    ∙ fields_step heading s n r
