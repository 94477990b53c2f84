-- The laws by which a line is taken apart and judged: its fields are found one after another, and stand in an array. Assumes nothing.
use mathlib.Core.Path.{◌≡◌, refl, sym, ap, ◌∙◌}
use mathlib.Core.Bool.{Bool, true, false, cond}
use mathlib.Core.List.{List, [], ◌∷◌, ◌++◌, map, append_assoc, append-nil}
use mathlib.Core.Logic.{◌⊎◌, ⊎_elim}
use Prim.Native.Nat.{ℕ, ◌+◌, ◌-◌, ◌≤◌, ◌<◌}
use native.Mathlib.Numerals.{add-one}
use native.Mathlib.Omega.{arith}
use borrow.Author.Tests.{ltb-true, ltb-false}
use lib.Dec.{ltb}
use lib.ListN.{length, take, drop, set, length-append, length-drop, length-set}
use lib.Seq.{length-take-le, take-suc-set, get_or_at, drop-drop, take_all}
use Rattle.types.specs.declared.Refusal.TheVariants.{Malformed}
use Rattle.line_fields.specs.declared.Field.{Field}
use Rattle.line_fields.specs.declared.Field.TheVariants.{Empty}
use Rattle.line_fields.specs.Fields.{split, field_of, all_fields, fields_of, field_at, is_empty, none_empty}
use Rattle.line_fields.specs.Inner.{before, held_field}
use Rattle.line_fields.proofs.Pieces.{before_le, before_take, split_last, split_more, none_empty_more}
use Rattle.season_lines.specs.Lines.{names_in, line_in}
use Rattle.season_lines.proofs.Laws.{names_are}
use Rattle.std.specs.Prelude.{Err}
use Rattle.season_lines.proofs.Pieces.{many_malformed, empty_malformed}
use Rattle.season_lines.proofs.Held.{held_line}

-- ## The pieces of a text, by the places where they begin

-- what stands from byte i on, as it is lent
abbrev pub tail : ℕ → List ℕ → List ℕ
tail i s = take (length s - i) (drop i s)

pub tail_is : (i : ℕ) (s : List ℕ) → tail i s ≡ drop i s
tail_is i s = take_all (length s - i) (drop i s) (omega (arith, length-drop i s))

-- a separator found in it
pub tail_found : (b : ℕ) (s : List ℕ) (i m : ℕ) → m ≡ length (before b (tail i s)) → m ≡ length (before b (drop i s))
tail_found b s i m e = e ∙ ap (λ (t : List ℕ). length (before b t)) (tail_is i s)

-- the piece from byte i on has m bytes
module _ (b : ℕ) (s : List ℕ) (i m : ℕ) (e : m ≡ length (before b (drop i s))) where
  pub piece_le : i ≤ length s → i + m ≤ length s
  piece_le h = omega (arith, before_le b (drop i s), length-drop i s)

  pub piece_is : take m (drop i s) ≡ before b (drop i s)
  piece_is = ap (λ (k : ℕ). take k (drop i s)) e ∙ before_take b (drop i s)

  pub piece_length : length (take m (drop i s)) ≡ m
  piece_length = ap length piece_is ∙ sym e

  -- it is the last
  pub last_piece : length s ≤ i + m → split b (drop i s) ≡ take m (drop i s) ∷ []
  last_piece h = split_last b (drop i s) (omega (arith, length-drop i s)) ∙ ap (λ (p : List ℕ). p ∷ []) (sym piece_is)

  -- or more follow, from byte j on
  pub more_pieces : (j : ℕ) → j ≡ i + m + 1 → i + m < length s → split b (drop i s) ≡ take m (drop i s) ∷ split b (drop j s)
  more_pieces j f h =
      let k : i + (length (before b (drop i s)) + 1) ≡ j = omega arith in
      let rest : drop (length (before b (drop i s)) + 1) (drop i s) ≡ drop j s =
      drop-drop (length (before b (drop i s)) + 1) i s ∙ ap (λ (n : ℕ). drop n s) k in
      split_more b (drop i s) (omega (arith, length-drop i s)) ∙ (λ x. sym piece_is x ∷ split b (rest x))

-- ## The fields of a line

-- those from byte `at` on, as they are held; none, if no field is left
abbrev held_from : List ℕ → ℕ → Bool → List Field
held_from l at more = map held_field (cond more (fields_of (drop at l)) [])

-- The loop's invariant: the fields before byte `at` are in the array, at most six, none of them empty, and the others follow them.
pub record Fielded (l : List ℕ) (fields : List Field) (count at : ℕ) (more : Bool) : Type 0 where
  pub slots : length fields ≡ 6
  pub few : count ≤ 6
  pub some : none_empty (take count fields) ≡ true
  pub going : more ≡ true → at ≤ length l
  pub same : take count fields ++ held_from l at more ≡ map held_field (fields_of l)

pub fields_begin : (l : List ℕ) (fields : List Field) → length fields ≡ 6 → Fielded l fields 0 0 true
unfolding none_empty
fields_begin l fields e = record { slots = e; few = omega arith; some = refl; going = λ t. omega arith; same = refl }

-- the log's headings have at most six names
names_few : (heading : ℕ) → names_in 2 heading ≤ 6
names_few heading = grind (arith, names_are 2 heading)

-- the loop's measure: the bytes that are left for fields
abbrev pub fields_left : ℕ → ℕ → Bool → ℕ
fields_left size at more = cond more (size + 1 - at) 0

pub fewer_left : (size at m : ℕ) (more : Bool) → more ≡ true → at ≤ size → fields_left size (at + m + 1) (ltb (at + m) size) < fields_left size at more
fewer_left size at m more e h = rw e (go (ltb (at + m) size) refl)
  where
    go : (t : Bool) → ltb (at + m) size ≡ t → cond t (size + 1 - (at + m + 1)) 0 < size + 1 - at
    go true w = let l = ltb-true (at + m) size w in omega arith
    go false w = omega arith

module _
    {l : List ℕ} {fields : List Field} {count at m : ℕ} {more : Bool}
    (f : Fielded l fields count at more)
    (t : more ≡ true)
    (em : m ≡ length (before 32 (tail at l)))
  where
    found : m ≡ length (before 32 (drop at l))
    found = tail_found 32 l at m em

    -- where a field ends
    pub field_le : at + m ≤ length l
    field_le = piece_le 32 l at m found (f.going t)

    module _ {field : Field} (ef : field ≡ held_field (field_of (take (at + m - at) (drop at l)))) where
      -- the fields from here on: this one, and what is behind it
      abbrev rest : List Field
      rest = field ∷ held_from l (at + m + 1) (ltb (at + m) (length l))

      first : held_from l at true ≡ rest
      unfolding all_fields
      first = ap (map held_field) (go (ltb (at + m) (length l)) refl) ∙ ap (λ (x : Field). x ∷ held_from l (at + m + 1) (ltb (at + m) (length l))) (sym here)
        where
          here : field ≡ held_field (field_of (take m (drop at l)))
          here = let k : at + m - at ≡ m = omega arith in ef ∙ ap (λ (n : ℕ). held_field (field_of (take n (drop at l)))) k

          go : (t : Bool) → ltb (at + m) (length l) ≡ t → fields_of (drop at l) ≡ field_of (take m (drop at l)) ∷ cond t (fields_of (drop (at + m + 1) l)) []
          go true t = ap all_fields (more_pieces 32 l at m found (at + m + 1) refl (ltb-true (at + m) (length l) t))
          go false t = ap all_fields (last_piece 32 l at m found (ltb-false (at + m) (length l) t))

      fields_here : take count fields ++ rest ≡ map held_field (fields_of l)
      fields_here = ap (λ (x : List Field). take count fields ++ x) (sym first) ∙ rw t at f.same

      pub field_more :
          {after : Bool} →
          after ≡ ltb (at + m) (length l) →
          count < 6 →
          is_empty field ≡ false →
          Fielded l (set fields count field) (count + 1) (at + m + 1) after
      field_more e h o =
          let slots = f.slots in
          record {
            slots = length-set fields count field ∙ slots;
            few = omega arith;
            some =
                rw (add-one count, take-suc-set fields count field (omega arith))
                (none_empty_more (take count fields) field f.some o);
            going = λ t. (let u = ltb-true (at + m) (length l) (sym e ∙ t) in omega arith);
            same =
                rw (e, add-one count, take-suc-set fields count field (omega arith), append_assoc (take count fields) (field ∷ []))
                fields_here;
          }

      -- no line has an empty field, and none of this table more than six
      pub field_malformed : (heading n : ℕ) → (is_empty field ≡ true) ⊎ (6 ≤ count) → Err (Malformed n) ≡ line_in 2 heading (fields_of l) n
      field_malformed heading n = ⊎_elim empty many
        where
          -- the line is judged by its fields as they are held
          judged : line_in 2 heading (take count fields ++ rest) n ≡ Err (Malformed n) → Err (Malformed n) ≡ line_in 2 heading (fields_of l) n
          judged e = sym (sym (held_line 2 heading (fields_of l) n) ∙ (rw (← fields_here) e))

          slots : length (take count fields) ≡ count
          slots = length-take-le count fields (omega (arith, f.slots, f.few))

          size : length (take count fields ++ rest) ≡ count + length rest
          size = length-append (take count fields) rest ∙ (rw slots)

          here : field_at (take count fields ++ rest) count ≡ field
          here = get_or_at (take count fields) field _ Empty count slots

          empty : is_empty field ≡ true → Err (Malformed n) ≡ line_in 2 heading (fields_of l) n
          empty o = judged (empty_malformed 2 heading (take count fields ++ rest) n count (omega (arith, size)) (rw here o))

          many : 6 ≤ count → Err (Malformed n) ≡ line_in 2 heading (fields_of l) n
          many h = judged (many_malformed 2 heading (take count fields ++ rest) n (omega (arith, size, names_few heading)))

-- all fields are found
pub fields_judged :
    {l : List ℕ} {fields : List Field} {count at : ℕ} {more : Bool} (heading n : ℕ) →
    Fielded l fields count at more →
    more ≡ false →
    line_in 2 heading (take count fields) n ≡ line_in 2 heading (fields_of l) n
fields_judged {l} {fields} {count} {at} {more} heading n f t =
    let all : take count fields ++ [] ≡ map held_field (fields_of l) = rw t at f.same in
    ap (λ (fs : List Field). line_in 2 heading fs n) (sym (append-nil (take count fields)) ∙ all) ∙ held_line 2 heading (fields_of l) n
