-- The laws by which the reader goes through a text: the lines one after another, their steps stored in a list, and the answer. How a line is
-- taken apart is in proofs/Judging.antt. Assumes nothing.
use mathlib.Core.Path.{◌≡◌, refl, sym, ap, ◌∙◌}
use mathlib.Core.Bool.{Bool, true, false, cond}
use mathlib.Core.List.{List, [], ◌∷◌, ◌++◌, append_assoc, append-nil}
use Prim.Native.Nat.{ℕ, suc, ◌+◌, ◌*◌, ◌≤◌, ◌<◌}
use native.Mathlib.Omega.{arith}
use borrow.Author.Tests.{ltb-true, ltb-false, lt-ltb, le-ltb, eq-eqb, ne_eqb}
use lib.Dec.{ltb, eqb}
use lib.ListN.{length, take, drop, length-append, length-drop, drop_of_length-le, take-append-drop}
use lib.Seq.{sets, sets-eq, length-sets, drop-drop}
use Rattle.decimal.specs.Decimal.{text_of, digits_of}
use Rattle.decimal.specs.InnerPages.{text_over}
use Rattle.decimal.proofs.Laws.{digits_some}
use Rattle.decimal.proofs.Pages.{over_at, over_start, over_join}
use Rattle.fields.specs.LittleEndian.{to_bytes}
use Rattle.fields.proofs.Laws.{length_to, sets_then}
use Rattle.types.specs.declared.Refusal.{Refusal}
use Rattle.types.specs.declared.Refusal.TheVariants.{Malformed, Heading}
use Rattle.types.specs.declared.Step.{Step}
use Rattle.types.specs.declared.Step.TheVariants.{Read, Write, Flush, Arrive, Retire}
use Rattle.types.specs.declared.Numbers.{Numbers}
use Rattle.types.specs.Types.{numbers_of}
use Rattle.line_fields.specs.Fields.{split, fields_of}
use Rattle.line_fields.specs.Inner.{before}
use Rattle.line_fields.proofs.Pieces.{before_take, split_last, split_more, split_some}
use Rattle.season_lines.specs.declared.Line.{Line}
use Rattle.season_lines.specs.declared.Line.TheVariants.{Step as StepLine}
use Rattle.season_lines.specs.Lines.{heading_of, range_under, line_in}
use Rattle.season_log.specs.Log.{Logged, steps, fault, ahead, no_values, step_text, numbers_onto, list_of, line_ahead, read_lines, headed, read_table}
use Rattle.season_log.specs.Inner.{onward}
use Rattle.season_log.proofs.Lines.{split_first, ranged, line_of, step_line_lem, line_lacks, step_written, step_reads}
use Rattle.season_log.proofs.OneText.{onward_none, onward_more, length_list}
use Rattle.std.specs.Prelude.{Option, Some, None, Result, Ok, Err}
use Rattle.log_reader.specs.declared.{FirstStep.FirstStep, Steps.Steps}
use Rattle.log_reader.specs.Inner.{Begins, first_line, FirstIs, three_numbers, ReadSoFar, Roomy, ReadsOn, ReadInto}
use Rattle.log_reader.proofs.Judging.{tail, tail_is, piece_is, piece_length, last_piece, more_pieces}

-- ## The lines

-- the first line of a text, and the lines behind it
line_left :
    (heading n : ℕ) (s : List ℕ) →
    0 < length s →
    read_lines heading n (split 10 s)
    ≡ line_ahead (first_line heading n s) (read_lines heading (suc n) (split 10 (drop (length (before 10 s) + 1) s)))
unfolding read_lines first_line
line_left heading n s p = go (ltb (length (before 10 s)) (length s)) refl
  where
    go :
        (t : Bool) →
        ltb (length (before 10 s)) (length s) ≡ t →
        read_lines heading n (split 10 s)
        ≡ line_ahead (cond t (line_in 2 heading (fields_of (before 10 s)) n) (Err (Malformed n)))
        (read_lines heading (suc n) (split 10 (drop (length (before 10 s) + 1) s)))
    go true h =
        rw (split_more 10 s (ltb-true (length (before 10 s)) (length s) h), (split_some 10 (drop (length (before 10 s) + 1) s)).1)
    go false h =
        let all : length s ≤ length (before 10 s) = ltb-false (length (before 10 s)) (length s) h in
        rw (split_last 10 s all, ne_eqb (length (before 10 s)) 0 (λ z. omega arith))

-- nothing is left
none_left_lem : (heading : ℕ) (text : List ℕ) (at n : ℕ) → length text ≤ at → read_lines heading n (split 10 (drop at text)) ≡ steps heading []
unfolding read_lines split
none_left_lem heading text at n h = rw (drop_of_length-le text {i = at} h)

-- a step's line has five bytes or more, and a line feed
end_some : (heading : ℕ) → 1 ≤ length (no_values heading)
end_some heading = go (eqb heading 1)
  where
    go : (t : Bool) → 1 ≤ length (cond t (text_of " - - -\n") (text_of "\n"))
    go true = omega arith
    go false = omega arith

pub step_long : (heading : ℕ) (s : Step) → 6 ≤ length (step_text heading s)
unfolding step_text
step_long heading (Read i) = omega (arith, end_some heading, length-append (digits_of i) (text_of " -" ++ no_values heading), digits_some i)
step_long heading (Write i m) =
    omega (
      arith,
      end_some heading,
      length-append (digits_of i) (text_of " " ++ (digits_of m ++ no_values heading)),
      length-append (digits_of m) (no_values heading),
      digits_some i,
      digits_some m,
    )
step_long heading Flush = omega (arith, end_some heading)
step_long heading (Arrive i b l w) =
    omega (arith, length-append (digits_of i) (text_of " - " ++ (digits_of b ++ (text_of " " ++ (digits_of l ++ (text_of " " ++ (digits_of w ++ text_of "\n")))))), digits_some i)
step_long heading (Retire i) = omega (arith, end_some heading, length-append (digits_of i) (text_of " -" ++ no_values heading), digits_some i)

line_long : (heading : ℕ) (l : List ℕ) (n : ℕ) (s : Step) → line_in 2 heading (fields_of l) n ≡ Ok (StepLine s) → 5 ≤ length l
line_long heading l n s e = omega (arith, step_long heading s, ap length (step_written heading l n s e).0, length-append l (10 ∷ []))

-- ## The first line

-- its line feed is found behind m bytes, or its end
module _ (heading n : ℕ) (s : List ℕ) (m : ℕ) (e : m ≡ length (before 10 s)) where
  -- it has none
  pub first_unfed : length s ≤ m → first_line heading n s ≡ Err (Malformed n)
  unfolding first_line
  first_unfed h = rw (le-ltb (length (before 10 s)) (length s) (omega arith))

  -- it is judged
  pub first_fed : m < length s → first_line heading n s ≡ line_in 2 heading (fields_of (take m s)) n
  unfolding first_line
  first_fed h =
      rw (lt-ltb (length (before 10 s)) (length s) (omega arith))
      (sym (ap (λ (t : List ℕ). line_in 2 heading (fields_of t) n) (piece_is 10 s 0 m e)))

-- it is as the writer writes it
pub first_written : (heading n : ℕ) (s : List ℕ) (f : FirstStep) → Begins heading s f.step f.bytes → FirstIs (first_line heading n s) s (Ok f)
first_written heading n s f g =
    let t = f.step in
    let rest : List ℕ = drop f.bytes s in
    let r : ranged heading t ≡ true = eq-eqb (range_under heading (numbers_of t)) 0 g.ranged in
    let size : length (step_text heading t) ≡ length (line_of heading t) + 1 = ap length (step_line_lem heading t r) ∙ length-append (line_of heading t) (10 ∷ []) in
    let text : s ≡ line_of heading t ++ (10 ∷ rest) =
    sym (take-append-drop f.bytes s)
    ∙ ap (λ (l : List ℕ). l ++ rest) (g.line ∙ step_line_lem heading t r)
    ∙ append_assoc (line_of heading t) (10 ∷ []) rest in
    let pieces : before 10 s ∷ (split_some 10 s).0 ≡ line_of heading t ∷ split 10 rest =
    sym (split_some 10 s).1 ∙ ap (split 10) text ∙ split_first 10 (line_of heading t) rest (line_lacks heading t) in
    let line : before 10 s ≡ line_of heading t = cc in
    let fed : length (before 10 s) < length s =
    omega (arith, ap length line, ap length text, length-append (line_of heading t) (10 ∷ rest)) in (
      first_fed heading n s (length (before 10 s)) refl fed
          ∙ ap (λ (l : List ℕ). line_in 2 heading (fields_of l) n) (before_take 10 s ∙ line)
          ∙ step_reads heading (line_of heading t) n t r (step_line_lem heading t r),
      omega (arith, g.count, size, ap length line),
    )

-- a step has five bytes or more, and its line feed
first_long :
    (heading n : ℕ) (s : List ℕ) (t : Step) →
    first_line heading n s ≡ Ok (StepLine t) →
    (5 ≤ length (before 10 s)) × (length (before 10 s) < length s)
unfolding first_line
first_long heading n s t e = go (ltb (length (before 10 s)) (length s)) refl e
  where
    go :
        (b : Bool) →
        ltb (length (before 10 s)) (length s) ≡ b →
        cond b (line_in 2 heading (fields_of (before 10 s)) n) (Err (Malformed n)) ≡ Ok (StepLine t) →
        (5 ≤ length (before 10 s)) × (length (before 10 s) < length s)
    go true h e = (line_long heading (before 10 s) n t e, ltb-true (length (before 10 s)) (length s) h)
    go false h e = cc

-- ## Steps as a list

list_join : (xs ys : List Step) → list_of (xs ++ ys) ≡ list_of xs ++ list_of ys
unfolding list_of
list_join [] ys = refl
list_join (s ∷ xs) ys = rw (list_join xs ys) (simp append_assoc)

-- three numbers, stored one after another
pub three_put :
    (x y z at : ℕ) (l a b c : List ℕ) →
    a ≡ sets l at (to_bytes 4 x) →
    b ≡ sets a (at + 4) (to_bytes 4 y) →
    c ≡ sets b (at + 8) (to_bytes 4 z) →
    c ≡ sets l at (three_numbers x y z)
three_put x y z at l a b c ea eb ec =
    sets_then l a c (to_bytes 4 x) (to_bytes 4 y ++ to_bytes 4 z) at (at + 4) ea (omega (arith, length_to 4 x))
    (sets_then a b c (to_bytes 4 y) (to_bytes 4 z) (at + 4) (at + 8) eb (omega (arith, length_to 4 y)) ec)

-- and the six of a step
pub numbers_put :
    (n : Numbers) (at : ℕ) (l a b : List ℕ) →
    a ≡ sets l at (three_numbers n.kind n.item n.minutes) →
    b ≡ sets a (at + 12) (three_numbers n.blocks n.load n.write) →
    b ≡ sets l at (numbers_onto n [])
numbers_put n at l a b ea eb =
    let first = three_numbers n.kind n.item n.minutes in
    let second = three_numbers n.blocks n.load n.write in
    let twelve : length first ≡ 12 = simp (length-append, length_to) (omega arith) in
    let all : first ++ second ≡ numbers_onto n [] = simp (append_assoc, append-nil) in
    sets_then l a b first second at (at + 12) ea (omega (arith, twelve)) eb ∙ ap (sets l at) all

sets_over : (at : ℕ) (u l : List ℕ) → at + length u ≤ length l → sets l at u ≡ over_at at u l
unfolding over_at
sets_over at u l h = sets-eq u l at h ∙ append_assoc (take at l) u (drop (at + length u) l)

-- one more step behind those that stand at the start of the list
list_next :
    (old list after : List ℕ) (ss : List Step) (s : Step) (n : ℕ) →
    n ≡ length ss →
    24 * n + 24 ≤ length old →
    length list ≡ length old →
    list ≡ text_over (list_of ss) old →
    after ≡ sets list (24 * n) (numbers_onto (numbers_of s) []) →
    after ≡ text_over (list_of (ss ++ (s ∷ []))) old
unfolding list_of
list_next old list after ss s n en room long e put =
    let t : List ℕ = list_of ss in
    let u : List ℕ = list_of (s ∷ []) in
    let place : 24 * n ≡ 0 + length t = omega (arith, length_list ss) in
    let start : list ≡ over_at 0 t old = e ∙ sym (over_start t old) in
    put
    ∙ sets_over (24 * n) u list (omega (arith, length_list (s ∷ [])))
    ∙ (λ x. over_at (place x) u (start x))
    ∙ over_join 0 t u old (omega arith)
    ∙ over_start (t ++ u) old
    ∙ ap (λ (v : List ℕ). text_over v old) (sym (list_join ss (s ∷ [])))

-- ## The steps read so far

pub reading_begins : (heading : ℕ) (text old : List ℕ) → ReadSoFar heading text old 0 0 old
unfolding list_of
reading_begins heading text old =
    record {
      read = [];
      left = onward_none (read_lines heading 2 (split 10 text));
      stored = refl;
      long = refl;
      counted = refl;
      spent = omega arith;
      within = omega arith;
    }

-- bytes are left, and their first line is read next
module _ (heading : ℕ) (text : List ℕ) (at count : ℕ) (more : at < length text) where
  abbrev line : ℕ
  line = count + 2

  abbrev left : List ℕ
  left = drop at text

  abbrev rest : Logged
  rest = read_lines heading (suc line) (split 10 (drop (length (before 10 left) + 1) left))

  leads : read_lines heading line (split 10 left) ≡ line_ahead (first_line heading line left) rest
  leads = line_left heading line left (omega (arith, length-drop at text))

  -- it is no step
  pub read_stops :
      {r : Refusal} {old list : List ℕ} →
      FirstIs (first_line heading line (tail at text)) (tail at text) (Err r) →
      ReadSoFar heading text old at count list →
      ReadInto (read_lines heading 2 (split 10 text)) old (Err r) list
  read_stops {r} is g =
      let stops : (x : Logged) → line_ahead (first_line heading line left) x ≡ fault r = rw (tail_is at text) at is in
      let all : fault r ≡ read_lines heading 2 (split 10 text) = ap (onward g.read) (sym (leads ∙ stops rest)) ∙ g.left in
      rw (← all) refl

  -- it is a step
  module _ (f : FirstStep) (is : FirstIs (first_line heading line (tail at text)) (tail at text) (Ok f)) where
    step : (first_line heading line left ≡ Ok (StepLine f.step)) × (f.bytes ≡ length (before 10 left) + 1)
    step = rw (tail_is at text) at is

    pub read_long : (6 ≤ f.bytes) × (at + f.bytes ≤ length text)
    read_long =
        let long = first_long heading line left f.step step.0 in
        (omega (arith, long.0, step.1), omega (arith, long.1, step.1, length-drop at text))

    -- which is stored
    pub read_goes :
        {old list after : List ℕ} →
        24 * count + 24 ≤ length list →
        after ≡ sets list (24 * count) (numbers_onto (numbers_of f.step) []) →
        ReadSoFar heading text old at count list →
        ReadSoFar heading text old (at + f.bytes) (count + 1) after
    read_goes {old} {list} {after} room put g =
        let s = f.step in
        let next : read_lines heading line (split 10 left) ≡ ahead s rest = leads ∙ ap (λ (v : Result Line Refusal). line_ahead v rest) step.0 in
        let behind : drop (length (before 10 left) + 1) left ≡ drop (at + f.bytes) text =
        ap (λ (k : ℕ). drop k left) (sym step.1) ∙ drop-drop f.bytes at text in
        let later : suc line ≡ count + 1 + 2 = omega arith in
        record {
          read = g.read ++ (s ∷ []);
          left =
              rw (← later, ← behind)
              (onward_more g.read s rest ∙ ap (onward g.read) (sym next) ∙ g.left);
          stored = list_next old list after g.read s count g.counted (omega (arith, g.long)) g.long g.stored put;
          long = ap length put ∙ length-sets list (24 * count) (numbers_onto (numbers_of s) []) ∙ g.long;
          counted = omega (arith, g.counted, length-append g.read (s ∷ []));
          spent = omega (arith, read_long.0, g.spent);
          within = read_long.1;
        }

  -- a line that was found is a step's
  found_is : (f : FirstStep) → Begins heading (tail at text) f.step f.bytes → FirstIs (first_line heading line (tail at text)) (tail at text) (Ok f)
  found_is f b = first_written heading line (tail at text) f b

  pub found_long : (f : FirstStep) → Begins heading (tail at text) f.step f.bytes → (6 ≤ f.bytes) × (at + f.bytes ≤ length text)
  found_long f b = read_long f (found_is f b)

-- The invariant of a loop that reads on, from a place, a count and a list: it has come further, with room for the steps that are left.
pub record Going (heading : ℕ) (text list₀ : List ℕ) (at₀ count₀ : ℕ) (list : List ℕ) (at count : ℕ) : Type 0 where
  pub fit : Roomy text at count list
  pub same : length list ≡ length list₀
  pub further : at₀ ≤ at
  pub on : ReadsOn heading text at₀ count₀ list₀ at count list

pub going_starts : {heading : ℕ} {text list : List ℕ} {at count : ℕ} → Roomy text at count list → Going heading text list at count list at count
going_starts fit = record { fit = fit; same = refl; further = omega arith; on = λ old g. g }

pub going_on :
    {heading : ℕ} {text list₀ : List ℕ} {at₀ count₀ : ℕ} {list : List ℕ} {at count : ℕ} {f : FirstStep} {n : Numbers} {after : List ℕ} →
    Going heading text list₀ at₀ count₀ list at count →
    at < length text →
    Begins heading (tail at text) f.step f.bytes →
    n ≡ numbers_of f.step →
    after ≡ sets list (24 * count) (numbers_onto n []) →
    Going heading text list₀ at₀ count₀ after (at + f.bytes) (count + 1)
going_on {heading = heading} {text = text} {list = list} {at = at} {count = count} {f = f} {n = n} g more b is put =
    let long = found_long heading text at count more f b in
    let same = ap length put ∙ length-sets list (24 * count) (numbers_onto n []) in
    record {
      fit = (g.fit.0, omega (arith, same, g.fit.1), omega (arith, g.fit.2, long.0), long.1);
      same = same ∙ g.same;
      further = omega (arith, g.further);
      on =
          λ old h.
          read_goes heading text at count more f (found_is heading text at count more f b) (omega (arith, g.fit, long)) (rw is at put) (g.on old h);
    }

-- all lines are read
pub read_ends :
    {heading : ℕ} {text old : List ℕ} {at count : ℕ} {list : List ℕ} →
    length text ≤ 65536 →
    ReadSoFar heading text old at count list →
    length text ≤ at →
    ReadInto (read_lines heading 2 (split 10 text)) old (Ok (record { heading = heading; count = count })) list
read_ends {heading} {text} {old} {at} {count} {list} short g h =
    let all : steps heading g.read ≡ read_lines heading 2 (split 10 text) =
    ap (steps heading) (sym (append-nil g.read)) ∙ ap (onward g.read) (sym (none_left_lem heading text at (count + 2) h)) ∙ g.left in
    rw (← all) (refl, record { count = g.counted; few = omega (arith, g.spent, g.within); list = g.stored })

-- ## The table

pub table_empty : (text old : List ℕ) → length text ≡ 0 → ReadInto (read_table (split 10 text)) old (Err (Heading 1)) old
unfolding read_table split
table_empty [] old e = refl
table_empty (b ∷ text) old e = absurd (omega arith)

-- the first line, which has m bytes
module _ (text old : List ℕ) (m : ℕ) (e : m ≡ length (before 10 text)) where
  -- it has no line feed
  pub table_unfed :
      (length text ≡ 0 → ⊥) → length text ≤ m → ReadInto (read_table (split 10 text)) old (Err (Malformed 1)) old
  unfolding read_table
  table_unfed p h =
      rw
      (last_piece 10 text 0 m e (omega arith), ne_eqb (length (take m text)) 0 (λ z. p (omega (arith, piece_length 10 text 0 m e))))
      refl

  module _ (names : Option ℕ) (fed : m < length text) (en : names ≡ heading_of 2 (take m text)) where
    table_headed : read_table (split 10 text) ≡ headed names (split 10 (tail (m + 1) text))
    unfolding read_table
    table_headed =
        rw (
          en,
          tail_is (m + 1) text,
          more_pieces 10 text 0 m e (m + 1) (omega arith) (omega arith),
          (split_some 10 (drop (m + 1) text)).1,
        )

    -- it is the line of names
    pub table_read :
        (heading : ℕ) (got : Result Steps Refusal) (after : List ℕ) →
        names ≡ Some heading →
        ReadInto (read_lines heading 2 (split 10 (tail (m + 1) text))) old got after →
        ReadInto (read_table (split 10 text)) old got after
    table_read heading got after f h = rw (table_headed, f) h

    -- it is another
    pub table_unknown : names ≡ None → ReadInto (read_table (split 10 text)) old (Err (Heading 1)) old
    table_unknown f = rw (table_headed, f) refl
