-- A list of steps has one text under a heading, and a text one heading and one list of steps; and so a list as it is lent: the laws of
-- `OneText` in specs/Log.antt.
-- Assumes nothing.
use mathlib.Core.Path.{◌≡◌, refl, sym, ap, ◌∙◌}
use mathlib.Core.Bool.{true, cond}
use mathlib.Core.List.{List, [], ◌∷◌, ◌++◌, append_assoc}
use Prim.Native.Nat.{ℕ, zero, suc, ◌+◌, ◌*◌, ◌/◌, ◌≤◌}
use native.Mathlib.Omega.{arith}
use borrow.Author.Tests.{le-leb, leb-true}
use lib.Dec.{eqb}
use lib.ListN.{length, drop, length-append}
use lib.Seq.{append_snoc}
use Rattle.decimal.specs.Decimal.{same_text}
use Rattle.decimal.proofs.Texts.{same_true}
use Rattle.fields.specs.LittleEndian.{number_at, to_bytes}
use Rattle.fields.proofs.Laws.{length_to, from_front, past}
use Rattle.types.specs.declared.Refusal.{Refusal}
use Rattle.types.specs.declared.Step.{Step}
use Rattle.types.specs.declared.Numbers.{Numbers}
use Rattle.types.specs.Types.{numbers_from, numbers_of, step_of, telling, refusal_from}
use Rattle.types.proofs.Steps.{same_step}
use Rattle.landlord.specs.Steps.{in_range}
use Rattle.season_lines.specs.declared.Line.{Line}
use Rattle.season_lines.specs.declared.Line.TheVariants.{Sizes, Item as ItemLine, Step as StepLine, Act as ActLine}
use Rattle.std.specs.Prelude.{Option, Some, None, Result, Ok, Err}
use Rattle.line_fields.specs.Fields.{split, fields_of}
use Rattle.season_lines.specs.Lines.{headings, heading_text, heading_among, heading_of, numbers_under, range_under, line_in}
use Rattle.line_fields.proofs.Laws.{and_parts}
use Rattle.line_fields.proofs.Pieces.{split_some}
use Rattle.season_log.specs.Log.{Logged, steps, fault, ahead, is_heading, step_text, step_lines, log_text, list_number, list_numbers, told_line, lent_from, lent_log, numbers_onto, list_of, line_ahead, read_lines, headed, read_table, read_log, steps_in_range, OneText}
pub use Rattle.season_log.specs.Inner.{onward}
use Rattle.season_log.proofs.Lines.{lacks, joined, split_first, join_split, ranged, ranged_in, line_of, step_line_lem, line_lacks, kind_kept, under_same, step_ranged, step_written, step_reads}

-- ## Steps one behind the other

pub onward_none : (rest : Logged) → onward [] rest ≡ rest
onward_none (steps heading ss) = refl
onward_none (fault r) = refl

pub onward_more : (ss : List Step) (s : Step) (rest : Logged) → onward (ss ++ (s ∷ [])) rest ≡ onward ss (ahead s rest)
onward_more ss s (steps heading rest) = ap (steps heading) (append_snoc ss s rest)
onward_more ss s (fault r) = refl

-- ## What is written is read

-- the first line of some, and what follows it
pub lines_first :
    (heading n : ℕ) (l t : List ℕ) →
    read_lines heading n (l ∷ split 10 t) ≡ line_ahead (line_in 2 heading (fields_of l) n) (read_lines heading (suc n) (split 10 t))
unfolding read_lines
lines_first heading n l t = rw (split_some 10 t).1

pub table_first : (l t : List ℕ) → read_table (l ∷ split 10 t) ≡ headed (heading_of 2 l) (split 10 t)
unfolding read_table
table_first l t = rw (split_some 10 t).1

split_step : (heading : ℕ) (s : Step) (t : List ℕ) → ranged heading s ≡ true → split 10 (step_text heading s ++ t) ≡ line_of heading s ∷ split 10 t
split_step heading s t r =
    ap (λ (l : List ℕ). split 10 (l ++ t)) (step_line_lem heading s r)
    ∙ ap (split 10) (append_assoc (line_of heading s) (10 ∷ []) t)
    ∙ split_first 10 (line_of heading s) t (line_lacks heading s)

-- lines of steps in range, from any line on
lines_read : (heading n : ℕ) (ss : List Step) → steps_in_range heading ss ≡ true → read_lines heading n (split 10 (step_lines heading ss)) ≡ steps heading ss
unfolding steps_in_range step_lines read_lines split
lines_read heading n [] h = refl
lines_read heading n (s ∷ ss) h =
    let both = and_parts (ranged heading s) (steps_in_range heading ss) h in
    ap (read_lines heading n) (split_step heading s (step_lines heading ss) both.0)
    ∙ lines_first heading n (line_of heading s) (step_lines heading ss)
    ∙ (λ i. line_ahead (step_reads heading (line_of heading s) n s both.0 (step_line_lem heading s both.0) i) (lines_read heading (suc n) ss both.1 i))

-- a number that is a heading's is 0 or 1
heading_is : (P : ℕ → Type 0) → P 0 → P 1 → (heading : ℕ) → is_heading heading ≡ true → P heading
heading_is P a b zero h = a
heading_is P a b (suc zero) h = b
heading_is P a b (suc (suc heading)) h = let l = leb-true (suc (suc heading)) 1 h in absurd (omega arith)

-- a heading has no line feed, and is told by its line
names_lack : (heading : ℕ) → is_heading heading ≡ true → lacks 10 (heading_text 2 heading) ≡ true
unfolding headings lacks
names_lack = heading_is (λ f. lacks 10 (heading_text 2 f) ≡ true) refl refl

names_heading : (heading : ℕ) → is_heading heading ≡ true → heading_of 2 (heading_text 2 heading) ≡ Some heading
unfolding heading_of heading_among headings same_text
names_heading = heading_is (λ f. heading_of 2 (heading_text 2 f) ≡ Some f) refl refl

log_split : (heading : ℕ) (ss : List Step) → is_heading heading ≡ true → split 10 (log_text heading ss) ≡ heading_text 2 heading ∷ split 10 (step_lines heading ss)
unfolding log_text
log_split heading ss h = split_first 10 (heading_text 2 heading) (step_lines heading ss) (names_lack heading h)

written_reads :
    (heading : ℕ) (ss : List Step) →
    is_heading heading ≡ true →
    steps_in_range heading ss ≡ true →
    length (log_text heading ss) ≤ 65536 →
    read_log (log_text heading ss) ≡ steps heading ss
unfolding read_log
written_reads heading ss h r few =
    rw (le-leb (length (log_text heading ss)) 65536 few)
    (ap read_table (log_split heading ss h)
    ∙ table_first (heading_text 2 heading) (step_lines heading ss)
    ∙ ap (λ (x : Option ℕ). headed x (split 10 (step_lines heading ss))) (names_heading heading h)
    ∙ lines_read heading 2 ss r)

-- ## What is read is written

no_steps_lem : (r : Refusal) (heading : ℕ) (ss : List Step) → fault r ≡ steps heading ss → ⊥
no_steps_lem r heading ss e = let z : ◌≡◌ {A = ℕ} 0 1 = cc in omega arith

-- lines, each two with a line feed between them, that are the lines of steps in range under a heading, and were read under it
abbrev Written : ℕ → List (List ℕ) → ℕ → List Step → Type 0
Written heading ls read ss = (step_lines heading ss ≡ joined 10 ls) × (steps_in_range heading ss ≡ true) × (heading ≡ read)

none_written : (heading : ℕ) (l : List ℕ) (f : ℕ) (ss : List Step) → length l ≡ 0 → steps heading [] ≡ steps f ss → Written heading (l ∷ []) f ss
unfolding joined step_lines steps_in_range
none_written heading [] f ss h e = grind arith
none_written heading (x ∷ l) f ss h e = absurd (omega arith)

one_written :
    (heading : ℕ) (l m : List ℕ) (rest : List (List ℕ)) (s : Step) (g : ℕ) (later : List Step) (f : ℕ) (ss : List Step) →
    (step_text heading s ≡ l ++ (10 ∷ [])) × (ranged heading s ≡ true) →
    Written heading (m ∷ rest) g later →
    steps g (s ∷ later) ≡ steps f ss →
    Written heading (l ∷ m ∷ rest) f ss
unfolding joined step_lines steps_in_range
one_written heading l m rest s g later f ss a w e =
    let text : step_text heading s ++ step_lines heading later ≡ l ++ (10 ∷ joined 10 (m ∷ rest)) =
    (λ i. a.0 i ++ w.0 i) ∙ append_assoc l (10 ∷ []) (joined 10 (m ∷ rest)) in
    let same : s ∷ later ≡ ss = cc in
    rw (← same) (text, grind arith, grind arith)

lines_written : (heading n : ℕ) (ls : List (List ℕ)) (f : ℕ) (ss : List Step) → read_lines heading n ls ≡ steps f ss → Written heading ls f ss
unfolding read_lines joined step_lines steps_in_range
lines_written heading n [] f ss e = grind arith
lines_written heading n (l ∷ []) f ss e = none_written heading l f ss (grind arith) (grind arith)
lines_written heading n (l ∷ m ∷ rest) f ss e =
    go (line_in 2 heading (fields_of l) n) refl (read_lines heading (suc n) (m ∷ rest)) (lines_written heading (suc n) (m ∷ rest)) e
  where
    go :
        (line : Result Line Refusal) →
        line_in 2 heading (fields_of l) n ≡ line →
        (below : Logged) →
        ((g : ℕ) (later : List Step) → below ≡ steps g later → Written heading (m ∷ rest) g later) →
        line_ahead line below ≡ steps f ss →
        Written heading (l ∷ m ∷ rest) f ss
    go (Ok (StepLine s)) h (steps g later) k e = one_written heading l m rest s g later f ss (step_written heading l n s h) (k g later refl) e
    go (Ok (StepLine s)) h (fault r) k e = cc
    go (Ok (Sizes _ _ _)) h below k e = cc
    go (Ok (ItemLine _ _ _ _)) h below k e = cc
    go (Ok (ActLine _ _)) h below k e = cc
    go (Err r) h below k e = cc

-- a line that is a heading is that one, word for word
heading_names : (l : List ℕ) (f : ℕ) → heading_of 2 l ≡ Some f → (l ≡ heading_text 2 f) × (is_heading f ≡ true)
unfolding heading_of heading_among headings
heading_names l f e = grind (arith, same_true l)

-- what a text that is read is
abbrev Read-is : List ℕ → ℕ → List Step → Type 0
Read-is s heading ss = (log_text heading ss ≡ s) × (is_heading heading ≡ true) × (steps_in_range heading ss ≡ true)

table_written : (ls : List (List ℕ)) (heading : ℕ) (ss : List Step) → read_table ls ≡ steps heading ss → Read-is (joined 10 ls) heading ss
unfolding read_table
table_written [] heading ss e = cc
table_written (l ∷ []) heading ss e = cc
table_written (l ∷ m ∷ rest) heading ss e = go (heading_of 2 l) refl e
  where
    below : (f : ℕ) → (l ≡ heading_text 2 f) × (is_heading f ≡ true) → Written f (m ∷ rest) heading ss → Read-is (joined 10 (l ∷ m ∷ rest)) heading ss
    below f a w =
        unfold log_text joined in
        (rw (← w.2) ((λ i. sym a.0 i ++ (10 ∷ w.0 i)), a.1, w.1))

    go : (x : Option ℕ) → heading_of 2 l ≡ x → headed x (m ∷ rest) ≡ steps heading ss → Read-is (joined 10 (l ∷ m ∷ rest)) heading ss
    go (Some f) h e = below f (heading_names l f h) (lines_written f 2 (m ∷ rest) heading ss e)
    go None h e = cc

reads_written : (s : List ℕ) (heading : ℕ) (ss : List Step) → read_log s ≡ steps heading ss → Read-is s heading ss
unfolding read_log
reads_written s heading ss e = rw join_split at (table_written (split 10 s) heading ss (grind arith))

-- ## Steps as they are lent

pub lent_ranged :
    (heading m n : ℕ) (list : List ℕ) (f : ℕ) (ss : List Step) → lent_from heading m n list ≡ steps f ss → (f ≡ heading) × (steps_in_range heading ss ≡ true)
unfolding lent_from steps_in_range
lent_ranged heading zero n list f ss e = grind arith
lent_ranged heading (suc m) n list f ss e = go (lent_from heading m (suc n) (drop 24 list)) refl (lent_ranged heading m (suc n) (drop 24 list))
  where
    go :
        (below : Logged) →
        lent_from heading m (suc n) (drop 24 list) ≡ below →
        ((g : ℕ) (later : List Step) → lent_from heading m (suc n) (drop 24 list) ≡ steps g later → (g ≡ heading) × (steps_in_range heading later ≡ true)) →
        (f ≡ heading) × (steps_in_range heading ss ≡ true)
    go (steps g later) k rest = grind (arith, rest g later k, step_ranged heading (list_numbers 0 list))
    go (fault q) k rest = grind arith

lent_in_range :
    (asked : ℕ) (list : List ℕ) (heading : ℕ) (ss : List Step) →
    lent_log asked list ≡ steps heading ss →
    (heading ≡ asked) × (is_heading heading ≡ true) × (steps_in_range heading ss ≡ true)
lent_in_range asked list heading ss e = grind (arith, lent_ranged asked (length list / 24) 2 list heading ss)

-- a heading keeps the numbers of a step that its log may have
under_kept : (heading : ℕ) (s : Step) → ranged heading s ≡ true → numbers_under heading (numbers_of s) ≡ numbers_of s
under_kept heading s r = under_same heading (numbers_of s) (kind_kept heading (numbers_of s) (ranged_in heading s r))

-- the numbers of a step in range are small
pub record Small (n : Numbers) : Type 0 where
  pub kind : n.kind ≤ 87
  pub item : n.item ≤ 255
  pub minutes : n.minutes ≤ 1440
  pub blocks : n.blocks ≤ 16
  pub load : n.load ≤ 65535
  pub write : n.write ≤ 65535

pub step_small : (heading : ℕ) (s : Step) → ranged heading s ≡ true → Small (numbers_of s)
step_small heading s r = small s (sym (ap in_range (under_kept heading s r)) ∙ ranged_in heading s r)
  where
    small : (s : Step) → in_range (numbers_of s) ≡ true → Small (numbers_of s)
    small s r = record { kind = grind arith; item = grind arith; minutes = grind arith; blocks = grind arith; load = grind arith; write = grind arith }

-- a number in front of others, and behind it
number_first : (v : ℕ) (rest : List ℕ) → v ≤ 65535 → list_number 0 (to_bytes 4 v ++ rest) ≡ v
number_first v rest h = from_front 4 v rest (omega arith)

past_four : (k v : ℕ) (rest : List ℕ) → drop (4 + k) (to_bytes 4 v ++ rest) ≡ drop k rest
past_four k v rest = past (to_bytes 4 v) rest (4 + k) k (omega (arith, length_to 4 v))

number_next : (k v : ℕ) (rest : List ℕ) → list_number (4 + k) (to_bytes 4 v ++ rest) ≡ list_number k rest
unfolding number_at
number_next k v rest = rw (past_four k v rest)

-- a step's bytes at the start of a list, from each of its numbers on
module _ (n : Numbers) (rest : List ℕ) where
  abbrev from_write : List ℕ
  from_write = to_bytes 4 n.write ++ rest

  abbrev from_load : List ℕ
  from_load = to_bytes 4 n.load ++ from_write

  abbrev from_blocks : List ℕ
  from_blocks = to_bytes 4 n.blocks ++ from_load

  abbrev from_minutes : List ℕ
  from_minutes = to_bytes 4 n.minutes ++ from_blocks

  abbrev from_item : List ℕ
  from_item = to_bytes 4 n.item ++ from_minutes

  pub onto_length : length (numbers_onto n rest) ≡ 24 + length rest
  onto_length = simp (length-append, length_to) (omega arith)

  past_numbers : drop 24 (numbers_onto n rest) ≡ rest
  past_numbers =
      past_four 20 n.kind from_item ∙ past_four 16 n.item from_minutes ∙ past_four 12 n.minutes from_blocks
      ∙ past_four 8 n.blocks from_load
      ∙ past_four 4 n.load from_write
      ∙ past_four 0 n.write rest

  list_numbers_lem : Small n → list_numbers 0 (numbers_onto n rest) ≡ n
  list_numbers_lem s =
      let write : list_number 0 from_write ≡ n.write = number_first n.write rest s.write in
      let load : list_number 0 from_load ≡ n.load = number_first n.load from_write s.load in
      let blocks : list_number 0 from_blocks ≡ n.blocks = number_first n.blocks from_load (omega (arith, s.blocks)) in
      let minutes : list_number 0 from_minutes ≡ n.minutes = number_first n.minutes from_blocks (omega (arith, s.minutes)) in
      let item : list_number 0 from_item ≡ n.item = number_first n.item from_minutes (omega (arith, s.item)) in
      let kind : list_number 0 (numbers_onto n rest) ≡ n.kind = number_first n.kind from_item (omega (arith, s.kind)) in
      let from-1 : (k : ℕ) → list_number (4 + k) (numbers_onto n rest) ≡ list_number k from_item = λ k. number_next k n.kind from_item in
      let from-2 : (k : ℕ) → list_number (4 + (4 + k)) (numbers_onto n rest) ≡ list_number k from_minutes = λ k. from-1 (4 + k) ∙ number_next k n.item from_minutes in
      let from-3 : (k : ℕ) → list_number (4 + (4 + (4 + k))) (numbers_onto n rest) ≡ list_number k from_blocks = λ k. from-2 (4 + k) ∙ number_next k n.minutes from_blocks in
      let from-4 : (k : ℕ) → list_number (4 + (4 + (4 + (4 + k)))) (numbers_onto n rest) ≡ list_number k from_load = λ k. from-3 (4 + k) ∙ number_next k n.blocks from_load in
      let from-5 : list_number 20 (numbers_onto n rest) ≡ list_number 0 from_write = from-4 4 ∙ number_next 0 n.load from_write in
      (λ i. numbers_from (kind i) ((from-1 0 ∙ item) i) ((from-2 0 ∙ minutes) i) ((from-3 0 ∙ blocks) i) ((from-4 0 ∙ load) i) ((from-5 ∙ write) i))

-- a list has 24 bytes a step
pub length_list : (ss : List Step) → length (list_of ss) ≡ 24 * length ss
unfolding list_of
length_list [] = refl
length_list (s ∷ ss) = omega (arith, onto_length (numbers_of s) (list_of ss), length_list ss)

list_read : (heading n : ℕ) (ss : List Step) → steps_in_range heading ss ≡ true → lent_from heading (length ss) n (list_of ss) ≡ steps heading ss
unfolding lent_from list_of steps_in_range
list_read heading n [] h = refl
list_read heading n (s ∷ ss) h =
    let both = and_parts (ranged heading s) (steps_in_range heading ss) h in
    let r = both.0 in
    let rest = list_of ss in
    let x = numbers_of s in
    let here : list_numbers 0 (numbers_onto x rest) ≡ x = list_numbers_lem x rest (step_small heading s r) in
    let means : step_of (numbers_under heading x) ≡ s = ap step_of (under_kept heading s r) ∙ same_step s in
    (λ i. next (here i) (past_numbers x rest i)) ∙ (rw (r, means, list_read heading (suc n) ss both.1))
  where
    -- a step of these numbers, and the rest of the list
    next : Numbers → List ℕ → Logged
    next m l =
        cond (eqb (range_under heading m) 0) (ahead (step_of (numbers_under heading m)) (lent_from heading (length ss) (suc n) l))
        (fault (refusal_from (telling (range_under heading m) (told_line n) 0)))

list_reads_lem : (heading : ℕ) (ss : List Step) → is_heading heading ≡ true → steps_in_range heading ss ≡ true → lent_log heading (list_of ss) ≡ steps heading ss
list_reads_lem heading ss h r =
    let count : length (list_of ss) / 24 ≡ length ss = omega (arith, length_list ss) in
    rw (h, count) (list_read heading 2 ss r)

pub one_text : OneText
one_text = record { written_reads = written_reads; reads_written = reads_written; lent_in_range = lent_in_range; list_reads = list_reads_lem }
