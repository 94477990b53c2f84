-- The third table of an input, taken alone (specs/ThirdTable.antt). Before each line it is known what the log's reader will say (`due`);
-- each line that leads on keeps that, and where all is read it is the steps. Assumes nothing.
use mathlib.Core.Path.{◌≡◌, refl, sym, ap, subst, ◌∙◌}
use mathlib.Core.Bool.{Bool, true, false, cond, ◌&&◌, false≢true}
use mathlib.Core.List.{List, [], ◌∷◌, ◌++◌, append-nil}
use Prim.Native.Nat.{ℕ, zero, suc, ◌+◌, ◌-◌, ◌≤◌}
use native.Mathlib.Omega.{arith}
use lib.ListN.{length, take, length-append}
use lib.Dec.{leb, eqb}
use borrow.Author.Tests.{eqb-true, eqb-false, ne_eqb, le-leb}
use Rattle.std.specs.Prelude.{Option, Some, None, Result, Ok, Err, is_some}
use Rattle.std.proofs.lemmas.Grind.{common_steps}
use Rattle.decimal.specs.Decimal.{same_text}
use Rattle.types.specs.declared.Step.{Step}
use Rattle.types.specs.declared.Refusal.{Refusal}
use Rattle.types.specs.declared.Refusal.TheVariants.{Malformed}
use Rattle.types.specs.Types.{numbers_from, step_of, act_item, telling, refusal_from}
use Rattle.landlord.specs.Catalog.{catalog_after}
use Rattle.landlord.specs.Steps.{if_known, item_refusal}
use Rattle.landlord.proofs.Folds.{either}
use Rattle.season_lines.specs.declared.Line.{Line}
use Rattle.season_lines.specs.declared.Line.TheVariants.{Sizes, Item as ItemLine, Step as StepLine, Act as ActLine}
use Rattle.line_fields.specs.declared.Field.{Field}
use Rattle.line_fields.specs.Fields.{onto, split, all_fields, fields_of, field_at, is_letter, value_in, none_empty}
use Rattle.season_lines.specs.Lines.{names_in, headings, heading_among, heading_of, numbers_under, range_under, value_field, step_shape, step_line, values_in, line_in}
use Rattle.line_fields.proofs.Laws.{and_parts}
use Rattle.line_fields.proofs.Pieces.{no_bytes}
use Rattle.season_lines.proofs.Pieces.{empty_malformed, Says, line_says}
use Rattle.season_tables.specs.Tables.{Tables, Sofar, goes_on, at_start, with_step, in_turn, takes, may_end, must_end, named_by, read_under, read_line, at_end, read_from, reading_of}
use Rattle.season_tables.specs.Inner.{is_blank}
use Rattle.season_tables.proofs.Sound.{Leading, goes_on_lem}
use Rattle.season_log.specs.Log.{Logged, steps, fault, ahead, is_heading, log_text, line_ahead, read_lines, headed, read_table, read_log, steps_in_range}
use Rattle.season_log.proofs.Lines.{lacks, split_first}
use Rattle.season_log.proofs.OneText.{onward, onward_none, onward_more, lines_first, table_first, one_text}
use Rattle.season_text.specs.ThirdTable.{table_text, behind_blank, third_table, heading_number, first_heading, heading_in, TwoReaders}

-- ## The lines of a table and its text

-- no line has a line feed
unfoldable AllLack : List (List ℕ) → Type 0
AllLack [] = Unit {0}
AllLack (l ∷ rest) = (lacks 10 l ≡ true) × AllLack rest

lines_lack : (s : List ℕ) → AllLack (split 10 s)
unfolding split lacks AllLack
lines_lack [] = (refl, tt)
lines_lack (x ∷ s) =
    either AllLack (eqb x 10) ([] ∷ split 10 s) (onto x (split 10 s)) (λ e. (refl, lines_lack s)) (λ e. more (split 10 s) (lines_lack s) e)
  where
    more : (ls : List (List ℕ)) → AllLack ls → eqb x 10 ≡ false → AllLack (onto x ls)
    more [] h e = (rw e, tt)
    more (l ∷ ls) h e = (rw (e, h.0), h.1)

module _ (l : List ℕ) (rest : List (List ℕ)) where
  text_first : lacks 10 l ≡ true → (length l ≡ 0 → ⊥) → split 10 (table_text (l ∷ rest)) ≡ l ∷ split 10 (table_text rest)
  unfolding table_text
  text_first h some = rw (ne_eqb (length l) 0 some) (split_first 10 l (table_text rest) h)

  text_ended : length l ≡ 0 → table_text (l ∷ rest) ≡ []
  unfolding table_text
  text_ended e = rw e

  behind_first : length l ≡ 0 → behind_blank (l ∷ rest) ≡ rest
  unfolding behind_blank
  behind_first e = rw e

  behind_more : (length l ≡ 0 → ⊥) → behind_blank (l ∷ rest) ≡ behind_blank rest
  unfolding behind_blank
  behind_more some = rw (ne_eqb (length l) 0 some)

-- ## The third table is no longer than the text

-- the bytes of lines, each with its line feed
unfoldable bytes_in : List (List ℕ) → ℕ
bytes_in [] = 0
bytes_in (l ∷ rest) = suc (length l) + bytes_in rest

split_bytes : (b : ℕ) (s : List ℕ) → bytes_in (split b s) ≡ suc (length s)
unfolding split bytes_in
split_bytes b [] = refl
split_bytes b (x ∷ s) =
    either (λ ps. bytes_in ps ≡ suc (suc (length s))) (eqb x b) ([] ∷ split b s) (onto x (split b s))
    (λ e. omega (arith, split_bytes b s)) (λ e. more (split b s) (split_bytes b s))
  where
    more : (ps : List (List ℕ)) → bytes_in ps ≡ suc (length s) → bytes_in (onto x ps) ≡ suc (suc (length s))
    more [] h = absurd (omega (arith, h))
    more (p ∷ ps) h = omega (arith, h)

behind_bytes : (ls : List (List ℕ)) → bytes_in (behind_blank ls) ≤ bytes_in ls - 1
unfolding behind_blank bytes_in
behind_bytes [] = omega arith
behind_bytes (l ∷ rest) =
    either (λ ls. bytes_in ls ≤ suc (length l) + bytes_in rest - 1) (is_blank l) rest (behind_blank rest)
    (λ e. omega arith) (λ e. omega (arith, behind_bytes rest))

table_bytes : (ls : List (List ℕ)) → length (table_text ls) ≤ bytes_in ls
unfolding table_text bytes_in
table_bytes [] = omega arith
table_bytes (l ∷ rest) =
    either (λ t. length t ≤ suc (length l) + bytes_in rest) (is_blank l) [] (l ++ (10 ∷ table_text rest))
    (λ e. omega arith) (λ e. omega (arith, length-append l (10 ∷ table_text rest), table_bytes rest))

third_few : (s : List ℕ) → length (third_table s) ≤ length s
third_few s =
    let ls = split 10 s in
    omega (arith, table_bytes (behind_blank (behind_blank ls)), behind_bytes (behind_blank ls), behind_bytes ls, split_bytes 10 s)

-- ## What the log's reader will say

-- a table alone
abbrev table_alone : List (List ℕ) → Logged
table_alone ls = read_table (split 10 (table_text ls))

-- what it will say to the lines ls that are left, besides the steps that were read: in which table they begin, and behind which of its
-- headings, if behind one; inside the third table its own next line is line n, and behind that table its heading was f
abbrev due : ℕ → Option ℕ → ℕ → ℕ → List (List ℕ) → Logged
due zero heading f n ls = table_alone (behind_blank (behind_blank ls))
due (suc zero) heading f n ls = table_alone (behind_blank ls)
due (suc (suc zero)) None f n ls = table_alone ls
due (suc (suc zero)) (Some heading) f n ls = read_lines heading n (split 10 (table_text ls))
due (suc (suc (suc t))) heading f n ls = steps f []

-- no heading is the empty line
blank_unnamed : (table : ℕ) → heading_of table [] ≡ None
unfolding headings heading_among heading_of same_text
blank_unnamed table = grind (arith, common_steps)

-- and so none is empty
names_some : (table : ℕ) (l : List ℕ) (f : ℕ) → heading_of table l ≡ Some f → length l ≡ 0 → ⊥
names_some table [] f e z = let no : ◌≡◌ {A = Option ℕ} None (Some f) = sym (blank_unnamed table) ∙ e in cc
names_some table (x ∷ l) f e z = omega arith

-- and no value line is
line_some : (table heading : ℕ) (l : List ℕ) (n : ℕ) (y : Line) → line_in table heading (fields_of l) n ≡ Ok y → length l ≡ 0 → ⊥
unfolding split all_fields
line_some table heading [] n y e z =
    let no : ◌≡◌ {A = Result Line Refusal} (Err (Malformed n)) (Ok y) = sym (empty_malformed table heading (fields_of []) n 0 (omega arith) (rw no_bytes)) ∙ e in
    cc
line_some table heading (x ∷ l) n y e z = omega arith

-- a line of the third table goes by its number only where it is refused
on_any_line :
    (counted shape free : Bool) (refused : ℕ → Refusal) (x y : Line) (m n : ℕ) →
    cond counted (cond shape (cond free (Ok x) (Err (refused m))) (Err (Malformed m))) (Err (Malformed m)) ≡ Ok y →
    cond counted (cond shape (cond free (Ok x) (Err (refused n))) (Err (Malformed n))) (Err (Malformed n)) ≡ Ok y
on_any_line true true true refused x y m n e = e
on_any_line true true false refused x y m n e = absurd (cc)
on_any_line true false free refused x y m n e = absurd (cc)
on_any_line false shape free refused x y m n e = absurd (cc)

step_anywhere : (heading : ℕ) (fs : List Field) (m n : ℕ) (y : Line) → line_in 2 heading fs m ≡ Ok y → line_in 2 heading fs n ≡ Ok y
unfolding line_in values_in step_line
step_anywhere heading fs m n y e =
    let kind = field_at fs 0 in
    let item = field_at fs 1 in
    let minutes = field_at fs 2 in
    let blocks = value_field heading (field_at fs 3) in
    let load = value_field heading (field_at fs 4) in
    let write = value_field heading (field_at fs 5) in
    let values = numbers_from (value_in kind) (value_in item) (value_in minutes) (value_in blocks) (value_in load) (value_in write) in
    let numbers = numbers_under heading values in
    on_any_line (eqb (length fs) (names_in 2 heading) && none_empty fs) (is_letter kind && step_shape numbers.kind item minutes blocks load write)
    (eqb (range_under heading values) 0) (λ k. refusal_from (telling (range_under heading values) k 0)) (StepLine (step_of numbers)) y m n e

-- what each line that leads on leaves to be said: the line of names of heading g, or a line behind it
module _ (n : ℕ) (l : List ℕ) (rest : List (List ℕ)) (f g : ℕ) where
  due_names : (table : ℕ) → heading_of table l ≡ Some g → lacks 10 l ≡ true → due table (Some g) f 2 rest ≡ due table None f n (l ∷ rest)
  due_names zero e h = ap (λ (ls : List (List ℕ)). table_alone (behind_blank ls)) (sym (behind_more l rest (names_some 0 l g e)))
  due_names (suc zero) e h = ap table_alone (sym (behind_more l rest (names_some 1 l g e)))
  due_names (suc (suc zero)) e h =
      sym
      (ap read_table (text_first l rest h (names_some 2 l g e))
      ∙ table_first l (table_text rest)
      ∙ ap (λ (x : Option ℕ). headed x (split 10 (table_text rest))) e)
  due_names (suc (suc (suc t))) e h = refl

  due_blank : (table : ℕ) → table ≤ 2 → length l ≡ 0 → due (suc table) None g n rest ≡ due table (Some g) f n (l ∷ rest)
  unfolding split read_lines
  due_blank zero b e = ap (λ (ls : List (List ℕ)). table_alone (behind_blank ls)) (sym (behind_first l rest e))
  due_blank (suc zero) b e = ap table_alone (sym (behind_first l rest e))
  due_blank (suc (suc zero)) b e = ap (λ (t : List ℕ). read_lines g n (split 10 t)) (sym (text_ended l rest e))
  due_blank (suc (suc (suc t))) b e = absurd (omega arith)

  due_value : (table : ℕ) → (table ≡ 2 → ⊥) → (length l ≡ 0 → ⊥) → due table (Some g) f n rest ≡ due table (Some g) f n (l ∷ rest)
  due_value zero t some = ap (λ (ls : List (List ℕ)). table_alone (behind_blank ls)) (sym (behind_more l rest some))
  due_value (suc zero) t some = ap table_alone (sym (behind_more l rest some))
  due_value (suc (suc zero)) t some = absurd (t refl)
  due_value (suc (suc (suc k))) t some = refl

  due_step :
      (table m : ℕ) (s : Step) →
      table ≡ 2 →
      line_in table g (fields_of l) m ≡ Ok (StepLine s) →
      lacks 10 l ≡ true →
      (length l ≡ 0 → ⊥) →
      ahead s (due table (Some g) f (suc n) rest) ≡ due table (Some g) f n (l ∷ rest)
  due_step zero m s t e h some = absurd (omega arith)
  due_step (suc zero) m s t e h some = absurd (omega arith)
  due_step (suc (suc zero)) m s t e h some =
      sym
      (ap (read_lines g n) (text_first l rest h some)
      ∙ lines_first g n l (table_text rest)
      ∙ ap (λ (x : Result Line Refusal). line_ahead x (read_lines g (suc n) (split 10 (table_text rest)))) (step_anywhere g (fields_of l) m n (StepLine s) e))
  due_step (suc (suc (suc k))) m s t e h some = absurd (omega arith)

-- ## Each line that leads on keeps it

-- what has been read, in a table behind a heading or before it
abbrev stands : ℕ → Option ℕ → Tables → Sofar
stands table heading t = record { stage = record { table = table; heading = heading }; read = t }

-- the log's reader will say x
record Kept (x : Logged) (ls : List (List ℕ)) (v : Sofar) : Type 0 where
  line : ℕ
  heading : ℕ
  says : onward v.read.steps (due v.stage.table v.stage.heading heading line ls) ≡ x

-- an answer that is given is so
given : {A : Type 0} (y : Result A Refusal) → Leading (λ a. y ≡ Ok a) y
given (Ok a) = refl
given (Err r) = tt

module _ (x : Logged) (l : List ℕ) (rest : List (List ℕ)) (h : lacks 10 l ≡ true) (table : ℕ) (t : Tables) where
  -- the line of names
  names_kept : (f : ℕ) → heading_of table l ≡ Some f → Kept x (l ∷ rest) (stands table None t) → Kept x rest (stands table (Some f) t)
  names_kept f e q =
      record { line = 2; heading = q.heading; says = ap (onward t.steps) (due_names q.line l rest q.heading f table e h) ∙ q.says }

  module _ (f : ℕ) (q : Kept x (l ∷ rest) (stands table (Some f) t)) where
    -- the blank line
    blank_kept : table ≤ 2 → length l ≡ 0 → Kept x rest (stands (suc table) None t)
    blank_kept b e =
        record { line = q.line; heading = f; says = ap (onward t.steps) (due_blank q.line l rest q.heading f table b e) ∙ q.says }

    -- a value line stays in its table
    abbrev Still : Tables → Type 0
    Still w = Kept x rest (stands table (Some f) w)

    -- one that is no step's
    other_kept : (w : Tables) → (length l ≡ 0 → ⊥) → (table ≡ 2 → ⊥) → w.steps ≡ t.steps → Still w
    other_kept w some k e =
        record {
          line = q.line;
          heading = q.heading;
          says = ap (λ (ss : List Step). onward ss (due table (Some f) q.heading q.line rest)) e
              ∙ ap (onward t.steps) (due_value q.line l rest q.heading f table k some) ∙ q.says;
        }

    step_kept : (n : ℕ) (s : Step) → table ≡ 2 → line_in table f (fields_of l) n ≡ Ok (StepLine s) → (length l ≡ 0 → ⊥) → Still (with_step t s)
    step_kept n s k e some =
        record {
          line = suc q.line;
          heading = q.heading;
          says =
              onward_more t.steps s (due table (Some f) q.heading (suc q.line) rest)
              ∙ ap (onward t.steps) (due_step q.line l rest q.heading f table n s k e h some)
              ∙ q.says;
        }

    takes_kept : (n : ℕ) (y : Line) → line_in table f (fields_of l) n ≡ Ok y → Leading Still (takes t y n)
    unfolding takes
    takes_kept n y e = go y e (line_some table f l n y e) (subst (Says table (length (fields_of l)) n) e (line_says table f (fields_of l) n))
      where
        go :
            (y : Line) →
            line_in table f (fields_of l) n ≡ Ok y →
            (length l ≡ 0 → ⊥) →
            Says table (length (fields_of l)) n (Ok y) →
            Leading Still (takes t y n)
        go (Sizes k j r) e some s =
            either (Leading Still) (leb j k) _ _ (λ _. other_kept _ some (λ z. omega (arith, s.0)) refl) (λ _. tt)
        go (ItemLine i c d w) e some s =
            either (Leading Still) (eqb i (length t.catalog)) _ _ (λ _. other_kept _ some (λ z. omega (arith, s.0)) refl) (λ _. tt)
        go (StepLine z) e some s =
            either (Leading Still) (eqb (item_refusal t.k (catalog_after t.catalog t.steps) z) 0) _ _ (λ _. step_kept n z s.0 e some) (λ _. tt)
        go (ActLine place act) e some s =
            either (Leading Still) (in_turn t place) _ _
            (λ _. either (Leading Still) (eqb (if_known (catalog_after t.catalog (take place t.steps)) (act_item act) 0) 0) _ _
            (λ _. other_kept _ some (λ z. omega (arith, s.0)) refl) (λ _. tt))
            (λ _. tt)

  -- any line
  line_kept : (n : ℕ) (heading : Option ℕ) → Kept x (l ∷ rest) (stands table heading t) → Leading (Kept x rest) (read_under heading 3 (stands table heading t) l n)
  unfolding read_under
  line_kept n None q = names (heading_of table l) refl
    where
      names :
          (z : Option ℕ) →
          heading_of table l ≡ z →
          Leading (Kept x rest) (goes_on (named_by (record { table = table; heading = None }) z n) (λ p. Ok (record { stage = p; read = t })))
      names (Some f) e = names_kept f e q
      names None e = tt
  line_kept n (Some f) q =
      either (Leading (Kept x rest)) (is_blank l && may_end 3 table t.k) _ _
      (λ b. let parts = and_parts (is_blank l) (may_end 3 table t.k) b in blank_kept f q (low parts.1) (eqb-true (length l) 0 parts.0))
      (λ b. either (Leading (Kept x rest)) (must_end table t.k) _ _ (λ m. tt)
      (λ m. goes_on_lem _ (Kept x rest) (line_in table f (fields_of l) n) _ (given (line_in table f (fields_of l) n))
      (λ y e. goes_on_lem (Still f q) (Kept x rest) (takes t y n) _ (takes_kept f q n y e) (λ w k. k))))
    where
      low : may_end 3 table t.k ≡ true → table ≤ 2
      low e = grind arith

-- ## The whole text

-- where all is read, the log's reader says the steps, under a heading
record Agrees (x : Logged) (v : Tables) : Type 0 where
  heading : ℕ
  says : x ≡ steps heading v.steps

end_agrees : (x : Logged) (n : ℕ) (ls : List (List ℕ)) (v : Sofar) → Kept x ls v → Leading (Agrees x) (at_end 3 v n)
end_agrees x n ls v q =
    either (Leading (Agrees x)) (is_some v.stage.heading && eqb v.stage.table 3) _ _
    (λ e. done (and_parts (is_some v.stage.heading) (eqb v.stage.table 3) e).1) (λ e. tt)
  where
    done : eqb v.stage.table 3 ≡ true → Agrees x v.read
    done e =
        let t : v.stage.table ≡ 3 = eqb-true v.stage.table 3 e in
        record {
          heading = q.heading;
          says =
              sym q.says
              ∙ ap (λ (table : ℕ). onward v.read.steps (due table v.stage.heading q.heading q.line ls)) t
              ∙ ap (steps q.heading) (append-nil v.read.steps);
        }

read_agrees : (x : Logged) (n : ℕ) (ls : List (List ℕ)) (v : Sofar) → AllLack ls → Kept x ls v → Leading (Agrees x) (read_from 3 n ls v)
unfolding read_from read_line AllLack
read_agrees x n [] v h q = end_agrees x n [] v q
read_agrees x n (l ∷ []) v h q = either (Leading (Agrees x)) (is_blank l) _ _ (λ e. end_agrees x n (l ∷ []) v q) (λ e. tt)
read_agrees x n (l ∷ m ∷ rest) v h q =
    goes_on_lem (Kept x (m ∷ rest)) (Agrees x) (read_line 3 v l n) (read_from 3 (suc n) (m ∷ rest)) (line_kept x l (m ∷ rest) h.0 v.stage.table v.read n v.stage.heading q)
    (λ w p. read_agrees x (suc n) (m ∷ rest) w h.1 p)

-- a text that is not too long
short_log : (t : List ℕ) → length t ≤ 65536 → read_table (split 10 t) ≡ read_log t
unfolding read_log
short_log t few = rw (le-leb (length t) 65536 few)

-- ## The heading that the log's reader tells is that of the table's first line

-- what is read, if anything is, is read under this heading
abbrev Under : ℕ → Logged → Type 0
Under heading (steps f ss) = f ≡ heading
Under heading (fault r) = Unit {0}

ahead_under : (heading : ℕ) (s : Step) (x : Logged) → Under heading x → Under heading (ahead s x)
ahead_under heading s (steps f ss) u = u
ahead_under heading s (fault r) u = tt

follows_under : (heading : ℕ) (y : Result Line Refusal) (x : Logged) → Under heading x → Under heading (line_ahead y x)
follows_under heading (Ok (StepLine s)) x u = ahead_under heading s x u
follows_under heading (Ok (Sizes k h r)) x u = tt
follows_under heading (Ok (ItemLine i b l w)) x u = tt
follows_under heading (Ok (ActLine place act)) x u = tt
follows_under heading (Err r) x u = tt

lines_under : (heading n : ℕ) (ls : List (List ℕ)) → Under heading (read_lines heading n ls)
unfolding read_lines
lines_under heading n [] = refl
lines_under heading n (l ∷ []) = either (Under heading) (is_blank l) _ _ (λ e. refl) (λ e. tt)
lines_under heading n (l ∷ m ∷ rest) =
    follows_under heading (line_in 2 heading (fields_of l) n) (read_lines heading (suc n) (m ∷ rest)) (lines_under heading (suc n) (m ∷ rest))

headed_under : (names : Option ℕ) (ls : List (List ℕ)) → Under (heading_number names) (headed names ls)
headed_under (Some heading) ls = lines_under heading 2 ls
headed_under None ls = tt

table_under : (ls : List (List ℕ)) → Under (first_heading ls) (read_table ls)
unfolding read_table
table_under [] = tt
table_under (l ∷ []) = tt
table_under (l ∷ m ∷ rest) = headed_under (heading_of 2 l) (m ∷ rest)

log_under : (t : List ℕ) → Under (heading_in t) (read_log t)
unfolding read_log
log_under t = either (Under (heading_in t)) (leb (length t) 65536) _ _ (λ e. table_under (split 10 t)) (λ e. tt)

pub two_readers : TwoReaders
two_readers s v few e =
    let x = read_log (third_table s) in
    let third = table_alone (behind_blank (behind_blank (split 10 s))) in
    let start : onward [] third ≡ x = onward_none third ∙ short_log (third_table s) (omega (arith, third_few s)) in
    let agrees : Agrees x v =
    subst (Leading (Agrees x)) e
    (read_agrees x 1 (split 10 s) at_start (lines_lack s)
    (record { line = 0; heading = 0; says = start }))
    in
    agrees.says ∙ ap (λ (heading : ℕ). steps heading v.steps) (subst (Under (heading_in (third_table s))) agrees.says (log_under (third_table s)))

-- an accepted text whose third table is what the writer makes of some steps under a heading has those steps
pub written_is_read :
    (s : List ℕ) (v : Tables) (heading : ℕ) (ss : List Step) →
    length s ≤ 65536 →
    reading_of s ≡ Ok v →
    is_heading heading ≡ true →
    steps_in_range heading ss ≡ true →
    third_table s ≡ log_text heading ss →
    v.steps ≡ ss
written_is_read s v heading ss few e head r t =
    let short : length (log_text heading ss) ≤ 65536 = subst (λ (z : List ℕ). length z ≤ 65536) t (omega (arith, third_few s)) in
    ap steps_in (sym (two_readers s v few e) ∙ ap read_log t ∙ one_text.written_reads heading ss head r short)
  where
    steps_in : Logged → List Step
    steps_in (steps f xs) = xs
    steps_in (fault f) = []
