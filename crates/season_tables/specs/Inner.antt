-- How the program holds what has been read: the sizes and counts in a struct, with what is known of the items; the items as bytes in one
-- lent slice, the steps and acts as numbers in two; and what a line leaves of them as it was. The stage of the reading it holds as it is.
-- Assumes nothing.
use lib.{ListN.{length, take, drop}, Dec.{eqb, leb}}
use Rattle.types.specs.{declared.{Step.Step, Act.Act, Deduction.TheVariants.WriteFirst, Refusal.{Refusal, TheVariants.Heading}}, Types.{numbers_of, act_kind, act_item}}
use Rattle.landlord.specs.{Fold.fold, Catalog.catalog_after, Steps.in_range}
use mathlib.Core.{Bool.{Bool, true, cond, not, ◌&&◌}, List.{List, [], ◌∷◌, map}, Path.◌≡◌}
use Rattle.season_tables.specs.declared.{Stage.Stage, Seen.Seen}
use Rattle.season_tables.specs.Tables.{Placed, Tables, Sofar, may_end, must_end, read_line}
use Rattle.std.specs.Prelude.{ℕ, ◌*◌, ◌≤◌, Result, Ok, Err, OnErr, is_some}
use Rattle.catalog_bytes.specs.Inner.{catalog_of_first}
use Rattle.line_fields.specs.{declared.Field.Field, Fields.{fields_of, none_empty}, Inner.held_field}
use Rattle.season_lines.specs.declared.Line.{Line, TheVariants.{Sizes, Item as ItemLine, Step as StepLine, Act as ActLine}}
use Rattle.landlord.specs.CallNumbers.{call_numbers}
use Rattle.season_items.specs.Inner.{call_width, act_width, most_noted, item_room, call_room, act_room, HasItems, Tells, none_present}

-- a blank line
abbrev pub is_blank : List ℕ → Bool
is_blank l = eqb (length l) 0

-- the place of the last act, 0 if there is none
abbrev pub last_place : List Placed → ℕ
last_place acts = fold (λ (p : ℕ) (a : Placed). a.place) 0 acts

-- whether the one value line of `locker rival` is read
abbrev pub is_sized : ℕ → Bool
is_sized k = leb 1 k

-- the acts, three numbers each: place, kind and item
unfoldable pub act_numbers : List Placed → List ℕ
act_numbers [] = []
act_numbers (a ∷ acts) = a.place ∷ act_kind a.act ∷ act_item a.act ∷ act_numbers acts

-- The struct and the slices hold what has been read. Behind the catalog's items the bytes have those that arrived. What is known of the
-- items is known as all steps have left them, and as the steps before the last act's place have; no act stands behind the last step.
pub record Holds (q : Seen) (catalog calls acts : List ℕ) (v : Tables) : Type 0 where
  pub k : q.k ≡ v.k
  pub h : q.h ≡ v.h
  pub rule : q.rule ≡ v.rule
  pub few : q.present.n ≤ 256
  pub items : catalog_of_first q.n catalog ≡ v.catalog
  pub item_count : q.n ≡ length v.catalog
  pub step_count : q.steps ≡ length v.steps
  pub act_count : q.acts ≡ length v.acts
  pub last : q.last ≡ last_place v.acts
  pub steps_noted : take (call_width * q.steps) calls ≡ call_numbers v.steps
  pub acts_noted : take (act_width * q.acts) acts ≡ act_numbers v.acts
  pub present : Tells (catalog_after v.catalog v.steps) q.present
  pub earlier : Tells (catalog_after v.catalog (take q.last v.steps)) q.earlier
  pub stored : HasItems (catalog_after v.catalog v.steps) catalog
  pub passed : q.last ≤ q.steps

-- the struct before the first line
abbrev pub nothing_read : Seen
nothing_read =
    record { k = 0; h = 0; rule = WriteFirst; n = 0; steps = 0; acts = 0; last = 0; present = none_present; earlier = none_present }

-- the answer at the end of an input whose last table is the one numbered `upto`, on line n
abbrev pub end_answer : ℕ → Stage → ℕ → Result (Unit {0}) Refusal
end_answer upto p n = cond (is_some p.heading && eqb p.table upto) (Ok tt) (Err (Heading n))

-- the answer to a value line, or to all lines: taken, with what has been read then; or the refusal
abbrev pub Leads : Result Tables Refusal → Result (Unit {0}) Refusal → Seen → List ℕ → List ℕ → List ℕ → Type 0
Leads (Ok v) r q catalog calls acts = (r ≡ Ok tt) × Holds q catalog calls acts v
Leads (Err x) r q catalog calls acts = r ≡ Err x

-- The answer leads where `led` says from what has been read, items, steps and acts being noted in these slices before and after.
abbrev pub LeadsFrom : Seen → List ℕ → List ℕ → List ℕ → (Tables → Result Tables Refusal) → Result (Unit {0}) Refusal → Seen → List ℕ → List ℕ → List ℕ → Type 0
LeadsFrom q catalog calls acts led r p catalog_then calls_then acts_then =
    (v : Tables) → Holds q catalog calls acts v → Leads (led v) r p catalog_then calls_then acts_then

-- and nothing is noted
abbrev pub LeadsBy : Seen → (Tables → Result Tables Refusal) → Result (Unit {0}) Refusal → Seen → Type 0
LeadsBy q led r p = (catalog calls acts : List ℕ) → LeadsFrom q catalog calls acts led r p catalog calls acts

-- and only an item is
abbrev pub NotesItem : Seen → List ℕ → (Tables → Result Tables Refusal) → Result (Unit {0}) Refusal → Seen → List ℕ → Type 0
NotesItem q catalog led r p after = (calls acts : List ℕ) → LeadsFrom q catalog calls acts led r p after calls acts

-- and only a step is, with the item that arrives
abbrev pub NotesStep : Seen → List ℕ → List ℕ → (Tables → Result Tables Refusal) → Result (Unit {0}) Refusal → Seen → List ℕ → List ℕ → Type 0
NotesStep q catalog calls led r p catalog_then calls_then =
    (acts : List ℕ) → LeadsFrom q catalog calls acts led r p catalog_then calls_then acts

-- and only an act is
abbrev pub NotesAct : Seen → List ℕ → List ℕ → (Tables → Result Tables Refusal) → Result (Unit {0}) Refusal → Seen → List ℕ → Type 0
NotesAct q calls acts led r p after = (catalog : List ℕ) → LeadsFrom q catalog calls acts led r p catalog calls after

-- A slice that is noted in: past its first m numbers it is as it was; after a refusal all of it is, and the struct too.
abbrev pub KeepsPast : ℕ → Seen → List ℕ → Result (Unit {0}) Refusal → Seen → List ℕ → Type 0
KeepsPast m q before r p after = (drop m after ≡ drop m before) × OnErr r ((p ≡ q) × (after ≡ before))

-- past what has been noted the slices are as they were
pub record Untouched (q : Seen) (catalog calls acts catalog_then calls_then acts_then : List ℕ) : Type 0 where
  pub past_items : drop (5 * q.present.n) catalog_then ≡ drop (5 * q.present.n) catalog
  pub past_steps : drop (call_width * q.steps) calls_then ≡ drop (call_width * q.steps) calls
  pub past_acts : drop (act_width * q.acts) acts_then ≡ drop (act_width * q.acts) acts

-- the struct and the slices are all as they were
pub record Unchanged (q : Seen) (catalog calls acts : List ℕ) (p : Seen) (catalog_then calls_then acts_then : List ℕ) : Type 0 where
  pub same_seen : p ≡ q
  pub same_items : catalog_then ≡ catalog
  pub same_steps : calls_then ≡ calls
  pub same_acts : acts_then ≡ acts

-- What a line leaves as it was: the slices past what has been noted then; after a refusal, all.
pub record Keeps (q : Seen) (catalog calls acts : List ℕ) (r : Result (Unit {0}) Refusal) (p : Seen) (catalog_then calls_then acts_then : List ℕ) : Type 0 where
  pub past : Untouched p catalog calls acts catalog_then calls_then acts_then
  pub refused : OnErr r (Unchanged q catalog calls acts p catalog_then calls_then acts_then)

-- ## Any line, with the stage of the reading

-- a line that only leads to another stage, or is refused
abbrev pub Moves : Stage → Result Stage Refusal → Result (Unit {0}) Refusal → Stage → Type 0
Moves p (Ok to) r q = (r ≡ Ok tt) × (q ≡ to)
Moves p (Err x) r q = (r ≡ Err x) × (q ≡ p)

-- the answer to any line: taken, with the stage and what has been read then; or the refusal
abbrev pub LeadsTo : Result Sofar Refusal → Result (Unit {0}) Refusal → Stage → Seen → List ℕ → List ℕ → List ℕ → Type 0
LeadsTo (Ok v) r p q catalog calls acts = (r ≡ Ok tt) × (p ≡ v.stage) × Holds q catalog calls acts v.read
LeadsTo (Err x) r p q catalog calls acts = r ≡ Err x

-- and so from a stage, for line l, the n-th, of a text whose last table is the one numbered `upto`
abbrev pub ReadsLine : ℕ → Stage → Seen → List ℕ → List ℕ → List ℕ → List ℕ → ℕ → Result (Unit {0}) Refusal → Stage → Seen → List ℕ → List ℕ → List ℕ → Type 0
ReadsLine upto p q catalog calls acts l n r p_then q_then catalog_then calls_then acts_then =
    (v : Tables) →
    Holds q catalog calls acts v →
    LeadsTo (read_line upto (record { stage = p; read = v }) l n) r p_then q_then catalog_then calls_then acts_then

-- What it leaves as it was; after a refusal the stage too.
pub record KeepsLine (p : Stage) (q : Seen) (catalog calls acts : List ℕ) (r : Result (Unit {0}) Refusal) (p_then : Stage) (q_then : Seen) (catalog_then calls_then acts_then : List ℕ) : Type 0 where
  pub kept : Keeps q catalog calls acts r q_then catalog_then calls_then acts_then
  pub refused : OnErr r (p_then ≡ p)

-- whether the fields of a line of so many bytes are looked at: a value line is due, and this is not the blank line
unfoldable pub wants_values : ℕ → Stage → ℕ → ℕ → Bool
wants_values upto p k bytes = is_some p.heading && not (eqb bytes 0 && may_end upto p.table k) && not (must_end p.table k)

-- if a line is one with values, these are its fields, as the program holds them
abbrev pub Looked : ℕ → Stage → ℕ → List ℕ → List Field → Type 0
Looked upto p k l fs = wants_values upto p k (length l) ≡ true → fs ≡ map held_field (fields_of l)

-- ## What is asked

-- the slices have at least the places of 256 items, of the steps and acts that a text can have, and of one more
pub record Roomy (catalog calls acts : List ℕ) : Type 0 where
  pub for_items : item_room ≤ length catalog
  pub for_steps : call_room ≤ length calls
  pub for_acts : act_room ≤ length acts

-- no more steps and acts are read than a text can have
pub record FewRead (q : Seen) : Type 0 where
  pub steps : q.steps ≤ most_noted
  pub acts : q.acts ≤ most_noted

-- so a place is left
pub record Room (q : Seen) (catalog calls acts : List ℕ) : Type 0 where
  pub few : FewRead q
  pub roomy : Roomy catalog calls acts

-- what a value line may say here: an item has a number that has a place, and stands before the steps; a step is in range
abbrev pub Sayable : Seen → Line → Type 0
Sayable q (Sizes k h r) = Unit {0}
Sayable q (ItemLine i b l w) = (i ≤ 255) × (q.steps ≡ 0)
Sayable q (StepLine s) = in_range (numbers_of s) ≡ true
Sayable q (ActLine place act) = Unit {0}

-- a line that a line writer may take
pub record Takeable (q : Seen) (line : Line) (catalog calls acts : List ℕ) : Type 0 where
  pub room : Room q catalog calls acts
  pub read : Tables
  pub holds : Holds q catalog calls acts read
  pub sayable : Sayable q line

-- a step that may be taken, whatever acts there are
pub record StepTakeable (q : Seen) (s : Step) (catalog calls : List ℕ) : Type 0 where
  pub acts : List ℕ
  pub line : Takeable q (StepLine s) catalog calls acts

-- an act that may be taken, whatever items there are
pub record ActTakeable (q : Seen) (place : ℕ) (act : Act) (calls acts : List ℕ) : Type 0 where
  pub catalog : List ℕ
  pub line : Takeable q (ActLine place act) catalog calls acts

-- what a line asks: the struct and the slices hold what has been read, no step before the end of the catalog, and its fields were looked at
pub record LineReadable (upto : ℕ) (p : Stage) (q : Seen) (l : List ℕ) (fields : List Field) (catalog calls acts : List ℕ) : Type 0 where
  pub room : Room q catalog calls acts
  pub judgeable : none_empty fields ≡ true
  pub table : p.table ≤ 3
  pub looked : Looked upto p q.k l fields
  pub unstepped : p.table ≤ 1 → q.steps ≡ 0
  pub read : Tables
  pub holds : Holds q catalog calls acts read

-- what scanning asks: a last table that is not the first, and a text that is not too long
pub record Scannable (upto : ℕ) (s catalog calls acts : List ℕ) : Type 0 where
  pub low : 1 ≤ upto
  pub high : upto ≤ 3
  pub short : length s ≤ 65536
  pub roomy : Roomy catalog calls acts
