-- The tables of the text input, read line by line: the first faulty line decides. Paper 01, 'The text input' and 'When the library
-- says no', and paper 02, 'Three' and 'Six'. Assumes nothing.
use mathlib.Core.{Bool.{Bool, cond, ◌&&◌}, List.{List, [], ◌∷◌, ◌++◌}}
use Rattle.std.specs.Prelude.{ℕ, suc, Option, Some, None, Result, Ok, Err, is_some}
use lib.{ListN.{length, take}, Dec.{leb, ltb, eqb}}
use Rattle.types.specs.declared.{Step.Step, Act.Act, Deduction.{Deduction, TheVariants.WriteFirst}, Refusal.{Refusal, TheVariants.{Malformed, Heading, OutOfSequence, PlanTooLarge, ActOutOfOrder}}}
use Rattle.types.specs.Types.{step_item, act_item, telling, refusal_from}
use Rattle.landlord.specs.{Fold.fold, Catalog.{Catalog, listed, catalog_after}, Steps.{if_known, item_refusal}}
use Rattle.season_lines.specs.declared.Line.{Line, TheVariants.{Sizes, Item as ItemLine, Step as StepLine, Act as ActLine}}
use Rattle.line_fields.specs.Fields.{split, fields_of}
use Rattle.season_lines.specs.Lines.{heading_of, line_in}
use Rattle.season_tables.specs.declared.Stage.{Stage}

-- an act of the text: the 0-based step before which it stands, and what it does
pub record Placed : Type 0 where
  pub place : ℕ
  pub act : Act

-- What the tables say, as far as they are read. The catalog is that of its table: what arrives and leaves is among the steps. Before the
-- line of sizes k is 0, and the rule write-first.
pub record Tables : Type 0 where
  pub k : ℕ
  pub h : ℕ
  pub rule : Deduction
  pub catalog : Catalog
  pub steps : List Step
  pub acts : List Placed

-- What has been read, and the stage of the reading: in which table, the tables counted from 0; and behind the table's line of names, which
-- of its headings that was.
pub record Sofar : Type 0 where
  pub stage : Stage
  pub read : Tables

-- before the first line
abbrev pub at_start : Sofar
at_start =
    record { stage = record { table = 0; heading = None }; read = record { k = 0; h = 0; rule = WriteFirst; catalog = []; steps = []; acts = [] } }

-- What a line or a text gives, or the refusal that stops the reading there: what follows it, if it is not refused.
abbrev pub goes_on : {A B : Type 0} → Result A Refusal → (A → Result B Refusal) → Result B Refusal
goes_on (Ok a) next = next a
goes_on (Err r) next = Err r

-- ## A value line

abbrev pub with_sizes : Tables → ℕ → ℕ → Deduction → Tables
with_sizes v k h r = record { k = k; h = h; rule = r; catalog = v.catalog; steps = v.steps; acts = v.acts }

abbrev pub with_item : Tables → ℕ → ℕ → ℕ → Tables
with_item v b l w =
    record { k = v.k; h = v.h; rule = v.rule; catalog = v.catalog ++ (listed b l w ∷ []); steps = v.steps; acts = v.acts }

abbrev pub with_step : Tables → Step → Tables
with_step v s = record { k = v.k; h = v.h; rule = v.rule; catalog = v.catalog; steps = v.steps ++ (s ∷ []); acts = v.acts }

abbrev pub with_act : Tables → ℕ → Act → Tables
with_act v place act =
    record { k = v.k; h = v.h; rule = v.rule; catalog = v.catalog; steps = v.steps; acts = v.acts ++ (record { place = place; act = act } ∷ []) }

-- "10 out of turn: `at` falls, or is not below the number of steps"; before the first act it falls from 0
abbrev pub in_turn : Tables → ℕ → Bool
in_turn v place = leb (fold (λ (p : ℕ) (a : Placed). a.place) 0 v.acts) place && ltb place (length v.steps)

-- 0 is no refusal; a number of an item (6, 7, 19, 20) is told on line n with it
abbrev pub unless_refused : ℕ → ℕ → ℕ → Tables → Result Tables Refusal
unless_refused number n item w = cond (eqb number 0) (Ok w) (Err (refusal_from (telling number n item)))

-- A value line that is shaped and in range, on line n: "then for `locker rival` 5, for sails 4, for steps 6, 7, for acts 10, 6", with 19
-- for an arrival, and "20 when a step or act names a sail whose Q is at an earlier step, straight after 6". A step goes by the catalog as
-- the steps before it have left it, and an act as the steps before its place have: "To steps before its A, and to acts at or before it, a
-- sail is a stranger".
unfoldable pub takes : Tables → Line → ℕ → Result Tables Refusal
takes v (Sizes k h r) n = cond (leb h k) (Ok (with_sizes v k h r)) (Err (PlanTooLarge n))
takes v (ItemLine i b l w) n = cond (eqb i (length v.catalog)) (Ok (with_item v b l w)) (Err (OutOfSequence n))
takes v (StepLine s) n =
    unless_refused (item_refusal v.k (catalog_after v.catalog v.steps) s) n (step_item s) (with_step v s)
takes v (ActLine place act) n =
    cond (in_turn v place)
    (unless_refused (if_known (catalog_after v.catalog (take place v.steps)) (act_item act) 0) n (act_item act) (with_act v place act))
    (Err (ActOutOfOrder n))

-- ## Any line, and the whole text

-- whether a blank line may stand here: behind the one line of `locker rival`, and in each table after it but the last
abbrev pub may_end : ℕ → ℕ → ℕ → Bool
may_end upto table k = cond (eqb table 0) (leb 1 k) (ltb table upto)

-- whether nothing else may: "A blank line due but not there is torn"
abbrev pub must_end : ℕ → ℕ → Bool
must_end table k = eqb table 0 && leb 1 k

-- the blank line is read: the next table's names are due
abbrev pub next_table : Stage → Stage
next_table p = record { table = suc p.table; heading = None }

-- the line of names, on line n: a heading of its table, or 2
abbrev pub named_by : Stage → Option ℕ → ℕ → Result Stage Refusal
named_by p (Some f) n = Ok (record { table = p.table; heading = Some f })
named_by p None n = Err (Heading n)

-- a line l, ended by its line feed, on line n of a text whose last table is the one numbered `upto`: the line of names, or one behind it
unfoldable pub read_under : Option ℕ → ℕ → Sofar → List ℕ → ℕ → Result Sofar Refusal
read_under None upto v l n = goes_on (named_by v.stage (heading_of v.stage.table l) n) (λ q. Ok (record { stage = q; read = v.read }))
read_under (Some f) upto v l n =
    let p = v.stage in
    let t = v.read in
    cond (eqb (length l) 0 && may_end upto p.table t.k) (Ok (record { stage = next_table p; read = t }))
    (cond (must_end p.table t.k) (Err (Malformed n))
    (goes_on (line_in p.table f (fields_of l) n) (λ line. goes_on (takes t line n) (λ u. Ok (record { stage = p; read = u })))))

unfoldable pub read_line : ℕ → Sofar → List ℕ → ℕ → Result Sofar Refusal
read_line upto v l n = read_under v.stage.heading upto v l n

-- The input's end, on line n: all is read behind the names of the last table, else "the input ends where a line is due".
abbrev pub at_end : ℕ → Sofar → ℕ → Result Tables Refusal
at_end upto v n = cond (is_some v.stage.heading && eqb v.stage.table upto) (Ok v.read) (Err (Heading n))

-- The lines from line n on. The last piece is what stands behind the last line feed: bytes there are a line without one.
unfoldable pub read_from : ℕ → ℕ → List (List ℕ) → Sofar → Result Tables Refusal
read_from upto n [] v = at_end upto v n
read_from upto n (l ∷ []) v = cond (eqb (length l) 0) (at_end upto v n) (Err (Malformed n))
read_from upto n (l ∷ m ∷ rest) v = goes_on (read_line upto v l n) (read_from upto (suc n) (m ∷ rest))

-- what a text says whose last table is the one numbered `upto`, or the refusal of its first faulty line
abbrev pub reading_to : ℕ → List ℕ → Result Tables Refusal
reading_to upto s = read_from upto 1 (split 10 s) at_start

-- and a text of all four tables
abbrev pub reading_of : List ℕ → Result Tables Refusal
reading_of s = reading_to 3 s
