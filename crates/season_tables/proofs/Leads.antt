-- Laws of a line that is ended by its line feed: which of the three it is, the line of names, a line with values or the blank line,
-- and where it leads. Assumes nothing.
use mathlib.Core.Path.{◌≡◌, refl, sym, ap, subst, ◌∙◌}
use mathlib.Core.Bool.{Bool, true, false, cond, not, ◌&&◌, false≢true}
use mathlib.Core.List.{List}
use Prim.Native.Nat.{ℕ, ◌≤◌}
use native.Mathlib.Omega.{arith}
use lib.ListN.{length}
use lib.Dec.{eqb}
use Rattle.std.specs.Prelude.{Option, Some, None, Result, Ok, Err}
use Rattle.types.specs.declared.Refusal.{Refusal}
use Rattle.types.specs.declared.Refusal.TheVariants.{Malformed}
use Rattle.line_fields.specs.declared.Field.{Field}
use Rattle.line_fields.specs.Fields.{fields_of}
use Rattle.season_lines.specs.declared.Line.{Line}
use Rattle.season_lines.specs.declared.Line.TheVariants.{Sizes, Item as ItemLine, Step as StepLine, Act as ActLine}
use Rattle.season_lines.specs.Lines.{heading_of, line_in}
use Rattle.season_lines.proofs.Pieces.{Says, line_says}
use Rattle.season_lines.proofs.Held.{held_line}
use Rattle.season_tables.specs.declared.Stage.{Stage}
use Rattle.season_tables.specs.declared.Seen.{Seen}
use Rattle.season_tables.specs.Tables.{Tables, Sofar, goes_on, next_table, may_end, must_end, named_by, takes, read_under, read_line}
use Rattle.season_tables.specs.Inner.{Holds, Leads, LeadsFrom, Moves, LeadsTo, ReadsLine, Looked, Sayable, wants_values}

-- the two tests of a line behind its names: its values are looked at, or it is blank where a blank line may stand, or nothing else may
valued : {A : Type 0} (end must : Bool) (x y z : A) → (not end && not must) ≡ true → cond end x (cond must y z) ≡ z
valued true must x y z e = absurd (false≢true e)
valued false true x y z e = absurd (false≢true e)
valued false false x y z e = refl

blank : {A : Type 0} (b may must : Bool) (x y z : A) → (must ≡ true → may ≡ true) → (not (b && may) && not must) ≡ false → cond (b && may) x (cond must y z) ≡ cond b x y
blank true true must x y z f e = refl
blank true false true x y z f e = absurd (false≢true (f refl))
blank true false false x y z f e = absurd (false≢true (sym e))
blank false may true x y z f e = refl
blank false may false x y z f e = absurd (false≢true (sym e))

must_may : (upto table k : ℕ) → must_end table k ≡ true → may_end upto table k ≡ true
must_may upto table k e = grind arith

-- a line with values leads where its fields say
pub leads_values :
    (upto : ℕ) (v : Sofar) (l : List ℕ) (n heading : ℕ) →
    v.stage.heading ≡ Some heading →
    wants_values upto v.stage v.read.k (length l) ≡ true →
    read_line upto v l n
    ≡ goes_on (line_in v.stage.table heading (fields_of l) n) (λ line. goes_on (takes v.read line n) (λ t. Ok (record { stage = v.stage; read = t })))
unfolding read_line read_under wants_values
leads_values upto v l n heading e due =
    ap (λ (o : Option ℕ). read_under o upto v l n) e
    ∙ valued (eqb (length l) 0 && may_end upto v.stage.table v.read.k) (must_end v.stage.table v.read.k) _ _ _ (rw e at due)

-- a line says what it may here
pub line_sayable :
    (p : Stage) (q : Seen) (heading : ℕ) (fs : List Field) (n : ℕ) (line : Line) →
    (p.table ≤ 1 → q.steps ≡ 0) →
    Ok line ≡ line_in p.table heading fs n →
    Sayable q line
line_sayable p q heading fs n line early e = go line (subst (Says p.table (length fs) n) (sym e) (line_says p.table heading fs n))
  where
    go : (line : Line) → Says p.table (length fs) n (Ok line) → Sayable q line
    go (Sizes k h r) s = tt
    go (ItemLine i b l w) s = (s.1, early (omega (arith, s.0)))
    go (StepLine step) s = s.2
    go (ActLine place act) s = tt

module _ (upto : ℕ) (p : Stage) (q : Seen) (catalog calls acts l : List ℕ) (n : ℕ) where
  -- a line that only leads to another stage
  moves :
      (x : Result Stage Refusal) (r : Result (Unit {0}) Refusal) (p_then : Stage) (v : Tables) →
      Moves p x r p_then →
      Holds q catalog calls acts v →
      LeadsTo (goes_on x (λ to. Ok (record { stage = to; read = v }))) r p_then q catalog calls acts
  moves (Ok to) r p_then v m h = (m.0, m.1, h)
  moves (Err x) r p_then v m h = m.0

  pub lead_names :
      (heading : Option ℕ) (r : Result (Unit {0}) Refusal) (p_then : Stage) →
      p.heading ≡ None →
      heading ≡ heading_of p.table l →
      Moves p (named_by p heading n) r p_then →
      ReadsLine upto p q catalog calls acts l n r p_then q catalog calls acts
  unfolding read_line read_under
  lead_names heading r p_then e f m v h = rw (e, ← f) (moves (named_by p heading n) r p_then v m h)

  -- what is due is due for every text that the slices hold
  wanted : (t : Bool) (v : Tables) → Holds q catalog calls acts v → wants_values upto p q.k (length l) ≡ t → wants_values upto p v.k (length l) ≡ t
  wanted t v h due = subst (λ (k : ℕ). wants_values upto p k (length l) ≡ t) h.k due

  pub lead_blank :
      (heading : ℕ) (r : Result (Unit {0}) Refusal) (p_then : Stage) →
      p.heading ≡ Some heading →
      wants_values upto p q.k (length l) ≡ false →
      Moves p (cond (eqb (length l) 0) (Ok (next_table p)) (Err (Malformed n))) r p_then →
      ReadsLine upto p q catalog calls acts l n r p_then q catalog calls acts
  unfolding read_line read_under wants_values
  lead_blank heading r p_then e none m v h =
      subst (λ (x : Result Sofar Refusal). LeadsTo x r p_then q catalog calls acts)
      (moving (eqb (length l) 0)
      ∙ sym (ap (λ (o : Option ℕ). read_under o upto (record { stage = p; read = v }) l n) e
      ∙ blank (eqb (length l) 0) (may_end upto p.table v.k) (must_end p.table v.k) _ _ _ (must_may upto p.table v.k) (rw e at (wanted false v h none))))
      (moves (cond (eqb (length l) 0) (Ok (next_table p)) (Err (Malformed n))) r p_then v m h)
    where
      moving :
          (b : Bool) →
          goes_on (cond b (Ok (next_table p)) (Err (Malformed n))) (λ (to : Stage). Ok (record { stage = to; read = v }))
          ≡ cond {A = Result Sofar Refusal} b (Ok (record { stage = next_table p; read = v })) (Err (Malformed n))
      moving true = refl
      moving false = refl

  module _ (heading : ℕ) (fs : List Field) (e : p.heading ≡ Some heading) (due : wants_values upto p q.k (length l) ≡ true) (looked : Looked upto p q.k l fs) where
    -- its fields are judged as they are held
    judged :
        (v : Tables) →
        Holds q catalog calls acts v →
        read_line upto (record { stage = p; read = v }) l n
        ≡ goes_on (line_in p.table heading fs n) (λ line. goes_on (takes v line n) (λ t. Ok (record { stage = p; read = t })))
    judged v h =
        leads_values upto (record { stage = p; read = v }) l n heading e (wanted true v h due)
        ∙ ap (λ (x : Result Line Refusal). goes_on x (λ line. goes_on (takes v line n) (λ t. Ok (record { stage = p; read = t }))))
        (sym (ap (λ (z : List Field). line_in p.table heading z n) (looked due) ∙ held_line p.table heading (fields_of l) n))

    pub lead_refused : (y : Refusal) → Err y ≡ line_in p.table heading fs n → ReadsLine upto p q catalog calls acts l n (Err y) p q catalog calls acts
    lead_refused y f v h = rw (judged v h, ← f)

    pub lead_values :
        (line : Line) (r : Result (Unit {0}) Refusal) (q_then : Seen) (catalog_then calls_then acts_then : List ℕ) →
        Ok line ≡ line_in p.table heading fs n →
        LeadsFrom q catalog calls acts (λ v. takes v line n) r q_then catalog_then calls_then acts_then →
        ReadsLine upto p q catalog calls acts l n r p q_then catalog_then calls_then acts_then
    lead_values line r q_then catalog_then calls_then acts_then f led v h = rw (judged v h, ← f) (go (takes v line n) (led v h))
      where
        go :
            (x : Result Tables Refusal) →
            Leads x r q_then catalog_then calls_then acts_then →
            LeadsTo (goes_on x (λ t. Ok (record { stage = p; read = t }))) r p q_then catalog_then calls_then acts_then
        go (Ok w) k = (k.0, refl, k.1)
        go (Err x) k = k
