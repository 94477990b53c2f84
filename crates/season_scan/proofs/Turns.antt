-- What holds whenever the scan comes to a line, and to a field of it, and the laws by which one turn leads to the next.
-- Assumes nothing.
use mathlib.Core.Path.{◌≡◌, refl, sym, ap, subst, ◌∙◌}
use mathlib.Core.Bool.{Bool, true, false, not, ◌&&◌, false≢true}
use mathlib.Core.List.{List, [], ◌∷◌, ◌++◌, map, append_assoc, append-nil}
use mathlib.Core.Logic.{◌⊎◌, ⊎_elim}
use Prim.Native.Nat.{ℕ, zero, suc, ◌+◌, ◌*◌, ◌-◌, ◌≤◌, ◌<◌}
use native.Mathlib.Numerals.{add-one}
use native.Mathlib.Omega.{arith}
use borrow.Author.Tests.{ltb-true}
use lib.Dec.{ltb, eqb}
use lib.ListN.{length, take, drop, set, length-append, length-drop, length-set, length-map}
use lib.Seq.{take-suc-set, length-take-le, get_or_at, drop-drop}
use Rattle.types.specs.declared.Refusal.{Refusal}
use Rattle.types.specs.declared.Refusal.TheVariants.{Malformed}
use Rattle.line_fields.specs.declared.Field.{Field}
use Rattle.line_fields.specs.declared.Field.TheVariants.{Empty}
use Rattle.line_fields.specs.Fields.{split, field_of, fields_of, field_at, is_empty, none_empty}
use Rattle.season_lines.specs.Lines.{names_in, line_in}
use Rattle.line_fields.specs.Inner.{before, held_field}
use Rattle.season_tables.specs.declared.Stage.{Stage}
use Rattle.season_tables.specs.declared.Seen.{Seen}
use Rattle.std.specs.Prelude.{Option, Some, None, Result, Ok, Err, OnOk, IfSome, is_some}
use Rattle.season_tables.specs.Tables.{Tables, Sofar, goes_on, at_start, may_end, must_end, read_line, at_end, read_from, reading_to}
use Rattle.season_tables.specs.Inner.{Holds, nothing_read, Leads, LeadsBy, Untouched, LeadsTo, ReadsLine, KeepsLine, Roomy, FewRead, LineReadable, wants_values}
use Rattle.season_scan.specs.Inner.{onward, read_until, read_in, Leaves}
use Rattle.line_fields.proofs.Pieces.{before_le, before_take, no_bytes, none_empty_more}
use Rattle.season_lines.proofs.Pieces.{many_malformed, empty_malformed}
use Rattle.season_lines.proofs.Held.{held_line}
use Rattle.season_tables.proofs.Keeps.{untouched_later}
use Rattle.season_tables.proofs.Held.{begins as nothing-held}
use Rattle.season_scan.proofs.Laws.{line_end, line_first, until_first, nothing_left, until_end, no_feed, until_no_feed, wants_here, malformed_line, Adds, grown, fields_from, field_first, length_part}

-- as long as they were
abbrev pub AsLong : List ℕ → List ℕ → List ℕ → List ℕ → List ℕ → List ℕ → Type 0
AsLong catalog₀ calls₀ acts₀ catalog calls acts =
    (length catalog ≡ length catalog₀) × (length calls ≡ length calls₀) × (length acts ≡ length acts₀)

-- At byte `at`, where line n begins: the struct and the slices hold what has been read, from which the rest of the text leads where
-- the whole text does, and past that the slices are as they were. A step or an act took at least six bytes, and no step stands before
-- the third table.
pub record Lined (upto : ℕ) (s catalog₀ calls₀ acts₀ catalog calls acts : List ℕ) (p : Stage) (q : Seen) (at n : ℕ) : Type 0 where
  pub within : at ≤ length s
  pub counted : n ≤ at + 1
  pub for_steps : 6 * q.steps ≤ at
  pub for_acts : 6 * q.acts ≤ at
  pub low : 1 ≤ upto
  pub high : upto ≤ 3
  pub table : p.table ≤ upto
  pub unstepped : p.table ≤ 1 → q.steps ≡ 0
  pub roomy : Roomy catalog calls acts
  pub long : AsLong catalog₀ calls₀ acts₀ catalog calls acts
  pub past : Untouched q catalog₀ calls₀ acts₀ catalog calls acts
  pub read : Tables
  pub holds : Holds q catalog calls acts read
  pub left : read_from upto n (split 10 (drop at s)) (record { stage = p; read = read }) ≡ reading_to upto s
  pub until : (read_until upto n (split 10 (drop at s)) (record { stage = p; read = read })).read ≡ read_in upto s

-- the line from `at` to `end`
abbrev pub line_within : List ℕ → ℕ → ℕ → List ℕ
line_within s at end = take (end - at) (drop at s)

-- whether its fields are looked at
abbrev pub due : ℕ → Stage → Seen → ℕ → ℕ → Bool
due upto p q at end = wants_values upto p q.k (end - at)

-- the fields from byte i on, as they are held
abbrev pub held_from : List ℕ → ℕ → ℕ → Bool → List Field
held_from s i end more = map held_field (fields_from s i end more)

-- At byte i of that line, where a field begins if there are more: the fields before it are in the array, no more than the heading has
-- names, none of them empty, and took at least two bytes each. If no line of values is due, none is looked at.
pub record Fielded (upto : ℕ) (s : List ℕ) (p : Stage) (q : Seen) (at end names : ℕ) (fields : List Field) (count i : ℕ) (more : Bool) : Type 0 where
  pub slots : length fields ≡ 6
  pub heading : IfSome p.heading (λ heading. names ≡ names_in p.table heading)
  pub most : names ≤ 6
  pub few : count ≤ names
  pub some : none_empty (take count fields) ≡ true
  pub from : at + 2 * count ≤ i
  pub to : i ≤ end + 1
  pub going : more ≡ true → (i ≤ end) × (due upto p q at end ≡ true)
  pub same :
      due upto p q at end ≡ true → take count fields ++ held_from s i end more ≡ map held_field (fields_of (line_within s at end))

-- what an answer to the whole text has to be
pub record ScanAnswers (upto : ℕ) (s catalog₀ calls₀ acts₀ : List ℕ) (r : Result (Unit {0}) Refusal) (q : Seen) (catalog calls acts : List ℕ) : Type 0 where
  pub leads : Leads (reading_to upto s) r q catalog calls acts
  pub few : OnOk r (FewRead q)
  pub leaves : Leaves upto s catalog₀ calls₀ acts₀ q catalog calls acts

-- ## The first line

pub begins :
    (upto : ℕ) (s catalog calls acts : List ℕ) (p : Stage) (q : Seen) →
    1 ≤ upto →
    upto ≤ 3 →
    Roomy catalog calls acts →
    p ≡ at_start.stage →
    q ≡ nothing_read →
    Lined upto s catalog calls acts catalog calls acts p q 0 1
begins upto s catalog calls acts p q low high r e b =
    let h = subst (λ (z : Seen). Holds z catalog calls acts at_start.read) (sym b) (nothing-held catalog calls acts) in
    let here : ◌≡◌ {A = Sofar} (record { stage = p; read = at_start.read }) at_start = ap (λ (z : Stage). record { stage = z; read = at_start.read }) e in
    record {
      within = omega arith;
      counted = omega arith;
      for_steps = omega (arith, h.step_count);
      for_acts = omega (arith, h.act_count);
      low = low;
      high = high;
      table = omega (arith, ap (λ (z : Stage). z.table) e);
      unstepped = λ l. h.step_count;
      roomy = r;
      long = (refl, refl, refl);
      past = record { past_items = refl; past_steps = refl; past_acts = refl };
      read = at_start.read;
      holds = h;
      left = ap (read_from upto 1 (split 10 s)) here;
      until = ap (λ (z : Sofar). (read_until upto 1 (split 10 s) z).read) here;
    }

-- ## The ways out

refuses :
    (upto : ℕ) (s catalog₀ calls₀ acts₀ catalog calls acts : List ℕ) (q : Seen) (x : Refusal) →
    reading_to upto s ≡ Err x →
    Leaves upto s catalog₀ calls₀ acts₀ q catalog calls acts →
    ScanAnswers upto s catalog₀ calls₀ acts₀ (Err x) q catalog calls acts
refuses upto s catalog₀ calls₀ acts₀ catalog calls acts q x e y = record { leads = rw e; few = tt; leaves = y }

module _ (upto : ℕ) (s catalog₀ calls₀ acts₀ catalog calls acts : List ℕ) (p : Stage) (q : Seen) (at n : ℕ)
    (h : Lined upto s catalog₀ calls₀ acts₀ catalog calls acts p q at n)
  where
    -- what has been read, with the stage
    abbrev sofar : Sofar
    sofar = record { stage = p; read = h.read }

    -- where the reading ends here
    leaves : read_until upto n (split 10 (drop at s)) sofar ≡ sofar → Leaves upto s catalog₀ calls₀ acts₀ q catalog calls acts
    leaves u =
        record {
          holds = subst (Holds q catalog calls acts) (sym (ap (λ (z : Sofar). z.read) u) ∙ h.until) h.holds;
          past = h.past;
        }

    -- a text has no more than 65,536 bytes, six to a step
    few_ended : (r : Result (Unit {0}) Refusal) → length s ≤ 65536 → OnOk r (FewRead q)
    few_ended (Ok u) short = record { steps = omega (arith, h.for_steps, h.within); acts = omega (arith, h.for_acts, h.within) }
    few_ended (Err x) short = tt

    pub ends :
        (r : Result (Unit {0}) Refusal) →
        length s ≤ 65536 →
        length s ≤ at →
        LeadsBy q (λ v. at_end upto (record { stage = p; read = v }) n) r q →
        ScanAnswers upto s catalog₀ calls₀ acts₀ r q catalog calls acts
    ends r short e f =
        let all : reading_to upto s ≡ at_end upto sofar n = sym h.left ∙ nothing_left upto n at s sofar e in
        record {
          leads = rw all (f catalog calls acts h.read h.holds);
          few = few_ended r short;
          leaves = leaves (until_end upto n at s sofar e);
        }

    pub no_line_feed :
        at < length s →
        length s ≤ at + length (before 10 (drop at s)) →
        ScanAnswers upto s catalog₀ calls₀ acts₀ (Err (Malformed n)) q catalog calls acts
    no_line_feed a e =
        let size = length-drop at s in
        let all : reading_to upto s ≡ Err (Malformed n) = sym h.left ∙ no_feed upto n (drop at s) sofar (omega arith) (omega arith) in
        refuses upto s catalog₀ calls₀ acts₀ catalog calls acts q (Malformed n) all
        (leaves (until_no_feed upto n (drop at s) sofar (omega arith)))

-- ## The fields of a line

-- so many of the array's six
filled : (fields : List Field) (count names : ℕ) → length fields ≡ 6 → count ≤ names → names ≤ 6 → length (take count fields) ≡ count
filled fields count names e h m = length-take-le count fields (omega arith)

module _ (upto : ℕ) (s : List ℕ) (p : Stage) (q : Seen) (at end names : ℕ) where
  pub field_none :
      (fields : List Field) (more : Bool) →
      length fields ≡ 6 →
      IfSome p.heading (λ heading. names ≡ names_in p.table heading) →
      names ≤ 6 →
      at ≤ end →
      more ≡ due upto p q at end →
      Fielded upto s p q at end names fields 0 at more
  field_none fields more k hn hm h e =
      record {
        slots = k;
        heading = hn;
        most = hm;
        few = omega arith;
        some = unfold none_empty in refl;
        from = omega arith;
        to = omega arith;
        going = λ t. (h, sym e ∙ t);
        same = λ t. rw (e ∙ t);
      }

  module _ (fields : List Field) (count i m : ℕ) (field : Field)
      (within : end ≤ length s)
      (f : Fielded upto s p q at end names fields count i true)
      (em : m ≡ length (before 32 (take (end - i) (drop i s))))
      (ef : field ≡ held_field (field_of (take m (drop i s))))
    where
      -- the fields of the line, with the one at byte i
      fields_here :
          map held_field (fields_of (line_within s at end)) ≡ take count fields ++ (field ∷ held_from s (i + m + 1) end (ltb (i + m) end))
      fields_here =
          let g = f.going refl in
          sym (f.same g.1) ∙ rw (field_first s i end m g.0 within em, ef)

      -- a field that is told has a byte
      some_byte : is_empty field ≡ false → 0 < m
      some_byte o = go m ef
        where
          go : (m : ℕ) → field ≡ held_field (field_of (take m (drop i s))) → 0 < m
          go zero e = absurd (false≢true (sym o ∙ ap is_empty (e ∙ ap held_field no_bytes)))
          go (suc m) e = omega arith

      pub field_more :
          (more : Bool) →
          more ≡ ltb (i + m) end →
          count < names →
          is_empty field ≡ false →
          Fielded upto s p q at end names (set fields count field) (count + 1) (i + m + 1) more
      field_more more e h o =
          let g = f.going refl in
          let some = some_byte o in
          let rest = take (end - i) (drop i s) in
          let left = length_part s i end within in
          let most = before_le 32 rest in
          let slots = f.slots in
          record {
            slots = length-set fields count field ∙ slots;
            heading = f.heading;
            most = f.most;
            few = omega arith;
            some =
                rw (add-one count, take-suc-set fields count field (omega (arith, f.most)))
                (none_empty_more (take count fields) field f.some o);
            from = omega (arith, f.from);
            to = omega arith;
            going = λ t. (let u = ltb-true (i + m) end (sym e ∙ t) in omega arith, g.1);
            same =
                λ t.
                rw (e, add-one count, take-suc-set fields count field (omega (arith, f.most)), append_assoc (take count fields) (field ∷ []))
                (sym fields_here);
          }

      pub field_malformed :
          (n heading : ℕ) →
          p.heading ≡ Some heading →
          (is_empty field ≡ true) ⊎ (names ≤ count) →
          line_in p.table heading (fields_of (line_within s at end)) n ≡ Err (Malformed n)
      field_malformed n heading some = ⊎_elim empty many
        where
          rest : List Field
          rest = field ∷ held_from s (i + m + 1) end (ltb (i + m) end)

          -- the line is judged by its fields as they are held
          judged :
              line_in p.table heading (take count fields ++ rest) n ≡ Err (Malformed n) →
              line_in p.table heading (fields_of (line_within s at end)) n ≡ Err (Malformed n)
          judged e = sym (held_line p.table heading (fields_of (line_within s at end)) n) ∙ rw fields_here e

          slots : length (take count fields) ≡ count
          slots = filled fields count names f.slots f.few f.most

          size : length (take count fields ++ rest) ≡ count + length rest
          size = length-append (take count fields) rest ∙ rw slots

          here : field_at (take count fields ++ rest) count ≡ field
          here = get_or_at (take count fields) field _ Empty count slots

          due_names : names ≡ names_in p.table heading
          due_names = rw some at f.heading

          empty : is_empty field ≡ true → line_in p.table heading (fields_of (line_within s at end)) n ≡ Err (Malformed n)
          empty o = judged (empty_malformed p.table heading (take count fields ++ rest) n count (omega (arith, size)) (rw here o))

          many : names ≤ count → line_in p.table heading (fields_of (line_within s at end)) n ≡ Err (Malformed n)
          many h = judged (many_malformed p.table heading (take count fields ++ rest) n (omega (arith, size, due_names)))

-- a line of values is due behind a line of names
pub due_heading : (upto : ℕ) (p : Stage) (k bytes : ℕ) → wants_values upto p k bytes ≡ true → (heading : ℕ) × (p.heading ≡ Some heading)
unfolding wants_values
due_heading upto p k bytes e = go p.heading refl e
  where
    go : (o : Option ℕ) → p.heading ≡ o → (is_some o && not (eqb bytes 0 && may_end upto p.table k) && not (must_end p.table k)) ≡ true → (heading : ℕ) × (p.heading ≡ Some heading)
    go None h e = absurd (false≢true e)
    go (Some f) h e = (f, h)

-- ## The next line

no_fewer : (a b : ℕ) {c d : ℕ} {wants : Bool} {fields : ℕ} → a ≡ c → b ≡ d → Adds c d wants fields → a ≤ b
no_fewer a b e f = ⊎_elim (λ w. omega arith) (λ w. omega (arith, w.0))

module _ (upto : ℕ) (s catalog₀ calls₀ acts₀ catalog calls acts : List ℕ) (p : Stage) (q : Seen) (at n : ℕ)
    (h : Lined upto s catalog₀ calls₀ acts₀ catalog calls acts p q at n)
    (end : ℕ) (ee : end ≡ at + length (before 10 (drop at s))) (within : end < length s)
  where
    first_is : before 10 (drop at s) ≡ line_within s at end
    first_is = let m : length (before 10 (drop at s)) ≡ end - at = omega arith in sym (before_take 10 (drop at s)) ∙ rw m

    size_is : length (line_within s at end) ≡ end - at
    size_is = length_part s at end (omega arith)

    -- what has been read, with the stage
    abbrev here : Sofar
    here = record { stage = p; read = h.read }

    wants_is : wants_here upto here (line_within s at end) ≡ due upto p q at end
    wants_is = λ i. wants_values upto p (sym h.holds.k i) (size_is i)

    behind_is : at + (length (before 10 (drop at s)) + 1) ≡ end + 1
    behind_is = omega arith

    next_is : reading_to upto s ≡ goes_on (read_line upto here (line_within s at end) n) (read_from upto (n + 1) (split 10 (drop (end + 1) s)))
    next_is =
        let size = length-drop at s in
        sym h.left ∙ line_first upto n (drop at s) here (omega arith)
        ∙ rw (drop-drop (length (before 10 (drop at s)) + 1) at s, behind_is, first_is, ← add-one n)

    until_is :
        read_until upto n (split 10 (drop at s)) here
        ≡ onward here (read_line upto here (line_within s at end) n) (read_until upto (n + 1) (split 10 (drop (end + 1) s)))
    until_is =
        let size = length-drop at s in
        until_first upto n (drop at s) here (omega arith)
        ∙ rw (drop-drop (length (before 10 (drop at s)) + 1) at s, behind_is, first_is, ← add-one n)

    -- the line stops the reading
    stops_here : (x : Refusal) → read_line upto here (line_within s at end) n ≡ Err x → ScanAnswers upto s catalog₀ calls₀ acts₀ (Err x) q catalog calls acts
    stops_here x is =
        refuses upto s catalog₀ calls₀ acts₀ catalog calls acts q x (next_is ∙ rw is)
        (leaves upto s catalog₀ calls₀ acts₀ catalog calls acts p q at n h (until_is ∙ rw is))

    -- a field that no line has here
    pub malformed_here :
        due upto p q at end ≡ true →
        ((heading : ℕ) → p.heading ≡ Some heading → line_in p.table heading (fields_of (line_within s at end)) n ≡ Err (Malformed n)) →
        ScanAnswers upto s catalog₀ calls₀ acts₀ (Err (Malformed n)) q catalog calls acts
    malformed_here wants bad =
        let f = due_heading upto p q.k (end - at) wants in
        stops_here (Malformed n)
        (malformed_line upto here (line_within s at end) n f.0 f.1 (wants_is ∙ wants) (bad f.0 f.1))

    module _ (names : ℕ) (fields : List Field) (count i : ℕ) (f : Fielded upto s p q at end names fields count i false) where
      all_fields : due upto p q at end ≡ true → take count fields ≡ map held_field (fields_of (line_within s at end))
      all_fields t = sym (append-nil (take count fields)) ∙ f.same t

      -- a line of three fields or more has six bytes with its line feed
      six_bytes : wants_here upto here (line_within s at end) ≡ true → 3 ≤ length (fields_of (line_within s at end)) → at + 6 ≤ end + 1
      six_bytes t e =
          let all : length (take count fields) ≡ length (fields_of (line_within s at end)) =
          ap length (all_fields (sym wants_is ∙ t)) ∙ length-map (fields_of (line_within s at end)) held_field in
          omega (arith, filled fields count names f.slots f.few f.most, f.from, f.to)

      more_bytes :
          (a b : ℕ) →
          6 * a ≤ at →
          Adds a b (wants_here upto here (line_within s at end)) (length (fields_of (line_within s at end))) →
          6 * b ≤ end + 1
      more_bytes a b k = ⊎_elim (λ e. omega arith) (λ w. omega (arith, six_bytes w.1 w.2, w.0))

      pub can_read : length s ≤ 65536 → LineReadable upto p q (line_within s at end) (take count fields) catalog calls acts
      can_read short =
          record {
            room = record { few = record { steps = omega (arith, h.for_steps); acts = omega (arith, h.for_acts) }; roomy = h.roomy };
            judgeable = f.some;
            table = omega (arith, h.table, h.high);
            looked = λ t. all_fields (rw size_is at t);
            unstepped = h.unstepped;
            read = h.read;
            holds = h.holds;
          }

      module _ (p_then : Stage) (q_then : Seen) (catalog_then calls_then acts_then : List ℕ) where
        -- the line is refused, and so the text
        pub line_refused :
            (x : Refusal) →
            ReadsLine upto p q catalog calls acts (line_within s at end) n (Err x) p_then q_then catalog_then calls_then acts_then →
            KeepsLine p q catalog calls acts (Err x) p_then q_then catalog_then calls_then acts_then →
            ScanAnswers upto s catalog₀ calls₀ acts₀ (Err x) q_then catalog_then calls_then acts_then
        line_refused x led kept =
            let u = kept.kept.refused in
            rw (u.same_seen, u.same_items, u.same_steps, u.same_acts) (go (read_line upto here (line_within s at end) n) refl (led h.read h.holds))
          where
            go :
                (y : Result Sofar Refusal) →
                read_line upto here (line_within s at end) n ≡ y →
                LeadsTo y (Err x) p_then q_then catalog_then calls_then acts_then →
                ScanAnswers upto s catalog₀ calls₀ acts₀ (Err x) q catalog calls acts
            go (Ok w) u k = let z : Err x ≡ Ok tt = k.0 in absurd (cc)
            go (Err y) u k = let z : ◌≡◌ {A = Result (Unit {0}) Refusal} (Err x) (Err y) = k in stops_here x (u ∙ (cc))

        -- the line is taken, and the next one begins behind it
        module _ (led : ReadsLine upto p q catalog calls acts (line_within s at end) n (Ok tt) p_then q_then catalog_then calls_then acts_then)
            (kept : KeepsLine p q catalog calls acts (Ok tt) p_then q_then catalog_then calls_then acts_then)
          where
            pub line_taken :
                AsLong catalog calls acts catalog_then calls_then acts_then →
                Lined upto s catalog₀ calls₀ acts₀ catalog_then calls_then acts_then p_then q_then (end + 1) (n + 1)
            line_taken long = go (read_line upto here (line_within s at end) n) refl (led h.read h.holds)
              where
                go :
                    (y : Result Sofar Refusal) →
                    read_line upto here (line_within s at end) n ≡ y →
                    LeadsTo y (Ok tt) p_then q_then catalog_then calls_then acts_then →
                    Lined upto s catalog₀ calls₀ acts₀ catalog_then calls_then acts_then p_then q_then (end + 1) (n + 1)
                go (Ok w) u k =
                    let m = grown upto here w (line_within s at end) n u in
                    let g = m.adds in
                    let old = h.holds in
                    let new = k.2 in
                    let table : p_then.table ≡ w.stage.table = ap (λ (z : Stage). z.table) k.1 in
                    let there : ◌≡◌ {A = Sofar} w (record { stage = p_then; read = w.read }) = ap (λ (z : Stage). record { stage = z; read = w.read }) (sym k.1) in
                    let rest = split 10 (drop (end + 1) s) in
                    let until-then : read_until upto n (split 10 (drop at s)) here ≡ read_until upto (n + 1) rest w = until_is ∙ rw u in
                    let roomy = h.roomy in
                    record {
                      within = omega arith;
                      counted = omega (arith, h.counted);
                      for_steps =
                          rw new.step_count
                          (more_bytes (length h.read.steps) (length w.read.steps) (omega (arith, old.step_count, h.for_steps))
                          g.steps);
                      for_acts =
                          rw new.act_count
                          (more_bytes (length h.read.acts) (length w.read.acts) (omega (arith, old.act_count, h.for_acts))
                          g.acts);
                      low = h.low;
                      high = h.high;
                      table = let t = m.within h.low h.table in omega (arith, table);
                      unstepped =
                          λ l.
                          let first : p.table ≤ 1 = omega (arith, table, m.onward) in
                          new.step_count ∙ g.early first ∙ sym old.step_count ∙ h.unstepped first;
                      roomy =
                          record {
                            for_items = omega (arith, roomy.for_items, long.0);
                            for_steps = omega (arith, roomy.for_steps, long.1);
                            for_acts = omega (arith, roomy.for_acts, long.2);
                          };
                      long = (long.0 ∙ h.long.0, long.1 ∙ h.long.1, long.2 ∙ h.long.2);
                      past =
                          untouched_later q q_then catalog₀ calls₀ acts₀ catalog calls acts catalog_then calls_then acts_then h.past kept.kept.past
                          (omega (arith, old.present.count, new.present.count, g.items))
                          (no_fewer q.steps q_then.steps old.step_count new.step_count g.steps)
                          (no_fewer q.acts q_then.acts old.act_count new.act_count g.acts);
                      read = w.read;
                      holds = new;
                      left = ap (read_from upto (n + 1) rest) (sym there) ∙ sym (next_is ∙ rw u);
                      until = ap (λ (z : Sofar). (read_until upto (n + 1) rest z).read) (sym there) ∙ ap (λ (z : Sofar). z.read) (sym until-then) ∙ h.until;
                    }
                go (Err y) u k = let z : Ok tt ≡ Err y = k in absurd (cc)

-- ## Where a line and its fields end

pub line_within_text :
    (s : List ℕ) (at m : ℕ) →
    at ≤ length s →
    m ≡ length (before 10 (take (length s - at) (drop at s))) →
    at + m ≤ length s
line_within_text s at m a e =
    let l = drop at s in
    omega (arith, line_end s at m e, before_le 10 l, length-drop at s)

pub field_within :
    (s : List ℕ) (i end m : ℕ) →
    end ≤ length s →
    i ≤ end →
    m ≡ length (before 32 (take (end - i) (drop i s))) →
    i + m ≤ end
field_within s i end m h l e = omega (arith, e, before_le 32 (take (end - i) (drop i s)), length_part s i end h)

-- the field from byte i to the one m behind it
pub field_there :
    (s : List ℕ) (i m : ℕ) (field : Field) →
    field ≡ held_field (field_of (take (i + m - i) (drop i s))) →
    field ≡ held_field (field_of (take m (drop i s)))
field_there s i m field is =
    let e : i + m - i ≡ m = omega arith in
    is ∙ ap (λ (k : ℕ). held_field (field_of (take k (drop i s)))) e

-- the fields so far, by the outcome of the test for more
pub fielded_as :
    (upto : ℕ) (s : List ℕ) (p : Stage) (q : Seen) (at end names : ℕ) (fields : List Field) (count i : ℕ) (more t : Bool) →
    more ≡ t →
    Fielded upto s p q at end names fields count i more →
    Fielded upto s p q at end names fields count i t
fielded_as upto s p q at end names fields count i more t e f = rw e at f
