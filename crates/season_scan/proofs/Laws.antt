-- Laws of the reading that a scan by positions cites: how the first line of what is left leads, what a line that leads on adds, and
-- how the first field of what is left of a line is found. Assumes nothing.
use mathlib.Core.Path.{◌≡◌, refl, sym, subst, ◌∙◌}
use mathlib.Core.Bool.{Bool, true, false, cond, not, ◌&&◌}
use mathlib.Core.List.{List, [], ◌∷◌, ◌++◌}
use mathlib.Core.Logic.{◌⊎◌, inl, inr}
use Prim.Native.Nat.{ℕ, zero, suc, ◌+◌, ◌-◌, ◌≤◌, ◌<◌}
use native.Mathlib.Nat.{zero-sub}
use native.Mathlib.Numerals.{unary_clauses}
use native.Mathlib.Omega.{arith}
use borrow.Author.Tests.{ltb-true, ltb-false, ne_eqb}
use lib.Dec.{leb, ltb, eqb}
use lib.ListN.{length, take, drop, length-append, length-drop, drop_of_length-le}
use lib.Seq.{drop-drop, take-take, length-take-le, take-nil, take_all}
use Rattle.types.specs.declared.Refusal.{Refusal}
use Rattle.types.specs.declared.Refusal.TheVariants.{Malformed, Heading, OutOfSequence, PlanTooLarge, ActOutOfOrder}
use Rattle.types.specs.declared.Step.{Step}
use Rattle.types.specs.Types.{step_item, act_item, telling, refusal_from}
use Rattle.landlord.specs.Fold.{fold}
use Rattle.landlord.specs.Catalog.{Catalog, listed, catalog_next, catalog_after}
use Rattle.landlord.specs.Steps.{if_known, item_refusal}
use Rattle.landlord.proofs.Catalogs.{next_length, next_keeps, after_more}
use Rattle.line_fields.specs.declared.Field.{Field}
use Rattle.std.specs.Prelude.{Option, Some, None, Result, Ok, Err, is_some}
use Rattle.season_lines.specs.declared.Line.{Line}
use Rattle.season_lines.specs.declared.Line.TheVariants.{Sizes, Item as ItemLine, Step as StepLine, Act as ActLine}
use Rattle.line_fields.specs.Fields.{split, field_of, fields_of}
use Rattle.season_lines.specs.Lines.{heading_of, line_in}
use Rattle.line_fields.specs.Inner.{before}
use Rattle.season_tables.specs.Tables.{Tables, Sofar, goes_on, may_end, must_end, named_by, next_table, with_sizes, with_item, with_step, with_act, in_turn, takes, read_under, read_line, at_end, read_from}
use Rattle.season_tables.specs.Inner.{is_blank, wants_values}
use Rattle.season_scan.specs.Inner.{onward, read_until}
use Rattle.season_tables.proofs.Leads.{leads_values}
use Rattle.line_fields.proofs.Pieces.{before_le, before_take, split_last, split_more, split_some, fields_last, fields_more}
use Rattle.season_lines.proofs.Pieces.{Says, line_says}

-- ## The first line of what is left

pub line_first :
    (upto n : ℕ) (s : List ℕ) (v : Sofar) →
    length (before 10 s) < length s →
    read_from upto n (split 10 s) v
    ≡ goes_on (read_line upto v (before 10 s) n) (read_from upto (suc n) (split 10 (drop (length (before 10 s) + 1) s)))
unfolding read_from
line_first upto n s v h = rw (split_more 10 s h, (split_some 10 (drop (length (before 10 s) + 1) s)).1)

pub until_first :
    (upto n : ℕ) (s : List ℕ) (v : Sofar) →
    length (before 10 s) < length s →
    read_until upto n (split 10 s) v
    ≡ onward v (read_line upto v (before 10 s) n) (read_until upto (suc n) (split 10 (drop (length (before 10 s) + 1) s)))
unfolding read_until
until_first upto n s v h = rw (split_more 10 s h, (split_some 10 (drop (length (before 10 s) + 1) s)).1)

-- where the first line ends, as it is found: in the part of the text from byte `at` up to the text's end
pub line_end :
    (s : List ℕ) (at m : ℕ) →
    m ≡ length (before 10 (take (length s - at) (drop at s))) →
    at + m ≡ at + length (before 10 (drop at s))
line_end s at m e = rw (e, take_all (length s - at) (drop at s) (omega (arith, length-drop at s)))

-- nothing is left
pub nothing_left : (upto n at : ℕ) (s : List ℕ) (v : Sofar) → length s ≤ at → read_from upto n (split 10 (drop at s)) v ≡ at_end upto v n
unfolding read_from split
nothing_left upto n at s v h = rw (drop_of_length-le s {i = at} h)

pub until_end : (upto n at : ℕ) (s : List ℕ) (v : Sofar) → length s ≤ at → read_until upto n (split 10 (drop at s)) v ≡ v
unfolding read_until split
until_end upto n at s v h = rw (drop_of_length-le s {i = at} h)

-- bytes without a line feed are left
pub no_feed :
    (upto n : ℕ) (s : List ℕ) (v : Sofar) →
    0 < length s →
    length s ≤ length (before 10 s) →
    read_from upto n (split 10 s) v ≡ Err (Malformed n)
unfolding read_from
no_feed upto n s v p h = rw (split_last 10 s h, ne_eqb (length (before 10 s)) 0 (λ e. omega arith))

pub until_no_feed : (upto n : ℕ) (s : List ℕ) (v : Sofar) → length s ≤ length (before 10 s) → read_until upto n (split 10 s) v ≡ v
unfolding read_until
until_no_feed upto n s v h = rw (split_last 10 s h)

-- ## Where a line leads

-- whether a line's fields are looked at, by what has been read
abbrev pub wants_here : ℕ → Sofar → List ℕ → Bool
wants_here upto v l = wants_values upto v.stage v.read.k (length l)

-- a line that is torn by its fields alone
pub malformed_line :
    (upto : ℕ) (v : Sofar) (l : List ℕ) (n heading : ℕ) →
    v.stage.heading ≡ Some heading →
    wants_here upto v l ≡ true →
    line_in v.stage.table heading (fields_of l) n ≡ Err (Malformed n) →
    read_line upto v l n ≡ Err (Malformed n)
malformed_line upto v l n heading h due e = leads_values upto v l n heading h due ∙ rw e

-- ## What a line that leads on adds

-- one more, and then of a line of three fields or more
abbrev pub Adds : ℕ → ℕ → Bool → ℕ → Type 0
Adds a b wants fields = (b ≡ a) ⊎ ((b ≡ a + 1) × (wants ≡ true) × (3 ≤ fields))

-- the items as the steps have left them
abbrev items_now : Tables → Catalog
items_now v = catalog_after v.catalog v.steps

-- steps make no catalog shorter than another that was no longer
as_long : (steps : List Step) (a b : Catalog) → length a ≤ length b → length (catalog_after a steps) ≤ length (catalog_after b steps)
unfolding fold
as_long [] a b h = h
as_long (s ∷ steps) a b h = as_long steps (catalog_next a s) (catalog_next b s) (omega (arith, next_length a s, next_length b s))

-- what a line adds to what has been read, in which table: no step before the third
pub record Grows (table : ℕ) (v w : Tables) (wants : Bool) (fields : ℕ) : Type 0 where
  pub items : length (items_now v) ≤ length (items_now w)
  pub steps : Adds (length v.steps) (length w.steps) wants fields
  pub acts : Adds (length v.acts) (length w.acts) wants fields
  pub early : table ≤ 1 → length w.steps ≡ length v.steps

-- nothing
grows_not : (table : ℕ) (v : Tables) (wants : Bool) (fields : ℕ) → Grows table v v wants fields
grows_not table v wants fields = record { items = omega arith; steps = inl refl; acts = inl refl; early = λ l. refl }

no_two : {A : Type 0} (r : Refusal) (w : A) → Err r ≡ Ok w → ⊥
no_two r w e = let z : ◌≡◌ {A = ℕ} 0 1 = cc in omega arith

if_gives : {A : Type 0} (t : Bool) (x w : A) (r : Refusal) → cond t (Ok x) (Err r) ≡ Ok w → x ≡ w
if_gives true x w r e = cc
if_gives false x w r e = absurd (no_two r w e)

if_both : {A : Type 0} (t u : Bool) (x w : A) (r q : Refusal) → cond t (cond u (Ok x) (Err r)) (Err q) ≡ Ok w → x ≡ w
if_both true u x w r q e = if_gives u x w r e
if_both false u x w r q e = absurd (no_two q w e)

-- a value line
grown_by :
    (v w : Tables) (table fields n : ℕ) (line : Line) →
    Says table fields n (Ok line) →
    takes v line n ≡ Ok w →
    Grows table v w true fields
unfolding takes
grown_by v w table fields n line says e = go line says e
  where
    to : (x : Tables) → x ≡ w → Grows table v x true fields → Grows table v w true fields
    to x e g = rw e at g

    go : (line : Line) → Says table fields n (Ok line) → takes v line n ≡ Ok w → Grows table v w true fields
    go (Sizes k h r) l e =
        to (with_sizes v k h r) (if_gives (leb h k) (with_sizes v k h r) w (PlanTooLarge n) e)
        (record { items = omega arith; steps = inl refl; acts = inl refl; early = λ l. refl })
    go (ItemLine i k l m) q e =
        to (with_item v k l m) (if_gives (eqb i (length v.catalog)) (with_item v k l m) w (OutOfSequence n) e)
        (record { items = as_long v.steps v.catalog (v.catalog ++ (listed k l m ∷ [])) (omega (arith, length-append v.catalog (listed k l m ∷ []))); steps = inl refl; acts = inl refl; early = λ l. refl })
    go (StepLine s) l e =
        let number = item_refusal v.k (items_now v) s in
        to (with_step v s) (if_gives (eqb number 0) (with_step v s) w (refusal_from (telling number n (step_item s))) e)
        (record {
          items = rw (after_more v.catalog v.steps s) (next_keeps (items_now v) s).longer;
          steps = inr (length-append v.steps (s ∷ []), refl, l.1);
          acts = inl refl;
          early = λ k. absurd (omega (arith, l.0));
        })
    go (ActLine place act) l e =
        let number = if_known (catalog_after v.catalog (take place v.steps)) (act_item act) 0 in
        to (with_act v place act) (if_both (in_turn v place) (eqb number 0) (with_act v place act) w (refusal_from (telling number n (act_item act))) (ActOutOfOrder n) e)
        (record {
          items = omega arith;
          steps = inl refl;
          acts = inr (length-append v.acts _, refl, l.1);
          early = λ l. refl;
        })

-- the last table has no blank line behind it
may_end_lem : (b : Bool) (upto table k : ℕ) → 1 ≤ upto → (b && may_end upto table k) ≡ true → table < upto
may_end_lem b upto table k low e = grind arith

-- where a line leads that leads on: no further than the last table, and no table back; and what it adds
pub record Moves (upto : ℕ) (v w : Sofar) (wants : Bool) (fields : ℕ) : Type 0 where
  pub within : 1 ≤ upto → v.stage.table ≤ upto → w.stage.table ≤ upto
  pub onward : v.stage.table ≤ w.stage.table
  pub adds : Grows v.stage.table v.read w.read wants fields

module _ (upto : ℕ) (v w : Sofar) (l : List ℕ) (n : ℕ) where
  abbrev fields : ℕ
  fields = length (fields_of l)

  moved : (x : Sofar) (wants : Bool) → x ≡ w → Moves upto v x wants fields → Moves upto v w wants fields
  moved x wants e g = rw e at g

  -- a line that only leads to another stage
  names_move : (names : Option ℕ) (wants : Bool) → goes_on (named_by v.stage names n) (λ q. Ok (record { stage = q; read = v.read })) ≡ Ok w → Moves upto v w wants fields
  names_move (Some f) wants e =
      moved (record { stage = record { table = v.stage.table; heading = Some f }; read = v.read }) wants (cc)
      (record { within = λ u b. b; onward = omega arith; adds = grows_not v.stage.table v.read wants fields })
  names_move None wants e = absurd (no_two (Heading n) w e)

  takes_move :
      (line : Line) (x : Result Tables Refusal) →
      Says v.stage.table fields n (Ok line) →
      takes v.read line n ≡ x →
      goes_on x (λ t. Ok (record { stage = v.stage; read = t })) ≡ Ok w →
      Moves upto v w true fields
  takes_move line (Ok t) says is e =
      moved (record { stage = v.stage; read = t }) true (cc)
      (record { within = λ u b. b; onward = omega arith; adds = grown_by v.read t v.stage.table fields n line says is })
  takes_move line (Err r) says is e = absurd (no_two r w e)

  values_move :
      (x : Result Line Refusal) →
      Says v.stage.table fields n x →
      goes_on x (λ line. goes_on (takes v.read line n) (λ t. Ok (record { stage = v.stage; read = t }))) ≡ Ok w →
      Moves upto v w true fields
  values_move (Ok line) says e = takes_move line (takes v.read line n) says refl e
  values_move (Err r) says e = absurd (no_two r w e)

  -- a line behind the names, by its two tests
  behind_move :
      (end must : Bool) (x : Result Line Refusal) →
      (1 ≤ upto → end ≡ true → v.stage.table < upto) →
      Says v.stage.table fields n x →
      cond end (Ok (record { stage = next_table v.stage; read = v.read }))
      (cond must (Err (Malformed n)) (goes_on x (λ line. goes_on (takes v.read line n) (λ t. Ok (record { stage = v.stage; read = t })))))
      ≡ Ok w →
      Moves upto v w (not end && not must) fields
  behind_move true must x below says e =
      moved (record { stage = next_table v.stage; read = v.read }) false (cc)
      (record { within = λ u b. below u refl; onward = omega arith; adds = grows_not v.stage.table v.read false fields })
  behind_move false true x below says e = absurd (no_two (Malformed n) w e)
  behind_move false false x below says e = values_move x says e

  pub grown : read_line upto v l n ≡ Ok w → Moves upto v w (wants_here upto v l) fields
  unfolding wants_values read_line read_under
  grown e = go v.stage.heading refl e
    where
      go : (heading : Option ℕ) → v.stage.heading ≡ heading → read_under heading upto v l n ≡ Ok w → Moves upto v w (wants_here upto v l) fields
      go None h e = names_move (heading_of v.stage.table l) _ e
      go (Some f) h e =
          subst (λ (o : Option ℕ). Moves upto v w (is_some o && not (is_blank l && may_end upto v.stage.table v.read.k) && not (must_end v.stage.table v.read.k)) fields) (sym h)
          (behind_move (is_blank l && may_end upto v.stage.table v.read.k) (must_end v.stage.table v.read.k) (line_in v.stage.table f (fields_of l) n)
          (λ u b. may_end_lem (is_blank l) upto v.stage.table v.read.k u b) (line_says v.stage.table f (fields_of l) n) e)

-- ## The first field of what is left of a line

-- the fields from byte i up to the line's end, or none, if no field is left
abbrev pub fields_from : List ℕ → ℕ → ℕ → Bool → List Field
fields_from s i end more = cond more (fields_of (take (end - i) (drop i s))) []

drop_take : (n k : ℕ) (l : List ℕ) → drop n (take k l) ≡ take (k - n) (drop n l)
drop_take zero k l = simp unary_clauses
drop_take (suc n) zero l = rw (zero-sub (suc n))
drop_take (suc n) (suc k) [] = sym (take-nil (suc k - suc n))
drop_take (suc n) (suc k) (x ∷ l) = simp unary_clauses (drop_take n k l)

pub length_part : (s : List ℕ) (i end : ℕ) → end ≤ length s → length (take (end - i) (drop i s)) ≡ end - i
length_part s i end h = rw (length-take-le (end - i) (drop i s) (rw length-drop (omega arith)))

pub field_first :
    (s : List ℕ) (i end m : ℕ) →
    i ≤ end →
    end ≤ length s →
    m ≡ length (before 32 (take (end - i) (drop i s))) →
    fields_of (take (end - i) (drop i s)) ≡ field_of (take m (drop i s)) ∷ fields_from s (i + m + 1) end (ltb (i + m) end)
field_first s i end m h k e = go (ltb (i + m) end) refl
  where
    left : List ℕ
    left = take (end - i) (drop i s)

    size : length left ≡ end - i
    size = length_part s i end k

    first : before 32 left ≡ take m (drop i s)
    first =
        sym (before_take 32 left) ∙ rw (← e) (take-take m (end - i) (drop i s) (omega (arith, before_le 32 left, size)))

    behind : drop (length (before 32 left) + 1) left ≡ take (end - (i + m + 1)) (drop (i + m + 1) s)
    behind =
        let a : length (before 32 left) + 1 ≡ m + 1 = omega arith in
        let b : end - i - (m + 1) ≡ end - (i + m + 1) = omega arith in
        let c : i + (m + 1) ≡ i + m + 1 = omega arith in
        rw (a, drop_take (m + 1) (end - i) (drop i s), drop-drop (m + 1) i s, b, c)

    go : (t : Bool) → ltb (i + m) end ≡ t → fields_of left ≡ field_of (take m (drop i s)) ∷ fields_from s (i + m + 1) end t
    go true t = rw (← first, ← behind) (fields_more left (omega (arith, size, ltb-true (i + m) end t)))
    go false t = rw (← first) (fields_last left (omega (arith, size, ltb-false (i + m) end t)))
