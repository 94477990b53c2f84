-- What an accepted text keeps (specs/InnerSound.antt), and that it has no more steps and acts than bytes. What is claimed after i lines
-- (After) holds before the first line, and each line that leads on keeps it. Assumes nothing.
use mathlib.Core.Path.{◌≡◌, refl, sym, ap, subst, ◌∙◌}
use mathlib.Core.Bool.{true, not, ◌&&◌}
use mathlib.Core.List.{List, [], ◌∷◌, ◌++◌}
use Prim.Native.Nat.{ℕ, suc, ◌+◌, ◌-◌, ◌≤◌, ◌<◌}
use native.Mathlib.Omega.{arith}
use native.Mathlib.Decide.{ℕ_discrete}
use lib.ListN.{length, get_or, length-append, get_or-append}
use lib.Seq.{get_or-append_seam, take-append-le, take-append_seam}
use lib.Dec.{leb, ltb, eqb}
use borrow.Author.Tests.{eqb-true, leb-true, ltb-true}
use Rattle.types.specs.declared.Step.{Step}
use Rattle.types.specs.declared.Step.TheVariants.{Flush}
use Rattle.types.specs.declared.Act.{Act}
use Rattle.types.specs.declared.Act.TheVariants.{Fetch}
use Rattle.types.specs.declared.Deduction.{Deduction}
use Rattle.types.specs.Types.{numbers_of, act_item}
use Rattle.types.proofs.Steps.{same_step}
use Rattle.landlord.specs.Fold.{fold}
use Rattle.landlord.specs.Catalog.{Catalog, no_item, listed, catalog_after, none_left}
use Rattle.landlord.specs.Steps.{in_range, if_known, item_refusal, step_refusal}
use Rattle.landlord.specs.Inner.{ItemFacts, CatalogFacts}
use Rattle.landlord.proofs.Folds.{either, fold_append}
use Rattle.landlord.proofs.Ranges.{item_facts, catalog_ok, capacity_ok}
use Rattle.landlord.proofs.Steps.{range_free, let_through}
use Rattle.std.specs.Prelude.{Option, Some, None, Result, Ok, Err, is_some, IfOk}
use Rattle.types.specs.declared.Refusal.{Refusal}
use Rattle.season_lines.specs.declared.Line.{Line}
use Rattle.season_lines.specs.declared.Line.TheVariants.{Sizes, Item as ItemLine, Step as StepLine, Act as ActLine}
use Rattle.line_fields.specs.Fields.{onto, split, fields_of}
use Rattle.season_lines.specs.Lines.{heading_of, line_in}
use Rattle.line_fields.proofs.Laws.{and_parts}
use Rattle.season_lines.proofs.Pieces.{Says, line_says}
use Rattle.season_tables.specs.Tables.{Placed, Tables, Sofar, goes_on, at_start, with_sizes, with_item, with_step, with_act, in_turn, takes, may_end, must_end, next_table, named_by, read_under, read_line, at_end, read_from, reading_to, reading_of}
use Rattle.season_tables.specs.Inner.{is_blank, last_place}
use Rattle.season_tables.specs.InnerSound.{placed_at, catalog_before, Sound}
use Rattle.season_items.proofs.Items.{known_below, known_stays}

-- what is claimed of a reading where it leads on
abbrev pub Leading : {A : Type 0} → (A → Type 0) → Result A Refusal → Type 0
Leading P x = IfOk x P

-- a step of a text: in range, and not refused by the catalog as the steps before it have left it
record StepFits (k : ℕ) (cat : Catalog) (s : Step) : Type 0 where
  ranged : in_range (numbers_of s) ≡ true
  taken : item_refusal k cat s ≡ 0

-- an act of a text: of an item that is there, before some step, and no later than the last act
record ActFits (v : Tables) (a : Placed) : Type 0 where
  known : if_known (catalog_before v a.place) (act_item a.act) 0 ≡ 0
  within : a.place < length v.steps
  passed : a.place ≤ last_place v.acts

-- the sizes, which are 0 before they are read
record SizesFit (k h : ℕ) : Type 0 where
  high : k ≤ 4096
  rival_low : 1 ≤ k → 1 ≤ h
  rival_high : h ≤ k

-- what has been read of the tables
record Fits (v : Tables) : Type 0 where
  sizes : SizesFit v.k v.h
  catalog : CatalogFacts v.catalog
  fresh : none_left v.catalog ≡ true
  steps : (j : ℕ) → j < length v.steps → StepFits v.k (catalog_before v j) (get_or v.steps j Flush)
  acts : (j : ℕ) → j < length v.acts → ActFits v (placed_at v.acts j)
  in_order : (i j : ℕ) → i ≤ j → j < length v.acts → (placed_at v.acts i).place ≤ (placed_at v.acts j).place

-- What holds after i lines of a text whose last table is u. Each line adds a step, or an act, or neither; what stands in the later tables is
-- not read yet.
record After (u i : ℕ) (v : Sofar) : Type 0 where
  few : length v.read.steps + length v.read.acts ≤ i
  low : 1 ≤ u
  tables : v.stage.table ≤ u
  sized : 1 ≤ v.stage.table → 1 ≤ v.read.k
  no_steps : v.stage.table ≤ 1 → length v.read.steps ≡ 0
  no_acts : v.stage.table ≤ 2 → length v.read.acts ≡ 0
  fits : Fits v.read

-- a list of length 0 has no place j
none : {A : Type 0} (n j : ℕ) → n ≡ 0 → j < n → A
none n j e l = absurd (omega arith)

-- what holds of each element of a list at its place, and of one more, holds of each of them
each_more :
    {A : Type 0} (P : ℕ → A → Type 0) (d : A) (xs : List A) (x : A) →
    ((j : ℕ) → j < length xs → P j (get_or xs j d)) →
    P (length xs) x →
    (j : ℕ) → j < length (xs ++ (x ∷ [])) → P j (get_or (xs ++ (x ∷ [])) j d)
each_more P d xs x h p j l = go (ℕ_discrete j (length xs))
  where
    go : Dec (j ≡ length xs) → P j (get_or (xs ++ (x ∷ [])) j d)
    go (yes e) = rw (e, get_or-append_seam xs x [] d) p
    go (no e) =
        let b : j < length xs = omega (arith, length-append xs (x ∷ [])) in
        rw (get_or-append xs (x ∷ []) d j b) (h j b)

-- one more item that has not left
none_left_more : (cat : Catalog) (b l w : ℕ) → none_left cat ≡ true → none_left (cat ++ (listed b l w ∷ [])) ≡ true
unfolding none_left
none_left_more [] b l w e = refl
none_left_more (x ∷ cat) b l w e =
    let parts = and_parts (not x.left) (none_left cat) e in
    rw (parts.0, none_left_more cat b l w parts.1)

start_after : (u : ℕ) → 1 ≤ u → After u 0 at_start
start_after u low =
    record {
      few = omega arith;
      low = low;
      tables = omega arith;
      sized = λ l. absurd (omega arith);
      no_steps = λ l. refl;
      no_acts = λ l. refl;
      fits =
          record {
            sizes = record { high = omega arith; rival_low = λ l. absurd (omega arith); rival_high = omega arith };
            catalog = record { few = omega arith; each = λ i l. none 0 i refl l };
            fresh = unfold none_left in refl;
            steps = λ j l. none 0 j refl l;
            acts = λ j l. none 0 j refl l;
            in_order = λ i j m l. none 0 j refl l;
          };
    }

-- an act that fits still fits when more acts have been read
act_fits :
    (v w : Tables) (a : Placed) →
    catalog_before w a.place ≡ catalog_before v a.place →
    length v.steps ≤ length w.steps →
    last_place v.acts ≤ last_place w.acts →
    ActFits v a →
    ActFits w a
act_fits v w a c s p f =
    record {
      known = ap (λ (z : Catalog). if_known z (act_item a.act) 0) c ∙ f.known;
      within = omega (arith, f.within);
      passed = omega (arith, f.passed);
    }

-- ## Each line that leads on keeps it

-- the line of names
named_after : (u i : ℕ) (v : Sofar) (f : ℕ) → After u i v → After u (suc i) (record { stage = record { table = v.stage.table; heading = Some f }; read = v.read })
named_after u i v f p =
    record { few = omega (arith, p.few); low = p.low; tables = p.tables; sized = p.sized; no_steps = p.no_steps; no_acts = p.no_acts; fits = p.fits }

-- a blank line ends table 0 only behind the sizes, and never the last table
may_end_lem : (upto table k : ℕ) → 1 ≤ upto → may_end upto table k ≡ true → (table < upto) × (table ≡ 0 → 1 ≤ k)
may_end_lem upto table k low e = (grind arith, λ q. grind arith)

-- the blank line
next_after : (u i : ℕ) (v : Sofar) → After u i v → may_end u v.stage.table v.read.k ≡ true → After u (suc i) (record { stage = next_table v.stage; read = v.read })
next_after u i v p e =
    record {
      few = omega (arith, p.few);
      low = p.low;
      tables = (may_end_lem u v.stage.table v.read.k p.low e).0;
      sized = λ l. sized (ℕ_discrete v.stage.table 0);
      no_steps = λ l. p.no_steps (omega arith);
      no_acts = λ l. p.no_acts (omega arith);
      fits = p.fits;
    }
  where
    sized : Dec (v.stage.table ≡ 0) → 1 ≤ v.read.k
    sized (yes z) = (may_end_lem u v.stage.table v.read.k p.low e).1 z
    sized (no z) = p.sized (omega arith)

-- the last place is that of the act just read
last_more : (acts : List Placed) (a : Placed) → last_place (acts ++ (a ∷ [])) ≡ a.place
unfolding fold
last_more acts a = fold_append (λ (p : ℕ) (a : Placed). a.place) 0 acts (a ∷ [])

-- ## A value line of each table: what stands in the later tables is not read yet

module _ (u i fields n : ℕ) (v : Sofar) (p : After u i v) where
  -- the stage stays
  abbrev Still : Tables → Type 0
  Still w = After u (suc i) (record { stage = v.stage; read = w })

  sizes_after : (k h : ℕ) (r : Deduction) → Says v.stage.table fields n (Ok (Sizes k h r)) → h ≤ k → Still (with_sizes v.read k h r)
  sizes_after k h r s l =
      let no_steps : length v.read.steps ≡ 0 = p.no_steps (omega arith) in
      let no_acts : length v.read.acts ≡ 0 = p.no_acts (omega arith) in
      record {
        few = omega (arith, p.few);
        low = p.low;
        tables = p.tables;
        sized = λ l. s.1;
        no_steps = p.no_steps;
        no_acts = p.no_acts;
        fits =
            record {
              sizes = record { high = s.2; rival_low = λ l. s.3; rival_high = l };
              catalog = p.fits.catalog;
              fresh = p.fits.fresh;
              steps = λ j l. none _ j no_steps l;
              acts = λ j l. none _ j no_acts l;
              in_order = λ i j m l. none _ j no_acts l;
            };
      }

  item_after :
      (number b l w : ℕ) →
      Says v.stage.table fields n (Ok (ItemLine number b l w)) →
      number ≡ length v.read.catalog →
      Still (with_item v.read b l w)
  item_after number b l w s e =
      let cat = v.read.catalog in
      let no_steps : length v.read.steps ≡ 0 = p.no_steps (omega arith) in
      let no_acts : length v.read.acts ≡ 0 = p.no_acts (omega arith) in
      record {
        few = omega (arith, p.few);
        low = p.low;
        tables = p.tables;
        sized = p.sized;
        no_steps = p.no_steps;
        no_acts = p.no_acts;
        fits =
            record {
              sizes = p.fits.sizes;
              catalog =
                  record {
                    few = omega (arith, length-append cat (listed b l w ∷ []));
                    each = each_more (λ j. ItemFacts) no_item cat (listed b l w) p.fits.catalog.each (item_facts (listed b l w) s.2);
                  };
              fresh = none_left_more cat b l w p.fits.fresh;
              steps = λ j l. none _ j no_steps l;
              acts = λ j l. none _ j no_acts l;
              in_order = λ i j m l. none _ j no_acts l;
            };
      }

  step_after :
      (s : Step) →
      Says v.stage.table fields n (Ok (StepLine s)) →
      item_refusal v.read.k (catalog_after v.read.catalog v.read.steps) s ≡ 0 →
      Still (with_step v.read s)
  step_after s r e =
      let t = v.read in
      let no_acts : length t.acts ≡ 0 = p.no_acts (omega arith) in
      record {
        few = omega (arith, p.few, length-append t.steps (s ∷ []));
        low = p.low;
        tables = p.tables;
        sized = p.sized;
        no_steps = λ l. absurd (omega arith);
        no_acts = p.no_acts;
        fits =
            record {
              sizes = p.fits.sizes;
              catalog = p.fits.catalog;
              fresh = p.fits.fresh;
              steps =
                  each_more (λ j x. StepFits t.k (catalog_before (with_step t s) j) x) Flush t.steps s
                  (λ j l. subst (λ (c : Catalog). StepFits t.k c (get_or t.steps j Flush)) (front j (omega arith)) (p.fits.steps j l))
                  (subst (λ (c : Catalog). StepFits t.k c s) all (record { ranged = r.2; taken = e }));
              acts = λ j l. none _ j no_acts l;
              in_order = λ i j m l. none _ j no_acts l;
            };
      }
    where
      -- the steps before each of them, and before the new one
      front : (j : ℕ) → j ≤ length v.read.steps → catalog_before v.read j ≡ catalog_before (with_step v.read s) j
      front j l = ap (catalog_after v.read.catalog) (sym (take-append-le j v.read.steps (s ∷ []) l))

      all : catalog_after v.read.catalog v.read.steps ≡ catalog_before (with_step v.read s) (length v.read.steps)
      all = ap (catalog_after v.read.catalog) (sym (take-append_seam v.read.steps (s ∷ [])))

  act_after :
      (place : ℕ) (act : Act) →
      3 ≤ v.stage.table →
      in_turn v.read place ≡ true →
      if_known (catalog_before v.read place) (act_item act) 0 ≡ 0 →
      Still (with_act v.read place act)
  act_after place act table e k =
      record {
        few = omega (arith, p.few, length-append t.acts (a ∷ []));
        low = p.low;
        tables = p.tables;
        sized = p.sized;
        no_steps = p.no_steps;
        no_acts = λ l. absurd (omega arith);
        fits =
            record {
              sizes = p.fits.sizes;
              catalog = p.fits.catalog;
              fresh = p.fits.fresh;
              steps = p.fits.steps;
              acts = fits;
              in_order = λ i j m l. order i j m l (ℕ_discrete j (length t.acts));
            };
      }
    where
      t : Tables
      t = v.read

      a : Placed
      a = record { place = place; act = act }

      w : Tables
      w = with_act t place act

      turn : (leb (last_place t.acts) place ≡ true) × (ltb place (length t.steps) ≡ true)
      turn = and_parts (leb (last_place t.acts) place) (ltb place (length t.steps)) e

      last : last_place w.acts ≡ place
      last = last_more t.acts a

      later : last_place t.acts ≤ last_place w.acts
      later = omega (arith, last, leb-true (last_place t.acts) place turn.0)

      fits : (j : ℕ) → j < length w.acts → ActFits w (placed_at w.acts j)
      fits =
          each_more (λ j. ActFits w) (record { place = 0; act = Fetch 0 }) t.acts a
          (λ j l. act_fits t w _ refl (omega arith) later (p.fits.acts j l))
          (record { known = k; within = ltb-true place (length t.steps) turn.1; passed = omega (arith, last) })

      order : (i j : ℕ) → i ≤ j → j < length w.acts → Dec (j ≡ length t.acts) → (placed_at w.acts i).place ≤ (placed_at w.acts j).place
      order i j m l (yes z) = rw (z, get_or-append_seam t.acts a []) (omega (arith, (fits i (omega arith)).passed, last))
      order i j m l (no z) =
          let b : j < length t.acts = omega (arith, length-append t.acts (a ∷ [])) in
          let c : i < length t.acts = omega arith in
          rw (get_or-append t.acts (a ∷ []) _ i c, get_or-append t.acts (a ∷ []) _ j b) (p.fits.in_order i j m b)

  -- any value line
  takes_after : (x : Line) → Says v.stage.table fields n (Ok x) → Leading Still (takes v.read x n)
  unfolding takes
  takes_after (Sizes k h r) s = either (Leading Still) (leb h k) _ _ (λ e. sizes_after k h r s (leb-true h k e)) (λ e. tt)
  takes_after (ItemLine number b l w) s =
      either (Leading Still) (eqb number (length v.read.catalog)) _ _
      (λ e. item_after number b l w s (eqb-true number (length v.read.catalog) e)) (λ e. tt)
  takes_after (StepLine s) r =
      let number = item_refusal v.read.k (catalog_after v.read.catalog v.read.steps) s in
      either (Leading Still) (eqb number 0) _ _ (λ e. step_after s r (eqb-true number 0 e)) (λ e. tt)
  takes_after (ActLine place act) t =
      let number = if_known (catalog_before v.read place) (act_item act) 0 in
      either (Leading Still) (in_turn v.read place) _ _
      (λ e. either (Leading Still) (eqb number 0) _ _ (λ k. act_after place act t.0 e (eqb-true number 0 k)) (λ k. tt))
      (λ e. tt)

-- ## Any line

pub goes_on_lem :
    {A B : Type 0} (P : A → Type 0) (Q : B → Type 0) (x : Result A Refusal) (next : A → Result B Refusal) →
    Leading P x →
    ((v : A) → P v → Leading Q (next v)) →
    Leading Q (goes_on x next)
goes_on_lem P Q (Ok v) next p f = f v p
goes_on_lem P Q (Err r) next p f = tt

-- what a line says, if it is not refused
says_leads : (table fields n : ℕ) (x : Result Line Refusal) → Says table fields n x → Leading (λ line. Says table fields n (Ok line)) x
says_leads table fields n (Ok line) s = s
says_leads table fields n (Err r) s = tt

line_after : (u i n : ℕ) (v : Sofar) (l : List ℕ) → After u i v → Leading (After u (suc i)) (read_line u v l n)
unfolding read_line read_under
line_after u i n v l p = behind v.stage.heading
  where
    Q : Result Sofar Refusal → Type 0
    Q = Leading (After u (suc i))

    names : (x : Option ℕ) → Q (goes_on (named_by v.stage x n) (λ q. Ok (record { stage = q; read = v.read })))
    names (Some f) = named_after u i v f p
    names None = tt

    behind : (heading : Option ℕ) → Q (read_under heading u v l n)
    behind None = names (heading_of v.stage.table l)
    behind (Some f) =
        either Q (is_blank l && may_end u v.stage.table v.read.k) _ _
        (λ b. next_after u i v p (and_parts (is_blank l) (may_end u v.stage.table v.read.k) b).1)
        (λ b. either Q (must_end v.stage.table v.read.k) _ _ (λ m. tt)
        (λ m. goes_on_lem (λ line. Says v.stage.table (length (fields_of l)) n (Ok line)) (After u (suc i)) (line_in v.stage.table f (fields_of l) n) _
        (says_leads v.stage.table (length (fields_of l)) n _ (line_says v.stage.table f (fields_of l) n))
        (λ line says. goes_on_lem _ (After u (suc i)) (takes v.read line n) _ (takes_after u i (length (fields_of l)) n v p line says) (λ w q. q))))

-- ## The whole text

-- where a reading ends, after b lines at most
record Ended (b : ℕ) (v : Tables) : Type 0 where
  few : length v.steps + length v.acts ≤ b
  sized : 1 ≤ v.k
  fits : Fits v

end_after : (u i b n : ℕ) (v : Sofar) → i ≤ b → After u i v → Leading (Ended b) (at_end u v n)
end_after u i b n v l p =
    either (Leading (Ended b)) (is_some v.stage.heading && eqb v.stage.table u) _ _
    (λ e. done (eqb-true v.stage.table u (and_parts (is_some v.stage.heading) (eqb v.stage.table u) e).1)) (λ e. tt)
  where
    done : v.stage.table ≡ u → Ended b v.read
    done e = record { few = omega (arith, p.few); sized = p.sized (omega (arith, p.low)); fits = p.fits }

read_after :
    (u i b n : ℕ) (ls : List (List ℕ)) (v : Sofar) →
    i + (length ls - 1) ≤ b →
    After u i v →
    Leading (Ended b) (read_from u n ls v)
unfolding read_from
read_after u i b n [] v l p = end_after u i b n v (omega arith) p
read_after u i b n (x ∷ []) v l p =
    either (Leading (Ended b)) (is_blank x) _ _ (λ e. end_after u i b n v (omega arith) p) (λ e. tt)
read_after u i b n (x ∷ y ∷ rest) v l p =
    goes_on_lem (After u (suc i)) (Ended b) (read_line u v x n) (read_from u (suc n) (y ∷ rest)) (line_after u i n v x p)
    (λ w q. read_after u (suc i) b (suc n) (y ∷ rest) w (omega arith) q)

-- a text has at most one piece more than bytes
pub split_few : (b : ℕ) (s : List ℕ) → length (split b s) ≤ suc (length s)
unfolding split
split_few b [] = omega arith
split_few b (x ∷ s) =
    either (λ ps. length ps ≤ suc (suc (length s))) (eqb x b) ([] ∷ split b s) (onto x (split b s))
    (λ e. omega (arith, split_few b s)) (λ e. ahead (split b s) (split_few b s))
  where
    ahead : (ps : List (List ℕ)) → length ps ≤ suc (length s) → length (onto x ps) ≤ suc (suc (length s))
    ahead [] l = omega arith
    ahead (p ∷ ps) l = omega arith

accepted : (u : ℕ) (s : List ℕ) (v : Tables) → 1 ≤ u → reading_to u s ≡ Ok v → Ended (length s) v
accepted u s v low e =
    subst (Leading (Ended (length s))) e
    (read_after u 0 (length s) 1 (split 10 s) at_start (omega (arith, split_few 10 s)) (start_after u low))

-- the table lets a step through that is in range, not refused by its item, and not behind too many others
fits_through : (k : ℕ) (cat : Catalog) (j : ℕ) (s : Step) → j < 1000000 → StepFits k cat s → step_refusal k cat j (numbers_of s) ≡ 0
fits_through k cat j s l f =
    let_through k cat j (numbers_of s)
    (record { few = l; range = range_free (numbers_of s) f.ranged; item = ap (item_refusal k cat) (same_step s) ∙ f.taken })

-- and what it says is sound
pub accepted_sound : (s : List ℕ) (v : Tables) → length s ≤ 65536 → reading_of s ≡ Ok v → Sound v
accepted_sound s v l e =
    let a = accepted 3 s v (omega arith) e in
    let p = a.fits in
    record {
      capacity = capacity_ok v.k (record { low = a.sized; high = p.sizes.high });
      rival_low = p.sizes.rival_low a.sized;
      rival_high = p.sizes.rival_high;
      catalog = catalog_ok v.catalog p.catalog;
      fresh = p.fresh;
      allowed = record { each = λ j b. fits_through v.k (catalog_before v j) j (get_or v.steps j Flush) (omega arith) (p.steps j b) };
      each =
          λ j b.
          let f = p.acts j b in
          let a = placed_at v.acts j in
          record {
            known = known_below (catalog_before v a.place) (act_item a.act) f.known;
            there = known_stays (catalog_before v a.place) (act_item a.act) f.known;
            within = f.within;
            in_order = λ i m. p.in_order i j m b;
          };
    }
