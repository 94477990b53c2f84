-- Laws of each line and of the input's end, over the struct and the slices that hold what has been read: what they hold after the
-- line, and with which refusal the line stops the reading. Assumes nothing.
use mathlib.Core.Path.{◌≡◌, refl, sym, ap, subst, ◌∙◌}
use mathlib.Core.Bool.{true, ◌&&◌}
use mathlib.Core.List.{List, [], ◌∷◌, ◌++◌}
use Prim.Native.Nat.{ℕ, ◌+◌, ◌*◌, ◌≤◌, ◌<◌}
use native.Mathlib.Omega.{arith}
use lib.ListN.{length, take, drop, length-append}
use lib.Seq.{sets, take-nil, take-append-le}
use lib.Dec.{leb, ltb}
use borrow.Author.Tests.{lt-ltb, le-ltb, le-leb, lt-leb, eq-eqb, ne_eqb}
use Rattle.std.specs.Prelude.{Result, Ok, Err}
use Rattle.types.specs.declared.Step.{Step}
use Rattle.types.specs.declared.Act.{Act}
use Rattle.types.specs.declared.Refusal.{Refusal}
use Rattle.types.specs.declared.Refusal.TheVariants.{ActOutOfOrder}
use Rattle.types.specs.Types.{step_item, act_item, told, telling, nothing_told, answer_told}
use Rattle.types.proofs.Refusals.{refusal_is}
use Rattle.landlord.specs.Fold.{fold}
use Rattle.landlord.specs.Catalog.{Catalog, listed, catalog_next, catalog_after}
use Rattle.landlord.specs.Steps.{if_known, item_refusal}
use Rattle.landlord.specs.CallNumbers.{call_numbers}
use Rattle.landlord.proofs.Folds.{fold_append}
use Rattle.landlord.proofs.Catalogs.{after_keeps, after_more}
use Rattle.catalog_bytes.specs.Catalogs.{catalog_in}
use Rattle.catalog_bytes.specs.Inner.{catalog_of_first, item_bytes}
use Rattle.catalog_bytes.proofs.Laws.{none_first, one_more}
use Rattle.season_lines.specs.declared.Line.TheVariants.{Item as ItemLine, Step as StepLine, Act as ActLine}
use Rattle.season_items.specs.declared.Present.{Present}
use Rattle.season_items.specs.Inner.{item_room, told_as, known_number, Tells, HasItems, act_noted, put_at, with_arrival, TellsRefusal, Advanced, Walks, CatchesUp}
use Rattle.season_items.proofs.Items.{known_tells, told_none, told_some}
use Rattle.season_items.proofs.Notes.{noted_more, noted_past, calls_more}
use Rattle.season_items.proofs.Presence.{tells_none, tells_more, advanced_tells, before_keeps, stored_items, Stored, stored_by}
use Rattle.season_tables.specs.declared.Seen.{Seen}
use Rattle.season_tables.specs.Tables.{Placed, Tables, at_start, unless_refused, takes}
use Rattle.season_tables.specs.Inner.{last_place, Holds, nothing_read, NotesItem, NotesStep, NotesAct, act_numbers, StepTakeable, ActTakeable}
use Rattle.season_tables.specs.InnerSound.{catalog_before}

-- the number of an item is told by its refusal
refused_by :
    (number line item : ℕ) (y : Refusal) (w : Tables) →
    told y ≡ told_as number line item →
    unless_refused number line item w ≡ Err y
refused_by number line item y w e =
    let some = told_some y number line item e in
    rw (ne_eqb number 0 some) (ap Err (sym (refusal_is y (telling number line item) (rw (ne_eqb number 0 some) at e))))

-- nothing is read, whatever the slices hold
pub begins : (catalog calls acts : List ℕ) → Holds nothing_read catalog calls acts at_start.read
unfolding fold call_numbers act_numbers
begins catalog calls acts =
    record {
      k = refl;
      h = refl;
      few = omega arith;
      items = none_first catalog;
      item_count = refl;
      step_count = refl;
      act_count = refl;
      last = refl;
      steps_noted = refl;
      acts_noted = refl;
      rule = refl;
      present = tells_none;
      earlier = tells_none;
      stored = λ i l. absurd (let z : i < 0 = l in omega arith);
      passed = omega arith;
    }

-- an item's line, of number i
abbrev counted : ℕ → Present → Present
counted n p = record { n = n; left = p.left }

abbrev itemized : Seen → ℕ → Seen
itemized q i =
    record { k = q.k; h = q.h; rule = q.rule; n = i + 1; steps = q.steps; acts = q.acts; last = q.last; present = counted (i + 1) q.present; earlier = counted (i + 1) q.earlier }

one_longer : {A : Type 0} (n : ℕ) (xs : List A) (x : A) → n ≡ length xs → n + 1 ≡ length (xs ++ (x ∷ []))
one_longer n xs x e = rw (length-append xs (x ∷ [])) (omega arith)

-- where no step is read, the catalog is as its table has it
none_read : (v : Tables) → length v.steps ≡ 0 → v.steps ≡ []
none_read v e = go v.steps e
  where
    go : (steps : List Step) → length steps ≡ 0 → steps ≡ []
    go [] e = refl
    go (s ∷ steps) e = absurd (omega (arith, e))

module _ (q : Seen) (catalog : List ℕ) (i b l w line : ℕ) (long : item_room ≤ length catalog) (few : i ≤ 255) where
  pub item_next :
      (after : List ℕ) →
      q.steps ≡ 0 →
      i ≡ q.n →
      after ≡ sets catalog (5 * i) (item_bytes (listed b l w)) →
      NotesItem q catalog (λ v. takes v (ItemLine i b l w) line) (Ok tt) (itemized q i) after
  unfolding takes fold
  item_next after early e put calls acts v h =
      rw (eq-eqb i (length v.catalog) (e ∙ h.item_count)) (
        refl,
        record {
          k = h.k;
          h = h.h;
          few = omega arith;
          items =
              ap (catalog_of_first (i + 1)) put
              ∙ one_more i catalog b l w (omega arith)
              ∙ ap (λ (j : ℕ). catalog_of_first j catalog ++ (listed b l w ∷ [])) e
              ∙ ap (λ (c : List _). c ++ (listed b l w ∷ [])) h.items;
          item_count = one_longer i v.catalog (listed b l w) (e ∙ h.item_count);
          step_count = h.step_count;
          act_count = h.act_count;
          last = h.last;
          steps_noted = h.steps_noted;
          acts_noted = h.acts_noted;
          rule = h.rule;
          present = subst (λ (c : Catalog). Tells c (counted (i + 1) q.present)) (sym (plain grown)) (more q.present (rw (plain v.catalog) at h.present));
          earlier = subst (λ (c : Catalog). Tells c (counted (i + 1) q.earlier)) (sym (first grown)) (more q.earlier (rw (first v.catalog) at h.earlier));
          stored =
              subst (λ (c : Catalog). HasItems c after) (sym (plain grown))
              (subst (HasItems grown) (sym put)
              (stored_items catalog i b l w (omega arith) v.catalog (e ∙ h.item_count) (rw (plain v.catalog) at h.stored)));
          passed = h.passed;
        },
      )
    where
      grown : Catalog
      grown = v.catalog ++ (listed b l w ∷ [])

      none : v.steps ≡ []
      none = none_read v (sym h.step_count ∙ early)

      plain : (cat : Catalog) → catalog_after cat v.steps ≡ cat
      plain cat = ap (catalog_after cat) none

      first : (cat : Catalog) → catalog_after cat (take q.last v.steps) ≡ cat
      first cat = ap (λ (steps : List Step). catalog_after cat (take q.last steps)) none ∙ ap (catalog_after cat) (take-nil q.last)

      more : (p : Present) → Tells v.catalog p → Tells grown (counted (i + 1) p)
      more p k = tells_more v.catalog p (i + 1) b l w (omega (arith, k.count, h.item_count)) k

-- a step's line, with what is known of the items then
abbrev stepped : Seen → Present → Seen
stepped q p =
    record { k = q.k; h = q.h; rule = q.rule; n = q.n; steps = q.steps + 1; acts = q.acts; last = q.last; present = p; earlier = q.earlier }

-- the items as the steps of a text have left them
abbrev items_now : Tables → Catalog
items_now v = catalog_after v.catalog v.steps

module _ (q : Seen) (catalog calls : List ℕ) (s : Step) (line : ℕ) where
  -- what is told of the step is what the table says of it
  told_by :
      (r : Result (Unit {0}) Refusal) →
      TellsRefusal q.k q.present catalog s line r →
      (acts : List ℕ) (v : Tables) →
      Holds q catalog calls acts v →
      answer_told r ≡ told_as (item_refusal v.k (items_now v) s) line (step_item s)
  told_by r e acts v h =
      e (items_now v) h.present h.stored ∙ ap (λ (k : ℕ). told_as (item_refusal k (items_now v) s) line (step_item s)) h.k

  pub step_refuses :
      (y : Refusal) →
      TellsRefusal q.k q.present catalog s line (Err y) →
      NotesStep q catalog calls (λ v. takes v (StepLine s) line) (Err y) q catalog calls
  unfolding takes
  step_refuses y e acts v h =
      rw (refused_by (item_refusal v.k (items_now v) s) line (step_item s) y _ (told_by (Err y) e acts v h))

  -- the step is not refused, and this is known of the items behind it
  module _ (e : TellsRefusal q.k q.present catalog s line (Ok tt)) (t : StepTakeable q s catalog calls) (p : Present) (a : Advanced q.present s p) where
    room : item_room ≤ length catalog
    room = t.line.room.roomy.for_items

    places : 7 * q.steps + 7 ≤ length calls
    places = omega (arith, t.line.room.few.steps, t.line.room.roomy.for_steps)

    module _ (acts : List ℕ) (v : Tables) (h : Holds q catalog calls acts v) where
      none : item_refusal v.k (items_now v) s ≡ 0
      none = told_none (item_refusal v.k (items_now v) s) line (step_item s) (told_by (Ok tt) e acts v h)

      short : length (items_now v) ≤ 256
      short = omega (arith, h.few, h.present.count)

      now_stored : Stored v.k (items_now v) catalog room short s
      now_stored = stored_by v.k (items_now v) catalog room short s t.line.sayable none

      now_tells : Tells (catalog_next (items_now v) s) p
      now_tells = advanced_tells q.present s p a (items_now v) short h.present

    pub step_noted :
        (catalog_then calls_then : List ℕ) →
        catalog_then ≡ with_arrival s catalog →
        calls_then ≡ put_at calls (7 * q.steps) (call_numbers (s ∷ [])) →
        NotesStep q catalog calls (λ v. takes v (StepLine s) line) (Ok tt) (stepped q p) catalog_then calls_then
    unfolding takes
    step_noted catalog_then calls_then items put acts v h =
        let after = now_stored acts v h in
        let known = now_tells acts v h in
        let more : catalog_next (items_now v) s ≡ catalog_after v.catalog (v.steps ++ (s ∷ [])) = sym (after_more v.catalog v.steps s) in
        let same : take q.last v.steps ≡ take q.last (v.steps ++ (s ∷ [])) =
        sym (take-append-le q.last v.steps (s ∷ []) (omega (arith, h.passed, h.step_count))) in
        rw (none acts v h) (
          refl,
          record {
            k = h.k;
            h = h.h;
            few = omega (arith, known.count, after.few);
            items =
                ap catalog_in (ap (take (5 * q.n)) items ∙ after.front q.n (omega (arith, h.item_count, (after_keeps v.catalog v.steps).longer)))
                ∙ h.items;
            item_count = h.item_count;
            step_count = one_longer q.steps v.steps s h.step_count;
            act_count = h.act_count;
            last = h.last;
            steps_noted =
                ap (take (7 * (q.steps + 1))) put
                ∙ noted_more 7 q.steps calls (call_numbers v.steps) (call_numbers (s ∷ [])) (unfold call_numbers in refl) places h.steps_noted
                ∙ sym (calls_more v.steps s);
            acts_noted = h.acts_noted;
            rule = h.rule;
            present = subst (λ (c : Catalog). Tells c p) more known;
            earlier = subst (λ (steps : List Step). Tells (catalog_after v.catalog steps) q.earlier) same h.earlier;
            stored = subst (λ (c : Catalog). HasItems c catalog_then) more (subst (HasItems (catalog_next (items_now v) s)) (sym items) (after.items h.stored));
            passed = omega (arith, h.passed);
          },
        )

    pub step_past :
        (catalog_then calls_then : List ℕ) →
        catalog_then ≡ with_arrival s catalog →
        calls_then ≡ put_at calls (7 * q.steps) (call_numbers (s ∷ [])) →
        (drop (5 * p.n) catalog_then ≡ drop (5 * p.n) catalog) × (drop (7 * (q.steps + 1)) calls_then ≡ drop (7 * (q.steps + 1)) calls)
    step_past catalog_then calls_then items put =
        let v = t.line.read in
        let h = t.line.holds in (
          ap (drop (5 * p.n)) items ∙ (rw (now_tells t.acts v h).count (now_stored t.acts v h).past),
          ap (drop (7 * (q.steps + 1))) put ∙ noted_past 7 q.steps calls (call_numbers (s ∷ [])) (unfold call_numbers in refl) places,
        )

-- an act's line, with what is known of the items before its place
abbrev acted : Seen → ℕ → Present → Seen
acted q place p =
    record { k = q.k; h = q.h; rule = q.rule; n = q.n; steps = q.steps; acts = q.acts + 1; last = place; present = q.present; earlier = p }

abbrev placed : ℕ → Act → Placed
placed place act = record { place = place; act = act }

last_more : (acts : List Placed) (a : Placed) → a.place ≡ last_place (acts ++ (a ∷ []))
unfolding fold
last_more acts a = sym (fold_append (λ (p : ℕ) (b : Placed). b.place) 0 acts (a ∷ []))

acts_more : (acts : List Placed) (a : Placed) → act_numbers (acts ++ (a ∷ [])) ≡ act_numbers acts ++ act_noted a.place a.act
unfolding act_numbers
acts_more [] a = refl
acts_more (b ∷ acts) a = rw (acts_more acts a)

-- the steps up to an act's place can be walked over
act_walks :
    (q : Seen) (place : ℕ) (catalog calls acts : List ℕ) (v : Tables) →
    Holds q catalog calls acts v →
    place < q.steps →
    Walks q.earlier calls q.last place v.catalog v.steps
act_walks q place catalog calls acts v h f =
    record {
      few = omega (arith, h.few, h.present.count);
      noted = ap (λ (n : ℕ). take (7 * n) calls) (sym h.step_count) ∙ h.steps_noted;
      reach = omega (arith, h.step_count);
      tells = h.earlier;
    }

module _ (q : Seen) (calls acts : List ℕ) (place : ℕ) (act : Act) (line : ℕ) where
  in_turn_lem : (catalog : List ℕ) (v : Tables) → Holds q catalog calls acts v → q.last ≤ place → place < q.steps → leb (last_place v.acts) place && ltb place (length v.steps) ≡ true
  in_turn_lem catalog v h e f = rw (sym h.last, sym h.step_count, le-leb q.last place e, lt-ltb place q.steps f)

  pub act_early : place < q.last → NotesAct q calls acts (λ v. takes v (ActLine place act) line) (Err (ActOutOfOrder line)) q acts
  unfolding takes
  act_early e catalog v h = rw (sym h.last, lt-leb q.last place e)

  pub act_late : q.last ≤ place → q.steps ≤ place → NotesAct q calls acts (λ v. takes v (ActLine place act) line) (Err (ActOutOfOrder line)) q acts
  unfolding takes
  act_late e f catalog v h = rw (sym h.last, sym h.step_count, le-leb q.last place e, le-ltb place q.steps f)

  -- the act is in turn, and this is known of the items before its place
  module _ (e : q.last ≤ place) (f : place < q.steps) (p : Present) (caught : CatchesUp q.earlier calls q.last place p) where
    act_tells : (catalog : List ℕ) (v : Tables) → Holds q catalog calls acts v → Tells (catalog_before v place) p
    act_tells catalog v h = caught v.catalog v.steps (act_walks q place catalog calls acts v h f)

    before_few : (catalog : List ℕ) (v : Tables) → Holds q catalog calls acts v → length (catalog_before v place) ≤ 256
    before_few catalog v h = omega (arith, h.few, h.present.count, (before_keeps v.catalog v.steps place).longer)

    pub act_few : ActTakeable q place act calls acts → p.n ≤ 256
    act_few t =
        let v = t.line.read in
        let h = t.line.holds in
        omega (arith, (act_tells t.catalog v h).count, before_few t.catalog v h)

    number_is : (catalog : List ℕ) (v : Tables) → Holds q catalog calls acts v → known_number p (act_item act) ≡ if_known (catalog_before v place) (act_item act) 0
    number_is catalog v h = known_tells p (act_item act) (catalog_before v place) (before_few catalog v h) (act_tells catalog v h)

    pub act_refuses :
        (y : Refusal) →
        told y ≡ told_as (known_number p (act_item act)) line (act_item act) →
        NotesAct q calls acts (λ v. takes v (ActLine place act) line) (Err y) q acts
    unfolding takes
    act_refuses y tells catalog v h =
        rw (in_turn_lem catalog v h e f, ← (number_is catalog v h), refused_by (known_number p (act_item act)) line (act_item act) y _ tells)

    module _ (t : ActTakeable q place act calls acts) where
      act_room : 3 * q.acts + 3 ≤ length acts
      act_room = omega (arith, t.line.room.few.acts, t.line.room.roomy.for_acts)

      pub act_noted_lem :
          (after : List ℕ) →
          nothing_told ≡ told_as (known_number p (act_item act)) line (act_item act) →
          after ≡ put_at acts (3 * q.acts) (act_noted place act) →
          NotesAct q calls acts (λ v. takes v (ActLine place act) line) (Ok tt) (acted q place p) after
      unfolding takes
      act_noted_lem after tells put catalog v h =
          rw (in_turn_lem catalog v h e f, ← (number_is catalog v h), told_none (known_number p (act_item act)) line (act_item act) tells) (
            refl,
            record {
              k = h.k;
              h = h.h;
              few = h.few;
              items = h.items;
              item_count = h.item_count;
              step_count = h.step_count;
              act_count = one_longer q.acts v.acts (placed place act) h.act_count;
              last = last_more v.acts (placed place act);
              steps_noted = h.steps_noted;
              acts_noted =
                  ap (take (3 * (q.acts + 1))) put
                  ∙ noted_more 3 q.acts acts (act_numbers v.acts) (act_noted place act) refl act_room h.acts_noted
                  ∙ sym (acts_more v.acts (placed place act));
              rule = h.rule;
              present = h.present;
              earlier = act_tells catalog v h;
              stored = h.stored;
              passed = omega arith;
            },
          )

      pub act_past : (after : List ℕ) → after ≡ put_at acts (3 * q.acts) (act_noted place act) → drop (3 * (q.acts + 1)) after ≡ drop (3 * (q.acts + 1)) acts
      act_past after put = ap (drop (3 * (q.acts + 1))) put ∙ noted_past 3 q.acts acts (act_noted place act) refl act_room
