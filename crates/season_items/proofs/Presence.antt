-- Laws of what is known of the items, and of their bytes, from one step to the next: how many there are, which of them have left, and
-- that an arrival's item is stored behind the others. Assumes nothing.
use mathlib.Core.Path.{◌≡◌, refl, sym, ap, subst, ◌∙◌}
use mathlib.Core.Bool.{Bool, true, false, cond, ◌&&◌}
use mathlib.Core.List.{List, [], ◌∷◌, ◌++◌}
use Prim.Native.Nat.{ℕ, zero, suc, ◌+◌, ◌*◌, ◌/◌, ◌%◌, ◌^◌, ◌≤◌, ◌<◌}
use native.Mathlib.Omega.{arith}
use native.Mathlib.Decide.{ℕ_discrete}
use native.Mathlib.Nat.{zero-div}
use native.Mathlib.Numerals.{add-one}
use lib.ListN.{length, get_or, set, take, drop, replicate, get_or-replicate, take-append-drop}
use lib.Seq.{sets, set_out, length-sets, take-suc}
use lib.Dec.{eqb, leb, ltb}
use borrow.Author.Tests.{eqb-true, leb-true, ltb-true, ltb-false}
use Rattle.types.specs.declared.Step.{Step}
use Rattle.types.specs.declared.Step.TheVariants.{Read, Write, Flush, Arrive, Retire}
use Rattle.types.specs.declared.Numbers.{Numbers}
use Rattle.types.specs.Types.{numbers_of, step_of}
use Rattle.types.proofs.Steps.{same_step}
use Rattle.landlord.specs.Catalog.{Catalog, Item, item_at, listed, item_in_range, catalog_next, catalog_after}
use Rattle.landlord.proofs.Ranges.{and_left, and_right, item_facts}
use Rattle.landlord.specs.Steps.{in_range, item_refusal}
use Rattle.landlord.proofs.Catalogs.{KeepsItems, one_longer, arrived_other, arrived_here, below_more, retired_here, retired_other, retired_length, next_keeps, after_keeps, after_append, after_more}
use Rattle.marks.specs.Marks.{bit, marked}
use Rattle.marks.specs.Inner.{marks}
use Rattle.marks.proofs.Laws.{marked_at, marked_set_same, marked_set_other}
use Rattle.catalog_bytes.specs.Catalogs.{item_in}
use Rattle.catalog_bytes.specs.Inner.{item_bytes, catalog_of_first}
use Rattle.catalog_bytes.proofs.Laws.{first_length, first_at, one_more}
use Rattle.season_items.specs.declared.Present.{Present}
use Rattle.landlord.specs.CallNumbers.{numbers_behind}
use Rattle.season_items.specs.Inner.{item_room, HasItems, Tells, none_present, Advanced, Advances, CatchesUp, Walkable, with_arrival}
use Rattle.season_items.proofs.Notes.{put_sets, put_before, noted_past, noted_step}

-- ## How many there are, and which have left

unmarked : (i : ℕ) → i < 256 → marked (replicate 4 0) i ≡ false
unfolding marked bit
unmarked i l =
    ap (λ (w : ℕ). eqb (w / 2 ^ (i % 64) % 2) 1) (get_or-replicate 4 (i / 64) 0 0 (omega arith)) ∙ ap (λ (w : ℕ). eqb (w % 2) 1) (zero-div (2 ^ (i % 64)))

pub tells_none : Tells [] none_present
tells_none = record { count = refl; marks = unmarked }

-- an item that comes has not left, nor had it before
still_left : (cat : Catalog) (b l w i : ℕ) → (item_at (cat ++ (listed b l w ∷ [])) i).left ≡ (item_at cat i).left
still_left [] b l w zero = refl
still_left [] b l w (suc i) = refl
still_left (x ∷ cat) b l w zero = refl
still_left (x ∷ cat) b l w (suc i) = still_left cat b l w i

-- one more item
pub tells_more :
    (cat : Catalog) (p : Present) (n b l w : ℕ) →
    n ≡ p.n + 1 →
    Tells cat p →
    Tells (cat ++ (listed b l w ∷ [])) (record { n = n; left = p.left })
tells_more cat p n b l w e t =
    record {
      count = omega (arith, t.count, one_longer cat (listed b l w));
      marks = λ i m. t.marks i m ∙ sym (still_left cat b l w i);
    }

-- the same count and marks tell the same
same_known : (cat : Catalog) (p r : Present) → r.n ≡ p.n → marks r.left ≡ marks p.left → Tells cat p → Tells cat r
same_known cat p r e m t =
    record {
      count = e ∙ t.count;
      marks = λ i l. sym (marked_at r.left i l) ∙ ap (λ (bs : List Bool). get_or bs i false) m ∙ marked_at p.left i l ∙ t.marks i l;
    }

-- an item that is there leaves
retires : (p r : Present) (i : ℕ) → r.n ≡ p.n → i < p.n → marks r.left ≡ set (marks p.left) i true → Advances p (Retire i) r
retires p r i n l m cat few t =
    record { count = omega (arith, t.count, retired_length cat i); marks = λ j b. each j b (ℕ_discrete j i) }
  where
    known : i < length cat
    known = omega (arith, t.count)

    each : (j : ℕ) → j < 256 → Dec (j ≡ i) → marked r.left j ≡ (item_at (catalog_next cat (Retire i)) j).left
    each j b (yes q) =
        rw q
        (marked_set_same p.left r.left i true m (omega (arith, few, known))
        ∙ sym (ap (λ (x : Item). x.left) (retired_here cat i known)))
    each j b (no q) =
        marked_set_other p.left r.left i true m j b q ∙ t.marks j b
        ∙ sym (ap (λ (x : Item). x.left) (retired_other cat i j q))

-- what is known after one more step, of whatever catalog this is known of
pub advanced_tells : (p : Present) (s : Step) (r : Present) → Advanced p s r → Advances p s r
advanced_tells p (Read i) r e cat few t = subst (λ (q : Present). Tells cat q) (sym e) t
advanced_tells p (Write i minutes) r e cat few t = subst (λ (q : Present). Tells cat q) (sym e) t
advanced_tells p Flush r e cat few t = subst (λ (q : Present). Tells cat q) (sym e) t
advanced_tells p (Arrive i b l w) r (n, m) cat few t =
    same_known (cat ++ (listed b l w ∷ [])) (record { n = p.n + 1; left = p.left }) r n (ap marks m) (tells_more cat p (p.n + 1) b l w refl t)
advanced_tells p (Retire i) r (n, m) cat few t = go (ltb i p.n) refl m
  where
    go : (b : Bool) → ltb i p.n ≡ b → marks r.left ≡ cond b (set (marks p.left) i true) (marks p.left) → Tells (catalog_next cat (Retire i)) r
    go true z h = retires p r i n (ltb-true i p.n z) h cat few t
    go false z h =
        subst (λ (c : Catalog). Tells c r) (sym (set_out cat i _ (omega (arith, ltb-false i p.n z, t.count)))) (same_known cat p r n h t)

-- ## The catalog before a step

-- what the catalog after all steps keeps of the catalog after the first s of them
pub before_keeps : (cat : Catalog) (steps : List Step) (s : ℕ) → KeepsItems (catalog_after cat (take s steps)) (catalog_after cat steps)
before_keeps cat steps s =
    subst (λ (z : Catalog). KeepsItems (catalog_after cat (take s steps)) z)
    (sym (after_append cat (take s steps) (drop s steps)) ∙ ap (catalog_after cat) (take-append-drop s steps))
    (after_keeps (catalog_after cat (take s steps)) (drop s steps))

-- one step further
pub before_next :
    (cat : Catalog) (steps : List Step) (s : ℕ) →
    s < length steps →
    catalog_after cat (take (s + 1) steps) ≡ catalog_next (catalog_after cat (take s steps)) (get_or steps s Flush)
before_next cat steps s l =
    ap (λ (m : ℕ). catalog_after cat (take m steps)) (add-one s) ∙ ap (catalog_after cat) (take-suc steps s Flush l)
    ∙ after_more cat (take s steps) (get_or steps s Flush)

-- a walk over steps that are noted: at each step the catalog is no longer than at the end
pub walk_few :
    (p q : Present) (calls : List ℕ) (from to s : ℕ) →
    CatchesUp p calls from s q →
    s ≤ to →
    Walkable p calls from to →
    q.n ≤ 256
walk_few p q calls from to s c l h =
    let w = h.walks in
    let known = c h.items h.steps (record { few = w.few; noted = w.noted; reach = omega (arith, w.reach); tells = w.tells }) in
    omega (arith, known.count, (before_keeps h.items h.steps s).longer, w.few)

-- and one step further
pub walk_on :
    (p q r : Present) (calls : List ℕ) (from s : ℕ) →
    CatchesUp p calls from s q →
    Advanced q (step_of (numbers_behind calls (7 * s))) r →
    CatchesUp p calls from (s + 1) r
walk_on p q r calls from s c e cat steps w =
    let l : s < length steps = omega (arith, w.reach) in
    let before = catalog_after cat (take s steps) in
    let known : Tells before q = c cat steps (record { few = w.few; noted = w.noted; reach = omega (arith, w.reach); tells = w.tells }) in
    let short : length before ≤ 256 = omega (arith, (before_keeps cat steps s).longer, w.few) in
    let same : step_of (numbers_behind calls (7 * s)) ≡ get_or steps s Flush =
    ap step_of (noted_step calls steps s w.noted l) ∙ same_step (get_or steps s Flush) in
    subst (λ (z : Catalog). Tells z r) (ap (catalog_next before) same ∙ sym (before_next cat steps s l))
    (advanced_tells q (step_of (numbers_behind calls (7 * s))) r e before short known)

-- ## The bytes of the items

-- a catalog that keeps the values of another has its bytes too
keeps_items : (cat next : Catalog) (bytes : List ℕ) → KeepsItems cat next → HasItems next bytes → HasItems cat bytes
keeps_items cat next bytes f h i l =
    let a = f.each i l in
    h i (omega (arith, f.longer)) ∙ (λ j. listed (a.blocks j) (a.load j) (a.write j))

-- the bytes have the items as they were before any step
pub items_before : (cat : Catalog) (steps : List Step) (bytes : List ℕ) → HasItems (catalog_after cat steps) bytes → (s : ℕ) → HasItems (catalog_after cat (take s steps)) bytes
items_before cat steps bytes h s = keeps_items (catalog_after cat (take s steps)) (catalog_after cat steps) bytes (before_keeps cat steps s) h

-- one more item, stored at its number
module _ (bytes : List ℕ) (i b l w : ℕ) (room : 5 * i + 5 ≤ length bytes) where
  abbrev after : List ℕ
  after = sets bytes (5 * i) (item_bytes (listed b l w))

  long : 5 * (i + 1) ≤ length after
  long = omega (arith, length-sets bytes (5 * i) (item_bytes (listed b l w)))

  front : length (catalog_of_first i bytes) ≡ i
  front = first_length i bytes (omega arith)

  stored_at : (j : ℕ) → j < i + 1 → item_in after j ≡ item_at (catalog_of_first i bytes ++ (listed b l w ∷ [])) j
  stored_at j m = sym (first_at (i + 1) j after m long) ∙ ap (λ (c : Catalog). item_at c j) (one_more i bytes b l w room)

  stored_other : (j : ℕ) → j < i → item_in after j ≡ item_in bytes j
  stored_other j m =
      stored_at j (omega arith) ∙ arrived_other (catalog_of_first i bytes) (listed b l w) j (omega (arith, front))
      ∙ first_at i j bytes m (omega arith)

  stored_here : item_in after i ≡ listed b l w
  stored_here =
      stored_at i (omega arith)
      ∙ subst (λ (j : ℕ). item_at (catalog_of_first i bytes ++ (listed b l w ∷ [])) j ≡ listed b l w) front
      (arrived_here (catalog_of_first i bytes) (listed b l w))

  pub stored_items : (cat : Catalog) → i ≡ length cat → HasItems cat bytes → HasItems (cat ++ (listed b l w ∷ [])) after
  stored_items cat e h j m =
      below_more (length cat) j (item_in after j ≡ listed (it j).blocks (it j).load (it j).write)
      (omega (arith, one_longer cat (listed b l w)))
      (λ q. stored_other j (omega arith) ∙ h j q ∙ sym (ap plain (arrived_other cat (listed b l w) j q)))
      (λ q. ap (item_in after) (q ∙ sym e) ∙ stored_here
      ∙ sym (ap plain (ap it q ∙ arrived_here cat (listed b l w))))
    where
      it : ℕ → Item
      it j = item_at (cat ++ (listed b l w ∷ [])) j

      plain : Item → Item
      plain x = listed x.blocks x.load x.write

  pub stored_front : (n : ℕ) → n ≤ i → take (5 * n) after ≡ take (5 * n) bytes
  stored_front n m =
      ap (take (5 * n)) (put_sets bytes (5 * i) (item_bytes (listed b l w)) room)
      ∙ put_before bytes (5 * i) (item_bytes (listed b l w)) (5 * n) (omega arith) (omega arith)

  pub stored_past : drop (5 * (i + 1)) after ≡ drop (5 * (i + 1)) bytes
  stored_past =
      ap (drop (5 * (i + 1))) (put_sets bytes (5 * i) (item_bytes (listed b l w)) room)
      ∙ noted_past 5 i bytes (item_bytes (listed b l w)) refl room

-- ## The item of an arrival

-- an arrival that is not refused has the next number, and one that is in range is no more than 255
next_number : (t : Bool) → ◌≡◌ {A = ℕ} (cond t 0 19) 0 → t ≡ true
next_number true e = refl
next_number false e = absurd (omega (arith, e))

-- what is in range of an arrival
pub record ArrivalFacts (i b l w : ℕ) : Type 0 where
  pub number : i ≤ 255
  pub blocks : b ≤ 16
  pub load : l ≤ 65535
  pub write : w ≤ 65535

pub arrival_facts : (n : Numbers) → n.kind ≡ 65 → in_range n ≡ true → ArrivalFacts n.item n.blocks n.load n.write
arrival_facts n e r =
    let item = listed n.blocks n.load n.write in
    let both : leb n.item 255 && item_in_range item ≡ true = rw e at r in
    let f = item_facts item (and_right (leb n.item 255) (item_in_range item) both) in
    record { number = leb-true n.item 255 (and_left (leb n.item 255) (item_in_range item) both); blocks = f.small; load = f.load; write = f.write }

module _ (k : ℕ) (cat : Catalog) (bytes : List ℕ) (room : item_room ≤ length bytes) (short : length cat ≤ 256) where
  -- what a step that is in range and not refused makes of the bytes and of the catalog
  pub record Stored (s : Step) : Type 0 where
    pub items : HasItems cat bytes → HasItems (catalog_next cat s) (with_arrival s bytes)
    pub front : (n : ℕ) → n ≤ length cat → take (5 * n) (with_arrival s bytes) ≡ take (5 * n) bytes
    pub past : drop (5 * length (catalog_next cat s)) (with_arrival s bytes) ≡ drop (5 * length (catalog_next cat s)) bytes
    pub few : length (catalog_next cat s) ≤ 256

  pub stored_by : (s : Step) → in_range (numbers_of s) ≡ true → item_refusal k cat s ≡ 0 → Stored s
  stored_by (Read i) r f = record { items = λ h. h; front = λ n l. refl; past = refl; few = short }
  stored_by (Write i m) r f = record { items = λ h. h; front = λ n l. refl; past = refl; few = short }
  stored_by Flush r f = record { items = λ h. h; front = λ n l. refl; past = refl; few = short }
  stored_by (Arrive i b l w) r f =
      let e : i ≡ length cat = eqb-true i (length cat) (next_number (eqb i (length cat)) f) in
      let m = (arrival_facts (numbers_of (Arrive i b l w)) refl r).number in
      let size : length (cat ++ (listed b l w ∷ [])) ≡ i + 1 = omega (arith, one_longer cat (listed b l w)) in
      record {
        items = stored_items bytes i b l w (omega arith) cat e;
        front = λ n q. stored_front bytes i b l w (omega arith) n (omega arith);
        past =
            subst (λ (z : ℕ). drop (5 * z) (sets bytes (5 * i) (item_bytes (listed b l w))) ≡ drop (5 * z) bytes) (sym size)
            (stored_past bytes i b l w (omega arith));
        few = omega arith;
      }
  stored_by (Retire i) r f =
      record {
        items = λ h. retired h;
        front = λ n l. refl;
        past = refl;
        few = omega (arith, retired_length cat i);
      }
    where
      retired : HasItems cat bytes → HasItems (catalog_next cat (Retire i)) bytes
      retired h j l =
          let a = (next_keeps cat (Retire i)).each j (omega (arith, retired_length cat i)) in
          h j (omega (arith, retired_length cat i)) ∙ sym (λ z. listed (a.blocks z) (a.load z) (a.write z))
