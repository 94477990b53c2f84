-- Where the items, the acts and the steps of a text stand in the slices, the catalog before each step, and which acts stand before it.
-- Assumes nothing.
use mathlib.Core.Path.{◌≡◌, refl, sym, ap, subst, ◌∙◌}
use mathlib.Core.Logic.{◌≢◌}
use mathlib.Core.Bool.{Bool, true, false, cond}
use mathlib.Core.List.{List, [], ◌∷◌}
use Prim.Native.Nat.{ℕ, zero, suc, ◌+◌, ◌*◌, ◌≤◌, ◌<◌}
use native.Mathlib.Omega.{arith}
use lib.ListN.{length, get_or, take, drop}
use lib.Seq.{get_or-take, drop-cons}
use lib.Dec.{ltb}
use borrow.Author.Tests.{ltb-true, ltb-false, lt-ltb, le-ltb, eq-eqb, ne_eqb}
use Rattle.types.specs.declared.Step.{Step}
use Rattle.types.specs.declared.Step.TheVariants.{Flush}
use Rattle.types.specs.declared.Act.{Act}
use Rattle.types.specs.declared.Act.TheVariants.{Evict, Fetch}
use Rattle.types.specs.Types.{step_of, act_kind, act_item, act_of}
use Rattle.types.proofs.Steps.{same_step}
use Rattle.landlord.specs.Fold.{fold}
use Rattle.landlord.specs.Catalog.{CatalogOk, catalog_next}
use Rattle.landlord.proofs.Keeps.{Served, next_ok}
use Rattle.landlord.proofs.Logs.{allowed_served}
use Rattle.season_tables.specs.declared.Seen.{Seen}
use Rattle.season_tables.specs.Tables.{Placed, Tables}
use Rattle.landlord.specs.CallNumbers.{call_numbers, numbers_behind}
use Rattle.season_items.specs.Inner.{HasItems}
use Rattle.season_items.proofs.Presence as kept
use Rattle.season_items.proofs.Notes as notes
use Rattle.season_tables.specs.Inner.{Holds, act_numbers}
use Rattle.season_tables.specs.InnerSound.{Sound, placed_at, catalog_before}
use Rattle.season_plan.specs.Plans.{acts_at, acts_before}

-- step s of a log
abbrev pub step_at : List Step → ℕ → Step
step_at steps s = get_or steps s Flush

-- the three numbers of act a
pub record NotedAct (l : List ℕ) (x : Placed) (a : ℕ) : Type 0 where
  pub place : get_or l (3 * a) 0 ≡ x.place
  pub kind : get_or l (3 * a + 1) 0 ≡ act_kind x.act
  pub item : get_or l (3 * a + 2) 0 ≡ act_item x.act

act_numbers_lem : (acts : List Placed) (a : ℕ) → a < length acts → NotedAct (act_numbers acts) (placed_at acts a) a
unfolding act_numbers
act_numbers_lem [] a l = absurd (let z : a < 0 = l in omega arith)
act_numbers_lem (x ∷ acts) zero l = record { place = refl; kind = refl; item = refl }
act_numbers_lem (x ∷ acts) (suc a) l =
    let all : List ℕ = x.place ∷ act_kind x.act ∷ act_item x.act ∷ act_numbers acts in
    let rest : NotedAct (act_numbers acts) (placed_at acts a) a = act_numbers_lem acts a (omega arith) in
    let e : 3 * suc a ≡ suc (suc (suc (3 * a))) = omega arith in
    let f : 3 * suc a + 1 ≡ suc (suc (suc (3 * a + 1))) = omega arith in
    let g : 3 * suc a + 2 ≡ suc (suc (suc (3 * a + 2))) = omega arith in
    record {
      place = ap (λ t. get_or all t 0) e ∙ rest.place;
      kind = ap (λ t. get_or all t 0) f ∙ rest.kind;
      item = ap (λ t. get_or all t 0) g ∙ rest.item;
    }

-- what stands in the front of a list
front : (l m : List ℕ) (n i : ℕ) → take n l ≡ m → i < n → get_or l i 0 ≡ get_or m i 0
front l m n i e b = sym (get_or-take n l i 0 b) ∙ ap (λ t. get_or t i 0) e

-- the letter and the item say which act it was
pub act_again : (a : Act) → act_of (act_kind a) (act_item a) ≡ a
act_again (Evict i) = refl
act_again (Fetch i) = refl

module _ (x : Seen) (xs calls acts : List ℕ) (v : Tables) (h : Holds x xs calls acts v) where
  -- the bytes have the items that there are before a step
  pub items_before : (s : ℕ) → HasItems (catalog_before v s) xs
  items_before s = kept.items_before v.catalog v.steps xs h.stored s

  pub noted_act : (a : ℕ) → a < x.acts → NotedAct acts (placed_at v.acts a) a
  noted_act a l =
      let here : NotedAct (act_numbers v.acts) (placed_at v.acts a) a = act_numbers_lem v.acts a (omega (arith, h.act_count)) in
      record {
        place = front acts (act_numbers v.acts) (3 * x.acts) (3 * a) h.acts_noted (omega arith) ∙ here.place;
        kind = front acts (act_numbers v.acts) (3 * x.acts) (3 * a + 1) h.acts_noted (omega arith) ∙ here.kind;
        item = front acts (act_numbers v.acts) (3 * x.acts) (3 * a + 2) h.acts_noted (omega arith) ∙ here.item;
      }

  -- a step and an act, by the numbers that are noted
  pub step_is : (s : ℕ) → s < x.steps → step_of (numbers_behind calls (7 * s)) ≡ step_at v.steps s
  step_is s l =
      let all : take (7 * length v.steps) calls ≡ call_numbers v.steps = rw h.step_count at h.steps_noted in
      ap step_of (notes.noted_step calls v.steps s all (omega (arith, h.step_count))) ∙ same_step (step_at v.steps s)

  pub act_is : (a : ℕ) → a < x.acts → act_of (get_or acts (3 * a + 1) 0) (get_or acts (3 * a + 2) 0) ≡ (placed_at v.acts a).act
  act_is a l =
      let noted = noted_act a l in
      let act = (placed_at v.acts a).act in
      ap (λ t. act_of t (get_or acts (3 * a + 2) 0)) noted.kind ∙ ap (act_of (act_kind act)) noted.item ∙ act_again act

module _ (v : Tables) where
  -- a step leads from the catalog before it to the one before the next
  pub before_next : (s : ℕ) → s < length v.steps → catalog_next (catalog_before v s) (step_at v.steps s) ≡ catalog_before v (suc s)
  before_next s l =
      let e : s + 1 ≡ suc s = omega arith in
      sym (kept.before_next v.catalog v.steps s l) ∙ ap (catalog_before v) e

  module _ (sound : Sound v) where
    pub step_served : (s : ℕ) → s < length v.steps → Served v.k (catalog_before v s) (step_at v.steps s)
    step_served s l = allowed_served v.k (catalog_before v s) s (step_at v.steps s) (sound.allowed.each s l)

    -- the catalog is in range before each step
    pub before_ok : (s : ℕ) → s ≤ length v.steps → CatalogOk (catalog_before v s)
    unfolding fold
    before_ok zero l = sound.catalog
    before_ok (suc s) l =
        subst CatalogOk (before_next s l)
        (next_ok v.k (catalog_before v s) (step_at v.steps s) (before_ok s (omega arith)) (step_served s l))

-- places never fall
abbrev pub Ordered : List Placed → Type 0
Ordered acts = (i j : ℕ) → i ≤ j → j < length acts → (placed_at acts i).place ≤ (placed_at acts j).place

pub sound_ordered : (v : Tables) → Sound v → Ordered v.acts
sound_ordered v sound i j l b = (sound.each j b).in_order i l

ordered_rest : (x : Placed) (acts : List Placed) → Ordered (x ∷ acts) → Ordered acts
ordered_rest x acts o i j l b = o (suc i) (suc j) (omega arith) (omega arith)

-- of the acts, the first b stand before steps before s, and no other
pub record Parted (s : ℕ) (acts : List Placed) (b : ℕ) : Type 0 where
  pub within : b ≤ length acts
  pub below : (i : ℕ) → i < b → (placed_at acts i).place < s
  pub above : (i : ℕ) → b ≤ i → i < length acts → s ≤ (placed_at acts i).place

pub parted_is : (s : ℕ) (acts : List Placed) (b : ℕ) → Parted s acts b → acts_before s acts ≡ b
unfolding acts_before
parted_is s [] b p = let z : b ≤ 0 = p.within in omega arith
parted_is s (x ∷ acts) zero p =
    let off : ltb x.place s ≡ false = le-ltb x.place s (p.above 0 (omega arith) (omega arith)) in
    ap (λ t. cond t (suc (acts_before s acts)) (acts_before s acts)) off
    ∙ parted_is s acts 0 (record { within = omega arith; below = λ i l. absurd (let z : i < 0 = l in omega arith); above = λ i l b. p.above (suc i) (omega arith) (omega arith) })
parted_is s (x ∷ acts) (suc b) p =
    let w : suc b ≤ suc (length acts) = p.within in
    let in_it : ltb x.place s ≡ true = lt-ltb x.place s (p.below 0 (omega arith)) in
    ap (λ t. cond t (suc (acts_before s acts)) (acts_before s acts)) in_it
    ∙ ap suc (parted_is s acts b (record { within = omega arith; below = λ i l. p.below (suc i) (omega arith); above = λ i l k. p.above (suc i) (omega arith) (omega arith) }))

pub parted : (s : ℕ) (acts : List Placed) → Ordered acts → Parted s acts (acts_before s acts)
unfolding acts_before
parted s [] o =
    record {
      within = omega arith;
      below = λ i l. absurd (let z : i < 0 = l in omega arith);
      above = λ i l b. absurd (let z : i < 0 = b in omega arith);
    }
parted s (x ∷ acts) o = by_place (ltb x.place s) refl (parted s acts (ordered_rest x acts o))
  where
    by_place : (t : Bool) → ltb x.place s ≡ t → Parted s acts (acts_before s acts) → Parted s (x ∷ acts) (cond t (suc (acts_before s acts)) (acts_before s acts))
    by_place true e rest = record { within = omega (arith, rest.within); below = low; above = high }
      where
        low : (i : ℕ) → i < suc (acts_before s acts) → (placed_at (x ∷ acts) i).place < s
        low zero l = ltb-true x.place s e
        low (suc i) l = rest.below i (omega arith)

        high : (i : ℕ) → suc (acts_before s acts) ≤ i → i < suc (length acts) → s ≤ (placed_at (x ∷ acts) i).place
        high zero l b = absurd (omega arith)
        high (suc i) l b = rest.above i (omega arith) (omega arith)
    by_place false e rest = subst (Parted s (x ∷ acts)) (sym none) (record { within = omega arith; below = λ i l. absurd (let z : i < 0 = l in omega arith); above = λ i l b. high i b })
      where
        here : s ≤ x.place
        here = ltb-false x.place s e

        high : (i : ℕ) → i < suc (length acts) → s ≤ (placed_at (x ∷ acts) i).place
        high i b = let z : x.place ≤ (placed_at (x ∷ acts) i).place = o 0 i (omega arith) b in omega (arith, here)

        none : acts_before s acts ≡ 0
        none = parted_is s acts 0 (record { within = omega arith; below = λ i l. absurd (let z : i < 0 = l in omega arith); above = λ i l b. high (suc i) (omega arith) })

-- acts before other steps are passed over
pub at_skip : (s n : ℕ) (acts : List Placed) → ((i : ℕ) → i < n → i < length acts → (placed_at acts i).place ≢ s) → acts_at s (drop n acts) ≡ acts_at s acts
unfolding acts_at
at_skip s zero [] h = refl
at_skip s zero (x ∷ acts) h = refl
at_skip s (suc n) [] h = refl
at_skip s (suc n) (x ∷ acts) h =
    at_skip s n acts (λ i l b. h (suc i) (omega arith) (omega arith))
    ∙ sym (ap (λ t. cond t (x.act ∷ acts_at s acts) (acts_at s acts)) (ne_eqb x.place s (h 0 (omega arith) (omega arith))))

-- an act before this step is the next one
pub at_here : (s a : ℕ) (acts : List Placed) → a < length acts → (placed_at acts a).place ≡ s → acts_at s (drop a acts) ≡ (placed_at acts a).act ∷ acts_at s (drop (suc a) acts)
unfolding acts_at
at_here s a acts l e =
    let x = placed_at acts a in
    let rest = drop (suc a) acts in
    ap (acts_at s) (drop-cons acts a (record { place = 0; act = Fetch 0 }) l)
    ∙ ap (λ t. cond t (x.act ∷ acts_at s rest) (acts_at s rest)) (eq-eqb x.place s e)

-- no act is left
pub at_none : (s a : ℕ) (acts : List Placed) → ((i : ℕ) → a ≤ i → i < length acts → (placed_at acts i).place ≢ s) → acts_at s (drop a acts) ≡ []
unfolding acts_at
at_none s zero [] h = refl
at_none s (suc a) [] h = refl
at_none s zero (x ∷ acts) h =
    ap (λ t. cond t (x.act ∷ acts_at s acts) (acts_at s acts)) (ne_eqb x.place s (h 0 (omega arith) (omega arith)))
    ∙ at_none s zero acts (λ i l b. h (suc i) (omega arith) (omega arith))
at_none s (suc a) (x ∷ acts) h = at_none s a acts (λ i l b. h (suc i) (omega arith) (omega arith))
