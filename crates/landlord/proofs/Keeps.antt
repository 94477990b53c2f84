-- What the rule keeps, for every split of a loss in multiples of the item's blocks: the victim is of least rank, ranks divide
-- exactly, making room ends and leaves room, and each step keeps `Kept` (specs/Claims.antt). Assumes nothing.
use mathlib.Core.Path.{◌≡◌, refl, sym, ap, ◌∙◌}
use mathlib.Core.Logic.{◌≢◌}
use mathlib.Core.Bool.{Bool, true, false, cond, false≢true}
use mathlib.Core.List.{[], ◌∷◌, ◌++◌}
use Prim.Native.Nat.{ℕ, zero, suc, ◌+◌, ◌*◌, ◌≤◌, ◌<◌}
use native.Mathlib.Nat.{dvd-add, dvd-mul_right, div-mul_cancel, mul-le-mul_left}
use native.Mathlib.Decide.{ℕ_discrete}
use native.Mathlib.Omega.{arith}
use lib.ListN.{length, length-set, get_or-eq_default}
use lib.Seq.{get_or-set_same, get_or-set_other}
use lib.Dec.{leb}
use borrow.Author.Tests.{eq-eqb, ne_eqb, leb-true, leb-false}
use Rattle.types.specs.declared.Step.{Step}
use Rattle.types.specs.declared.Step.TheVariants.{Read, Write, Flush, Arrive, Retire}
use Rattle.landlord.specs.Fold.{sum_to}
use Rattle.landlord.specs.Catalog.{Catalog, Item, CatalogOk, item_at, listed, catalog_next, item_in_range, full}
use Rattle.landlord.specs.Slot.{Slot, absent, held, load_credit, write_credit, Split, lose, written, flushed}
use Rattle.landlord.specs.Rule.{State, size, slot_at, blocks_at, used, held_count, rank, precedence, victim, evict_item, evict, evict_for, make_room, Moved, stay, joined, put_slot, read_slot, flush, drop_item, leave, step, emptied}
use Rattle.landlord.specs.Inner.{ItemFacts}
use Rattle.landlord.specs.Claims.{SplitOk, SlotKept, Kept, Least}
use Rattle.landlord.proofs.Ranges.{catalog_facts, item_facts}
use Rattle.landlord.proofs.Sums.{sum_zero, sum_none, sum_eq, sum_change}
use Rattle.landlord.proofs.Folds.{tab_length, tab_at, Best, nobody, somebody, best_is}
use Rattle.landlord.proofs.Catalogs.{padded, one_longer, below_more, arrived_other, arrived_here, Alike, retired_other, retired_length, retired_alike, arrived_ok, retired_ok}
use Rattle.landlord.proofs.Slots.{blocks_divide, lose_held, lose_kept, absent_kept, read_kept, write_kept, flush_kept, read_held, write_held, flush_held}

abbrev is_held : State → ℕ → Bool
is_held x i = held (slot_at x i)

abbrev credits : State → ℕ → ℕ
credits x i = load_credit (slot_at x i) + write_credit (slot_at x i)

-- where some item is held, the victim is held, of least precedence, and the lowest number of these
pub victim_least : (x : State) → 1 ≤ used x → Least x (victim x)
unfolding used victim
victim_least x l = go (best_is (size x) (is_held x) (precedence x) (size x) (omega arith))
  where
    go : Best (size x) (size x) (is_held x) (precedence x) (victim x) → Least x (victim x)
    go (nobody e h) = absurd (let z : used x ≡ 0 = sum_zero (size x) _ (λ i b. rw (h i b)) in omega arith)
    go (somebody low here least first) = record { below = low; is_held = here; least = least; first = first }

-- an item that goes no later has no greater rank
precedence_rank : (x : State) (v i : ℕ) → precedence x v ≤ precedence x i → rank x v ≤ rank x i
unfolding precedence
precedence_rank x v i le = le

-- so the victim's rank is the least
pub least_rank : {x : State} {v : ℕ} → Least x v → (i : ℕ) → i < size x → held (slot_at x i) ≡ true → rank x v ≤ rank x i
least_rank {x = x} {v = v} low i l h = precedence_rank x v i (low.least i l h)

-- ranks divide exactly: nothing is rounded
pub rank_whole : (k : ℕ) (x : State) (i : ℕ) → Kept k x → i < size x → rank x i * blocks_at x i ≡ credits x i
rank_whole k x i kept l =
    div-mul_cancel (blocks_at x i) (dvd-add (blocks_at x i) (kept.slot i l).whole_load (kept.slot i l).whole_write)

-- a held item can bear its blocks × the rank of an item of no greater rank
pub bears_rank : (k : ℕ) (x : State) (v i : ℕ) → Kept k x → i < size x → rank x v ≤ rank x i → blocks_at x i * rank x v ≤ credits x i
bears_rank k x v i kept l le = omega (arith, rank_whole k x i kept l, mul-le-mul_left (blocks_at x i) le)

-- the slots after item v is evicted
pub evicted_slot : (split : Split) (v : ℕ) (x : State) → v < size x → slot_at (evict_item split v x) v ≡ absent
unfolding evict_item
evicted_slot split v x l = tab_at (size x) _ v absent l ∙ rw (eq-eqb v v refl)

pub other_slot :
    (split : Split) (v : ℕ) (x : State) (i : ℕ) →
    i < size x →
    i ≢ v →
    slot_at (evict_item split v x) i ≡ lose split (blocks_at x i) (blocks_at x i * rank x v) (slot_at x i)
unfolding evict_item
other_slot split v x i l e = tab_at (size x) _ i absent l ∙ rw (ne_eqb i v e)

pub evict_catalog : (split : Split) (v : ℕ) (x : State) → (evict_item split v x).catalog ≡ x.catalog
unfolding evict_item
evict_catalog split v x = refl

other_held : (split : Split) (v : ℕ) (x : State) (i : ℕ) → i < size x → i ≢ v → is_held (evict_item split v x) i ≡ is_held x i
other_held split v x i l e = ap held (other_slot split v x i l e) ∙ lose_held split _ _ (slot_at x i)

-- a sum over the items with a mark, in which each counts for its weight; `used` and `held_count` are two of them
abbrev pub mark_sum : (Slot → Bool) → (ℕ → ℕ) → State → ℕ
mark_sum mark w x = sum_to (size x) (λ i. cond (mark (slot_at x i)) (w i) 0)

-- two states whose marks agree at every item but v
pub mark_change :
    (mark : Slot → Bool) (w : ℕ → ℕ) (x y : State) (v : ℕ) →
    size y ≡ size x →
    v < size x →
    ((i : ℕ) → i < size x → i ≢ v → mark (slot_at y i) ≡ mark (slot_at x i)) →
    mark_sum mark w y + cond (mark (slot_at x v)) (w v) 0 ≡ mark_sum mark w x + cond (mark (slot_at y v)) (w v) 0
mark_change mark w x y v e l h =
    ap (λ (n : ℕ). sum_to n (λ i. cond (mark (slot_at y i)) (w i) 0) + cond (mark (slot_at x v)) (w v) 0) e
    ∙ sum_change (size x) v (λ i. cond (mark (slot_at y i)) (w i) 0) (λ i. cond (mark (slot_at x i)) (w i) 0) l
    (λ i b d. ap (λ (t : Bool). cond t (w i) 0) (h i b d))

-- an eviction takes the victim out of such a sum, if a loss changes no such mark and an empty place has none
pub evict_sum :
    (mark : Slot → Bool) (w : ℕ → ℕ) (split : Split) (v : ℕ) (x : State) →
    mark absent ≡ false →
    ((s loss : ℕ) (y : Slot) → mark (lose split s loss y) ≡ mark y) →
    v < size x →
    mark_sum mark w (evict_item split v x) + cond (mark (slot_at x v)) (w v) 0 ≡ mark_sum mark w x
evict_sum mark w split v x none same l =
    let y : State = evict_item split v x in
    let e : mark_sum mark w y + cond (mark (slot_at x v)) (w v) 0 ≡ mark_sum mark w x + cond (mark (slot_at y v)) (w v) 0 =
    mark_change mark w x y v (ap length (evict_catalog split v x)) l (λ i b d. ap mark (other_slot split v x i b d) ∙ same _ _ (slot_at x i))
    in
    omega (arith, ap (λ (t : Bool). cond t (w v) 0) (ap mark (evicted_slot split v x l) ∙ none))

evict_held : (w : ℕ → ℕ) (split : Split) (v : ℕ) (x : State) → v < size x → is_held x v ≡ true → mark_sum held w (evict_item split v x) + w v ≡ mark_sum held w x
evict_held w split v x l h =
    omega (arith, evict_sum held w split v x refl (lose_held split) l, ap (λ (t : Bool). cond t (w v) 0) h)

-- the blocks of the victim are freed, and no others
pub evict_used : (split : Split) (v : ℕ) (x : State) → v < size x → is_held x v ≡ true → used (evict_item split v x) + blocks_at x v ≡ used x
unfolding used evict_item
evict_used split v x l h = evict_held (blocks_at x) split v x l h

pub evict_count : (split : Split) (v : ℕ) (x : State) → v < size x → is_held x v ≡ true → held_count (evict_item split v x) + 1 ≡ held_count x
unfolding held_count
evict_count split v x l h = evict_held (λ i. 1) split v x l h

-- an item that is not held is not held after an eviction
pub still_absent : (split : Split) (v : ℕ) (x : State) (i : ℕ) → i < size x → is_held x i ≡ false → is_held (evict_item split v x) i ≡ false
still_absent split v x i l h = go (ℕ_discrete i v)
  where
    go : Dec (i ≡ v) → is_held (evict_item split v x) i ≡ false
    go (yes e) = ap held (ap (slot_at (evict_item split v x)) e ∙ evicted_slot split v x (omega arith))
    go (no e) = other_held split v x i l e ∙ h

-- an eviction of an item of least rank keeps what the rule keeps
pub evict_kept :
    (k : ℕ) (split : Split) (v : ℕ) (x : State) →
    SplitOk split →
    Kept k x →
    Least x v →
    Kept k (evict_item split v x)
unfolding evict_item
evict_kept k split v x ok kept low =
    record {
      catalog = kept.catalog;
      slots = tab_length (size x) _;
      slot = λ i l. at i l (ℕ_discrete i v);
      room = let e : used (evict_item split v x) + blocks_at x v ≡ used x = evict_used split v x low.below low.is_held in omega (arith, kept.room);
      left = λ i l e. still_absent split v x i l (kept.left i l e);
    }
  where
    at : (i : ℕ) → i < size x → Dec (i ≡ v) → SlotKept (item_at x.catalog i) (slot_at (evict_item split v x) i)
    at i l (yes e) = rw (ap (slot_at (evict_item split v x)) e ∙ evicted_slot split v x low.below) (absent_kept (item_at x.catalog i))
    at i l (no e) =
        rw (other_slot split v x i l e)
        (lose_kept split ok (item_at x.catalog i) ((catalog_facts x.catalog kept.catalog).each i l).some (blocks_at x i * rank x v) (slot_at x i)
        (dvd-mul_right (blocks_at x i) (rank x v)) (kept.slot i l) (λ h. bears_rank k x v i kept l (least_rank low i l h)))

-- Making room, as the paper's loop: evictions of the victim while the free blocks are too few, then nothing more.
pub data Evicting (split : Split) (k blocks : ℕ) : State → Moved → Type 0 where
  enough : {x : State} → used x + blocks ≤ k → Evicting split k blocks x (stay x)
  more :
      {x : State} {m : Moved} →
      k < used x + blocks →
      Least x (victim x) →
      Evicting split k blocks (evict split x).state m →
      Evicting split k blocks x (joined (evict split x) m)

none_used : (x : State) → held_count x ≡ 0 → used x ≡ 0
unfolding held_count used
none_used x e = sum_zero (size x) _ (λ i l. weightless (is_held x i) (blocks_at x i) (sum_none (size x) _ e i l))
  where
    weightless : (t : Bool) (b : ℕ) → ◌≡◌ {A = ℕ} (cond t 1 0) 0 → cond t b 0 ≡ 0
    weightless true b e = omega arith
    weightless false b e = refl

-- the turns allowed, one for each held item, are never too few
turns :
    (split : Split) (k blocks : ℕ) →
    blocks ≤ k →
    (t : ℕ) (x : State) →
    held_count x ≡ t →
    Evicting split k blocks x (evict_for t split k blocks x)
unfolding evict_for
turns split k blocks fits zero x e = let l : used x + blocks ≤ k = omega (arith, none_used x e) in enough l
turns split k blocks fits (suc t) x e =
    go (leb (used x + blocks) k) refl
    (λ low. turns split k blocks fits t (evict split x).state (omega (arith, evict_count split (victim x) x low.below low.is_held)))
  where
    rest : Moved
    rest = evict_for t split k blocks (evict split x).state

    go :
        (b : Bool) →
        leb (used x + blocks) k ≡ b →
        (Least x (victim x) → Evicting split k blocks (evict split x).state rest) →
        Evicting split k blocks x (cond b (stay x) (joined (evict split x) rest))
    go true f next = enough (leb-true (used x + blocks) k f)
    go false f next =
        let over : k < used x + blocks = leb-false (used x + blocks) k f in
        let low : Least x (victim x) = victim_least x (omega arith) in
        more over low (next low)

pub room_made : (split : Split) (k blocks : ℕ) → blocks ≤ k → (x : State) → Evicting split k blocks x (evict_for (held_count x) split k blocks x)
room_made split k blocks fits x = turns split k blocks fits (held_count x) x refl

-- Room is left, and what the rule keeps is kept, with the catalog, and an item that was not held is not held.
pub record RoomLeft (k blocks : ℕ) (x : State) (y : State) : Type 0 where
  pub left : used y + blocks ≤ k
  pub catalog : y.catalog ≡ x.catalog
  pub kept : Kept k x → Kept k y
  pub absent : (i : ℕ) → i < size x → is_held x i ≡ false → is_held y i ≡ false

pub room_left : (split : Split) (k blocks : ℕ) (x : State) (m : Moved) → SplitOk split → Evicting split k blocks x m → RoomLeft k blocks x m.state
room_left split k blocks x m ok (enough l) = record { left = l; catalog = refl; kept = λ h. h; absent = λ i b h. h }
room_left split k blocks x m ok (more {m = n} over low next) =
    let y : State = (evict split x).state in
    let r : RoomLeft k blocks y n.state = room_left split k blocks y n ok next in
    let same : y.catalog ≡ x.catalog = evict_catalog split (victim x) x in
    record {
      left = r.left;
      catalog = r.catalog ∙ same;
      kept = λ h. r.kept (evict_kept k split (victim x) x ok h low);
      absent = λ i b h. r.absent i (rw same b) (still_absent split (victim x) x i b h);
    }

-- what one slot changed leaves and makes
pub put_same : (x : State) (i : ℕ) (s : Slot) → i < length x.slots → slot_at (put_slot x i s) i ≡ s
put_same x i s l = get_or-set_same x.slots i s absent l

pub put_other : (x : State) (i j : ℕ) (s : Slot) → j ≢ i → slot_at (put_slot x i s) j ≡ slot_at x j
put_other x i j s e = get_or-set_other x.slots i j s absent e

-- a slot changed to one that is held, for which there is room if it was not
pub put_kept :
    (k : ℕ) (x : State) (i : ℕ) (s : Slot) →
    Kept k x →
    i < size x →
    SlotKept (item_at x.catalog i) s →
    held s ≡ true →
    (item_at x.catalog i).left ≡ false →
    (is_held x i ≡ false → used x + blocks_at x i ≤ k) →
    Kept k (put_slot x i s)
unfolding used
put_kept k x i s kept l new h present free =
    record {
      catalog = kept.catalog;
      slots = length-set x.slots i s ∙ kept.slots;
      slot = λ j b. at j b (ℕ_discrete j i);
      room = bound (is_held x i) refl;
      left = λ j b e. gone j b e (ℕ_discrete j i);
    }
  where
    here : slot_at (put_slot x i s) i ≡ s
    here = put_same x i s (let e : length x.slots ≡ size x = kept.slots in omega arith)

    at : (j : ℕ) → j < size x → Dec (j ≡ i) → SlotKept (item_at x.catalog j) (slot_at (put_slot x i s) j)
    at j b (yes e) = rw (ap (slot_at (put_slot x i s)) e ∙ here, e) new
    at j b (no e) = rw (put_other x i j s e) (kept.slot j b)

    gone : (j : ℕ) → j < size x → (item_at x.catalog j).left ≡ true → Dec (j ≡ i) → is_held (put_slot x i s) j ≡ false
    gone j b e (yes q) = absurd (false≢true (sym present ∙ ap (λ (z : ℕ). (item_at x.catalog z).left) (sym q) ∙ e))
    gone j b e (no q) = ap held (put_other x i j s q) ∙ kept.left j b e

    moved : used (put_slot x i s) + cond (is_held x i) (blocks_at x i) 0 ≡ used x + blocks_at x i
    moved =
        mark_change held (blocks_at x) x (put_slot x i s) i refl l (λ j b e. ap held (put_other x i j s e))
        ∙ ap (λ (t : Bool). used x + cond t (blocks_at x i) 0) (ap held here ∙ h)

    bound : (t : Bool) → is_held x i ≡ t → used (put_slot x i s) ≤ k
    bound true e = omega (arith, kept.room, rw e at moved)
    bound false e = omega (arith, free e, rw e at moved)

-- a flush keeps every mark of what is held
pub flush_slot : (x : State) (i : ℕ) → i < size x → slot_at (flush x).state i ≡ flushed (slot_at x i)
unfolding flush
flush_slot x i l = tab_at (size x) _ i absent l

pub flush_catalog : (x : State) → (flush x).state.catalog ≡ x.catalog
unfolding flush
flush_catalog x = refl

-- a flush changes no sum over the held items
pub flush_sum : (w : ℕ → ℕ) (x : State) → mark_sum held w (flush x).state ≡ mark_sum held w x
unfolding flush
flush_sum w x = sum_eq (size x) _ _ (λ i l. ap (λ (t : Bool). cond t (w i) 0) (ap held (flush_slot x i l) ∙ flush_held (slot_at x i)))

pub flush_keeps : (k : ℕ) (x : State) → Kept k x → Kept k (flush x).state
unfolding flush used
flush_keeps k x kept =
    record {
      catalog = kept.catalog;
      slots = tab_length (size x) _;
      slot = λ i l. rw (flush_slot x i l) (flush_kept (item_at x.catalog i) (slot_at x i) (kept.slot i l));
      room =
          let e : used (flush x).state ≡ used x = flush_sum (blocks_at x) x in
          omega (arith, kept.room);
      left = λ i l e. ap held (flush_slot x i l) ∙ flush_held (slot_at x i) ∙ kept.left i l e;
    }

-- Room made for item i: if it was held nothing moved; if not, the paper's loop ran.
pub record RoomMade (split : Split) (k i : ℕ) (x : State) (m : Moved) : Type 0 where
  pub catalog : m.state.catalog ≡ x.catalog
  pub kept : Kept k x → Kept k m.state
  pub free : is_held m.state i ≡ false → used m.state + blocks_at x i ≤ k
  pub stayed : is_held x i ≡ true → m ≡ stay x
  pub ran : is_held x i ≡ false → (is_held m.state i ≡ false) × Evicting split k (blocks_at x i) x m

pub make_room_lem : (split : Split) (k i : ℕ) (x : State) → SplitOk split → i < size x → blocks_at x i ≤ k → RoomMade split k i x (make_room split k i x)
unfolding make_room
make_room_lem split k i x ok l fits = go (is_held x i) refl
  where
    loop : Moved
    loop = evict_for (held_count x) split k (blocks_at x i) x

    made : Evicting split k (blocks_at x i) x loop
    made = room_made split k (blocks_at x i) fits x

    roomy : RoomLeft k (blocks_at x i) x loop.state
    roomy = room_left split k (blocks_at x i) x loop ok made

    go : (t : Bool) → is_held x i ≡ t → RoomMade split k i x (cond t (stay x) loop)
    go true e =
        record {
          catalog = refl;
          kept = λ h. h;
          free = λ h. absurd (false≢true (sym h ∙ e));
          stayed = λ h. refl;
          ran = λ h. absurd (false≢true (sym h ∙ e));
        }
    go false e =
        record {
          catalog = roomy.catalog;
          kept = roomy.kept;
          free = λ h. roomy.left;
          stayed = λ h. absurd (false≢true (sym e ∙ h));
          ran = λ h. (roomy.absent i l h, made);
        }

-- A step that the table lets through: its item is in the catalog, has not left, and is no larger than the cache; an arrival has the
-- next number, which is one, and its values are in range; an item that is to leave is in the catalog and has not left.
abbrev pub Served : ℕ → Catalog → Step → Type 0
Served k cat (Read i) = (i < length cat) × ((item_at cat i).blocks ≤ k) × ((item_at cat i).left ≡ false)
Served k cat (Write i minutes) = (i < length cat) × ((item_at cat i).blocks ≤ k) × ((item_at cat i).left ≡ false)
Served k cat Flush = Unit {0}
Served k cat (Arrive i b l w) = (i ≡ length cat) × (length cat < 256) × (item_in_range (listed b l w) ≡ true)
Served k cat (Retire i) = (i < length cat) × ((item_at cat i).left ≡ false)

-- An arrival: every slot reads as before, every item too, and the new one is not held. What is summed over the held is as before.
abbrev pub grown : State → Item → State
grown x it = record { catalog = x.catalog ++ (it ∷ []); slots = x.slots ++ (absent ∷ []) }

pub grown_slot : (x : State) (it : Item) (i : ℕ) → slot_at (grown x it) i ≡ slot_at x i
grown_slot x it i = padded x.slots absent i

past_absent : (x : State) → length x.slots ≡ size x → slot_at x (size x) ≡ absent
past_absent x e = get_or-eq_default x.slots absent (omega arith)

-- a sum over the items, each counted by its slot and its values, where an item that is not held counts for nothing
pub grown_sum :
    (x : State) (it : Item) (w : Slot → Item → ℕ) →
    length x.slots ≡ size x →
    w absent it ≡ 0 →
    sum_to (size (grown x it)) (λ i. w (slot_at (grown x it) i) (item_at (x.catalog ++ (it ∷ [])) i)) ≡ sum_to (size x) (λ i. w (slot_at x i) (item_at x.catalog i))
unfolding sum_to
grown_sum x it w e none =
    ap (λ (n : ℕ). sum_to n new) (one_longer x.catalog it)
    ∙ omega (arith, sum_eq (size x) new old (λ i l z. w (grown_slot x it i z) (arrived_other x.catalog it i l z)), last)
  where
    new : ℕ → ℕ
    new i = w (slot_at (grown x it) i) (item_at (x.catalog ++ (it ∷ [])) i)

    old : ℕ → ℕ
    old i = w (slot_at x i) (item_at x.catalog i)

    last : new (size x) ≡ 0
    last = (λ z. w ((grown_slot x it (size x) ∙ past_absent x e) z) (arrived_here x.catalog it z)) ∙ none

pub grown_kept : (k : ℕ) (x : State) (it : Item) → Kept k x → ItemFacts it → size x < 256 → Kept k (grown x it)
unfolding used
grown_kept k x it kept new few =
    record {
      catalog = arrived_ok x.catalog it kept.catalog new few;
      slots = one_longer x.slots absent ∙ ap suc kept.slots ∙ sym (one_longer x.catalog it);
      slot =
          λ i l. at i l (SlotKept (item_at (x.catalog ++ (it ∷ [])) i) (slot_at (grown x it) i))
          (λ b. rw (grown_slot x it i, arrived_other x.catalog it i b) (kept.slot i b))
          (λ e. rw (ap (slot_at (grown x it)) e ∙ grown_slot x it (size x) ∙ past_absent x kept.slots) (absent_kept (item_at (x.catalog ++ (it ∷ [])) i)));
      room =
          let e : used (grown x it) ≡ used x = grown_sum x it (λ (s : Slot) (y : Item). cond (held s) y.blocks 0) kept.slots refl in
          omega (arith, kept.room);
      left =
          λ i l e. at i l (is_held (grown x it) i ≡ false)
          (λ b. ap held (grown_slot x it i) ∙ kept.left i b (sym (ap (λ (y : Item). y.left) (arrived_other x.catalog it i b)) ∙ e))
          (λ q. ap held (ap (slot_at (grown x it)) q ∙ grown_slot x it (size x) ∙ past_absent x kept.slots));
    }
  where
    at : (i : ℕ) → i < size (grown x it) → (P : Type 0) → (i < size x → P) → (i ≡ size x → P) → P
    at i l P = below_more (size x) i P (omega (arith, one_longer x.catalog it))

-- a retirement, first half: the item is dropped, and no other slot moves
pub drop_slot : (x : State) (i : ℕ) → i < length x.slots → slot_at (drop_item i x).state i ≡ absent
unfolding drop_item
drop_slot x i l = put_same x i absent l

pub drop_other : (x : State) (i j : ℕ) → j ≢ i → slot_at (drop_item i x).state j ≡ slot_at x j
unfolding drop_item
drop_other x i j e = put_other x i j absent e

pub drop_catalog : (x : State) (i : ℕ) → (drop_item i x).state.catalog ≡ x.catalog
unfolding drop_item
drop_catalog x i = refl

-- the item is taken out of a sum over marks that an empty place has not
pub drop_sum :
    (mark : Slot → Bool) (w : ℕ → ℕ) (x : State) (i : ℕ) →
    mark absent ≡ false →
    length x.slots ≡ size x →
    i < size x →
    mark_sum mark w (drop_item i x).state + cond (mark (slot_at x i)) (w i) 0 ≡ mark_sum mark w x
unfolding drop_item
drop_sum mark w x i none e l =
    let y : State = (drop_item i x).state in
    let c : mark_sum mark w y + cond (mark (slot_at x i)) (w i) 0 ≡ mark_sum mark w x + cond (mark (slot_at y i)) (w i) 0 =
    mark_change mark w x y i refl l (λ j b d. ap mark (drop_other x i j d))
    in
    omega (arith, ap (λ (t : Bool). cond t (w i) 0) (ap mark (drop_slot x i (omega arith)) ∙ none))

pub drop_kept : (k : ℕ) (x : State) (i : ℕ) → Kept k x → i < size x → Kept k (drop_item i x).state
unfolding used drop_item
drop_kept k x i kept l =
    record {
      catalog = kept.catalog;
      slots = length-set x.slots i absent ∙ kept.slots;
      slot = λ j b. at j b (ℕ_discrete j i);
      room = omega (arith, kept.room, drop_sum held (blocks_at x) x i refl kept.slots l);
      left = λ j b e. gone j b e (ℕ_discrete j i);
    }
  where
    here : slot_at (drop_item i x).state i ≡ absent
    here = drop_slot x i (let e : length x.slots ≡ size x = kept.slots in omega arith)

    at : (j : ℕ) → j < size x → Dec (j ≡ i) → SlotKept (item_at x.catalog j) (slot_at (drop_item i x).state j)
    at j b (yes e) = rw (ap (slot_at (drop_item i x).state) e ∙ here) (absent_kept (item_at x.catalog j))
    at j b (no e) = rw (drop_other x i j e) (kept.slot j b)

    gone : (j : ℕ) → j < size x → (item_at x.catalog j).left ≡ true → Dec (j ≡ i) → is_held (drop_item i x).state j ≡ false
    gone j b e (yes q) = ap held (ap (slot_at (drop_item i x).state) q ∙ here)
    gone j b e (no q) = ap held (drop_other x i j q) ∙ kept.left j b e

-- second half: the item's mark, and nothing else
pub leave_sum :
    (x : State) (i : ℕ) (w : Slot → Item → ℕ) →
    i < size x →
    ((s : Slot) (y z : Item) → Alike y z → w s y ≡ w s z) →
    sum_to (size (leave i x).state) (λ j. w (slot_at x j) (item_at (leave i x).state.catalog j)) ≡ sum_to (size x) (λ j. w (slot_at x j) (item_at x.catalog j))
leave_sum x i w l same =
    ap (λ (n : ℕ). sum_to n (λ j. w (slot_at x j) (item_at (catalog_next x.catalog (Retire i)) j))) (retired_length x.catalog i)
    ∙ sum_eq (size x) (λ j. w (slot_at x j) (item_at (catalog_next x.catalog (Retire i)) j)) (λ j. w (slot_at x j) (item_at x.catalog j))
    (λ j b. same (slot_at x j) _ _ (retired_alike x.catalog i j l))

slot_alike : (y z : Item) (s : Slot) → Alike y z → SlotKept z s → SlotKept y s
slot_alike y z s a o =
    record {
      whole_load = rw a.blocks o.whole_load;
      whole_write = rw a.blocks o.whole_write;
      load_top = rw a.load o.load_top;
      write_top = rw a.write o.write_top;
    }

pub leave_kept : (k : ℕ) (x : State) (i : ℕ) → Kept k x → i < size x → is_held x i ≡ false → Kept k (leave i x).state
unfolding used
leave_kept k x i kept l none =
    record {
      catalog = retired_ok x.catalog i kept.catalog l;
      slots = kept.slots ∙ sym (retired_length x.catalog i);
      slot = λ j b. slot_alike _ _ (slot_at x j) (retired_alike x.catalog i j l) (kept.slot j (below j b));
      room =
          let e : used (leave i x).state ≡ used x = leave_sum x i (λ (s : Slot) (y : Item). cond (held s) y.blocks 0) l (λ s y z a. ap (λ (n : ℕ). cond (held s) n 0) a.blocks) in
          omega (arith, kept.room);
      left = λ j b e. gone j (below j b) e (ℕ_discrete j i);
    }
  where
    below : (j : ℕ) → j < size (leave i x).state → j < size x
    below j b = omega (arith, retired_length x.catalog i)

    gone : (j : ℕ) → j < size x → (item_at (leave i x).state.catalog j).left ≡ true → Dec (j ≡ i) → is_held x j ≡ false
    gone j b e (yes q) = ap (is_held x) q ∙ none
    gone j b e (no q) = kept.left j b (sym (ap (λ (y : Item). y.left) (retired_other x.catalog i j q)) ∙ e)

-- Room made for a requested item, and then its slot changed to one that is held: this is a read, and this is a write.
request_kept :
    (split : Split) (k i : ℕ) (x : State) (m : Moved) (s : Slot) →
    RoomMade split k i x m →
    Kept k x →
    i < size x →
    SlotKept (item_at m.state.catalog i) s →
    held s ≡ true →
    (item_at x.catalog i).left ≡ false →
    Kept k (put_slot m.state i s)
request_kept split k i x m s room kept l new h present =
    put_kept k m.state i s (room.kept kept) (rw room.catalog l) new h (rw room.catalog present)
    (λ q. let same : (item_at m.state.catalog i).blocks ≡ blocks_at x i = ap (λ (c : Catalog). (item_at c i).blocks) room.catalog in omega (arith, room.free q))

-- the slot of an item just requested is as the rule keeps it
pub requested : (k : ℕ) (y : State) (i : ℕ) → Kept k y → i < size y → SlotKept (item_at y.catalog i) (read_slot y i)
requested k y i kept l =
    read_kept (item_at y.catalog i) (slot_at y i) (blocks_divide (item_at y.catalog i) ((catalog_facts y.catalog kept.catalog).each i l)) (kept.slot i l)

pub step_kept : (split : Split) (k : ℕ) (s : Step) (x : State) → SplitOk split → Kept k x → Served k x.catalog s → Kept k (step split k s x).state
unfolding step
step_kept split k (Read i) x ok kept served =
    let m : Moved = make_room split k i x in
    let room : RoomMade split k i x m = make_room_lem split k i x ok served.0 served.1 in
    request_kept split k i x m (read_slot m.state i) room kept served.0
    (requested k m.state i (room.kept kept) (rw room.catalog served.0))
    (read_held _ (slot_at m.state i)) served.2
step_kept split k (Write i minutes) x ok kept served =
    let m : Moved = make_room split k i x in
    let it : Item = item_at m.state.catalog i in
    let room : RoomMade split k i x m = make_room_lem split k i x ok served.0 served.1 in
    let l : i < size m.state = rw room.catalog served.0 in
    request_kept split k i x m (written (full it.write) (read_slot m.state i)) room kept served.0
    (write_kept it (read_slot m.state i) (blocks_divide it ((catalog_facts m.state.catalog (room.kept kept).catalog).each i l)) (requested k m.state i (room.kept kept) l))
    (write_held _ (read_slot m.state i) ∙ read_held _ (slot_at m.state i)) served.2
step_kept split k Flush x ok kept served = flush_keeps k x kept
step_kept split k (Arrive i b l w) x ok kept served = grown_kept k x (listed b l w) kept (item_facts (listed b l w) served.2) served.1
step_kept split k (Retire i) x ok kept served =
    leave_kept k (drop_item i x).state i (drop_kept k x i kept served.0) (rw (drop_catalog x i) served.0)
    (ap held (drop_slot x i (omega (arith, kept.slots, served.0))))

pub step_catalog : (split : Split) (k : ℕ) (s : Step) (x : State) → SplitOk split → Served k x.catalog s → (step split k s x).state.catalog ≡ catalog_next x.catalog s
unfolding step
step_catalog split k (Read i) x ok served = (make_room_lem split k i x ok served.0 served.1).catalog
step_catalog split k (Write i minutes) x ok served = (make_room_lem split k i x ok served.0 served.1).catalog
step_catalog split k Flush x ok served = flush_catalog x
step_catalog split k (Arrive i b l w) x ok served = refl
step_catalog split k (Retire i) x ok served = ap (λ (c : Catalog). catalog_next c (Retire i)) (drop_catalog x i)

-- a catalog in range stays so
pub next_ok : (k : ℕ) (cat : Catalog) (s : Step) → CatalogOk cat → Served k cat s → CatalogOk (catalog_next cat s)
next_ok k cat (Read i) ok served = ok
next_ok k cat (Write i minutes) ok served = ok
next_ok k cat Flush ok served = ok
next_ok k cat (Arrive i b l w) ok served = arrived_ok cat (listed b l w) ok (item_facts (listed b l w) served.2) served.1
next_ok k cat (Retire i) ok served = retired_ok cat i ok served.0

-- the empty cache
pub empty_kept : (k : ℕ) (cat : Catalog) → CatalogOk cat → Kept k (emptied cat)
unfolding used
empty_kept k cat ok =
    record {
      catalog = ok;
      slots = tab_length (length cat) _;
      slot = λ i l. rw (tab_at (length cat) (λ j. absent) i absent l) (absent_kept (item_at cat i));
      room = let e : used (emptied cat) ≡ 0 = sum_zero (length cat) _ (λ i l. rw (tab_at (length cat) (λ j. absent) i absent l)) in omega arith;
      left = λ i l e. ap held (tab_at (length cat) (λ j. absent) i absent l);
    }
