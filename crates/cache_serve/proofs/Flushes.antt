-- A flush of the queue, item by item: the lowest dirty item is reckoned without its write credit, and then the rest. Assumes nothing.
use mathlib.Core.Path.{◌≡◌, refl, sym, ap, ◌∙◌}
use mathlib.Core.Logic.{◌≢◌}
use mathlib.Core.Bool.{Bool, true, false, cond}
use mathlib.Core.List.{[], ◌∷◌, ◌++◌}
use Prim.Native.Nat.{ℕ, zero, suc, ◌<◌}
use native.Mathlib.Decide.{ℕ_discrete}
use native.Mathlib.Omega.{arith}
use lib.ListN.{length}
use lib.Seq.{get_or-set_same, get_or-set_other}
use Rattle.landlord.specs.Fold.{fold}
use Rattle.landlord.specs.Slot.{Split, absent, is_dirty, flushed}
use Rattle.landlord.specs.Rule.{wrote_back, write_backs}
use Rattle.landlord.proofs.Folds.{tab_eq, tab_of}
use Rattle.landlord.proofs.Slots.{flush_clean}
use Rattle.queue.specs.Queue.{Queue, stored_at, key_at, blocks_of, now_at, slot_now, key_now, reckoned}
use Rattle.queue.specs.Machine.{LazyStanding, MovedIn, stay_in, joined_in, moved_in, landed_slot, landed_key, flush_in}

-- none is due
backs_none : (n : ℕ) (is_due : ℕ → Bool) → ((j : ℕ) → j < n → is_due j ≡ false) → write_backs n is_due ≡ []
unfolding write_backs
backs_none zero is_due h = refl
backs_none (suc n) is_due h =
    λ z. backs_none n is_due (λ j l. h j (omega arith)) z ++ cond (h n (omega arith) z) (wrote_back n ∷ []) []

-- item i is the first that is due: it is written back, and then those that are still due
backs_first :
    (n i : ℕ) (is_due still : ℕ → Bool) →
    i < n →
    is_due i ≡ true →
    still i ≡ false →
    ((j : ℕ) → j < i → is_due j ≡ false) →
    ((j : ℕ) → j ≢ i → is_due j ≡ still j) →
    write_backs n is_due ≡ wrote_back i ∷ write_backs n still
unfolding write_backs
backs_first zero i is_due still l due done none others = absurd (let z : i < 0 = l in omega arith)
backs_first (suc n) i is_due still l due done none others =
    go (ℕ_discrete i n) (λ m. backs_first n i is_due still m due done none others)
  where
    go :
        Dec (i ≡ n) →
        (i < n → write_backs n is_due ≡ wrote_back i ∷ write_backs n still) →
        write_backs (suc n) is_due ≡ wrote_back i ∷ write_backs (suc n) still
    go (yes e) below =
        let due-n : is_due n ≡ true = ap is_due (sym e) ∙ due in
        let done-n : still n ≡ false = ap still (sym e) ∙ done in
        let before : write_backs n is_due ≡ [] = backs_none n is_due (λ j m. none j (omega arith)) in
        let after : write_backs n still ≡ [] = backs_none n still (λ j m. sym (others j (omega arith)) ∙ none j (omega arith)) in
        (λ z. before z ++ cond (due-n z) (wrote_back (sym e z) ∷ []) [])
        ∙ sym (λ z. wrote_back i ∷ (after z ++ cond (done-n z) (wrote_back n ∷ []) []))
    go (no e) below = λ z. below (omega arith) z ++ cond (others n (omega arith) z) (wrote_back n ∷ []) []

-- one writeback
abbrev pub back_one : Split → ℕ → Queue → MovedIn
back_one split i q = record { queue = reckoned q i (flushed (now_at split q i)); events = wrote_back i ∷ [] }

-- the whole of it, from where the lazy form stands
abbrev pub flush_from : LazyStanding → LazyStanding
flush_from v = moved_in v (flush_in v.split v.queue) v.closed

module _ (split : Split) (q : Queue) (slots : length q.slots ≡ length q.catalog) (keys : length q.keys ≡ length q.catalog) where
  -- a flush begins with the lowest dirty item, and goes on with the rest
  module _ (i : ℕ) (l : i < length q.catalog) (due : is_dirty (stored_at q i) ≡ true) where
    abbrev y : Queue
    y = reckoned q i (flushed (now_at split q i))

    here : stored_at y i ≡ flushed (now_at split q i)
    here = get_or-set_same q.slots i (flushed (now_at split q i)) absent (omega arith)

    key_here : key_at y i ≡ key_now (blocks_of q i) q.level (flushed (now_at split q i))
    key_here = get_or-set_same q.keys i (key_now (blocks_of q i) q.level (flushed (now_at split q i))) 0 (omega arith)

    done : is_dirty (stored_at y i) ≡ false
    done = ap is_dirty here ∙ flush_clean (now_at split q i)

    there : (j : ℕ) → j ≢ i → stored_at y j ≡ stored_at q j
    there j e = get_or-set_other q.slots i j (flushed (now_at split q i)) absent e

    key_there : (j : ℕ) → j ≢ i → key_at y j ≡ key_at q j
    key_there j e = get_or-set_other q.keys i j (key_now (blocks_of q i) q.level (flushed (now_at split q i))) 0 e

    slot_same : (j : ℕ) → Dec (j ≡ i) → landed_slot split q j ≡ landed_slot split y j
    slot_same j (yes e) =
        ap (landed_slot split q) e
        ∙ ap (λ (t : Bool). cond t (flushed (now_at split q i)) (stored_at q i)) due
        ∙ sym here
        ∙ sym (ap (λ (t : Bool). cond t (flushed (now_at split y i)) (stored_at y i)) done)
        ∙ ap (landed_slot split y) (sym e)
    slot_same j (no e) =
        sym (λ z. cond (is_dirty (there j e z)) (flushed (slot_now split (blocks_of q j) q.level (key_there j e z) (there j e z))) (there j e z))

    key_same : (j : ℕ) → Dec (j ≡ i) → landed_key split q j ≡ landed_key split y j
    key_same j (yes e) =
        ap (landed_key split q) e
        ∙ ap (λ (t : Bool). cond t (key_now (blocks_of q i) q.level (flushed (now_at split q i))) (key_at q i)) due
        ∙ sym key_here
        ∙ sym (ap (λ (t : Bool). cond t (key_now (blocks_of q i) q.level (flushed (now_at split y i))) (key_at y i)) done)
        ∙ ap (landed_key split y) (sym e)
    key_same j (no e) =
        sym (λ z.
        cond (is_dirty (there j e z))
        (key_now (blocks_of q j) q.level (flushed (slot_now split (blocks_of q j) q.level (key_there j e z) (there j e z)))) (key_there j e z))

    pub flush_first :
        ((j : ℕ) → j < i → is_dirty (stored_at q j) ≡ false) →
        flush_in split q ≡ joined_in (back_one split i q) (flush_in split (back_one split i q).queue)
    unfolding flush_in
    flush_first none =
        λ z.
        record {
          queue =
              record {
                catalog = q.catalog;
                slots = tab_eq (length q.catalog) (landed_slot split q) (landed_slot split y) (λ j b. slot_same j (ℕ_discrete j i)) z;
                keys = tab_eq (length q.catalog) (landed_key split q) (landed_key split y) (λ j b. key_same j (ℕ_discrete j i)) z;
                level = q.level;
              };
          events =
              backs_first (length q.catalog) i (λ j. is_dirty (stored_at q j)) (λ j. is_dirty (stored_at y j)) l due done none
              (λ j e. sym (ap is_dirty (there j e))) z;
        }

  -- with no dirty item a flush changes nothing
  pub flush_none : ((j : ℕ) → j < length q.catalog → is_dirty (stored_at q j) ≡ false) → flush_in split q ≡ stay_in q
  unfolding flush_in
  flush_none none =
      λ z.
      record {
        queue =
            record {
              catalog = q.catalog;
              slots =
                  sym (tab_of q.slots (length q.catalog) (landed_slot split q) absent slots
                  (λ j l. sym (ap (λ (t : Bool). cond t (flushed (now_at split q j)) (stored_at q j)) (none j l)))) z;
              keys =
                  sym (tab_of q.keys (length q.catalog) (landed_key split q) 0 keys
                  (λ j l. sym (ap (λ (t : Bool). cond t (key_now (blocks_of q j) q.level (flushed (now_at split q j))) (key_at q j)) (none j l)))) z;
              level = q.level;
            };
        events = backs_none (length q.catalog) (λ j. is_dirty (stored_at q j)) none z;
      }

-- the same of where the lazy form stands
module _ (v : LazyStanding) (slots : length v.queue.slots ≡ length v.queue.catalog) (keys : length v.queue.keys ≡ length v.queue.catalog) where
  pub from_first :
      (i : ℕ) →
      i < length v.queue.catalog →
      is_dirty (stored_at v.queue i) ≡ true →
      ((j : ℕ) → j < i → is_dirty (stored_at v.queue j) ≡ false) →
      flush_from (moved_in v (back_one v.split i v.queue) v.closed) ≡ flush_from v
  unfolding fold
  from_first i l due none = sym (ap (λ (m : MovedIn). moved_in v m v.closed) (flush_first v.split v.queue slots keys i l due none))

  pub from_none : ((j : ℕ) → j < length v.queue.catalog → is_dirty (stored_at v.queue j) ≡ false) → flush_from v ≡ v
  unfolding fold
  from_none none = ap (λ (m : MovedIn). moved_in v m v.closed) (flush_none v.split v.queue slots keys none)
