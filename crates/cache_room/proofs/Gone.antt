-- A held item that goes: it leaves the heap and its slot, and nothing else changes. Assumes nothing.
use mathlib.Core.Path.{◌≡◌, sym, ap, subst, ◌∙◌}
use mathlib.Core.Logic.{◌≢◌}
use mathlib.Core.Bool.{Bool, true, false, cond, false≢true}
use mathlib.Core.List.{List}
use Prim.Native.Nat.{ℕ, ◌+◌, ◌-◌, ◌<◌, ◌≤◌}
use native.Mathlib.Decide.{ℕ_discrete}
use native.Mathlib.Omega.{arith}
use lib.ListN.{length, get_or, set}
use lib.Seq.{get_or-set_same, get_or-set_other}
use Rattle.landlord.specs.Fold.{sum_to, tab}
use Rattle.landlord.specs.Slot.{Slot, absent}
use Rattle.landlord.proofs.Sums.{sum_change, sum_term}
use Rattle.landlord.proofs.Folds.{tab_set}
use Rattle.marks.specs.Inner.{marks}
use Rattle.marks.proofs.Laws.{marked_set_same, marked_set_other}
use Rattle.queue.specs.Queue.{removed}
use Rattle.heap.specs.Heap.{heap_of, place_of, weight_at, Contains, Ordered, Put}
use Rattle.heap.specs.InnerMoves.{Removed, Filled}
use Rattle.heap.proofs.Uses.{other_key}
use Rattle.cache_state.specs.Cache.{Cache, dirty_at, held_at, held_items, held_blocks, heap_at, slot_of, catalog_of, slots_of, keys_of, uses_of, lazy, Emptied, Blank, Normal}
use Rattle.cache_state.specs.InnerView.{slot_from, queue_of}
use Rattle.cache_state.specs.InnerBecomes.{Becomes}
use Rattle.cache_room.specs.Inner.{requeued, gone_of}

-- what is known of the lists of a cache by their types
pub record RoomSizes (c : Cache) : Type 0 where
  pub held : length c.held ≡ 256
  pub load : length c.loadcredit ≡ 256
  pub write : length c.writecredit ≡ 256
  pub keys : length c.keys ≡ 256

module _
    (c : Cache) (v : ℕ) (ws hs ps : List ℕ) (sizes : RoomSizes c) (ok : Normal c) (l : v < c.n) (is_held : held_at c v ≡ true)
    (un : marks ws ≡ set (marks c.dirty) v false) where
  abbrev gone : Cache
  gone = gone_of c v ws hs ps

  v_small : v < 256
  v_small = omega (arith, ok.few)

  unheld : held_at gone v ≡ false
  unheld = get_or-set_same c.held v false false (omega (arith, sizes.held, v_small))

  unmarked : dirty_at gone v ≡ false
  unmarked = marked_set_same c.dirty ws v false un v_small

  no_load : get_or gone.loadcredit v 0 ≡ 0
  no_load = get_or-set_same c.loadcredit v 0 0 (omega (arith, sizes.load, v_small))

  no_write : get_or gone.writecredit v 0 ≡ 0
  no_write = get_or-set_same c.writecredit v 0 0 (omega (arith, sizes.write, v_small))

  no_key : get_or gone.keys v 0 ≡ 0
  no_key = get_or-set_same c.keys v 0 0 (omega (arith, sizes.keys, v_small))

  -- another item keeps its marks, its credits and its key
  other_held : (i : ℕ) → i ≢ v → held_at gone i ≡ held_at c i
  other_held i e = get_or-set_other c.held v i false false e

  other_dirty : (i : ℕ) → i < 256 → i ≢ v → dirty_at gone i ≡ dirty_at c i
  other_dirty i b e = marked_set_other c.dirty ws v false un i b e

  other_load : (i : ℕ) → i ≢ v → get_or gone.loadcredit i 0 ≡ get_or c.loadcredit i 0
  other_load i e = get_or-set_other c.loadcredit v i 0 0 e

  other_write : (i : ℕ) → i ≢ v → get_or gone.writecredit i 0 ≡ get_or c.writecredit i 0
  other_write i e = get_or-set_other c.writecredit v i 0 0 e

  key_kept : (i : ℕ) → i ≢ v → get_or gone.keys i 0 ≡ get_or c.keys i 0
  key_kept i e = get_or-set_other c.keys v i 0 0 e

  slot_gone : slot_of gone v ≡ absent
  slot_gone = ap (λ (h : Bool). slot_from h (dirty_at gone v) (get_or gone.loadcredit v 0) (get_or gone.writecredit v 0)) unheld

  slot_kept : (i : ℕ) → i < c.n → i ≢ v → slot_of c i ≡ slot_of gone i
  slot_kept i b e =
      sym (λ z. slot_from (other_held i e z) (other_dirty i (omega (arith, ok.few)) e z) (other_load i e z) (other_write i e z))

  slots_after : slots_of gone ≡ set (slots_of c) v absent
  unfolding slots_of
  slots_after = sym (ap (λ (s : Slot). set (tab c.n (slot_of c)) v s) (sym slot_gone) ∙ tab_set c.n (slot_of c) (slot_of gone) v l slot_kept)

  keys_after : keys_of gone ≡ set (keys_of c) v 0
  unfolding keys_of
  keys_after =
      sym (ap (λ (x : ℕ). set (tab c.n (λ i. get_or c.keys i 0)) v x) (sym no_key)
      ∙ tab_set c.n (λ i. get_or c.keys i 0) (λ i. get_or gone.keys i 0) v l (λ i b e. sym (key_kept i e)))

  pub lazy_after : lazy gone ≡ requeued (lazy c) (removed (queue_of c) v)
  unfolding catalog_of uses_of
  lazy_after =
      λ z. requeued (lazy c) (record { catalog = catalog_of c; slots = slots_after z; keys = keys_after z; level = c.level })

  -- one item fewer is held, and its blocks are free
  pub count_after : held_items gone + 1 ≡ held_items c
  unfolding held_items
  count_after =
      let e : sum_to 256 (λ i. cond (held_at gone i) 1 0) + cond (held_at c v) 1 0 ≡ sum_to 256 (λ i. cond (held_at c i) 1 0) + cond (held_at gone v) 1 0 =
      sum_change 256 v (λ i. cond (held_at gone i) 1 0) (λ i. cond (held_at c i) 1 0) v_small (λ i b d. ap (λ (t : Bool). cond t 1 0) (other_held i d))
      in
      omega (arith, ap {B = ℕ} (λ (t : Bool). cond t 1 0) is_held, ap {B = ℕ} (λ (t : Bool). cond t 1 0) unheld)

  blocks_after : held_blocks gone + get_or c.blocks v 0 ≡ held_blocks c
  unfolding held_blocks
  blocks_after =
      let e :
      sum_to 256 (λ i. cond (held_at gone i) (get_or c.blocks i 0) 0) + cond (held_at c v) (get_or c.blocks v 0) 0
      ≡ sum_to 256 (λ i. cond (held_at c i) (get_or c.blocks i 0) 0) + cond (held_at gone v) (get_or c.blocks v 0) 0 =
      sum_change 256 v (λ i. cond (held_at gone i) (get_or c.blocks i 0) 0) (λ i. cond (held_at c i) (get_or c.blocks i 0) 0) v_small
      (λ i b d. ap (λ (t : Bool). cond t (get_or c.blocks i 0) 0) (other_held i d))
      in
      omega (arith, ap (λ (t : Bool). cond t (get_or c.blocks v 0) 0) is_held, ap (λ (t : Bool). cond t (get_or c.blocks v 0) 0) unheld)

  -- the item is taken out of the set
  put_out : Put (held_at c) v false (held_at gone)
  put_out = record { here = unheld; rest = other_held }

  -- the heap of the others
  module _ (rem : Removed c.keys (heap_at c) (place_of (heap_at c) v) (heap_of hs ps (held_items c - 1))) where
    size_is : held_items gone ≡ held_items c - 1
    size_is = omega (arith, count_after)

    contains_after : Contains (held_at gone) (heap_at gone)
    contains_after =
        subst (λ (k : ℕ). Contains (held_at gone) (heap_of hs ps k)) (sym size_is)
        (rem.contains (held_at c) (held_at gone) ok.heap
        (subst (λ (w : ℕ). Put (held_at c) w false (held_at gone)) (sym (ok.heap.all v v_small is_held)) put_out))

    order_after : Ordered (weight_at gone.keys (heap_at gone)) (heap_at gone).size
    order_after =
        other_key c.keys gone.keys (held_at gone) (heap_at gone) contains_after
        (λ j h. key_kept j (λ e. false≢true (sym unheld ∙ ap (held_at gone) (sym e) ∙ h)))
        (subst (λ (k : ℕ). Ordered (weight_at c.keys (heap_of hs ps k)) k) (sym size_is) rem.ordered)

    pub gone_normal : Normal gone
    gone_normal =
        record {
          few = ok.few;
          past =
              λ i b s.
              let x : Blank c i = ok.past i b s in
              let e : i ≢ v = λ q. omega arith in
              record {
                place =
                    record {
                      held = other_held i e ∙ x.place.held;
                      slot = emptied i s e x.place.slot;
                      minutes = x.place.minutes;
                      loads = x.place.loads;
                      writebacks = x.place.writebacks;
                    };
                blocks = x.blocks;
                load = x.load;
                write = x.write;
                left = x.left;
              };
          absent = λ i b h. empty i b h (ℕ_discrete i v);
          clean = λ i b d. unwritten i b d (ℕ_discrete i v);
          heap = contains_after;
          order = order_after;
          used = omega (arith, ok.used, blocks_after);
        }
      where
        emptied : (i : ℕ) → i < 256 → i ≢ v → Emptied c i → Emptied gone i
        emptied i b e x =
            record {
              dirty = other_dirty i b e ∙ x.dirty;
              load_credit = other_load i e ∙ x.load_credit;
              write_credit = other_write i e ∙ x.write_credit;
              key = key_kept i e ∙ x.key;
            }

        empty : (i : ℕ) → i < c.n → held_at gone i ≡ false → Dec (i ≡ v) → Emptied gone i
        empty i b h (yes e) = subst (Emptied gone) (sym e) (record { dirty = unmarked; load_credit = no_load; write_credit = no_write; key = no_key })
        empty i b h (no e) = emptied i (omega (arith, ok.few)) e (ok.absent i b (sym (other_held i e) ∙ h))

        unwritten : (i : ℕ) → i < c.n → dirty_at gone i ≡ false → Dec (i ≡ v) → get_or gone.writecredit i 0 ≡ 0
        unwritten i b d (yes e) = ap (λ (j : ℕ). get_or gone.writecredit j 0) e ∙ no_write
        unwritten i b d (no e) = other_write i e ∙ ok.clean i b (sym (other_dirty i (omega (arith, ok.few)) e) ∙ d)

    pub gone_becomes : Becomes (requeued (lazy c) (removed (queue_of c) v)) gone
    gone_becomes = record { stands = lazy_after; fields = gone_normal }

-- what the removal asks for
pub heap_filled : (c : Cache) (v n : ℕ) → Normal c → v < c.n → held_at c v ≡ true → n ≡ held_items c → Filled c.keys (heap_of c.heap c.places n) (place_of (heap_at c) v)
heap_filled c v n ok l h e =
    subst (λ (k : ℕ). Filled c.keys (heap_of c.heap c.places k) (place_of (heap_at c) v)) (sym e)
    (record { here = ok.heap.low v (omega (arith, ok.few)) h; small = ok.heap.small; ordered = ok.order })

-- the blocks of a held item are among those held
pub used_enough : (c : Cache) (v : ℕ) → Normal c → v < c.n → held_at c v ≡ true → get_or c.blocks v 0 ≤ c.used
unfolding held_blocks
used_enough c v ok l h =
    omega (
      arith,
      ok.used,
      sum_term 256 v (λ i. cond (held_at c i) (get_or c.blocks i 0) 0) (omega (arith, ok.few)),
      ap (λ (t : Bool). cond t (get_or c.blocks v 0) 0) h,
    )
