-- An item comes in: it is held with a key, its blocks are used, and the heap has it. Assumes nothing.
use mathlib.Core.Path.{◌≡◌, sym, ap, subst, ◌∙◌}
use mathlib.Core.Logic.{◌≢◌}
use mathlib.Core.Bool.{Bool, true, false, cond, false≢true}
use mathlib.Core.List.{List}
use Prim.Native.Nat.{ℕ, suc, ◌+◌, ◌/◌, ◌<◌}
use native.Mathlib.Decide.{ℕ_discrete, dec_lt}
use native.Mathlib.Omega.{arith}
use lib.ListN.{length, get_or, set, get_or-eq_default}
use lib.Seq.{get_or-set_same, get_or-set_other}
use Rattle.landlord.specs.Fold.{sum_to, tab}
use Rattle.landlord.specs.Slot.{Slot, clean}
use Rattle.landlord.proofs.Sums.{sum_change}
use Rattle.landlord.proofs.Folds.{tab_set}
use Rattle.queue.specs.Queue.{reckoned}
use Rattle.heap.specs.Heap.{heap_of, weight_at, Contains, Ordered}
use Rattle.heap.specs.InnerMoves.{Roomy, Inserted}
use Rattle.heap.proofs.Uses.{other_key}
use Rattle.heap.proofs.Pigeons.{not_full}
use Rattle.cache_state.specs.Cache.{Cache, dirty_at, held_at, held_items, held_blocks, heap_at, slot_of, catalog_of, slots_of, keys_of, uses_of, lazy, Emptied, Blank, Normal}
use Rattle.cache_state.specs.InnerView.{slot_from, queue_of}
use Rattle.cache_state.specs.InnerBecomes.{Becomes}
use Rattle.cache_state.specs.InnerWith.{with_held, with_load_credit, with_used, with_key, with_arrangement}
use Rattle.cache_state.proofs.Views.{blocks_is}
use Rattle.layout.specs.Layout.{cache_of}
use Rattle.layout.specs.Inner.{Stands}
use Rattle.layout.proofs.Rounds.{whole}
use Rattle.layout.proofs.Places.{readable}
use Rattle.cache_heap.specs.Inner.{RoomyAt, InsertedAt}
use Rattle.cache_room.specs.Inner.{requeued}
use Rattle.cache_serve.specs.InnerStores.{entered_of, EnteredAt}
use Rattle.cache_serve.specs.InnerReady.{EnterableAt}

-- what is known of the lists of a cache by their types
pub record EnterSizes (c : Cache) : Type 0 where
  pub held : length c.held ≡ 256
  pub load : length c.loadcredit ≡ 256
  pub keys : length c.keys ≡ 256

module _
    (c : Cache) (i credit key : ℕ) (hs ps : List ℕ) (sizes : EnterSizes c) (ok : Normal c) (l : i < c.n) (unheld : held_at c i ≡ false) where
  abbrev entered : Cache
  entered = entered_of c i credit key hs ps

  small : i < 256
  small = omega (arith, ok.few)

  now_held : held_at entered i ≡ true
  now_held = get_or-set_same c.held i true false (omega (arith, sizes.held, small))

  other_held : (j : ℕ) → j ≢ i → held_at entered j ≡ held_at c j
  other_held j e = get_or-set_other c.held i j true false e

  key_kept : (j : ℕ) → j ≢ i → get_or entered.keys j 0 ≡ get_or c.keys j 0
  key_kept j e = get_or-set_other c.keys i j key 0 e

  load_kept : (j : ℕ) → j ≢ i → get_or entered.loadcredit j 0 ≡ get_or c.loadcredit j 0
  load_kept j e = get_or-set_other c.loadcredit i j credit 0 e

  slot_here : slot_of entered i ≡ clean credit
  slot_here =
      λ z.
      slot_from (now_held z) ((ok.absent i l unheld).dirty z) (get_or-set_same c.loadcredit i credit 0 (omega (arith, sizes.load, small)) z) (get_or c.writecredit i 0)

  slots_after : slots_of entered ≡ set (slots_of c) i (clean credit)
  unfolding slots_of
  slots_after =
      sym (ap (λ (s : Slot). set (tab c.n (slot_of c)) i s) (sym slot_here)
      ∙ tab_set c.n (slot_of c) (slot_of entered) i l
      (λ j b e. sym (λ z. slot_from (other_held j e z) (dirty_at c j) (load_kept j e z) (get_or c.writecredit j 0))))

  keys_after : keys_of entered ≡ set (keys_of c) i key
  unfolding keys_of
  keys_after =
      sym (ap (λ (x : ℕ). set (tab c.n (λ j. get_or c.keys j 0)) i x) (sym (get_or-set_same c.keys i key 0 (omega (arith, sizes.keys, small))))
      ∙ tab_set c.n (λ j. get_or c.keys j 0) (λ j. get_or entered.keys j 0) i l (λ j b e. sym (key_kept j e)))

  lazy_after : key ≡ c.level + credit / get_or c.blocks i 0 → lazy entered ≡ requeued (lazy c) (reckoned (queue_of c) i (clean credit))
  unfolding catalog_of uses_of
  lazy_after e =
      (λ z. requeued (lazy c) (record { catalog = catalog_of c; slots = slots_after z; keys = keys_after z; level = c.level }))
      ∙ ap (λ (x : ℕ). requeued (lazy c) (record { catalog = catalog_of c; slots = set (slots_of c) i (clean credit); keys = set (keys_of c) i x; level = c.level }))
      (e ∙ (λ z. c.level + plus z / sym (blocks_is c i l) z))
    where
      plus : credit ≡ credit + 0
      plus = omega arith

  count_after : held_items entered ≡ suc (held_items c)
  unfolding held_items
  count_after =
      let e : sum_to 256 (λ j. cond (held_at entered j) 1 0) + cond (held_at c i) 1 0 ≡ sum_to 256 (λ j. cond (held_at c j) 1 0) + cond (held_at entered i) 1 0 =
      sum_change 256 i (λ j. cond (held_at entered j) 1 0) (λ j. cond (held_at c j) 1 0) small (λ j b d. ap (λ (t : Bool). cond t 1 0) (other_held j d))
      in
      omega (arith, ap {B = ℕ} (λ (t : Bool). cond t 1 0) unheld, ap {B = ℕ} (λ (t : Bool). cond t 1 0) now_held)

  blocks_after : held_blocks entered ≡ held_blocks c + get_or c.blocks i 0
  unfolding held_blocks
  blocks_after =
      let e :
      sum_to 256 (λ j. cond (held_at entered j) (get_or c.blocks j 0) 0) + cond (held_at c i) (get_or c.blocks i 0) 0
      ≡ sum_to 256 (λ j. cond (held_at c j) (get_or c.blocks j 0) 0) + cond (held_at entered i) (get_or c.blocks i 0) 0 =
      sum_change 256 i (λ j. cond (held_at entered j) (get_or c.blocks j 0) 0) (λ j. cond (held_at c j) (get_or c.blocks j 0) 0) small
      (λ j b d. ap (λ (t : Bool). cond t (get_or c.blocks j 0) 0) (other_held j d))
      in
      omega (arith, ap (λ (t : Bool). cond t (get_or c.blocks i 0) 0) unheld, ap (λ (t : Bool). cond t (get_or c.blocks i 0) 0) now_held)

  -- the heap before, by the new keys
  order_before : Ordered (weight_at entered.keys (heap_at c)) (held_items c)
  order_before =
      other_key c.keys entered.keys (held_at c) (heap_at c) ok.heap
      (λ j h. key_kept j (λ e. false≢true (sym unheld ∙ ap (held_at c) (sym e) ∙ h))) ok.order

  pub roomy : ((j : ℕ) → get_or c.heap j 0 < 256) → Roomy (set c.keys i key) (heap_at c)
  roomy bytes = record { room = not_full (held_at c) (heap_at c) i ok.heap bytes small unheld; ordered = order_before }

  module _ (put : Inserted (set c.keys i key) (heap_at c) i (heap_of hs ps (suc (held_items c)))) where
    contains_after : Contains (held_at entered) (heap_at entered)
    contains_after =
        subst (λ (k : ℕ). Contains (held_at entered) (heap_of hs ps k)) (sym count_after)
        (put.contains (held_at c) (held_at entered) ok.heap unheld (record { here = now_held; rest = other_held }))

    order_after : Ordered (weight_at entered.keys (heap_at entered)) (heap_at entered).size
    order_after = subst (λ (k : ℕ). Ordered (weight_at (set c.keys i key) (heap_of hs ps k)) k) (sym count_after) put.ordered

    entered_normal : Normal entered
    entered_normal =
        record {
          few = ok.few;
          past =
              λ j b s.
              let x : Blank c j = ok.past j b s in
              let e : j ≢ i = λ q. omega arith in
              record {
                place =
                    record {
                      held = other_held j e ∙ x.place.held;
                      slot = emptied j e x.place.slot;
                      minutes = x.place.minutes;
                      loads = x.place.loads;
                      writebacks = x.place.writebacks;
                    };
                blocks = x.blocks;
                load = x.load;
                write = x.write;
                left = x.left;
              };
          absent = λ j b h. empty j b h (ℕ_discrete j i);
          clean = ok.clean;
          heap = contains_after;
          order = order_after;
          used = omega (arith, ok.used, blocks_after);
        }
      where
        emptied : (j : ℕ) → j ≢ i → Emptied c j → Emptied entered j
        emptied j e x =
            record {
              dirty = x.dirty;
              load_credit = load_kept j e ∙ x.load_credit;
              write_credit = x.write_credit;
              key = key_kept j e ∙ x.key;
            }

        empty : (j : ℕ) → j < c.n → held_at entered j ≡ false → Dec (j ≡ i) → Emptied entered j
        empty j b h (yes e) = absurd (false≢true (sym h ∙ ap (held_at entered) e ∙ now_held))
        empty j b h (no e) = emptied j e (ok.absent j b (sym (other_held j e) ∙ h))

    pub entered_becomes : key ≡ c.level + credit / get_or c.blocks i 0 → Becomes (requeued (lazy c) (reckoned (queue_of c) i (clean credit))) entered
    entered_becomes e = record { stands = lazy_after e; fields = entered_normal }

-- only numbers of items stand in the heap
held_small : (c : Cache) (i : ℕ) → length c.held ≡ 256 → held_at c i ≡ true → i < 256
held_small c i e h = go (dec_lt i 256)
  where
    go : Dec (i < 256) → i < 256
    go (yes b) = b
    go (no b) = absurd (false≢true (sym (get_or-eq_default c.held false (omega arith)) ∙ h))

heap_small : (c : Cache) → length c.held ≡ 256 → Normal c → (j : ℕ) → get_or c.heap j 0 < 256
heap_small c e ok j = go (dec_lt j (held_items c))
  where
    go : Dec (j < held_items c) → get_or c.heap j 0 < 256
    go (yes l) = held_small c (get_or c.heap j 0) e (ok.heap.only j l)
    go (no l) = let z : get_or c.heap j 0 ≡ 0 = ok.heap.past j (omega arith) in omega arith

pub enter_place : (b : List ℕ) (i credit : ℕ) → EnterableAt b i credit → i < 256
enter_place b i credit p = omega (arith, p.known, p.fields.few)

-- the stores, on the bytes
module _
    (b : List ℕ) (i credit : ℕ) (p : EnterableAt b i credit) (b1 b2 b3 b4 : List ℕ) (n blocks used key : ℕ)
    (en : n ≡ held_items (cache_of b)) (eb : blocks ≡ get_or (cache_of b).blocks i 0) (eu : used ≡ (cache_of b).used)
    (s1 : Stands b1 (with_held (cache_of b) i true)) (s2 : Stands b2 (with_load_credit (cache_of b1) i credit))
    (s3 : Stands b3 (with_used (cache_of b2) (used + blocks))) (s4 : Stands b4 (with_key (cache_of b3) i key)) where
  sizes : EnterSizes (cache_of b)
  sizes = record { held = (whole b).held; load = (whole b).loadcredit; keys = (whole b).keys }

  before : cache_of b4 ≡ entered_of (cache_of b) i credit key (cache_of b).heap (cache_of b).places
  before =
      s4.cache
      ∙ ap (λ (q : Cache). with_key q i key)
      (s3.cache
      ∙ ap (λ (q : Cache). with_used q (used + blocks)) (s2.cache ∙ ap (λ (q : Cache). with_load_credit q i credit) s1.cache))
      ∙ (λ z. entered_of' (eu z + eb z))
    where
      entered_of' : ℕ → Cache
      entered_of' u = with_key (with_used (with_load_credit (with_held (cache_of b) i true) i credit) u) i key

  pub enter_roomy : RoomyAt b4 n i
  enter_roomy =
      record {
        reads = readable s4;
        known = omega (arith, p.known, p.fields.few);
        roomy =
            subst (λ (q : Cache). Roomy q.keys (heap_of q.heap q.places n)) (sym before)
            (subst (λ (m : ℕ). Roomy (set (cache_of b).keys i key) (heap_of (cache_of b).heap (cache_of b).places m)) (sym en)
            (roomy (cache_of b) i credit key (cache_of b).heap (cache_of b).places sizes p.fields p.known p.unheld (heap_small (cache_of b) (whole b).held p.fields)));
      }

  pub entered_at : (next : List ℕ) → key ≡ (cache_of b).level + credit / blocks → InsertedAt b4 n i next → EnteredAt b i credit next
  entered_at next ek s5 =
      record {
        reads = s5.only.reads;
        becomes =
            subst (Becomes (requeued (lazy (cache_of b)) (reckoned (queue_of (cache_of b)) i (clean credit)))) (sym fields)
            (entered_becomes (cache_of b) i credit key (cache_of next).heap (cache_of next).places sizes p.fields p.known p.unheld put
            (ek ∙ ap (λ (s : ℕ). (cache_of b).level + credit / s) eb));
      }
    where
      fields : cache_of next ≡ entered_of (cache_of b) i credit key (cache_of next).heap (cache_of next).places
      fields = s5.only.rest ∙ ap (λ (q : Cache). with_arrangement q (cache_of next).heap (cache_of next).places) before

      put : Inserted (set (cache_of b).keys i key) (heap_at (cache_of b)) i (heap_of (cache_of next).heap (cache_of next).places (suc (held_items (cache_of b))))
      put =
          subst (λ (m : ℕ). Inserted (set (cache_of b).keys i key) (heap_of (cache_of b).heap (cache_of b).places m) i (heap_of (cache_of next).heap (cache_of next).places (suc m))) en
          (subst (λ (q : Cache). Inserted q.keys (heap_of q.heap q.places n) i (heap_of (cache_of next).heap (cache_of next).places (suc n))) before s5.inserted)
