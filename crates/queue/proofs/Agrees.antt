-- The queue's form and the plain rule agree: the item that goes, the state after it goes, and the state after a slot is reckoned
-- anew, for every split whose losses may be taken in one sum. Assumes nothing.
use mathlib.Core.Path.{◌≡◌, refl, sym, ap, ◌∙◌}
use mathlib.Core.Bool.{true, false, cond, false≢true}
use mathlib.Core.List.{[], ◌∷◌, ◌++◌}
use Prim.Native.Nat.{ℕ, suc, ◌+◌, ◌*◌, ◌-◌, ◌/◌, ◌≤◌, ◌<◌}
use native.Mathlib.Decide.{ℕ_discrete, dec_lt}
use native.Mathlib.Omega.{arith}
use lib.Dec.{eqb}
use borrow.Author.Tests.{eq-eqb, ne_eqb}
use lib.ListN.{length, get_or, set, length-set, get_or-eq_default}
use lib.Seq.{get_or-set_same, get_or-set_other}
use Rattle.landlord.specs.Fold.{tab}
use Rattle.types.specs.declared.Step.TheVariants.{Arrive, Retire}
use Rattle.landlord.specs.Catalog.{Item, CatalogOk, item_at, listed, catalog_next}
use Rattle.landlord.proofs.Catalogs.{padded, one_longer, below_more, arrived_other, Alike, retired_length, retired_alike}
use Rattle.landlord.proofs.Ranges.{catalog_facts}
use Rattle.landlord.specs.Slot.{Split, Slot, absent, held, load_credit, write_credit, lose}
use Rattle.landlord.specs.Rule.{State, size, slot_at, rank, precedence, victim, evict_item, put_slot}
use Rattle.landlord.specs.Claims.{SplitOk, SlotKept, Least}
use Rattle.landlord.proofs.Folds.{tab_at, tab_eq, tab_set, tab_more, Best, nobody, somebody, best_is}
use Rattle.landlord.proofs.Slots.{absent_kept}
use Rattle.queue.specs.Queue.{key_now, slot_now, KeyOk, SplitAdds, Queue, stored_at, key_at, blocks_of, precedence_in, now_at, plain, dropped, reckoned, removed, longer, marked_left, QueueOk, First}
use Rattle.queue.proofs.Losses.{now_held, now_worth, now_later, fresh, fresh_ok}

-- what the rule keeps of a slot goes by the item's three values
slot_alike : (y z : Item) (s : Slot) → Alike y z → SlotKept z s → SlotKept y s
slot_alike y z s a o =
    record {
      whole_load = rw a.blocks o.whole_load;
      whole_write = rw a.blocks o.whole_write;
      load_top = rw a.load o.load_top;
      write_top = rw a.write o.write_top;
    }

-- there is only one such item, and the rule's victim is it
pub victim_of : (x : State) (v : ℕ) → Least x v → victim x ≡ v
unfolding victim
victim_of x v low = go (best_is (size x) (λ i. held (slot_at x i)) (precedence x) (size x) (omega arith))
  where
    only :
        (w : ℕ) → w < size x → held (slot_at x w) ≡ true → ((i : ℕ) → i < size x → held (slot_at x i) ≡ true → precedence x w ≤ precedence x i) →
        ((i : ℕ) → i < w → held (slot_at x i) ≡ true → precedence x w < precedence x i) → Dec (w < v) → Dec (v < w) → w ≡ v
    only w l h least first (yes a) d = absurd (let z : precedence x v < precedence x w = low.first w a h in let y : precedence x w ≤ precedence x v = least v low.below low.is_held in omega arith)
    only w l h least first (no a) (yes b) = absurd (let z : precedence x w < precedence x v = first v b low.is_held in let y : precedence x v ≤ precedence x w = low.least w l h in omega arith)
    only w l h least first (no a) (no b) = omega arith

    go : Best (size x) (size x) (λ i. held (slot_at x i)) (precedence x) (victim x) → victim x ≡ v
    go (nobody e h) = absurd (false≢true (sym (h v low.below) ∙ low.is_held))
    go (somebody l h least first) = only (victim x) l h least first (dec_lt (victim x) v) (dec_lt v (victim x))

module _ (split : Split) (ok : SplitOk split) (adds : SplitAdds split) (q : Queue) (cat : CatalogOk q.catalog) (good : QueueOk q) where
  abbrev n : ℕ
  n = length q.catalog

  abbrev x : State
  x = plain split q

  pub plain_slot : (i : ℕ) → i < n → slot_at x i ≡ now_at split q i
  plain_slot i l = tab_at n (now_at split q) i absent l

  some : (i : ℕ) → i < n → 1 ≤ blocks_of q i
  some i l = ((catalog_facts q.catalog cat).each i l).some

  pub plain_held : (i : ℕ) → i < n → held (slot_at x i) ≡ held (stored_at q i)
  plain_held i l =
      ap held (plain_slot i l)
      ∙ now_held split ok adds (item_at q.catalog i) (some i l) q.level (key_at q i) (stored_at q i) (good.slot i l)

  -- the rank of a held item is its key less the level
  pub rank_is : (i : ℕ) → i < n → held (stored_at q i) ≡ true → rank x i ≡ key_at q i - q.level
  rank_is i l h =
      ap (λ (s : Slot). (load_credit s + write_credit s) / blocks_of q i) (plain_slot i l)
      ∙ now_worth split ok adds (item_at q.catalog i) (some i l) q.level (key_at q i) (stored_at q i) (good.slot i l) h (good.key i l h)

  -- the precedence of a held item is that of its key, less that of the level
  pub order_is : (i : ℕ) → i < n → held (stored_at q i) ≡ true → precedence x i ≡ precedence_in q i - q.level
  unfolding precedence
  order_is i l h = rank_is i l h

  pub order_reach : (i : ℕ) → i < n → held (stored_at q i) ≡ true → q.level ≤ precedence_in q i
  order_reach i l h = (good.key i l h).within

  pub order_key : (v i : ℕ) → precedence_in q v ≤ precedence_in q i → key_at q v ≤ key_at q i
  order_key v i l = l

  module _ (v : ℕ) (first : First q v) where
    hv : v < n
    hv = first.below

    -- "one level rises by the value dropped": to the key of the item that goes is by what a block of it is worth
    pub level_rises : (dropped q v).level ≡ q.level + rank x v
    level_rises = omega (arith, rank_is v hv first.is_held, (good.key v hv first.is_held).within)

    -- so the item of least key is the victim
    pub first_least : Least x v
    first_least =
        record {
          below = first.below;
          is_held = plain_held v hv ∙ first.is_held;
          least =
              λ i l h. let m : held (stored_at q i) ≡ true = sym (plain_held i l) ∙ h in
              omega (arith, order_is i l m, order_is v hv first.is_held, first.least i l m);
          first =
              λ i l h. let b : i < n = omega (arith, first.below) in
              let m : held (stored_at q i) ≡ true = sym (plain_held i b) ∙ h in
              omega (arith, order_is i b m, order_is v hv first.is_held, first.first i l m, order_reach v hv first.is_held);
        }

    pub first_victim : victim x ≡ v
    first_victim = victim_of x v first_least

    -- and to drop it and raise the level is to evict it, the others losing its rank for each block
    pub drop_agrees : plain split (dropped q v) ≡ evict_item split v x
    unfolding evict_item
    drop_agrees =
        λ z.
        record {
          catalog = q.catalog;
          slots = tab_eq n (now_at split (dropped q v)) (λ i. cond (eqb i v) absent (lose split (blocks_of q i) (blocks_of q i * rank x v) (slot_at x i))) (λ i l. each i l (ℕ_discrete i v)) z;
        }
      where
        each :
            (i : ℕ) → i < n → Dec (i ≡ v) →
            now_at split (dropped q v) i ≡ cond (eqb i v) absent (lose split (blocks_of q i) (blocks_of q i * rank x v) (slot_at x i))
        each i l (yes e) =
            let gone : get_or (set q.slots v absent) i absent ≡ absent =
            ap (λ (j : ℕ). get_or (set q.slots v absent) j absent) e ∙ get_or-set_same q.slots v absent absent (omega (arith, good.slots, first.below))
            in
            rw (eq-eqb i v e) (rw gone refl)
        each i l (no e) =
            let up : q.level ≤ key_at q v = (good.key v hv first.is_held).within in
            rw (ne_eqb i v e)
            (rw (get_or-set_other q.slots v i absent absent e, get_or-set_other q.keys v i 0 0 e, plain_slot i l, rank_is v hv first.is_held)
            (now_later split ok adds (item_at q.catalog i) (some i l) q.level (key_at q i) (stored_at q i) (good.slot i l) (key_at q v) (λ h. good.key i l h) up
            (λ h. order_key v i (first.least i l h))))

    pub drop_ok : QueueOk (dropped q v)
    drop_ok =
        record {
          slots = length-set q.slots v absent ∙ good.slots;
          keys = length-set q.keys v 0 ∙ good.keys;
          slot = λ i l. slot i l (ℕ_discrete i v);
          key = λ i l h. key i l h (ℕ_discrete i v);
          unkeyed = λ i l h. unkeyed i l h (ℕ_discrete i v);
        }
      where
        gone : (i : ℕ) → i ≡ v → get_or (set q.slots v absent) i absent ≡ absent
        gone i e = ap (λ (j : ℕ). get_or (set q.slots v absent) j absent) e ∙ get_or-set_same q.slots v absent absent (omega (arith, good.slots, first.below))

        slot : (i : ℕ) → i < n → Dec (i ≡ v) → SlotKept (item_at q.catalog i) (get_or (set q.slots v absent) i absent)
        slot i l (yes e) = rw (gone i e) (absent_kept (item_at q.catalog i))
        slot i l (no e) = rw (get_or-set_other q.slots v i absent absent e) (good.slot i l)

        key :
            (i : ℕ) → i < n → held (get_or (set q.slots v absent) i absent) ≡ true → Dec (i ≡ v) →
            KeyOk (blocks_of q i) (key_at q v) (get_or (set q.keys v 0) i 0) (get_or (set q.slots v absent) i absent)
        key i l h (yes e) = absurd (false≢true (ap held (sym (gone i e)) ∙ h))
        key i l h (no e) =
            let o : get_or (set q.slots v absent) i absent ≡ stored_at q i = get_or-set_other q.slots v i absent absent e in
            let m : held (stored_at q i) ≡ true = ap held (sym o) ∙ h in
            let old : KeyOk (blocks_of q i) q.level (key_at q i) (stored_at q i) = good.key i l m in
            let up : q.level ≤ key_at q v = (good.key v hv first.is_held).within in
            rw (o, get_or-set_other q.keys v i 0 0 e) (record { due = omega (arith, old.due); within = order_key v i (first.least i l m) })

        unkeyed : (i : ℕ) → i < n → held (get_or (set q.slots v absent) i absent) ≡ false → Dec (i ≡ v) → get_or (set q.keys v 0) i 0 ≡ 0
        unkeyed i l h (yes e) = ap (λ (j : ℕ). get_or (set q.keys v 0) j 0) e ∙ get_or-set_same q.keys v 0 0 (omega (arith, good.keys, first.below))
        unkeyed i l h (no e) =
            get_or-set_other q.keys v i 0 0 e ∙ good.unkeyed i l (ap held (sym (get_or-set_other q.slots v i absent absent e)) ∙ h)

  -- a slot reckoned anew
  module _ (i : ℕ) (s : Slot) (l : i < n) (kept : SlotKept (item_at q.catalog i) s) where
    there : (j : ℕ) → j ≡ i → get_or (set q.slots i s) j absent ≡ s
    there j e = ap (λ (k : ℕ). get_or (set q.slots i s) k absent) e ∙ get_or-set_same q.slots i s absent (omega (arith, good.slots))

    keyed : (j : ℕ) → j ≡ i → get_or (set q.keys i (key_now (blocks_of q i) q.level s)) j 0 ≡ key_now (blocks_of q i) q.level s
    keyed j e =
        ap (λ (k : ℕ). get_or (set q.keys i (key_now (blocks_of q i) q.level s)) k 0) e
        ∙ get_or-set_same q.keys i (key_now (blocks_of q i) q.level s) 0 (omega (arith, good.keys))

    pub reckon_agrees : plain split (reckoned q i s) ≡ put_slot x i s
    reckon_agrees =
        λ z. record { catalog = q.catalog; slots = sym store z }
      where
        each : now_at split (reckoned q i s) i ≡ s
        each = rw (there i refl, keyed i refl) (fresh split ok adds (item_at q.catalog i) (some i l) q.level s kept)

        store : set (tab n (now_at split q)) i s ≡ tab n (now_at split (reckoned q i s))
        store =
            ap (λ (t : Slot). set (tab n (now_at split q)) i t) (sym each)
            ∙ tab_set n (now_at split q) (now_at split (reckoned q i s)) i l
            (λ j b e. rw (get_or-set_other q.slots i j s absent e, get_or-set_other q.keys i j (key_now (blocks_of q i) q.level s) 0 e) refl)

    pub reckon_ok : held s ≡ true → QueueOk (reckoned q i s)
    reckon_ok is_held =
        record {
          slots = length-set q.slots i s ∙ good.slots;
          keys = length-set q.keys i (key_now (blocks_of q i) q.level s) ∙ good.keys;
          slot = λ j b. slot j b (ℕ_discrete j i);
          key = λ j b h. key j b h (ℕ_discrete j i);
          unkeyed = λ j b h. unkeyed j b h (ℕ_discrete j i);
        }
      where
        slot : (j : ℕ) → j < n → Dec (j ≡ i) → SlotKept (item_at q.catalog j) (get_or (set q.slots i s) j absent)
        slot j b (yes e) = rw (there j e, e) kept
        slot j b (no e) = rw (get_or-set_other q.slots i j s absent e) (good.slot j b)

        key :
            (j : ℕ) → j < n → held (get_or (set q.slots i s) j absent) ≡ true → Dec (j ≡ i) →
            KeyOk (blocks_of q j) q.level (get_or (set q.keys i (key_now (blocks_of q i) q.level s)) j 0) (get_or (set q.slots i s) j absent)
        key j b h (yes e) = rw (there j e, keyed j e, e) (fresh_ok split ok adds (item_at q.catalog i) (some i l) q.level s)
        key j b h (no e) =
            let o : get_or (set q.slots i s) j absent ≡ stored_at q j = get_or-set_other q.slots i j s absent e in
            rw (o, get_or-set_other q.keys i j (key_now (blocks_of q i) q.level s) 0 e) (good.key j b (ap held (sym o) ∙ h))

        unkeyed :
            (j : ℕ) → j < n → held (get_or (set q.slots i s) j absent) ≡ false → Dec (j ≡ i) →
            get_or (set q.keys i (key_now (blocks_of q i) q.level s)) j 0 ≡ 0
        unkeyed j b h (yes e) = absurd (false≢true (sym h ∙ ap held (there j e) ∙ is_held))
        unkeyed j b h (no e) =
            get_or-set_other q.keys i j (key_now (blocks_of q i) q.level s) 0 e
            ∙ good.unkeyed j b (ap held (sym (get_or-set_other q.slots i j s absent e)) ∙ h)

  -- an item taken out, with no rise: only its slot changes
  module _ (i : ℕ) (l : i < n) where
    empty : (j : ℕ) → j ≡ i → get_or (set q.slots i absent) j absent ≡ absent
    empty j e = ap (λ (k : ℕ). get_or (set q.slots i absent) k absent) e ∙ get_or-set_same q.slots i absent absent (omega (arith, good.slots))

    pub remove_agrees : plain split (removed q i) ≡ put_slot x i absent
    remove_agrees = λ z. record { catalog = q.catalog; slots = sym store z }
      where
        each : now_at split (removed q i) i ≡ absent
        each = rw (empty i refl) refl

        store : set (tab n (now_at split q)) i absent ≡ tab n (now_at split (removed q i))
        store =
            ap (λ (t : Slot). set (tab n (now_at split q)) i t) (sym each)
            ∙ tab_set n (now_at split q) (now_at split (removed q i)) i l
            (λ j b e. rw (get_or-set_other q.slots i j absent absent e, get_or-set_other q.keys i j 0 0 e) refl)

    pub remove_ok : QueueOk (removed q i)
    remove_ok =
        record {
          slots = length-set q.slots i absent ∙ good.slots;
          keys = length-set q.keys i 0 ∙ good.keys;
          slot = λ j b. slot j b (ℕ_discrete j i);
          key = λ j b h. key j b h (ℕ_discrete j i);
          unkeyed = λ j b h. unkeyed j b h (ℕ_discrete j i);
        }
      where
        slot : (j : ℕ) → j < n → Dec (j ≡ i) → SlotKept (item_at q.catalog j) (get_or (set q.slots i absent) j absent)
        slot j b (yes e) = rw (empty j e) (absent_kept (item_at q.catalog j))
        slot j b (no e) = rw (get_or-set_other q.slots i j absent absent e) (good.slot j b)

        key :
            (j : ℕ) → j < n → held (get_or (set q.slots i absent) j absent) ≡ true → Dec (j ≡ i) →
            KeyOk (blocks_of q j) q.level (get_or (set q.keys i 0) j 0) (get_or (set q.slots i absent) j absent)
        key j b h (yes e) = absurd (false≢true (ap held (sym (empty j e)) ∙ h))
        key j b h (no e) =
            let o : get_or (set q.slots i absent) j absent ≡ stored_at q j = get_or-set_other q.slots i j absent absent e in
            rw (o, get_or-set_other q.keys i j 0 0 e) (good.key j b (ap held (sym o) ∙ h))

        unkeyed : (j : ℕ) → j < n → held (get_or (set q.slots i absent) j absent) ≡ false → Dec (j ≡ i) → get_or (set q.keys i 0) j 0 ≡ 0
        unkeyed j b h (yes e) = ap (λ (k : ℕ). get_or (set q.keys i 0) k 0) e ∙ get_or-set_same q.keys i 0 0 (omega (arith, good.keys))
        unkeyed j b h (no e) =
            get_or-set_other q.keys i j 0 0 e ∙ good.unkeyed j b (ap held (sym (get_or-set_other q.slots i j absent absent e)) ∙ h)

    -- the item's mark: no slot and no key changes, for the item keeps its blocks
    same_blocks : (j : ℕ) → blocks_of (marked_left q i) j ≡ blocks_of q j
    same_blocks j = (retired_alike q.catalog i j l).blocks

    pub mark_agrees : plain split (marked_left q i) ≡ record { catalog = catalog_next q.catalog (Retire i); slots = x.slots }
    mark_agrees =
        λ z.
        record {
          catalog = catalog_next q.catalog (Retire i);
          slots =
              (ap (λ (m : ℕ). tab m (now_at split (marked_left q i))) (retired_length q.catalog i)
              ∙ tab_eq n (now_at split (marked_left q i)) (now_at split q) (λ j b y. slot_now split (same_blocks j y) q.level (key_at q j) (stored_at q j))) z;
        }

    pub mark_ok : QueueOk (marked_left q i)
    mark_ok =
        record {
          slots = good.slots ∙ sym (retired_length q.catalog i);
          keys = good.keys ∙ sym (retired_length q.catalog i);
          slot = λ j b. slot_alike _ _ (stored_at q j) (retired_alike q.catalog i j l) (good.slot j (below j b));
          key = λ j b h. rw (same_blocks j) (good.key j (below j b) h);
          unkeyed = λ j b h. good.unkeyed j (below j b) h;
        }
      where
        below : (j : ℕ) → j < length (catalog_next q.catalog (Retire i)) → j < n
        below j b = omega (arith, retired_length q.catalog i)

  -- an arrival: an empty place with key 0 at the end
  module _ (i b l w : ℕ) where
    abbrev more : Queue
    more = longer q (Arrive i b l w)

    abbrev it : Item
    it = listed b l w

    last_empty : stored_at q n ≡ absent
    last_empty = get_or-eq_default q.slots absent (omega (arith, good.slots))

    as_before : (j : ℕ) → j < n → now_at split more j ≡ now_at split q j
    as_before j c z =
        slot_now split (arrived_other q.catalog it j c z).blocks q.level (padded q.keys 0 j z) (padded q.slots absent j z)

    pub arrive_agrees : plain split more ≡ record { catalog = catalog_next q.catalog (Arrive i b l w); slots = x.slots ++ (absent ∷ []) }
    arrive_agrees =
        λ z.
        record {
          catalog = catalog_next q.catalog (Arrive i b l w);
          slots =
              (ap (λ (m : ℕ). tab m (now_at split more)) (one_longer q.catalog it)
              ∙ tab_more n (now_at split more)
              ∙ (λ y. tab_eq n (now_at split more) (now_at split q) as_before y ++ (new y ∷ []))) z;
        }
      where
        new : now_at split more n ≡ absent
        new = rw (padded q.slots absent n ∙ last_empty) refl

    pub arrive_ok : QueueOk more
    arrive_ok =
        record {
          slots = one_longer q.slots absent ∙ ap suc good.slots ∙ sym (one_longer q.catalog it);
          keys = one_longer q.keys 0 ∙ ap suc good.keys ∙ sym (one_longer q.catalog it);
          slot =
              λ j c. at j c (SlotKept (item_at more.catalog j) (stored_at more j))
              (λ d. rw (padded q.slots absent j, arrived_other q.catalog it j d) (good.slot j d))
              (λ e. rw (gone j e) (absent_kept (item_at more.catalog j)));
          key =
              λ j c h. at j c (KeyOk (blocks_of more j) q.level (key_at more j) (stored_at more j))
              (λ d. rw (padded q.slots absent j, padded q.keys 0 j, ap (λ (y : Item). y.blocks) (arrived_other q.catalog it j d))
              (good.key j d (ap held (sym (padded q.slots absent j)) ∙ h)))
              (λ e. absurd (false≢true (ap held (sym (gone j e)) ∙ h)));
          unkeyed =
              λ j c h. at j c (key_at more j ≡ 0) (λ d. padded q.keys 0 j ∙ good.unkeyed j d (ap held (sym (padded q.slots absent j)) ∙ h))
              (λ e. padded q.keys 0 j ∙ get_or-eq_default q.keys 0 (omega (arith, good.keys)));
        }
      where
        at : (j : ℕ) → j < length more.catalog → (P : Type 0) → (j < n → P) → (j ≡ n → P) → P
        at j c P = below_more n j P (omega (arith, one_longer q.catalog it))

        gone : (j : ℕ) → j ≡ n → stored_at more j ≡ absent
        gone j e = ap (stored_at more) e ∙ padded q.slots absent n ∙ last_empty
