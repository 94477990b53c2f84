-- The credits of a held item are reckoned anew: two stores, and the key. Assumes nothing.
use mathlib.Core.Path.{◌≡◌, refl, sym, ap, subst, ◌∙◌}
use mathlib.Core.Logic.{◌≢◌}
use mathlib.Core.Bool.{Bool, true, false, false≢true}
use mathlib.Core.List.{List}
use Prim.Native.Nat.{ℕ, ◌+◌, ◌/◌, ◌<◌}
use native.Mathlib.Decide.{ℕ_discrete}
use native.Mathlib.Omega.{arith}
use lib.ListN.{length, get_or, set}
use lib.Seq.{get_or-set_same, get_or-set_other}
use Rattle.landlord.specs.Fold.{tab}
use Rattle.landlord.specs.Slot.{Slot, load_credit, write_credit}
use Rattle.landlord.proofs.Folds.{tab_set}
use Rattle.queue.specs.Queue.{Queue, reckoned, blocks_of, key_now}
use Rattle.cache_state.specs.Cache.{Cache, dirty_at, held_at, held_items, held_blocks, catalog_of, slot_of, slots_of, keys_of, uses_of, lazy, Emptied, Blank, Normal}
use Rattle.cache_state.specs.InnerView.{queue_of, slot_from}
use Rattle.cache_state.specs.InnerWith.{with_slots, with_load_credit, with_write_credit}
use Rattle.cache_state.proofs.Views.{blocks_is}
use Rattle.layout.specs.Layout.{cache_of}
use Rattle.layout.specs.Inner.{Stands}
use Rattle.layout.proofs.Rounds.{whole}
use Rattle.layout.proofs.Places.{readable}
use Rattle.cache_room.specs.Inner.{requeued, rekeyed, HoldsAt, RekeyedAt, ReckonableAt, ReckonedAt}

-- the two stores
module _
    (c : Cache) (i a w : ℕ) (loads : length c.loadcredit ≡ 256) (writes : length c.writecredit ≡ 256) (ok : Normal c) (l : i < c.n)
    (is_held : held_at c i ≡ true) (clean : dirty_at c i ≡ false → w ≡ 0) where
  abbrev now : Cache
  now = with_slots c c.held (set c.loadcredit i a) (set c.writecredit i w) c.dirty

  other : (j : ℕ) → held_at c j ≡ false → j ≢ i
  other j h = λ e. false≢true (sym h ∙ ap (held_at c) e ∙ is_held)

  emptied : (j : ℕ) → held_at c j ≡ false → Emptied c j → Emptied now j
  emptied j h x =
      record {
        dirty = x.dirty;
        load_credit = get_or-set_other c.loadcredit i j a 0 (other j h) ∙ x.load_credit;
        write_credit = get_or-set_other c.writecredit i j w 0 (other j h) ∙ x.write_credit;
        key = x.key;
      }

  pub credits_normal : Normal now
  unfolding held_items held_blocks
  credits_normal =
      record {
        few = ok.few;
        past =
            λ j b s.
            let x : Blank c j = ok.past j b s in
            record {
              place =
                  record {
                    held = x.place.held;
                    slot = emptied j x.place.held x.place.slot;
                    minutes = x.place.minutes;
                    loads = x.place.loads;
                    writebacks = x.place.writebacks;
                  };
              blocks = x.blocks;
              load = x.load;
              write = x.write;
              left = x.left;
            };
        absent = λ j b h. emptied j h (ok.absent j b h);
        clean = λ j b d. unwritten j b d (ℕ_discrete j i);
        heap = ok.heap;
        order = ok.order;
        used = ok.used;
      }
    where
      unwritten : (j : ℕ) → j < c.n → dirty_at c j ≡ false → Dec (j ≡ i) → get_or now.writecredit j 0 ≡ 0
      unwritten j b d (yes e) =
          ap (λ (k : ℕ). get_or now.writecredit k 0) e ∙ get_or-set_same c.writecredit i w 0 (omega (arith, ok.few)) ∙ clean (ap (dirty_at c) (sym e) ∙ d)
      unwritten j b d (no e) = get_or-set_other c.writecredit i j w 0 e ∙ ok.clean j b d

  slot_here : slot_of now i ≡ slot_from true (dirty_at c i) a w
  slot_here =
      λ z.
      slot_from (is_held z) (dirty_at c i) (get_or-set_same c.loadcredit i a 0 (omega (arith, ok.few)) z)
      (get_or-set_same c.writecredit i w 0 (omega (arith, ok.few)) z)

  slots_after : slots_of now ≡ set (slots_of c) i (slot_from true (dirty_at c i) a w)
  unfolding slots_of
  slots_after =
      sym (ap (λ (s : Slot). set (tab c.n (slot_of c)) i s) (sym slot_here)
      ∙ tab_set c.n (slot_of c) (slot_of now) i l
      (λ j b e. sym (λ z. slot_from (held_at c j) (dirty_at c j) (get_or-set_other c.loadcredit i j a 0 e z) (get_or-set_other c.writecredit i j w 0 e z))))

  -- the queue with the slot so
  abbrev stored : Queue
  stored = record { catalog = catalog_of c; slots = set (slots_of c) i (slot_from true (dirty_at c i) a w); keys = keys_of c; level = c.level }

  pub credits_lazy : lazy now ≡ requeued (lazy c) stored
  unfolding catalog_of keys_of uses_of
  credits_lazy = λ z. requeued (lazy c) (record { catalog = catalog_of c; slots = slots_after z; keys = keys_of c; level = c.level })

  pub same_items : held_items now ≡ held_items c
  unfolding held_items
  same_items = refl

-- the credits of the slot, added up
slot_sum : (d : Bool) (a w : ℕ) → (d ≡ false → w ≡ 0) → load_credit (slot_from true d a w) + write_credit (slot_from true d a w) ≡ a + w
slot_sum true a w f = refl
slot_sum false a w f = omega (arith, f refl)

module _ (b : List ℕ) (i a w : ℕ) (p : ReckonableAt b i a w) (b1 b2 : List ℕ) (s1 : Stands b1 (with_load_credit (cache_of b) i a)) (s2 : Stands b2 (with_write_credit (cache_of b1) i w)) where
  both : cache_of b2 ≡ now (cache_of b) i a w (whole b).loadcredit (whole b).writecredit p.holds.fields p.holds.known p.holds.is_held p.clean
  both = s2.cache ∙ ap (λ (q : Cache). with_write_credit q i w) s1.cache

  pub reckon_holds : HoldsAt b2 i
  reckon_holds =
      record {
        counted =
            record {
              reads = readable s2;
              count =
                  subst (λ (q : Cache). q.evictions + held_items q ≡ q.loads) (sym both)
                  (omega (
                    arith,
                    same_items (cache_of b) i a w (whole b).loadcredit (whole b).writecredit p.holds.fields p.holds.known p.holds.is_held p.clean,
                    p.holds.counted.count,
                  ));
            };
        fields =
            subst Normal (sym both)
            (credits_normal (cache_of b) i a w (whole b).loadcredit (whole b).writecredit p.holds.fields p.holds.known p.holds.is_held p.clean);
        known = subst (λ (q : Cache). i < q.n) (sym both) p.holds.known;
        is_held = subst (λ (q : Cache). held_at q i ≡ true) (sym both) p.holds.is_held;
      }

  pub reckoned_at : (key : ℕ) (next : List ℕ) → key ≡ (cache_of b).level + (a + w) / get_or (cache_of b).blocks i 0 → RekeyedAt b2 i key next → ReckonedAt b i a w next
  reckoned_at key next ek s3 =
      record { reads = s3.reads; becomes = record { stands = s3.becomes.stands ∙ stands; fields = s3.becomes.fields } }
    where
      c : Cache
      c = cache_of b

      before : lazy (cache_of b2) ≡ requeued (lazy c) (stored c i a w (whole b).loadcredit (whole b).writecredit p.holds.fields p.holds.known p.holds.is_held p.clean)
      before = ap lazy both ∙ credits_lazy c i a w (whole b).loadcredit (whole b).writecredit p.holds.fields p.holds.known p.holds.is_held p.clean

      keyed : key ≡ key_now (blocks_of (queue_of c) i) c.level (slot_from true (dirty_at c i) a w)
      keyed = ek ∙ (λ z. c.level + sym (slot_sum (dirty_at c i) a w p.clean) z / sym (blocks_is c i p.holds.known) z)

      stands : requeued (lazy (cache_of b2)) (rekeyed (queue_of (cache_of b2)) i key) ≡ requeued (lazy c) (reckoned (queue_of c) i (slot_from true (dirty_at c i) a w))
      stands = (λ z. requeued (before z) (rekeyed (before z).queue i (keyed z)))
