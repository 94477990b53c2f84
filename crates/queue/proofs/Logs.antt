-- Over every log the queue and the plain rule give equal evictions, costs, marks and credits, for every split whose losses may be
-- taken in one sum; and the level stays within its bound. Assumes nothing.
use mathlib.Core.Path.{◌≡◌, refl, sym, ap, ◌∙◌, subst}
use mathlib.Core.Bool.{Bool, true, false, cond, false≢true}
use mathlib.Core.List.{List, [], ◌∷◌, ◌++◌, map}
use Prim.Native.Nat.{ℕ, zero, suc, ◌+◌, ◌*◌, ◌≤◌, ◌<◌}
use native.Mathlib.Decide.{dec_lt}
use native.Mathlib.Omega.{arith}
use lib.Dec.{leb}
use borrow.Author.Tests.{leb-false, le-leb, lt-leb}
use lib.Seq.{get_or-set_same, get_or-set_other}
use lib.ListN.{length}
use Rattle.types.specs.declared.Step.{Step}
use Rattle.types.specs.declared.Step.TheVariants.{Read, Write, Flush, Arrive, Retire}
use Rattle.types.specs.declared.Deduction.{Deduction}
use Rattle.landlord.specs.Fold.{sum_to, fold}
use Rattle.landlord.specs.Catalog.{Catalog, Item, CatalogOk, CapacityOk, item_at, listed, full, catalog_next, none_left}
use Rattle.landlord.specs.Slot.{Split, Slot, absent, clean, dirty, held, is_dirty, brought, refilled, written, flushed, split_of}
use Rattle.landlord.specs.Rule.{State, slot_at, used, held_count, victim, evict_item, evict, evict_for, make_room, Moved, stay, joined, put_slot, found, read_slot, serve_read, serve_write, write_backs, flush, arrive, drop_item, leave, step, Event, evicted, hit, loaded, wrote_back, wrote, flush_step, arrived, trace}
use Rattle.landlord.specs.Figures.{Figures, start, Standing, Totals, adds, tally, moved, took, closes, nothing, opened, ran}
use Rattle.landlord.specs.Valid.{StandingOk}
use Rattle.landlord.specs.Inner.{ItemFacts}
use Rattle.landlord.specs.Calls.{call_of, rule_over}
use Rattle.landlord.specs.Claims.{SplitOk, SlotKept, AllowedLog}
use Rattle.landlord.proofs.Sums.{sum_eq, sum_zero, sum_change}
use Rattle.landlord.proofs.Folds.{tab_length, tab_at, tab_eq, Best, nobody, somebody, best_is, fold_append}
use Rattle.landlord.proofs.Slots.{absent_kept, read_kept, write_kept, flush_kept, flush_held, blocks_divide, lose_dirty, lose_held, read_held, write_held, deduction_ok}
use Rattle.landlord.proofs.Ranges.{catalog_facts, item_facts}
use Rattle.landlord.proofs.Catalogs.{arrived_ok, retired_ok}
use Rattle.landlord.proofs.Keeps.{Served, make_room_lem, step_catalog}
use Rattle.landlord.proofs.Logs.{AllServed, all_served, event_sum, event_append, tally_part}
use Rattle.landlord.proofs.Calls.{allowed_logged}
use Rattle.landlord.proofs.Valid.{ok_over, ok_closes}
use Rattle.queue.specs.Queue.{worth, key_now, slot_now, loss_since, KeyOk, SplitAdds, Queue, stored_at, key_at, blocks_of, now_at, plain, dropped, reckoned, longer, precedence_in, QueueOk, First, most_rise}
use Rattle.queue.specs.Claims.{FormsAgree, Fits64}
use Rattle.queue.specs.Machine.{trace_in, MovedIn, stay_in, joined_in, used_in, held_count_in, victim_in, evict_in, evict_for_in, make_room_in, found_in, read_slot_in, serve_read_in, serve_write_in, landed_slot, landed_key, flush_in, drop_in, leave_in, step_in, LazyStanding, LazyOk, standing, empty_queue, lazy_at_opening, moved_in, took_in, closes_in, ran_in}
use Rattle.queue.proofs.Losses.{now_kept, worth_most, fresh, fresh_ok, deduction_adds, level_fits, key_fits}
use Rattle.queue.proofs.Agrees.{plain_slot, plain_held, first_victim, drop_agrees, drop_ok, reckon_agrees, reckon_ok, remove_agrees, remove_ok, mark_agrees, mark_ok, arrive_agrees, arrive_ok}

-- a queue that is as it should be, with its catalog
pub record Sound (q : Queue) : Type 0 where
  pub catalog : CatalogOk q.catalog
  pub ok : QueueOk q

-- what an event adds to the evictions
abbrev pub drops : Catalog → Event → ℕ
drops cat e = (adds cat e).evictions

-- a move of the queue and one of the plain rule agree, and the level rises by at most 131,070 × 720,720 for each eviction
pub record Alike (split : Split) (q : Queue) (m : MovedIn) (r : Moved) : Type 0 where
  pub state : plain split m.queue ≡ r.state
  pub events : m.events ≡ r.events
  pub sound : Sound m.queue
  pub rise : m.queue.level ≤ q.level + event_sum (drops q.catalog) m.events * most_rise

-- the item of least key is found where something is held
pub first_is : (q : Queue) → 1 ≤ used_in q → First q (victim_in q)
unfolding used_in victim_in
first_is q l = go (best_is (length q.catalog) (λ i. held (stored_at q i)) (precedence_in q) (length q.catalog) (omega arith))
  where
    go : Best (length q.catalog) (length q.catalog) (λ i. held (stored_at q i)) (precedence_in q) (victim_in q) → First q (victim_in q)
    go (nobody e h) = absurd (let z : used_in q ≡ 0 = sum_zero (length q.catalog) _ (λ i b. rw (h i b)) in omega arith)
    go (somebody low here least first) = record { below = low; is_held = here; least = least; first = first }

-- there is only one such item
pub first_only : (q : Queue) (v : ℕ) → First q v → victim_in q ≡ v
unfolding victim_in
first_only q v low = go (best_is (length q.catalog) (λ i. held (stored_at q i)) (precedence_in q) (length q.catalog) (omega arith))
  where
    only :
        (w : ℕ) → held (stored_at q w) ≡ true → ((i : ℕ) → i < length q.catalog → held (stored_at q i) ≡ true → precedence_in q w ≤ precedence_in q i) →
        ((i : ℕ) → i < w → held (stored_at q i) ≡ true → precedence_in q w < precedence_in q i) → w < length q.catalog → Dec (w < v) → Dec (v < w) → w ≡ v
    only w h least first l (yes a) d = absurd (let z : precedence_in q v < precedence_in q w = low.first w a h in let y : precedence_in q w ≤ precedence_in q v = least v low.below low.is_held in omega arith)
    only w h least first l (no a) (yes b) = absurd (let z : precedence_in q w < precedence_in q v = first v b low.is_held in let y : precedence_in q v ≤ precedence_in q w = low.least w l h in omega arith)
    only w h least first l (no a) (no b) = omega arith

    go : Best (length q.catalog) (length q.catalog) (λ i. held (stored_at q i)) (precedence_in q) (victim_in q) → victim_in q ≡ v
    go (nobody e h) = absurd (false≢true (sym (h v low.below) ∙ low.is_held))
    go (somebody l h least first) = only (victim_in q) h least first l (dec_lt (victim_in q) v) (dec_lt v (victim_in q))

one_drop : (cat : Catalog) (i : ℕ) (d : Bool) → event_sum (drops cat) (evicted i d ∷ []) ≡ 1
unfolding event_sum
one_drop cat i true = refl
one_drop cat i false = refl

module _ (split : Split) (ok : SplitOk split) (adds : SplitAdds split) where
  pub used_is : (q : Queue) → Sound q → used (plain split q) ≡ used_in q
  unfolding used used_in
  used_is q s = sum_eq (length q.catalog) _ _ (λ i l. ap (λ (t : Bool). cond t (blocks_of q i) 0) (plain_held split ok adds q s.catalog s.ok i l))

  pub count_is : (q : Queue) → Sound q → held_count (plain split q) ≡ held_count_in q
  unfolding held_count held_count_in
  count_is q s = sum_eq (length q.catalog) _ _ (λ i l. ap (λ (t : Bool). cond t 1 0) (plain_held split ok adds q s.catalog s.ok i l))

  dirty_is : (q : Queue) → Sound q → (i : ℕ) → i < length q.catalog → is_dirty (slot_at (plain split q) i) ≡ is_dirty (stored_at q i)
  dirty_is q s i l =
      ap is_dirty (plain_slot split ok adds q s.catalog s.ok i l)
      ∙ lose_dirty split (blocks_of q i) (blocks_of q i * loss_since (blocks_of q i) q.level (key_at q i) (stored_at q i)) (stored_at q i)

  -- evictions for an item that fits the cache
  evicts_alike :
      (k blocks : ℕ) → blocks ≤ k → (turns : ℕ) (q : Queue) → Sound q → Alike split q (evict_for_in turns k blocks q) (evict_for turns split k blocks (plain split q))
  unfolding evict_for_in evict_for
  evicts_alike k blocks fits zero q s = record { state = refl; events = refl; sound = s; rise = omega arith }
  evicts_alike k blocks fits (suc turns) q s =
      rw (used_is q s)
      (go (leb (used_in q + blocks) k) refl
      (λ f. evicts_alike k blocks fits turns (dropped q (victim_in q))
      (record { catalog = s.catalog; ok = drop_ok split ok adds q s.catalog s.ok (victim_in q) f })))
    where
      x : State
      x = plain split q

      more : MovedIn
      more = evict_for_in turns k blocks (dropped q (victim_in q))

      go :
          (b : Bool) →
          leb (used_in q + blocks) k ≡ b →
          (First q (victim_in q) → Alike split (dropped q (victim_in q)) more (evict_for turns split k blocks (plain split (dropped q (victim_in q))))) →
          Alike split q (cond b (stay_in q) (joined_in (evict_in q) more))
          (cond b (stay x) (joined (evict split x) (evict_for turns split k blocks (evict split x).state)))
      go true e next = record { state = refl; events = refl; sound = s; rise = omega arith }
      go false e next =
          let over : k < used_in q + blocks = leb-false (used_in q + blocks) k e in
          let f : First q (victim_in q) = first_is q (omega arith) in
          let v : victim x ≡ victim_in q = first_victim split ok adds q s.catalog s.ok (victim_in q) f in
          let same : plain split (dropped q (victim_in q)) ≡ evict_item split (victim x) x =
          drop_agrees split ok adds q s.catalog s.ok (victim_in q) f ∙ ap (λ (w : ℕ). evict_item split w x) (sym v)
          in
          let then : Alike split (dropped q (victim_in q)) more (evict_for turns split k blocks (evict split x).state) = rw same at (next f) in
          let d : is_dirty (stored_at q (victim_in q)) ≡ is_dirty (slot_at x (victim x)) =
          sym (dirty_is q s (victim_in q) f.below) ∙ ap (λ (w : ℕ). is_dirty (slot_at x w)) (sym v)
          in
          record {
            state = then.state;
            events = λ z. evicted (sym v z) (d z) ∷ then.events z;
            sound = then.sound;
            rise =
                let up : (dropped q (victim_in q)).level ≤ (0 + 1) * most_rise + q.level =
                (let w : worth (blocks_of q (victim_in q)) (stored_at q (victim_in q)) ≤ most_rise =
                worth_most (item_at q.catalog (victim_in q)) (stored_at q (victim_in q)) ((catalog_facts q.catalog s.catalog).each (victim_in q) f.below) (s.ok.slot (victim_in q) f.below)
                in
                omega (arith, (s.ok.key (victim_in q) f.below f.is_held).due))
                in
                omega (arith, then.rise, event_append (drops q.catalog) (evict_in q).events more.events, one_drop q.catalog (victim_in q) (is_dirty (stored_at q (victim_in q))));
          }

  -- one eviction
  pub evict_alike : (q : Queue) → Sound q → 1 ≤ used_in q → Alike split q (evict_in q) (evict split (plain split q))
  evict_alike q s some =
      let x : State = plain split q in
      let f : First q (victim_in q) = first_is q some in
      let v : victim x ≡ victim_in q = first_victim split ok adds q s.catalog s.ok (victim_in q) f in
      let d : is_dirty (stored_at q (victim_in q)) ≡ is_dirty (slot_at x (victim x)) =
      sym (dirty_is q s (victim_in q) f.below) ∙ ap (λ (w : ℕ). is_dirty (slot_at x w)) (sym v)
      in
      record {
        state = drop_agrees split ok adds q s.catalog s.ok (victim_in q) f ∙ ap (λ (w : ℕ). evict_item split w x) (sym v);
        events = λ z. evicted (sym v z) (d z) ∷ [];
        sound = record { catalog = s.catalog; ok = drop_ok split ok adds q s.catalog s.ok (victim_in q) f };
        rise =
            omega (
              arith,
              (s.ok.key (victim_in q) f.below f.is_held).due,
              worth_most (item_at q.catalog (victim_in q)) (stored_at q (victim_in q)) ((catalog_facts q.catalog s.catalog).each (victim_in q) f.below) (s.ok.slot (victim_in q) f.below),
              one_drop q.catalog (victim_in q) (is_dirty (stored_at q (victim_in q))),
            );
      }

  pub room_alike : (k i : ℕ) (q : Queue) → Sound q → i < length q.catalog → blocks_of q i ≤ k → Alike split q (make_room_in k i q) (make_room split k i (plain split q))
  unfolding make_room_in make_room
  room_alike k i q s l fits =
      rw (plain_held split ok adds q s.catalog s.ok i l, count_is q s)
      (go (held (stored_at q i)))
    where
      go :
          (b : Bool) →
          Alike split q (cond b (stay_in q) (evict_for_in (held_count_in q) k (blocks_of q i) q))
          (cond b (stay (plain split q)) (evict_for (held_count_in q) split k (blocks_of q i) (plain split q)))
      go true = record { state = refl; events = refl; sound = s; rise = omega arith }
      go false = evicts_alike k (blocks_of q i) fits (held_count_in q) q s

  -- a slot as it stands is as the rule keeps it
  now_good : (q : Queue) → Sound q → (i : ℕ) → i < length q.catalog → SlotKept (item_at q.catalog i) (now_at split q i)
  now_good q s i l =
      now_kept split ok adds (item_at q.catalog i) ((catalog_facts q.catalog s.catalog).each i l).some q.level (key_at q i) (stored_at q i) (s.ok.slot i l) (λ h. s.ok.key i l h)

  read_is : (q : Queue) → Sound q → (i : ℕ) → i < length q.catalog → read_slot_in split q i ≡ read_slot (plain split q) i
  read_is q s i l = ap (λ (t : Slot). refilled (full (item_at q.catalog i).load) (brought t)) (sym (plain_slot split ok adds q s.catalog s.ok i l))

  read_good : (q : Queue) → Sound q → (i : ℕ) → i < length q.catalog → SlotKept (item_at q.catalog i) (read_slot_in split q i)
  read_good q s i l = read_kept (item_at q.catalog i) (now_at split q i) (blocks_divide (item_at q.catalog i) ((catalog_facts q.catalog s.catalog).each i l)) (now_good q s i l)

  found_is : (q : Queue) → Sound q → (i : ℕ) → i < length q.catalog → found_in q i ≡ found (plain split q) i
  found_is q s i l = ap (λ (t : Bool). cond t (hit i) (loaded i)) (sym (plain_held split ok adds q s.catalog s.ok i l))

  reckoned_sound : (q : Queue) → Sound q → (i : ℕ) (t : Slot) → i < length q.catalog → SlotKept (item_at q.catalog i) t → held t ≡ true → Sound (reckoned q i t)
  reckoned_sound q s i t l kept h = record { catalog = s.catalog; ok = reckon_ok split ok adds q s.catalog s.ok i t l kept h }

  pub read_alike : (i : ℕ) (q : Queue) → Sound q → i < length q.catalog → Alike split q (serve_read_in split i q) (serve_read i (plain split q))
  read_alike i q s l =
      record {
        state =
            reckon_agrees split ok adds q s.catalog s.ok i (read_slot_in split q i) l (read_good q s i l) ∙ ap (put_slot (plain split q) i) (read_is q s i l);
        events = λ z. found_is q s i l z ∷ [];
        sound = reckoned_sound q s i (read_slot_in split q i) l (read_good q s i l) (read_held _ (now_at split q i));
        rise = omega arith;
      }

  pub write_alike : (i minutes : ℕ) (q : Queue) → Sound q → i < length q.catalog → Alike split q (serve_write_in split i minutes q) (serve_write i minutes (plain split q))
  write_alike i minutes q s l =
      let it : Item = item_at q.catalog i in
      let t : Slot = written (full it.write) (read_slot_in split q i) in
      let kept : SlotKept it t = write_kept it (read_slot_in split q i) (blocks_divide it ((catalog_facts q.catalog s.catalog).each i l)) (read_good q s i l) in
      record {
        state = reckon_agrees split ok adds q s.catalog s.ok i t l kept ∙ ap (λ (u : Slot). put_slot (plain split q) i (written (full it.write) u)) (read_is q s i l);
        events = λ z. found_is q s i l z ∷ wrote i minutes ∷ [];
        sound = reckoned_sound q s i t l kept (write_held _ (read_slot_in split q i) ∙ read_held _ (now_at split q i));
        rise = omega arith;
      }

  -- a landing
  back_eq : (n : ℕ) (f g : ℕ → Bool) → ((i : ℕ) → i < n → f i ≡ g i) → write_backs n f ≡ write_backs n g
  unfolding write_backs
  back_eq zero f g h = refl
  back_eq (suc n) f g h =
      λ z. back_eq n f g (λ i l. h i (omega arith)) z ++ cond (h n (omega arith) z) (wrote_back n ∷ []) []

  dirty_held_lem : (t : Slot) → is_dirty t ≡ true → held t ≡ true
  dirty_held_lem absent e = absurd (false≢true e)
  dirty_held_lem (clean a) e = refl
  dirty_held_lem (dirty a b) e = refl

  not_dirty : (t : Slot) → is_dirty t ≡ false → flushed t ≡ t
  not_dirty absent e = refl
  not_dirty (clean a) e = refl
  not_dirty (dirty a b) e = absurd (false≢true (sym e))

  module _ (q : Queue) (s : Sound q) where
    abbrev after : Queue
    after = (flush_in split q).queue

    slot_there : (i : ℕ) → i < length q.catalog → stored_at after i ≡ landed_slot split q i
    unfolding flush_in
    slot_there i l = tab_at (length q.catalog) (landed_slot split q) i absent l

    key_there : (i : ℕ) → i < length q.catalog → key_at after i ≡ landed_key split q i
    unfolding flush_in
    key_there i l = tab_at (length q.catalog) (landed_key split q) i 0 l

    pub flush_alike : Alike split q (flush_in split q) (flush (plain split q))
    unfolding flush_in flush
    flush_alike =
        record {
          state =
              λ z. record { catalog = q.catalog; slots = tab_eq (length q.catalog) (now_at split after) (λ i. flushed (slot_at (plain split q) i)) each z };
          events = back_eq (length q.catalog) (λ i. is_dirty (stored_at q i)) (λ i. is_dirty (slot_at (plain split q) i)) (λ i l. sym (dirty_is q s i l));
          sound =
              record {
                catalog = s.catalog;
                ok =
                    record {
                      slots = tab_length (length q.catalog) (landed_slot split q);
                      keys = tab_length (length q.catalog) (landed_key split q);
                      slot = λ i l. rw (slot_there i l) (slot i l (is_dirty (stored_at q i)));
                      key = λ i l h. rw (slot_there i l, key_there i l) (key i l (is_dirty (stored_at q i)) (ap held (sym (slot_there i l)) ∙ h));
                      unkeyed = λ i l h. key_there i l ∙ unkeyed i l (is_dirty (stored_at q i)) refl (ap held (sym (slot_there i l)) ∙ h);
                    };
              };
          rise = omega arith;
        }
      where
        flushed_good : (i : ℕ) → i < length q.catalog → SlotKept (item_at q.catalog i) (flushed (now_at split q i))
        flushed_good i l = flush_kept (item_at q.catalog i) (now_at split q i) (now_good q s i l)

        slot : (i : ℕ) → i < length q.catalog → (b : Bool) → SlotKept (item_at q.catalog i) (cond b (flushed (now_at split q i)) (stored_at q i))
        slot i l true = flushed_good i l
        slot i l false = s.ok.slot i l

        key :
            (i : ℕ) → i < length q.catalog → (b : Bool) → held (cond b (flushed (now_at split q i)) (stored_at q i)) ≡ true →
            KeyOk (blocks_of q i) q.level (cond b (key_now (blocks_of q i) q.level (flushed (now_at split q i))) (key_at q i))
            (cond b (flushed (now_at split q i)) (stored_at q i))
        key i l true h = fresh_ok split ok adds (item_at q.catalog i) ((catalog_facts q.catalog s.catalog).each i l).some q.level (flushed (now_at split q i))
        key i l false h = s.ok.key i l h

        unkeyed :
            (i : ℕ) → i < length q.catalog → (b : Bool) → is_dirty (stored_at q i) ≡ b → held (cond b (flushed (now_at split q i)) (stored_at q i)) ≡ false →
            cond b (key_now (blocks_of q i) q.level (flushed (now_at split q i))) (key_at q i) ≡ 0
        unkeyed i l true e h =
            absurd (false≢true (sym h ∙ flush_held (now_at split q i) ∙ lose_held split (blocks_of q i) (blocks_of q i * loss_since (blocks_of q i) q.level (key_at q i) (stored_at q i)) (stored_at q i) ∙ dirty_held_lem (stored_at q i) e))
        unkeyed i l false e h = s.ok.unkeyed i l h

        each : (i : ℕ) → i < length q.catalog → now_at split after i ≡ flushed (slot_at (plain split q) i)
        each i l =
            (λ z. slot_now split (blocks_of q i) q.level (key_there i l z) (slot_there i l z))
            ∙ go (is_dirty (stored_at q i)) refl
            ∙ ap flushed (sym (plain_slot split ok adds q s.catalog s.ok i l))
          where
            go :
                (b : Bool) → is_dirty (stored_at q i) ≡ b →
                slot_now split (blocks_of q i) q.level (cond b (key_now (blocks_of q i) q.level (flushed (now_at split q i))) (key_at q i))
                (cond b (flushed (now_at split q i)) (stored_at q i)) ≡ flushed (now_at split q i)
            go true e = fresh split ok adds (item_at q.catalog i) ((catalog_facts q.catalog s.catalog).each i l).some q.level (flushed (now_at split q i)) (flushed_good i l)
            go false e =
                sym (not_dirty (now_at split q i)
                (lose_dirty split (blocks_of q i) (blocks_of q i * loss_since (blocks_of q i) q.level (key_at q i) (stored_at q i)) (stored_at q i) ∙ e))

  -- one move after the other
  joined_alike :
      (q : Queue) (m n : MovedIn) (r : Moved) (f : State → Moved) →
      m.queue.catalog ≡ q.catalog →
      Alike split q m r →
      Alike split m.queue n (f (plain split m.queue)) →
      Alike split q (joined_in m n) (joined r (f r.state))
  joined_alike q m n r f e a b =
      record {
        state = b.state ∙ ap (λ (x : State). (f x).state) a.state;
        events = λ z. a.events z ++ (b.events ∙ ap (λ (x : State). (f x).events) a.state) z;
        sound = b.sound;
        rise =
            omega (
              arith,
              a.rise,
              rw e at b.rise,
              event_append (drops q.catalog) m.events n.events,
            );
      }

  pub room_catalog : (k i : ℕ) (q : Queue) → Sound q → i < length q.catalog → blocks_of q i ≤ k → (make_room_in k i q).queue.catalog ≡ q.catalog
  room_catalog k i q s l fits =
      ap (λ (x : State). x.catalog) (room_alike k i q s l fits).state ∙ (make_room_lem split k i (plain split q) ok l fits).catalog

  -- an arrival, and the two halves of a retirement
  pub arrive_alike :
      (i b l w : ℕ) (q : Queue) → Sound q → length q.catalog < 256 → ItemFacts (listed b l w) →
      Alike split q (record { queue = longer q (Arrive i b l w); events = arrived i ∷ [] }) (arrive (Arrive i b l w) i (plain split q))
  arrive_alike i b l w q s few new =
      record {
        state = arrive_agrees split ok adds q s.catalog s.ok i b l w;
        events = refl;
        sound = record { catalog = arrived_ok q.catalog (listed b l w) s.catalog new few; ok = arrive_ok split ok adds q s.catalog s.ok i b l w };
        rise = omega arith;
      }

  pub drop_alike : (i : ℕ) (q : Queue) → Sound q → i < length q.catalog → Alike split q (drop_in i q) (drop_item i (plain split q))
  unfolding drop_in drop_item
  drop_alike i q s l =
      record {
        state = remove_agrees split ok adds q s.catalog s.ok i l;
        events = λ z. cond (sym (plain_held split ok adds q s.catalog s.ok i l) z) (evicted i (sym (dirty_is q s i l) z) ∷ []) [];
        sound = record { catalog = s.catalog; ok = remove_ok split ok adds q s.catalog s.ok i l };
        rise = omega arith;
      }

  pub leave_alike : (i : ℕ) (q : Queue) → Sound q → i < length q.catalog → Alike split q (leave_in i q) (leave i (plain split q))
  leave_alike i q s l =
      record {
        state = mark_agrees split ok adds q s.catalog s.ok i l;
        events = refl;
        sound = record { catalog = retired_ok q.catalog i s.catalog l; ok = mark_ok split ok adds q s.catalog s.ok i l };
        rise = omega arith;
      }

  drop_keeps : (i : ℕ) (q : Queue) → (drop_in i q).queue.catalog ≡ q.catalog
  unfolding drop_in
  drop_keeps i q = refl

  -- every step that the table lets through
  pub step_alike : (k : ℕ) (s : Step) (q : Queue) → Sound q → Served k q.catalog s → Alike split q (step_in split k s q) (step split k s (plain split q))
  unfolding step_in step
  step_alike k (Read i) q s served =
      let a : Alike split q (make_room_in k i q) (make_room split k i (plain split q)) = room_alike k i q s served.0 served.1 in
      let e : (make_room_in k i q).queue.catalog ≡ q.catalog = room_catalog k i q s served.0 served.1 in
      joined_alike q (make_room_in k i q) (serve_read_in split i (make_room_in k i q).queue) (make_room split k i (plain split q)) (serve_read i) e a
      (read_alike i (make_room_in k i q).queue a.sound (rw e served.0))
  step_alike k (Write i minutes) q s served =
      let a : Alike split q (make_room_in k i q) (make_room split k i (plain split q)) = room_alike k i q s served.0 served.1 in
      let e : (make_room_in k i q).queue.catalog ≡ q.catalog = room_catalog k i q s served.0 served.1 in
      joined_alike q (make_room_in k i q) (serve_write_in split i minutes (make_room_in k i q).queue) (make_room split k i (plain split q)) (serve_write i minutes) e a
      (write_alike i minutes (make_room_in k i q).queue a.sound (rw e served.0))
  step_alike k Flush q s served =
      joined_alike q (record { queue = q; events = flush_step ∷ [] }) (flush_in split q) (record { state = plain split q; events = flush_step ∷ [] }) flush refl
      (record { state = refl; events = refl; sound = s; rise = omega arith }) (flush_alike q s)
  step_alike k (Arrive i b l w) q s served = arrive_alike i b l w q s served.1 (item_facts (listed b l w) served.2)
  step_alike k (Retire i) q s served =
      let a : Alike split q (drop_in i q) (drop_item i (plain split q)) = drop_alike i q s served.0 in
      joined_alike q (drop_in i q) (leave_in i (drop_in i q).queue) (drop_item i (plain split q)) (leave i) (drop_keeps i q) a
      (leave_alike i (drop_in i q).queue a.sound (rw (drop_keeps i q) served.0))

-- ---- where the lazy form stands over a log

pub moved_ok : (v : LazyStanding) (m : MovedIn) (r : Moved) (b : Bool) → LazyOk v → Alike v.split v.queue m r → LazyOk (moved_in v m b)
moved_ok v m r b so a =
    record {
      catalog = a.sound.catalog;
      queue = a.sound.ok;
      level =
          omega (
            arith,
            so.level,
            a.rise,
            tally_part (λ (t : Totals). t.evictions) (λ x y. refl) v.queue.catalog v.figures m.events,
          );
    }

pub moved_stands : (v : LazyStanding) (m : MovedIn) (r : Moved) (b : Bool) → Alike v.split v.queue m r → standing (moved_in v m b) ≡ moved (standing v) r b
moved_stands v m r b a =
    λ z.
    record {
      k = v.k;
      state = a.state z;
      figures = fold (tally v.queue.catalog) v.figures (a.events z);
      closed = b;
      split = v.split;
    }

-- one part of a step after another
pub joined_moves :
    (v : LazyStanding) (m n : MovedIn) (b : Bool) → m.queue.catalog ≡ v.queue.catalog → moved_in v (joined_in m n) b ≡ moved_in (moved_in v m b) n b
joined_moves v m n b e =
    ap (λ (f : Figures). record { k = v.k; queue = n.queue; figures = f; closed = b; split = v.split })
    (fold_append (tally v.queue.catalog) v.figures m.events n.events
    ∙ ap (λ (cat : Catalog). fold (tally cat) (moved_in v m b).figures n.events) (sym e))

pub sound : (v : LazyStanding) → LazyOk v → Sound v.queue
sound v so = record { catalog = so.catalog; ok = so.queue }

module _ (v : LazyStanding) (fit : SplitOk v.split) (adds : SplitAdds v.split) (so : LazyOk v) where
  step_now :
      (s : Step) → Served v.k v.queue.catalog s →
      Alike v.split v.queue (step_in v.split v.k s v.queue) (step v.split v.k s (plain v.split v.queue))
  step_now s served = step_alike v.split fit adds v.k s v.queue (sound v so) served

  flush_now : Alike v.split v.queue (flush_in v.split v.queue) (flush (plain v.split v.queue))
  flush_now = flush_alike v.split fit adds v.queue (sound v so)

  pub took_agrees : (s : Step) → Served v.k v.queue.catalog s → standing (took_in v s) ≡ took (standing v) s
  unfolding took_in took
  took_agrees s served =
      moved_stands v (step_in v.split v.k s v.queue) (step v.split v.k s (plain v.split v.queue)) v.closed (step_now s served)

  pub took_ok : (s : Step) → Served v.k v.queue.catalog s → LazyOk (took_in v s)
  unfolding took_in
  took_ok s served =
      moved_ok v (step_in v.split v.k s v.queue) (step v.split v.k s (plain v.split v.queue)) v.closed so (step_now s served)

  pub took_catalog : (s : Step) → Served v.k v.queue.catalog s → (took_in v s).queue.catalog ≡ catalog_next v.queue.catalog s
  unfolding took_in
  took_catalog s served =
      ap (λ (x : State). x.catalog) (step_now s served).state ∙ step_catalog v.split v.k s (plain v.split v.queue) fit served

  pub closes_agrees : standing (closes_in v) ≡ closes (standing v)
  unfolding closes_in closes
  closes_agrees = moved_stands v (flush_in v.split v.queue) (flush (plain v.split v.queue)) true flush_now

  pub closes_ok : LazyOk (closes_in v)
  unfolding closes_in
  closes_ok = moved_ok v (flush_in v.split v.queue) (flush (plain v.split v.queue)) true so flush_now

took_k : (v : LazyStanding) (s : Step) → (took_in v s).k ≡ v.k
unfolding took_in
took_k v s = refl

took_split : (v : LazyStanding) (s : Step) → (took_in v s).split ≡ v.split
unfolding took_in
took_split v s = refl

-- 64 bits: where the standing is valid, the level and every key fit
pub fits_64 : (v : LazyStanding) → LazyOk v → StandingOk (standing v) → Fits64 v
fits_64 v so good =
    record {
      level_most = so.level;
      key_most = λ i l. most i l (held (stored_at v.queue i)) refl;
      level = level_fits v.figures.totals.evictions v.queue.level few so.level;
      key = λ i l. key_fits v.figures.totals.evictions v.queue.level (key_at v.queue i) few so.level (most i l (held (stored_at v.queue i)) refl);
    }
  where
    few : v.figures.totals.evictions ≤ 1000000
    few = omega (arith, good.evictions, good.steps, good.taken)

    most : (i : ℕ) → i < length v.queue.catalog → (b : Bool) → held (stored_at v.queue i) ≡ b → key_at v.queue i ≤ v.queue.level + most_rise
    most i l true h =
        omega (
          arith,
          (so.queue.key i l h).due,
          worth_most (item_at v.queue.catalog i) (stored_at v.queue i) ((catalog_facts v.queue.catalog so.catalog).each i l) (so.queue.slot i l),
        )
    most i l false h = omega (arith, so.queue.unkeyed i l h)

-- ---- over every log, for every split that adds up

-- the empty queue
empty_stored : (cat : Catalog) (i : ℕ) → i < length cat → stored_at (empty_queue cat) i ≡ absent
empty_stored cat i l = tab_at (length cat) (λ j. absent) i absent l

pub opening_ok : (split : Split) (k : ℕ) (cat : Catalog) → CatalogOk cat → LazyOk (lazy_at_opening split k cat)
opening_ok split k cat good =
    record {
      catalog = good;
      queue =
          record {
            slots = tab_length (length cat) (λ i. absent);
            keys = tab_length (length cat) (λ i. 0);
            slot = λ i l. rw (empty_stored cat i l) (absent_kept (item_at cat i));
            key = λ i l h. absurd (false≢true (ap held (sym (empty_stored cat i l)) ∙ h));
            unkeyed = λ i l h. tab_at (length cat) (λ j. 0) i 0 l;
          };
      level = omega arith;
    }

pub opening_stands : (split : Split) (k : ℕ) (cat : Catalog) → standing (lazy_at_opening split k cat) ≡ opened (start split k cat)
opening_stands split k cat =
    λ z.
    record {
      k = k;
      state =
          record {
            catalog = cat;
            slots = tab_eq (length cat) (now_at split (empty_queue cat)) (λ i. absent) (λ i l. rw (empty_stored cat i l) refl) z;
          };
      figures = nothing cat;
      closed = false;
      split = split;
    }

-- the queue over a log, against the plain rule, with what is known of it
pub record Ran (v : LazyStanding) (w : Standing) (split : Split) : Type 0 where
  pub agrees : standing v ≡ w
  pub ok : LazyOk v
  pub rule : v.split ≡ split

pub ran_agrees :
    (split : Split) (k : ℕ) (cat : Catalog) (steps : List Step) →
    SplitOk split →
    SplitAdds split →
    CatalogOk cat →
    AllServed k cat steps →
    Ran (ran_in split k cat steps) (ran (start split k cat) steps) split
unfolding fold
ran_agrees split k cat steps fit adds good served =
    let all : Ran (ran_in split k cat steps) (fold took (standing (lazy_at_opening split k cat)) steps) split =
    from (lazy_at_opening split k cat) cat steps refl refl refl (opening_ok split k cat good) served
    in
    record { agrees = all.agrees ∙ ap (λ (v : Standing). fold took v steps) (opening_stands split k cat); ok = all.ok; rule = all.rule }
  where
    from :
        (v : LazyStanding) (cat : Catalog) (steps : List Step) →
        v.k ≡ k →
        v.queue.catalog ≡ cat →
        v.split ≡ split →
        LazyOk v →
        AllServed k cat steps →
        Ran (fold took_in v steps) (fold took (standing v) steps) split
    from v cat [] e f g so served = record { agrees = refl; ok = so; rule = g }
    from v cat (s ∷ steps) e f g so served =
        let here : Served v.k v.queue.catalog s = rw (e, f) served.0 in
        let o : SplitOk v.split = subst SplitOk (sym g) fit in
        let a : SplitAdds v.split = subst SplitAdds (sym g) adds in
        let next : Ran (fold took_in (took_in v s) steps) (fold took (standing (took_in v s)) steps) split =
        from (took_in v s) (catalog_next cat s) steps (took_k v s ∙ e) (took_catalog v o a so s here ∙ ap (λ (c : Catalog). catalog_next c s) f) (took_split v s ∙ g)
        (took_ok v o a so s here) served.1
        in
        record { agrees = next.agrees ∙ ap (λ (w : Standing). fold took w steps) (took_agrees v o a so s here); ok = next.ok; rule = next.rule }

-- the events are the same, step by step
trace_agrees :
    (split : Split) (k : ℕ) (q : Queue) (cat : Catalog) (steps : List Step) →
    SplitOk split →
    SplitAdds split →
    Sound q →
    q.catalog ≡ cat →
    AllServed k cat steps →
    trace_in split k q steps ≡ trace split k (plain split q) steps
unfolding trace_in trace
trace_agrees split k q cat [] fit adds so e served = refl
trace_agrees split k q cat (s ∷ steps) fit adds so e served =
    let here : Served k q.catalog s = rw e served.0 in
    let a : Alike split q (step_in split k s q) (step split k s (plain split q)) = step_alike split fit adds k s q so here in
    let grown : (step_in split k s q).queue.catalog ≡ catalog_next cat s =
    ap (λ (x : State). x.catalog) a.state ∙ step_catalog split k s (plain split q) fit here ∙ ap (λ (c : Catalog). catalog_next c s) e
    in
    let more = trace_agrees split k (step_in split k s q).queue (catalog_next cat s) steps fit adds a.sound grown served.1 in
    let on : trace_in split k (step_in split k s q).queue steps ≡ trace split k (step split k s (plain split q)).state steps =
    more ∙ ap (λ (x : State). trace split k x steps) a.state
    in
    λ z. a.events z ++ on z

pub forms_agree :
    (split : Split) (k : ℕ) (cat : Catalog) (steps : List Step) →
    SplitOk split →
    SplitAdds split →
    CatalogOk cat →
    AllowedLog k cat steps →
    FormsAgree split k cat steps
forms_agree split k cat steps fit adds good allowed =
    let served : AllServed k cat steps = all_served k cat steps allowed in
    let r : Ran (ran_in split k cat steps) (ran (start split k cat) steps) split = ran_agrees split k cat steps fit adds good served in
    record {
      events =
          trace_agrees split k (empty_queue cat) cat steps fit adds (sound (lazy_at_opening split k cat) (opening_ok split k cat good)) refl served
          ∙ ap (λ (v : Standing). trace split k v.state steps) (opening_stands split k cat);
      closing =
          (flush_alike split fit adds (ran_in split k cat steps).queue (sound (ran_in split k cat steps) r.ok)).events
          ∙ ap (λ (s : Split). (flush (plain s (ran_in split k cat steps).queue)).events) (sym r.rule)
          ∙ ap (λ (v : Standing). (flush v.state).events) r.agrees;
      ran = r.agrees;
      closed =
          closes_agrees (ran_in split k cat steps) (subst SplitOk (sym r.rule) fit) (subst SplitAdds (sym r.rule) adds) r.ok ∙ ap closes r.agrees;
    }

-- "in both rules of deduction"
pub rule_agrees :
    (r : Deduction) (k : ℕ) (cat : Catalog) (steps : List Step) →
    CatalogOk cat →
    AllowedLog k cat steps →
    FormsAgree (split_of r) k cat steps
rule_agrees r k cat steps = forms_agree (split_of r) k cat steps (deduction_ok r) (deduction_adds r)

-- "neither level nor key passes 64 bits within 1,000,000 steps": after every log that the table lets through, and after its closing
pub ran_fits :
    (split : Split) (k : ℕ) (cat : Catalog) (steps : List Step) →
    SplitOk split →
    SplitAdds split →
    CapacityOk k →
    CatalogOk cat →
    none_left cat ≡ true →
    AllowedLog k cat steps →
    Fits64 (ran_in split k cat steps) × Fits64 (closes_in (ran_in split k cat steps))
unfolding rule_over
ran_fits split k cat steps fit adds capacity good new allowed =
    let r : Ran (ran_in split k cat steps) (ran (start split k cat) steps) split = ran_agrees split k cat steps fit adds good (all_served k cat steps allowed) in
    let o : StandingOk (ran (start split k cat) steps) =
    rw (allowed_logged k cat steps allowed) at (ok_over (start split k cat) (map call_of steps) fit capacity good new)
    in
    let v : LazyStanding = ran_in split k cat steps in
    let f : SplitOk v.split = subst SplitOk (sym r.rule) fit in
    let a : SplitAdds v.split = subst SplitAdds (sym r.rule) adds in
    let w : StandingOk (standing v) = subst StandingOk (sym r.agrees) o in
    (fits_64 v r.ok w, fits_64 (closes_in v) (closes_ok v f a r.ok) (subst StandingOk (sym (closes_agrees v f a r.ok)) (ok_closes (standing v) w)))

-- ---- room, turn by turn

-- an eviction takes the item out of the blocks held, and of the items
module _ (q : Queue) (v : ℕ) (l : v < length q.catalog) (size : length q.slots ≡ length q.catalog) (h : held (stored_at q v) ≡ true) where
  out : stored_at (dropped q v) v ≡ absent
  out = get_or-set_same q.slots v absent absent (omega arith)

  others : (w : ℕ → ℕ) → sum_to (length q.catalog) (λ i. cond (held (stored_at (dropped q v) i)) (w i) 0) + w v ≡ sum_to (length q.catalog) (λ i. cond (held (stored_at q i)) (w i) 0)
  others w =
      let e : sum_to (length q.catalog) (λ i. cond (held (stored_at (dropped q v) i)) (w i) 0) + cond (held (stored_at q v)) (w v) 0
      ≡ sum_to (length q.catalog) (λ i. cond (held (stored_at q i)) (w i) 0) + cond (held (stored_at (dropped q v) v)) (w v) 0 =
      sum_change (length q.catalog) v (λ i. cond (held (stored_at (dropped q v) i)) (w i) 0) (λ i. cond (held (stored_at q i)) (w i) 0) l
      (λ i b d. ap (λ (s : Slot). cond (held s) (w i) 0) (get_or-set_other q.slots v i absent absent d))
      in
      omega (arith, ap (λ (t : Bool). cond t (w v) 0) h, ap (λ (s : Slot). cond (held s) (w v) 0) out)

  pub dropped_used : used_in (dropped q v) + blocks_of q v ≡ used_in q
  unfolding used_in
  dropped_used = others (blocks_of q)

  pub dropped_count : held_count_in (dropped q v) + 1 ≡ held_count_in q
  unfolding held_count_in
  dropped_count = others (λ i. 1)

room_enough : (k blocks t : ℕ) (q : Queue) → used_in q + blocks ≤ k → evict_for_in t k blocks q ≡ stay_in q
unfolding evict_for_in
room_enough k blocks zero q l = refl
room_enough k blocks (suc t) q l = rw (le-leb (used_in q + blocks) k l)

room_more :
    (k blocks t : ℕ) (q : Queue) → held_count_in (evict_in q).queue + 1 ≡ t → k < used_in q + blocks →
    evict_for_in t k blocks q ≡ joined_in (evict_in q) (evict_for_in (held_count_in (evict_in q).queue) k blocks (evict_in q).queue)
unfolding evict_for_in
room_more k blocks zero q e l = absurd (omega arith)
room_more k blocks (suc t) q e l =
    let n : t ≡ held_count_in (evict_in q).queue = omega arith in
    rw (lt-leb (used_in q + blocks) k l) (ap (λ (s : ℕ). joined_in (evict_in q) (evict_for_in s k blocks (evict_in q).queue)) n)

-- where the lazy form stands when room for `blocks` is made, and after one eviction
abbrev pub room_from : ℕ → ℕ → LazyStanding → LazyStanding
room_from k blocks v = moved_in v (evict_for_in (held_count_in v.queue) k blocks v.queue) v.closed

abbrev pub evicted_from : LazyStanding → LazyStanding
evicted_from v = moved_in v (evict_in v.queue) v.closed

pub from_enough : (k blocks : ℕ) (v : LazyStanding) → used_in v.queue + blocks ≤ k → room_from k blocks v ≡ v
unfolding fold
from_enough k blocks v l = ap (λ (m : MovedIn). moved_in v m v.closed) (room_enough k blocks (held_count_in v.queue) v.queue l)

pub from_more : (k blocks : ℕ) (v : LazyStanding) → QueueOk v.queue → blocks ≤ k → k < used_in v.queue + blocks → room_from k blocks (evicted_from v) ≡ room_from k blocks v
from_more k blocks v ok fits l =
    let q : Queue = v.queue in
    let f : First q (victim_in q) = first_is q (omega arith) in
    let more : MovedIn = evict_for_in (held_count_in (evict_in q).queue) k blocks (evict_in q).queue in
    sym (ap (λ (m : MovedIn). moved_in v m v.closed) (room_more k blocks (held_count_in q) q (dropped_count q (victim_in q) f.below ok.slots f.is_held) l)
    ∙ joined_moves v (evict_in q) more v.closed refl)
