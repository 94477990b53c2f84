-- What the functions of this crate store, as the cache that the bytes are then. Assumes nothing.
use mathlib.Core.Path.{◌≡◌, refl, sym, ap, subst, ◌∙◌}
use mathlib.Core.Bool.{Bool, true, false, cond, false≢true}
use mathlib.Core.List.{List, [], ◌∷◌}
use Prim.Native.Nat.{ℕ, ◌-◌, ◌≤◌, ◌<◌}
use native.Mathlib.Decide.{dec_lt}
use native.Mathlib.Omega.{arith}
use lib.ListN.{length, get_or, set, get_or-eq_default}
use Rattle.landlord.specs.Fold.{fold}
use Rattle.landlord.specs.Slot.{held, is_dirty}
use Rattle.landlord.specs.Rule.{evicted, size, held_count}
use Rattle.landlord.specs.Figures.{Use}
use Rattle.landlord.specs.Valid.{StandingOk}
use Rattle.landlord.proofs.Sums.{sum_longer}
use Rattle.landlord.proofs.Valid.{line_writebacks}
use Rattle.marks.specs.Inner.{marks}
use Rattle.queue.specs.Queue.{Queue, stored_at, removed, dropped, First}
use Rattle.queue.specs.Machine.{LazyStanding, moved_in, victim_in, evict_in}
use Rattle.queue.proofs.Logs.{first_is, first_only}
use Rattle.heap.specs.Heap.{heap_of, place_of}
use Rattle.heap.specs.InnerMoves.{Removed}
use Rattle.heap.proofs.Uses.{root_key, root_number, root_member}
use Rattle.cache_state.specs.Cache.{Cache, dirty_at, held_at, held_items, heap_at, catalog_of, slots_of, keys_of, uses_of, lazy, view, Normal, Valid}
use Rattle.cache_state.specs.InnerView.{queue_of, state_of}
use Rattle.cache_state.specs.InnerBecomes.{Becomes}
use Rattle.cache_state.specs.InnerWith.{with_level, with_key, with_used, with_arrangement}
use Rattle.cache_state.proofs.Views.{size_is, use_is, key_is, count_is, stored_held}
use Rattle.cache_state.proofs.Stored.{dirty_here}
use Rattle.cache_state.proofs.Normals.{level_normal}
use Rattle.layout.specs.Layout.{cache_of}
use Rattle.layout.specs.Inner.{Stands, BecomesAt}
use Rattle.layout.proofs.Rounds.{whole}
use Rattle.layout.proofs.Places.{readable, valid_reads}
use Rattle.cache_heap.specs.Inner.{FilledAt, RemovedAt}
use Rattle.cache_room.specs.Inner.{requeued, dropped_of, gone_of, counted_of, DroppedAt, CountableAt, HoldsAt, LetGoAt, CrowdedAt}
use Rattle.cache_room.proofs.Gone.{RoomSizes, gone_becomes, used_enough, heap_filled}
use Rattle.cache_room.proofs.Counts.{counted_normal, counted_lazy}

-- ---- an item that goes

room_sizes : (b : List ℕ) → RoomSizes (cache_of b)
room_sizes b = record { held = (whole b).held; load = (whole b).loadcredit; write = (whole b).writecredit; keys = (whole b).keys }

module _ (b : List ℕ) (v : ℕ) (p : HoldsAt b v) where
  pub holds_place : v < 256
  holds_place = omega (arith, p.known, p.fields.few)

  pub holds_filled : (n at : ℕ) → n ≡ held_items (cache_of b) → at ≡ get_or (cache_of b).places v 0 → FilledAt b n at
  holds_filled n at e f =
      record {
        reads = p.counted.reads;
        filled = rw f (heap_filled (cache_of b) v n p.fields p.known p.is_held e);
      }

  pub holds_used : get_or (cache_of b).blocks v 0 ≤ (cache_of b).used
  holds_used = used_enough (cache_of b) v p.fields p.known p.is_held

  pub let_go_at :
      (b1 b2 b3 next : List ℕ) (n at used blocks : ℕ) →
      n ≡ held_items (cache_of b) →
      at ≡ get_or (cache_of b).places v 0 →
      used ≡ (cache_of b).used →
      blocks ≡ get_or (cache_of b).blocks v 0 →
      RemovedAt b n at b1 →
      Stands b2 (with_used (cache_of b1) (used - blocks)) →
      Stands b3 (with_key (cache_of b2) v 0) →
      DroppedAt b3 v next →
      LetGoAt b v next
  let_go_at b1 b2 b3 next n at used blocks en ea eu eb s1 s2 s3 s4 =
      record { reads = s4.reads; cache = record { fields = fields; becomes = subst (Becomes (requeued (lazy c) (removed (queue_of c) v))) (sym fields) whole_becomes } }
    where
      c : Cache
      c = cache_of b

      hs : List ℕ
      hs = (cache_of b1).heap

      ps : List ℕ
      ps = (cache_of b1).places

      three : cache_of b3 ≡ with_key (with_used (with_arrangement c hs ps) (c.used - get_or c.blocks v 0)) v 0
      three =
          s3.cache
          ∙ ap (λ (q : Cache). with_key q v 0) (s2.cache ∙ (λ z. with_used (s1.only.rest z) (eu z - eb z)))

      all : cache_of next ≡ gone_of c v (cache_of next).dirty hs ps
      all = s4.cache.fields ∙ ap (λ (q : Cache). dropped_of q v (cache_of next).dirty) three

      fields : cache_of next ≡ gone_of c v (cache_of next).dirty (cache_of next).heap (cache_of next).places
      fields =
          all
          ∙ (λ z. gone_of c v (cache_of next).dirty (sym (ap (λ (q : Cache). q.heap) all) z) (sym (ap (λ (q : Cache). q.places) all) z))

      un : marks (cache_of next).dirty ≡ set (marks c.dirty) v false
      un = s4.cache.unmarked ∙ ap (λ (q : Cache). set (marks q.dirty) v false) three

      rem : Removed c.keys (heap_at c) (place_of (heap_at c) v) (heap_of (cache_of next).heap (cache_of next).places (held_items c - 1))
      rem =
          rw (ap (λ (q : Cache). q.heap) all, ap (λ (q : Cache). q.places) all)
          (rw (en, ea) at s1.removed)

      whole_becomes : Becomes (requeued (lazy c) (removed (queue_of c) v)) (gone_of c v (cache_of next).dirty (cache_of next).heap (cache_of next).places)
      whole_becomes =
          gone_becomes c v (cache_of next).dirty (cache_of next).heap (cache_of next).places (room_sizes b) p.fields p.known p.is_held un rem

-- ---- the eviction

-- only items of the catalog are held
held_known : (c : Cache) (i : ℕ) → length c.held ≡ 256 → Normal c → held_at c i ≡ true → i < c.n
held_known c i e ok h = go (dec_lt i c.n) (dec_lt i 256)
  where
    go : Dec (i < c.n) → Dec (i < 256) → i < c.n
    go (yes l) d = l
    go (no l) (yes b) = absurd (false≢true (sym (ok.past i (omega arith) b).place.held ∙ h))
    go (no l) (no b) = absurd (false≢true (sym (get_or-eq_default c.held false (omega arith)) ∙ h))

-- as many items are held as the rule says
held_items_lem : (c : Cache) → Normal c → held_count (state_of c) ≡ held_items c
unfolding held_items
held_items_lem c ok =
    count_is c
    ∙ sym (sum_longer c.n 256 (λ i. cond (held_at c i) 1 0) (λ i. cond (held_at c i) 1 0) ok.few (λ i l. refl)
    (λ i l b. ap (λ (t : Bool). cond t 1 0) (ok.past i l b).place.held))

module _ (b : List ℕ) (p : CrowdedAt b) where
  c : Cache
  c = cache_of b

  ok : Valid (cache_of b)
  ok = p.valid.cache

  -- the root of the heap is held
  root_held : {v : ℕ} → v ≡ get_or (cache_of b).heap 0 0 → held_at (cache_of b) v ≡ true
  root_held e =
      let f : First (queue_of (cache_of b)) (victim_in (queue_of (cache_of b))) = first_is (queue_of (cache_of b)) p.some in
      let l : victim_in (queue_of (cache_of b)) < (cache_of b).n = omega (arith, f.below, size_is (cache_of b)) in
      ap (held_at (cache_of b)) e
      ∙ root_member (cache_of b).keys (held_at (cache_of b)) (heap_at (cache_of b)) ok.fields.heap ok.fields.order (victim_in (queue_of (cache_of b)))
      (omega (arith, ok.fields.few)) (sym (stored_held (cache_of b) (victim_in (queue_of (cache_of b))) l) ∙ f.is_held)

  pub root_known : {v : ℕ} → v ≡ get_or (cache_of b).heap 0 0 → v < (cache_of b).n
  root_known e = held_known (cache_of b) _ (whole b).held ok.fields (root_held e)

  -- and it is the one that goes
  pub root_first : {v : ℕ} → v ≡ get_or (cache_of b).heap 0 0 → victim_in (queue_of (cache_of b)) ≡ v
  root_first {v} e = first_only (queue_of (cache_of b)) v first
    where
      q : Cache
      q = cache_of b

      known : v < q.n
      known = root_known e

      small : get_or q.heap 0 0 < 256
      small = omega (arith, known, ok.fields.few)

      member : (i : ℕ) → i < q.n → held (stored_at (queue_of q) i) ≡ true → held_at q i ≡ true
      member i l h = sym (stored_held q i l) ∙ h

      first : First (queue_of q) v
      first =
          record {
            below = omega (arith, known, size_is q);
            is_held = stored_held q v known ∙ root_held e;
            least =
                λ i l h.
                let m : i < q.n = omega (arith, size_is q) in
                rw (key_is q v known, key_is q i m, e)
                (root_key q.keys (held_at q) (heap_at q) ok.fields.heap ok.fields.order i (omega (arith, ok.fields.few)) small (member i m h));
            first =
                λ i l h.
                let m : i < q.n = omega (arith, known) in
                rw (key_is q v known, key_is q i m, e)
                (root_number q.keys (held_at q) (heap_at q) ok.fields.heap ok.fields.order i (omega (arith, e)) small (member i m h));
          }

  pub crowded_holds : {v : ℕ} → v ≡ get_or (cache_of b).heap 0 0 → HoldsAt b v
  crowded_holds e =
      record {
        counted = record { reads = valid_reads p.valid; count = omega (arith, ok.standing.evictions, held_items_lem (cache_of b) ok.fields) };
        fields = ok.fields;
        known = root_known e;
        is_held = root_held e;
      }

-- a cache on another level
abbrev leveled : Queue → ℕ → Queue
leveled q x = record { catalog = q.catalog; slots = q.slots; keys = q.keys; level = x }

level_lazy : (e : Cache) (w : LazyStanding) (x : ℕ) → lazy e ≡ w → lazy (with_level e x) ≡ requeued w (leveled w.queue x)
unfolding catalog_of slots_of keys_of uses_of
level_lazy e w x is = ap (λ (u : LazyStanding). requeued u (leveled u.queue x)) is

-- the whole: item v, which goes first, is let go, the level rises to its key, and that is counted
module _ (b b1 b2 : List ℕ) (p : CrowdedAt b) {v key : ℕ} {d : Bool} (is : v ≡ get_or (cache_of b).heap 0 0) (ek : key ≡ get_or (cache_of b).keys v 0) (ed : d ≡ dirty_at (cache_of b) v) (s1 : LetGoAt b v b1) (s2 : Stands b2 (with_level (cache_of b1) key)) where
  known : v < (cache_of b).n
  known = root_known b p is

  -- the counts are those of before
  two : cache_of b2 ≡ with_level (gone_of (cache_of b) v (cache_of b1).dirty (cache_of b1).heap (cache_of b1).places) key
  two = s2.cache ∙ ap (λ (q : Cache). with_level q key) s1.cache.fields

  pub evict_countable : CountableAt b2 v
  evict_countable =
      record {
        reads = readable s2;
        counts =
            record {
              evictions = omega (arith, ap (λ (q : Cache). q.evictions) two, r.steps, r.taken, r.evictions);
              dirty_evictions = omega (arith, ap (λ (q : Cache). q.dirtyevictions) two, r.steps, r.taken, r.evictions, r.dirty_evictions);
              writeback =
                  record {
                    place = omega (arith, known, (ok b p).fields.few);
                    total = omega (arith, ap (λ (q : Cache). q.writebacks) two, r.taken, r.writebacks);
                    own =
                        let l : v < size (state_of (cache_of b)) = rw size_is known in
                        omega (
                          arith,
                          ap (λ (q : Cache). get_or q.itemwritebacks v 0) two,
                          r.taken,
                          r.writebacks,
                          line_writebacks (view (cache_of b)) v r l,
                          ap (λ (u : Use). u.writebacks) (use_is (cache_of b) v known),
                        );
                    cost = omega (arith, ap (λ (q : Cache). q.writecost) two, r.taken, r.writebacks, r.write_cost);
                  };
            };
      }
    where
      r : StandingOk (view (cache_of b))
      r = (ok b p).standing

  pub evicted_at :
      (next : List ℕ) →
      Stands next (counted_of (cache_of b2) v d) →
      BecomesAt (moved_in (lazy (cache_of b)) (evict_in (queue_of (cache_of b))) (cache_of b).closed) next
  unfolding fold
  evicted_at next s3 =
      record {
        reads = readable s3;
        cache =
            subst (Becomes (moved_in (lazy c₀) (evict_in (queue_of c₀)) c₀.closed)) (sym s3.cache)
            (record { stands = stands; fields = counted_normal e v (whole b2).itemwritebacks fields l d });
      }
    where
      c₀ : Cache
      c₀ = cache_of b

      e : Cache
      e = cache_of b2

      fields : Normal e
      fields = subst Normal (sym s2.cache) (level_normal (cache_of b1) key s1.cache.becomes.fields)

      l : v < e.n
      l = subst (λ (k : ℕ). v < k) (sym (ap (λ (q : Cache). q.n) two)) known

      -- where it stands before the eviction is counted
      before : lazy e ≡ requeued (lazy c₀) (dropped (queue_of c₀) v)
      before =
          ap lazy s2.cache
          ∙ level_lazy (cache_of b1) (requeued (lazy c₀) (removed (queue_of c₀) v)) key s1.cache.becomes.stands
          ∙ ap (λ (x : ℕ). requeued (lazy c₀) (leveled (removed (queue_of c₀) v) x)) (ek ∙ sym (key_is c₀ v known))

      counts : lazy (counted_of e v d) ≡ moved_in (lazy e) (record { queue = (lazy e).queue; events = evicted v d ∷ [] }) e.closed
      counts = counted_lazy e v (whole b2).itemwritebacks fields l d

      stands : lazy (counted_of e v d) ≡ moved_in (lazy c₀) (evict_in (queue_of c₀)) c₀.closed
      stands =
          counts
          ∙ ap (λ (u : LazyStanding). moved_in u (record { queue = u.queue; events = evicted v d ∷ [] }) u.closed) before
          ∙ ap (λ (t : Bool). moved_in (lazy c₀) (record { queue = dropped (queue_of c₀) v; events = evicted v t ∷ [] }) c₀.closed)
          (ed ∙ sym (dirty_here c₀ (ok b p).fields v known))
          ∙ ap (λ (w : ℕ). moved_in (lazy c₀) (record { queue = dropped (queue_of c₀) w; events = evicted w (is_dirty (stored_at (queue_of c₀) w)) ∷ [] }) c₀.closed)
          (sym (root_first b p is))
