-- The loop that makes room, against the queue's: what is left to do from where it stands. Assumes nothing.
use mathlib.Core.Path.{◌≡◌, refl, sym, ap, subst, ◌∙◌}
use mathlib.Core.Bool.{Bool, true, false, cond}
use Prim.Native.Nat.{ℕ, ◌+◌, ◌-◌, ◌≤◌, ◌<◌}
use native.Mathlib.Omega.{arith}
use lib.ListN.{get_or}
use Rattle.landlord.specs.Fold.{fold}
use Rattle.landlord.specs.Slot.{split_of}
use Rattle.landlord.specs.Rule.{evict}
use Rattle.landlord.specs.Valid.{StandingOk}
use Rattle.landlord.proofs.Sums.{sum_longer}
use Rattle.landlord.proofs.Slots.{deduction_ok}
use Rattle.landlord.proofs.Keeps.{victim_least}
use Rattle.landlord.proofs.Valid.{ok_evict}
use Rattle.queue.specs.Queue.{blocks_of, First}
use Rattle.queue.specs.Machine.{LazyStanding, standing, LazyOk, moved_in, stay_in, used_in, held_count_in, victim_in, evict_in, evict_for_in, make_room_in}
use Rattle.queue.proofs.Losses.{deduction_adds}
use Rattle.queue.proofs.Logs.{Alike, sound, first_is, evict_alike, used_is, moved_ok, moved_stands, dropped_used, dropped_count, room_from, evicted_from, from_enough, from_more}
use Rattle.cache_state.specs.Cache.{Cache, held_at, held_blocks, lazy, view, Normal, Valid}
use Rattle.cache_state.specs.InnerView.{queue_of, state_of}
use Rattle.cache_state.specs.InnerBecomes.{Becomes}
use Rattle.cache_state.proofs.Views.{size_is, blocks_is, stored_held, used_in_lem}

-- the blocks held, as the cache has them
pub used_here : (c : Cache) → Normal c → c.used ≡ used_in (queue_of c)
unfolding held_blocks
used_here c ok =
    ok.used
    ∙ sum_longer c.n 256 (λ i. cond (held_at c i) (get_or c.blocks i 0) 0) (λ i. cond (held_at c i) (get_or c.blocks i 0) 0) ok.few (λ i l. refl)
    (λ i l b. ap (λ (t : Bool). cond t (get_or c.blocks i 0) 0) (ok.past i l b).place.held)
    ∙ sym (used_in_lem c)

-- a valid cache, after one eviction
pub evicted_valid : (q r : Cache) → Valid q → 1 ≤ used_in (queue_of q) → Becomes (evicted_from (lazy q)) r → Valid r
evicted_valid q r ok some out =
    record {
      fields = out.fields;
      lazy = subst LazyOk (sym out.stands) (moved_ok (lazy q) (evict_in (queue_of q)) (evict (split_of q.rule) (state_of q)) q.closed ok.lazy alike);
      standing =
          subst (λ (w : LazyStanding). StandingOk (standing w)) (sym out.stands)
          (subst StandingOk (sym (moved_stands (lazy q) (evict_in (queue_of q)) (evict (split_of q.rule) (state_of q)) q.closed alike))
          (ok_evict (split_of q.rule) (view q) (deduction_ok q.rule) ok.standing
          (victim_least (state_of q) (omega (arith, used_is (split_of q.rule) (deduction_ok q.rule) (deduction_adds q.rule) (queue_of q) (sound (lazy q) ok.lazy))))));
    }
  where
    alike : Alike (split_of q.rule) (queue_of q) (evict_in (queue_of q)) (evict (split_of q.rule) (state_of q))
    alike = evict_alike (split_of q.rule) (deduction_ok q.rule) (deduction_adds q.rule) (queue_of q) (sound (lazy q) ok.lazy) some

-- The loop, on its way from q₀ to room for `blocks` in k; u are the blocks held.
pub record RoomGoing (k blocks : ℕ) (q₀ q : Cache) (u : ℕ) : Type 0 where
  pub valid : Valid q
  pub taken : u ≡ used_in (queue_of q)
  pub goal : room_from k blocks (lazy q) ≡ room_from k blocks (lazy q₀)

pub going_starts : {k blocks : ℕ} (q : Cache) {u : ℕ} → Valid q → u ≡ q.used → RoomGoing k blocks q q u
going_starts q ok e = record { valid = ok; taken = e ∙ used_here q ok.fields; goal = refl }

-- One eviction more, that frees f blocks: they were held, the loop goes on without them, and one item fewer is held.
pub record Gone (k blocks : ℕ) (q₀ q r : Cache) (u f : ℕ) : Type 0 where
  pub within : f ≤ u
  pub going : RoomGoing k blocks q₀ r (u - f)
  pub less : held_count_in (queue_of r) < held_count_in (queue_of q)

pub going_on :
    {k blocks : ℕ} (q₀ q r : Cache) {u f : ℕ} →
    RoomGoing k blocks q₀ q u →
    blocks ≤ k →
    k < u + blocks →
    f ≡ get_or q.blocks (victim_in (queue_of q)) 0 →
    Becomes (evicted_from (lazy q)) r →
    Gone k blocks q₀ q r u f
going_on {k} {blocks} q₀ q r {u} {f} so fits l is out =
    record {
      within = omega (arith, freed);
      going =
          record {
            valid = evicted_valid q r so.valid some out;
            taken = omega (arith, freed);
            goal = ap (room_from k blocks) out.stands ∙ from_more k blocks (lazy q) so.valid.lazy.queue fits (omega (arith, so.taken)) ∙ so.goal;
          };
      less =
          omega (
            arith,
            ap (λ (v : LazyStanding). held_count_in v.queue) out.stands,
            dropped_count (queue_of q) (victim_in (queue_of q)) first.below so.valid.lazy.queue.slots first.is_held,
          );
    }
  where
    some : 1 ≤ used_in (queue_of q)
    some = omega (arith, so.taken)

    first : First (queue_of q) (victim_in (queue_of q))
    first = first_is (queue_of q) some

    -- the blocks held before are those held after and those freed
    freed : used_in (queue_of r) + f ≡ u
    freed =
        let known : victim_in (queue_of q) < q.n = omega (arith, first.below, size_is q) in
        omega (
          arith,
          so.taken,
          ap (λ (v : LazyStanding). used_in v.queue) out.stands,
          dropped_used (queue_of q) (victim_in (queue_of q)) first.below so.valid.lazy.queue.slots first.is_held,
          blocks_is q (victim_in (queue_of q)) known,
        )

-- a hit: nothing is to be done
pub room_hit :
    (c : Cache) (i : ℕ) →
    Normal c →
    i < c.n →
    held_at c i ≡ true →
    Becomes (moved_in (lazy c) (make_room_in c.k i (queue_of c)) c.closed) c
unfolding make_room_in fold
room_hit c i ok l h =
    record {
      stands =
          sym (ap (λ (t : Bool). moved_in (lazy c) (cond t (stay_in (queue_of c)) (evict_for_in (held_count_in (queue_of c)) c.k (blocks_of (queue_of c) i) (queue_of c))) c.closed)
          (stored_held c i l ∙ h));
      fields = ok;
    }

-- a miss: the loop's end is what was asked for
pub room_miss :
    (c q : Cache) (i : ℕ) {k blocks u : ℕ} →
    k ≡ c.k →
    blocks ≡ get_or c.blocks i 0 →
    i < c.n →
    held_at c i ≡ false →
    RoomGoing k blocks c q u →
    u + blocks ≤ k →
    Becomes (moved_in (lazy c) (make_room_in c.k i (queue_of c)) c.closed) q
unfolding make_room_in
room_miss c q i {k} {blocks} ek eb l h so enough =
    record {
      stands =
          sym (from_enough k blocks (lazy q) (omega (arith, so.taken)))
          ∙ so.goal
          ∙ (λ z. room_from (ek z) ((eb ∙ sym (blocks_is c i l)) z) (lazy c))
          ∙ sym (ap (λ (t : Bool). moved_in (lazy c) (cond t (stay_in (queue_of c)) (evict_for_in (held_count_in (queue_of c)) c.k (blocks_of (queue_of c) i) (queue_of c))) c.closed)
          (stored_held c i l ∙ h));
      fields = so.valid.fields;
    }
