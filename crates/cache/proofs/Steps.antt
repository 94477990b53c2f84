-- Laws of a step that the table does not refuse: what has been asked of it, and that what is done in place is one step of the rule.
-- Assumes nothing.
use mathlib.Core.Logic.{◌⊎◌, inl, inr, ⊎_elim}
use mathlib.Core.Path.{◌≡◌, refl, sym, ap, subst, ◌∙◌}
use mathlib.Core.Bool.{Bool, true, false, cond, ◌&&◌, false≢true}
use mathlib.Core.List.{List}
use Prim.Native.Nat.{ℕ, ◌≤◌, ◌<◌}
use native.Mathlib.Omega.{arith}
use lib.Dec.{leb}
use lib.ListN.{length}
use borrow.Author.Tests.{eqb-true, leb-true}
use Rattle.types.specs.declared.Step.{Step}
use Rattle.types.specs.declared.Step.TheVariants.{Read, Write, Arrive, Retire}
use Rattle.types.specs.declared.Numbers.{Numbers}
use Rattle.types.specs.Types.{numbers_of, step_of}
use Rattle.types.proofs.Steps.{same_step}
use Rattle.landlord.specs.Catalog.{item_at, listed, item_in_range}
use Rattle.landlord.specs.Slot.{Split, split_of}
use Rattle.landlord.specs.Rule.{make_room}
use Rattle.landlord.specs.Steps.{is_item_number, in_range, item_refusal}
use Rattle.landlord.specs.Calls.{call_of, refusal_now, refusal_at, step_call}
use Rattle.landlord.specs.Figures.{Standing}
use Rattle.landlord.specs.Inner.{ItemFacts}
use Rattle.landlord.proofs.Ranges.{item_facts}
use Rattle.landlord.proofs.Steps.{Passes, free_range, passes, means}
use Rattle.landlord.proofs.Calls.{open_log, open_step}
use Rattle.landlord.proofs.Slots.{deduction_ok}
use Rattle.landlord.proofs.Valid.{CanServe, room_ready}
use Rattle.queue.specs.Queue.{Queue, blocks_of}
use Rattle.queue.specs.Machine.{LazyStanding, LazyOk, MovedIn, standing, joined_in, moved_in, make_room_in, serve_read_in, serve_write_in, step_in, took_in}
use Rattle.queue.proofs.Losses.{deduction_adds}
use Rattle.queue.proofs.Logs.{Alike, sound, room_alike, room_catalog, moved_ok, moved_stands, joined_moves}
use Rattle.cache_state.specs.Cache.{Cache, catalog_of, lazy, view}
use Rattle.cache_state.specs.InnerView.{state_of, queue_of}
use Rattle.cache_state.proofs.Views.{size_is, left_is, blocks_is}
use Rattle.layout.specs.Layout.{cache_of}
use Rattle.layout.specs.Inner.{BecomesAt}
use Rattle.layout.proofs.Places.{becomes_valid}
use Rattle.cache_room.specs.Inner.{WantedAt}
use Rattle.cache_serve.specs.InnerReady.{SteppableAt, ServableAt}
use Rattle.cache_arrivals.specs.InnerReady.{ArrivableAt}
use Rattle.cache.specs.Inner.{request_refusal, TablePasses}
use Rattle.cache.proofs.Table.{Known, let_in}

-- numbers that are not refused are not as the step that they mean
pub meant : (v : Standing) (n : Numbers) → refusal_now v (step_call n) ≡ 0 → refusal_now v (call_of (step_of n)) ≡ 0
unfolding refusal_at
meant v n e =
    let cat = v.state.catalog in
    let t = v.figures.totals.steps in
    rw (open_log v.k cat t v.closed (step_call n) e) (means v.k cat t n (open_step v.k cat t v.closed n e))

-- a test that an answer of 0 has passed
passed_by : {number : ℕ} (a : Bool) → 1 ≤ number → cond a 0 number ≡ 0 → a ≡ true
passed_by true some e = refl
passed_by false some e = absurd (omega arith)

both : (a b : Bool) → a && b ≡ true → (a ≡ true) × (b ≡ true)
both true true e = (refl, refl)
both true false e = absurd (false≢true e)
both false b e = absurd (false≢true e)

module _ (b : List ℕ) (s : Step) (p : TablePasses b s) where
  abbrev c : Cache
  c = cache_of b

  passed : Passes c.k (catalog_of c) c.steps (numbers_of s)
  passed = passes c.k (catalog_of c) c.steps (numbers_of s) (open_step c.k (catalog_of c) c.steps c.closed (numbers_of s) p.free)

  is_open : c.closed ≡ false
  is_open = open_log c.k (catalog_of c) c.steps c.closed (call_of s) p.free

  -- a step that is known to be z
  ranged_as : (z : Step) → s ≡ z → in_range (numbers_of z) ≡ true
  ranged_as z is = subst (λ (y : Step). in_range (numbers_of y) ≡ true) is (free_range (numbers_of s) passed.range)

  free_as : (z : Step) → s ≡ z → item_refusal c.k (catalog_of c) z ≡ 0
  free_as z is = subst (λ (y : Step). item_refusal c.k (catalog_of c) y ≡ 0) (same_step s ∙ is) passed.item

  took_as : (z : Step) (after : List ℕ) → s ≡ z → BecomesAt (took_in (lazy c) z) after → BecomesAt (took_in (lazy c) s) after
  took_as z after is h = subst (λ (y : Step). BecomesAt (took_in (lazy c) y) after) (sym is) h

  pub passed_steps : SteppableAt b
  passed_steps = record { valid = p.valid; room = passed.few }

  -- ---- an arrival has the next number, and its values are in range

  module _ (i blocks load write : ℕ) (is : s ≡ Arrive i blocks load write) where
    next : i ≡ c.n
    next = omega (arith, eqb-true i (length (catalog_of c)) (passed_by _ (omega arith) (free_as _ is)), size_is c)

    ranged : (is_item_number i ≡ true) × (item_in_range (listed blocks load write) ≡ true)
    ranged = both (is_item_number i) _ (ranged_as _ is)

    pub arrival_values : ItemFacts (listed blocks load write)
    arrival_values = item_facts _ ranged.1

    pub arrival_ready : ArrivableAt b
    arrival_ready = record { valid = p.valid; room = passed.few; few = omega (arith, next, leb-true i 255 ranged.0) }

    pub arrival_took : (after : List ℕ) → BecomesAt (took_in (lazy c) (Arrive c.n blocks load write)) after → BecomesAt (took_in (lazy c) s) after
    arrival_took after h = took_as _ after (is ∙ ap (λ (n : ℕ). Arrive n blocks load write) next) h

  -- ---- the item of a retirement is there

  pub retirement_ready : (i : ℕ) → s ≡ Retire i → ServableAt b i
  retirement_ready i is = record { valid = p.valid; item = (let_in c i 0 (free_as (Retire i) is)).0.below; room = passed.few }

  -- ---- that of a read or a write too, and it has room

  pub write_minutes : (i minutes : ℕ) → s ≡ Write i minutes → minutes ≤ 1440
  write_minutes i minutes is = leb-true minutes 1440 (both (is_item_number i) _ (ranged_as (Write i minutes) is)).1

  module _ (i : ℕ) (is : (s ≡ Read i) ⊎ ((minutes : ℕ) × (s ≡ Write i minutes))) where
    free : request_refusal c.k (catalog_of c) i ≡ 0
    free = ⊎_elim (λ e. free_as (Read i) e) (λ w. free_as (Write i w.0) w.1) is

    asked : Known c i × ◌≡◌ {A = ℕ} (cond (leb (item_at (catalog_of c) i).blocks c.k) 0 7) 0
    asked = let_in c i _ free

    below : i < length (catalog_of c)
    below = omega (arith, size_is c, asked.0.below)

    small : blocks_of (queue_of c) i ≤ c.k
    small = leb-true _ c.k (passed_by _ (omega arith) asked.1)

    stays : (item_at (catalog_of c) i).left ≡ false
    stays = left_is c i asked.0.below ∙ asked.0.stays

    pub request_wanted : WantedAt b i
    request_wanted = record { valid = p.valid; known = asked.0.below; fits = subst (λ (z : ℕ). z ≤ c.k) (blocks_is c i asked.0.below) small }

    -- the room that was made: the item can be served there
    abbrev made : MovedIn
    made = make_room_in c.k i (queue_of c)

    alike : Alike (split_of c.rule) (queue_of c) made (make_room (split_of c.rule) c.k i (state_of c))
    alike = room_alike (split_of c.rule) (deduction_ok c.rule) (deduction_adds c.rule) c.k i (queue_of c) (sound (lazy c) p.valid.cache.lazy) below small

    room_lazy : LazyOk (moved_in (lazy c) made c.closed)
    room_lazy = moved_ok (lazy c) made (make_room (split_of c.rule) c.k i (state_of c)) c.closed p.valid.cache.lazy alike

    ready : CanServe (standing (moved_in (lazy c) made c.closed)) i
    ready =
        rw (moved_stands (lazy c) made (make_room (split_of c.rule) c.k i (state_of c)) c.closed alike)
        (room_ready (split_of c.rule) (view c) i (deduction_ok c.rule) (record { standing = p.valid.cache.standing; few = passed.few; is_open = is_open }) below small stays)

    module _ (room : List ℕ) (at : BecomesAt (moved_in (lazy c) made c.closed) room) where
      pub room_servable : ServableAt room i
      room_servable =
          let r : CanServe (view (cache_of room)) i = subst (λ (z : LazyStanding). CanServe (standing z) i) (sym at.cache.stands) ready in
          record {
            valid = becomes_valid room_lazy ready.taking.standing at;
            item = omega (arith, size_is (cache_of room), r.below);
            room = r.taking.few;
          }

      -- what is served there, by the cache's own split, is the step
      pub request_took :
          (serve : Split → Queue → MovedIn) (z : Step) (after : List ℕ) →
          s ≡ z →
          moved_in (lazy c) (joined_in made (serve (split_of c.rule) made.queue)) c.closed ≡ took_in (lazy c) z →
          BecomesAt (moved_in (lazy (cache_of room)) (serve (split_of (cache_of room).rule) (queue_of (cache_of room))) (cache_of room).closed) after →
          BecomesAt (took_in (lazy c) s) after
      request_took serve z after is one h =
          took_as z after is
          (subst (λ (u : LazyStanding). BecomesAt u after)
          (ap (λ (u : LazyStanding). moved_in u (serve u.split u.queue) u.closed) at.cache.stands
          ∙ sym (joined_moves (lazy c) made (serve (split_of c.rule) made.queue) c.closed (room_catalog (split_of c.rule) (deduction_ok c.rule) (deduction_adds c.rule) c.k i (queue_of c) (sound (lazy c) p.valid.cache.lazy) below small))
          ∙ one)
          h)

      pub read_took :
          (after : List ℕ) →
          ((j minutes : ℕ) → s ≡ Write j minutes → ⊥) →
          BecomesAt (moved_in (lazy (cache_of room)) (serve_read_in (split_of (cache_of room).rule) i (queue_of (cache_of room))) (cache_of room).closed) after →
          BecomesAt (took_in (lazy c) s) after
      unfolding took_in step_in
      read_took after none h = request_took (λ r q. serve_read_in r i q) (Read i) after (⊎_elim (λ e. e) (λ w. absurd (none i w.0 w.1)) is) refl h

      pub write_took :
          (j minutes : ℕ) (after : List ℕ) →
          s ≡ Write j minutes →
          BecomesAt (moved_in (lazy (cache_of room)) (serve_write_in (split_of (cache_of room).rule) i minutes (queue_of (cache_of room))) (cache_of room).closed) after →
          BecomesAt (took_in (lazy c) s) after
      unfolding took_in step_in
      write_took j minutes after e h = request_took (λ r q. serve_write_in r i minutes q) (Write i minutes) after (same is) refl h
        where
          same : (s ≡ Read i) ⊎ ((m : ℕ) × (s ≡ Write i m)) → s ≡ Write i minutes
          same (inl r) = cc
          same (inr w) = cc
