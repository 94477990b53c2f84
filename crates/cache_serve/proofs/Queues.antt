-- Laws of lines: an item reckoned twice, how many items are held, and what a line tells of the bytes that stand there. Assumes nothing.
use mathlib.Core.Path.{◌≡◌, refl, sym, ap, ◌∙◌}
use mathlib.Core.Logic.{◌≢◌}
use mathlib.Core.Bool.{Bool, true, false, cond}
use mathlib.Core.List.{List}
use Prim.Native.Nat.{ℕ, ◌+◌, ◌<◌}
use native.Mathlib.Omega.{arith}
use lib.ListN.{length, set}
use lib.Seq.{get_or-set_same, get_or-set_other, set-set}
use Rattle.landlord.specs.Slot.{Slot, absent, held}
use Rattle.landlord.proofs.Sums.{sum_change, sum_longer}
use Rattle.queue.specs.Queue.{Queue, stored_at, blocks_of, reckoned, key_now}
use Rattle.queue.specs.Machine.{LazyStanding, held_count_in}
use Rattle.cache_state.specs.Cache.{Cache, held_at, held_items, lazy, Normal, Valid}
use Rattle.cache_state.specs.InnerView.{queue_of}
use Rattle.cache_state.proofs.Views.{size_is, stored_held, count_in, count_is}
use Rattle.layout.specs.Layout.{cache_of, ValidBytes}
use Rattle.layout.specs.Inner.{BecomesAt}
use Rattle.layout.proofs.Places.{valid_reads}
use Rattle.cache_room.specs.Inner.{CountedHeld, HoldsAt}
use Rattle.cache_serve.specs.InnerStores.{fetched_in}
use Rattle.cache_serve.proofs.Changes.{restored}

-- reckoned anew over what was reckoned, or stored
twice : (q : Queue) (i : ℕ) (s t : Slot) → reckoned (reckoned q i s) i t ≡ reckoned q i t
twice q i s t =
    λ z.
    record {
      catalog = q.catalog;
      slots = set-set q.slots i s t z;
      keys = set-set q.keys i (key_now (blocks_of q i) q.level s) (key_now (blocks_of q i) q.level t) z;
      level = q.level;
    }

pub over : (q : Queue) (i : ℕ) (s t : Slot) → reckoned (restored q i s) i t ≡ reckoned q i t
over q i s t =
    λ z.
    record {
      catalog = q.catalog;
      slots = set-set q.slots i s t z;
      keys = set q.keys i (key_now (blocks_of q i) q.level t);
      level = q.level;
    }

-- or fetched
pub refetched : (t : Bool) (q : Queue) (i : ℕ) (s u : Slot) → reckoned (fetched_in t q i s) i u ≡ reckoned q i u
refetched true q i s u = refl
refetched false q i s u = twice q i s u

-- the slot stored otherwise, where the key is the same
pub under : (q : Queue) (i : ℕ) (s t : Slot) → key_now (blocks_of q i) q.level s ≡ key_now (blocks_of q i) q.level t → restored (reckoned q i s) i t ≡ reckoned q i t
under q i s t e =
    λ z. record { catalog = q.catalog; slots = set-set q.slots i s t z; keys = set q.keys i (e z); level = q.level }

module _ (q : Queue) (i : ℕ) (s : Slot) (l : i < length q.catalog) (size : length q.slots ≡ length q.catalog) where
  pub stored_same : stored_at (reckoned q i s) i ≡ s
  stored_same = get_or-set_same q.slots i s absent (omega arith)

  pub stored_other : (j : ℕ) → j ≢ i → stored_at (reckoned q i s) j ≡ stored_at q j
  stored_other j e = get_or-set_other q.slots i j s absent e

  pub reckoned_count : held s ≡ true → held_count_in (reckoned q i s) + cond (held (stored_at q i)) 1 0 ≡ held_count_in q + 1
  unfolding held_count_in
  reckoned_count h =
      let e : held_count_in (reckoned q i s) + cond (held (stored_at q i)) 1 0 ≡ held_count_in q + cond (held (stored_at (reckoned q i s) i)) 1 0 =
      sum_change (length q.catalog) i (λ j. cond (held (stored_at (reckoned q i s) j)) 1 0) (λ j. cond (held (stored_at q j)) 1 0) l
      (λ j b d. ap (λ (t : Slot). cond (held t) 1 0) (stored_other j d))
      in
      omega (arith, ap {B = ℕ} (λ (t : Bool). cond t 1 0) (ap held stored_same ∙ h))

-- "drops + held sails = loads"
pub record Tallied (v : LazyStanding) : Type 0 where
  pub count : v.figures.totals.evictions + held_count_in v.queue ≡ v.figures.totals.loads

-- as many items are held as the queue says
items_in_lem : (c : Cache) → Normal c → held_items c ≡ held_count_in (queue_of c)
unfolding held_items
items_in_lem c ok =
    sum_longer c.n 256 (λ i. cond (held_at c i) 1 0) (λ i. cond (held_at c i) 1 0) ok.few (λ i l. refl)
    (λ i l b. ap (λ (t : Bool). cond t 1 0) (ok.past i l b).place.held)
    ∙ sym (count_in c)

pub valid_tallied : (c : Cache) → Valid c → Tallied (lazy c)
valid_tallied c ok = record { count = omega (arith, ok.standing.evictions, count_is c, count_in c) }

pub valid_counted : (b : List ℕ) → ValidBytes b → CountedHeld b
valid_counted b p =
    record {
      reads = valid_reads p;
      count = omega (arith, (valid_tallied (cache_of b) p.cache).count, items_in_lem (cache_of b) p.cache.fields);
    }

-- bytes that stand where item i is held
pub holds_of :
    (v : LazyStanding) (b : List ℕ) (i : ℕ) → BecomesAt v b → Tallied v → i < length v.queue.catalog → held (stored_at v.queue i) ≡ true → HoldsAt b i
holds_of v b i at t l h =
    record {
      counted =
          record {
            reads = at.reads;
            count = omega (arith, ap (λ (w : LazyStanding). w.figures.totals.evictions + held_count_in w.queue) at.cache.stands, ap (λ (w : LazyStanding). w.figures.totals.loads) at.cache.stands, t.count, items_in_lem (cache_of b) at.cache.fields);
          };
      fields = at.cache.fields;
      known = known;
      is_held = sym (stored_held (cache_of b) i known) ∙ ap (λ (w : LazyStanding). held (stored_at w.queue i)) at.cache.stands ∙ h;
    }
  where
    known : i < (cache_of b).n
    known = omega (arith, size_is (cache_of b), ap (λ (w : LazyStanding). length w.queue.catalog) at.cache.stands)
