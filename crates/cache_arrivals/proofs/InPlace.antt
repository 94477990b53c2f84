-- The public functions on the bytes of a state: what each call leaves for the next, and where the lazy form stands at the end. Assumes
-- nothing.
use mathlib.Core.Path.{◌≡◌, refl, sym, ap, subst, ◌∙◌}
use mathlib.Core.Bool.{Bool, true, false}
use mathlib.Core.List.{List}
use Prim.Native.Nat.{ℕ, ◌<◌}
use native.Mathlib.Omega.{arith}
use lib.ListN.{get_or}
use Rattle.types.specs.declared.Step.TheVariants.{Arrive, Retire}
use Rattle.landlord.specs.Figures.{Use}
use Rattle.landlord.specs.Rule.{size}
use Rattle.landlord.specs.Valid.{StandingOk}
use Rattle.landlord.proofs.Valid.{line_writebacks}
use Rattle.queue.specs.Machine.{LazyStanding, moved_in, drop_in, took_in}
use Rattle.cache_state.specs.Cache.{Cache, dirty_at, lazy, view, Valid}
use Rattle.cache_state.specs.InnerView.{queue_of, state_of}
use Rattle.cache_state.specs.InnerBecomes.{Becomes}
use Rattle.cache_state.proofs.Views.{size_is, use_is, stored_held}
use Rattle.layout.specs.Layout.{cache_of}
use Rattle.layout.specs.Inner.{Stands, BecomesAt}
use Rattle.layout.proofs.Rounds.{whole}
use Rattle.layout.proofs.Places.{readable, valid_reads}
use Rattle.cache_room.specs.Inner.{gone_of, counted_of, CountableAt, HoldsAt, LetGoAt}
use Rattle.cache_serve.specs.InnerReady.{ServableAt}
use Rattle.cache_counts.specs.declared.Total.TheVariants.{Arrivals}
use Rattle.cache_counts.specs.Inner.{step_counted, StepReadyAt}
use Rattle.cache_serve.proofs.Queues.{valid_tallied, holds_of}
use Rattle.cache_arrivals.specs.InnerStores.{listed_of, LeftAt}
use Rattle.cache_arrivals.specs.InnerReady.{ArrivableAt, ListableAt}
use Rattle.cache_arrivals.proofs.Arrivals.{arrive_becomes}
use Rattle.cache_arrivals.proofs.Retirements.{unheld_becomes, held_becomes, StillCounted, drop_still, retire_becomes}

-- ---- an arrival

module _ (b : List ℕ) (p : ArrivableAt b) where
  module _ (b1 : List ℕ) (s1 : Stands b1 (step_counted (cache_of b) Arrivals)) where
    pub listable_at : ListableAt b1
    listable_at =
        record { reads = readable s1; few = subst (λ (m : ℕ). m < 256) (sym (ap (λ (q : Cache). q.n) s1.cache)) p.few }

    pub arrive_at :
        (after : List ℕ) (blocks load write : ℕ) →
        Stands after (listed_of (cache_of b1) blocks load write) →
        BecomesAt (took_in (lazy (cache_of b)) (Arrive (cache_of b).n blocks load write)) after
    arrive_at after blocks load write s2 =
        record {
          reads = readable s2;
          cache =
              subst (Becomes (took_in (lazy (cache_of b)) (Arrive (cache_of b).n blocks load write)))
              (sym (s2.cache ∙ ap (λ (q : Cache). listed_of q blocks load write) s1.cache))
              (arrive_becomes (cache_of b) blocks load write (whole b) p.valid.cache.fields p.few);
        }

-- ---- a retirement

module _ (b : List ℕ) (i : ℕ) (p : ServableAt b i) where
  ok : Valid (cache_of b)
  ok = p.valid.cache

  rule : StandingOk (view (cache_of b))
  rule = ok.standing

  -- where the drop leads
  abbrev dropped : LazyStanding
  dropped = moved_in (lazy (cache_of b)) (drop_in i (queue_of (cache_of b))) (cache_of b).closed

  pub unheld_at : {h : Bool} → h ≡ get_or (cache_of b).held i false → h ≡ false → BecomesAt dropped b
  unheld_at is h =
      record { reads = valid_reads p.valid; cache = unheld_becomes (cache_of b) i ok.fields p.item (sym is ∙ h) }

  pub retire_holds : {h : Bool} → h ≡ get_or (cache_of b).held i false → h ≡ true → HoldsAt b i
  retire_holds is h =
      holds_of (lazy (cache_of b)) b i (record { reads = valid_reads p.valid; cache = record { stands = refl; fields = ok.fields } })
      (valid_tallied (cache_of b) ok) (rw (size_is (cache_of b)) p.item) (stored_held (cache_of b) i p.item ∙ sym is ∙ h)

  -- the item let go
  module _ (b1 : List ℕ) (s1 : LetGoAt b i b1) where
    gone : cache_of b1 ≡ gone_of (cache_of b) i (cache_of b1).dirty (cache_of b1).heap (cache_of b1).places
    gone = s1.cache.fields

    pub countable_at : CountableAt b1 i
    countable_at =
        record {
          reads = s1.reads;
          counts =
              record {
                evictions = omega (arith, ap (λ (q : Cache). q.evictions) gone, rule.steps, rule.taken, rule.evictions);
                dirty_evictions = omega (arith, ap (λ (q : Cache). q.dirtyevictions) gone, rule.steps, rule.taken, rule.evictions, rule.dirty_evictions);
                writeback =
                    record {
                      place = omega (arith, p.item, ok.fields.few);
                      total = omega (arith, ap (λ (q : Cache). q.writebacks) gone, rule.taken, rule.writebacks);
                      own =
                          let l : i < size (state_of (cache_of b)) = rw (size_is (cache_of b)) p.item in
                          omega (
                            arith,
                            ap (λ (q : Cache). get_or q.itemwritebacks i 0) gone,
                            rule.taken,
                            rule.writebacks,
                            line_writebacks (view (cache_of b)) i rule l,
                            ap (λ (u : Use). u.writebacks) (use_is (cache_of b) i p.item),
                          );
                      cost = omega (arith, ap (λ (q : Cache). q.writecost) gone, rule.taken, rule.writebacks, rule.write_cost);
                    };
              };
        }

    pub held_at :
        {h d : Bool} (after : List ℕ) →
        h ≡ get_or (cache_of b).held i false →
        h ≡ true →
        d ≡ dirty_at (cache_of b) i →
        Stands after (counted_of (cache_of b1) i d) →
        BecomesAt dropped after
    held_at {d = d} after is so was s2 =
        record {
          reads = readable s2;
          cache =
              subst (Becomes dropped) (sym s2.cache)
              (held_becomes (cache_of b) i ok.fields p.item (cache_of b1) d (sym is ∙ so) was s1.cache.becomes (whole b1).itemwritebacks);
        }

  -- and then its mark set
  module _ (b1 : List ℕ) (s1 : BecomesAt dropped b1) where
    pub retirement_at : StepReadyAt b1
    retirement_at =
        let still : StillCounted (lazy (cache_of b)).figures dropped.figures = drop_still (lazy (cache_of b)) i in
        record {
          reads = s1.reads;
          counts =
              record {
                steps = omega (arith, ap (λ (v : LazyStanding). v.figures.totals.steps) s1.cache.stands, still.steps, rule.steps, rule.taken);
                hits = omega (arith, ap (λ (v : LazyStanding). v.figures.totals.hits) s1.cache.stands, still.hits, rule.steps, rule.taken);
                loads = omega (arith, ap (λ (v : LazyStanding). v.figures.totals.loads) s1.cache.stands, still.loads, rule.steps, rule.taken);
                flushes = omega (arith, ap (λ (v : LazyStanding). v.figures.totals.flushes) s1.cache.stands, still.flushes, rule.steps, rule.taken);
                arrivals = omega (arith, ap (λ (v : LazyStanding). v.figures.totals.arrivals) s1.cache.stands, still.arrivals, rule.steps, rule.taken);
                retirements = omega (arith, ap (λ (v : LazyStanding). v.figures.totals.retirements) s1.cache.stands, still.retirements, rule.steps, rule.taken);
              };
        }

    pub retire_at : (after : List ℕ) → LeftAt b1 i after → BecomesAt (took_in (lazy (cache_of b)) (Retire i)) after
    retire_at after s2 =
        record { reads = s2.reads; cache = retire_becomes (cache_of b) (cache_of b1) (cache_of after) i p.item s1.cache s2.cache }
