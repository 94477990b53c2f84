-- `cache_counts::count_step` meets its contract: a law for the five ways, and then the steps. Assumes nothing.
use mathlib.Core.Path.{refl}
use Rattle.cache_state.specs.Cache.{Cache}
use Rattle.cache_state.specs.InnerWith.{with_hits, with_loads, with_flushes, with_arrivals, with_retirements}
use Rattle.layout.specs.Layout.{cache_of}
use Rattle.layout.specs.Inner.{Stands}
use Rattle.cache_counts.specs.Inner.{total_counted}
use Rattle.cache_counts.proofs.Counts.{total_counted_lem, step_counted_lem}
use Rattle.cache_counts.proofs.count_step.Goals as goal
use Rattle.cache_counts.proofs.count_step.Goals.{in-Arrivals, in-Flushes, in-Hits, in-Loads, in-Retirements}

pub returns : goal.returns
returns c =
    let met : Stands c.match-total.b (total_counted (cache_of c.args.b.now) c.args.total) = let b = c.args.b.now in
    elim c.match-total.branch [ in-Hits w ↦ total_counted_lem b (λ (q : Cache). q.hits) with_hits w.in-Hits.is w.hits-n.ensures w.put_hits.ensures w.b-is refl | in-Loads w ↦ total_counted_lem b (λ (q : Cache). q.loads) with_loads w.in-Loads.is w.loads-n.ensures w.put_loads.ensures w.b-is refl | in-Flushes w ↦ total_counted_lem b (λ (q : Cache). q.flushes) with_flushes w.in-Flushes.is w.flushes-n.ensures w.put_flushes.ensures w.b-is refl | in-Arrivals w ↦ total_counted_lem b (λ (q : Cache). q.arrivals) with_arrivals w.in-Arrivals.is w.arrivals-n.ensures w.put_arrivals.ensures w.b-is refl | in-Retirements w ↦ total_counted_lem b (λ (q : Cache). q.retirements) with_retirements w.in-Retirements.is w.retirements-n.ensures w.put_retirements.ensures w.b-is refl ] in
    step_counted_lem c.args.b.now c.match-total.b _ c.args.total c.steps-steps.ensures met c.put_steps.ensures
