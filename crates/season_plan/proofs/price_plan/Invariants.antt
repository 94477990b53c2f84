-- `season_plan::price_plan` meets its contract: the rest of the plan, with what is paid, leads to its price. Assumes nothing.
use Rattle.season_plan.proofs.Pricing.{Pricing}
use Rattle.season_plan.proofs.price_plan.Given as goal

abbrev pub invariant-loop-s : goal.invariant-loop-s
invariant-loop-s l = Pricing l.seen l.catalog l.calls l.acts l.copies l.next l.s
