-- `Copies::acts_before` meets its contract: the acts that are left lead where all of them lead. Assumes nothing.
use Rattle.season_plan.proofs.Acting.{Acting}
use Rattle.season_plan.proofs.Copies.acts_before.Given as goal

abbrev pub invariant-loop-a : goal.invariant-loop-a
invariant-loop-a l = Acting l.seen l.catalog l.acts l.initial.self l.first l.step l.self l.a
