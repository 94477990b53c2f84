-- `Present::catch_up` meets its contract: what is known has been carried over the steps before step s. Assumes nothing.
use Rattle.season_items.specs.Inner.{CatchesUp}
use Rattle.season_items.proofs.Present.catch_up.Given as goal

abbrev pub invariant-loop-s : goal.invariant-loop-s
invariant-loop-s l = CatchesUp l.initial.self l.calls l.from l.s l.self
