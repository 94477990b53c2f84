-- `Present::catch_up` meets its contract: what is known has been carried over the steps before step s. Assumes nothing.
use native.Mathlib.Omega.{arith}
use Rattle.season_items.proofs.Presence.{walk_few, walk_on}
use Rattle.season_items.proofs.Present.catch_up.Goals as goal

pub advance-requires : goal.advance-requires
advance-requires c =
    walk_few _ c.loop-s.self c.args.calls.now c.args.from c.args.to c.loop-s.s c.loop-s.invariant (omega arith) c.requires

pub loop-s-preserved : goal.loop-s-preserved
loop-s-preserved c =
    walk_on _ c.loop-s.self c.advance.new.self c.args.calls.now c.args.from c.loop-s.s c.loop-s.invariant (rw (← c.noted_step.ensures) c.advance.ensures)
