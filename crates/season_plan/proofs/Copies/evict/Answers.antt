-- `Copies::evict` meets its contract: not held, or lost. Assumes nothing.
use native.Mathlib.Omega.{arith}
use borrow.Author.Rules.{rules}
use Rattle.season_plan.proofs.Deeds.{placed, evict_fails, evict_does}
use Rattle.season_plan.proofs.Copies.evict.Goals as goal

pub bounds-self-i : goal.bounds-self-i
bounds-self-i c = (placed c.requires).place

pub returns-then-eq : goal.returns-then-eq
returns-then-eq c = evict_fails c.requires (omega arith) _ _ (search rules)

pub returns : goal.returns
returns c = evict_does c.requires (omega arith) _ _ (search rules) c.lose.ensures
