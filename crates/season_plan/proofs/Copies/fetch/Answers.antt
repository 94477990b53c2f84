-- `Copies::fetch` meets its contract: held already, or not. Assumes nothing.
use mathlib.Core.Path.{refl}
use native.Mathlib.Omega.{arith}
use borrow.Author.Rules.{rules}
use Rattle.season_plan.proofs.Deeds.{placed, fetch_fails, fetch_does}
use Rattle.season_plan.proofs.Copies.fetch.Goals as goal

pub bounds-self-i : goal.bounds-self-i
bounds-self-i c = (placed c.requires).place

pub returns-then-ne : goal.returns-then-ne
returns-then-ne c = fetch_fails c.requires (omega arith) _ _ (search rules)

pub bounds-self-i-2 : goal.bounds-self-i-2
bounds-self-i-2 c = (placed c.requires).place

pub get-listed-requires : goal.get-listed-requires
get-listed-requires c = (placed c.requires).there

pub overflow_add-self : goal.overflow_add-self
overflow_add-self c = omega (arith, (placed c.requires).used, c.get-listed.type_inv)

pub returns : goal.returns
returns c =
    fetch_does c.requires (omega arith) _ _ (search rules) refl refl (omega (arith, c.get-listed.ensures.blocks)) (omega (arith, c.get-listed.ensures.load))
