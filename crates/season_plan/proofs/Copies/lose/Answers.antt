-- `Copies::lose` meets its contract: no copy, a dirty one, or a clean one. Assumes nothing.
use mathlib.Core.Path.{◌≡◌, refl}
use mathlib.Core.Logic.{◌≢◌}
use native.Mathlib.Omega.{arith}
use borrow.Author.Rules.{rules}
use Rattle.season_plan.specs.declared.Mark.TheVariants.{Absent, Clean, Dirty}
use Rattle.season_plan.specs.Inner.{mark_at}
use Rattle.season_plan.proofs.Deeds.{placed, lost, used_some}
use Rattle.season_plan.proofs.Copies.lose.Goals as goal

pub bounds-self-item : goal.bounds-self-item
bounds-self-item c = (placed c.requires).place

pub bounds-self-item-2 : goal.bounds-self-item-2
bounds-self-item-2 c = (placed c.requires).place

pub returns-then-eq : goal.returns-then-eq
returns-then-eq c =
    let m : mark_at c.args.self.now.marks c.args.item ≡ Absent = search rules in
    lost c.requires (omega arith) _ Absent m refl refl (omega arith) (omega arith)

pub overflow_sub-self : goal.overflow_sub-self
overflow_sub-self c =
    let held : mark_at c.args.self.now.marks c.args.item ≢ Absent = search rules in
    omega (arith, used_some c.requires (omega arith) held, c.get-listed.ensures.blocks)

pub returns-then-eq-2 : goal.returns-then-eq-2
returns-then-eq-2 c =
    let held : mark_at c.args.self.now.marks c.args.item ≢ Absent = search rules in
    let m : mark_at c.args.self.now.marks c.args.item ≡ Dirty = search rules in
    lost c.requires (omega arith) _ Dirty m refl refl (omega (arith, used_some c.requires (omega arith) held, c.get-listed.ensures.blocks)) (omega (arith, c.get-listed.ensures.write))

pub returns-else-eq-2 : goal.returns-else-eq-2
returns-else-eq-2 c =
    let held : mark_at c.args.self.now.marks c.args.item ≢ Absent = search rules in
    let m : mark_at c.args.self.now.marks c.args.item ≡ Clean = search rules in
    lost c.requires (omega arith) _ Clean m refl refl (omega (arith, used_some c.requires (omega arith) held, c.get-listed.ensures.blocks)) (omega arith)
