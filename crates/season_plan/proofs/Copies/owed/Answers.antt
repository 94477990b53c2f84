-- `Copies::owed` meets its contract: the sum over the items below `i`. Assumes nothing.
use mathlib.Core.Path.{◌≡◌}
use mathlib.Core.Logic.{◌≢◌}
use native.Mathlib.Omega.{arith}
use borrow.Author.Rules.{rules}
use Rattle.season_plan.specs.declared.Mark.TheVariants.{Dirty}
use Rattle.season_plan.specs.Inner.{mark_at}
use Rattle.season_plan.proofs.Deeds.{few_items_lem}
use Rattle.season_plan.proofs.Flushes.{owed_none, owed_dirty, owed_other, owed_all}
use Rattle.season_plan.proofs.Copies.owed.Goals.{then-eq, else-eq}
use Rattle.season_plan.proofs.Copies.owed.Goals as goal

pub loop-i-init : goal.loop-i-init
loop-i-init c = owed_none c.args.catalog.now c.args.self.now

pub bounds-self-i : goal.bounds-self-i
bounds-self-i c = omega (arith, few_items_lem c.args.catalog.now c.args.self.now c.requires)

pub loop-i-preserved : goal.loop-i-preserved
loop-i-preserved c =
    let xs = c.args.catalog.now in
    let p = c.args.self.now in
    let i = c.loop-i.i in
    elim c.if-eq.branch [
      | then-eq w ↦
          let m : mark_at p.marks i ≡ Dirty = search rules in
          rw w.sum-is (owed_dirty xs p i c.loop-i.sum w.from-sum.result c.loop-i.invariant m (search rules) (omega (arith, w.get.type_inv)))
      | else-eq w ↦
          let m : mark_at p.marks i ≢ Dirty = search rules in
          rw w.sum-is (owed_other xs p i c.loop-i.sum c.loop-i.invariant m)
    ]

pub returns : goal.returns
returns c =
    let few = few_items_lem c.args.catalog.now c.args.self.now c.requires in
    owed_all c.args.catalog.now c.args.self.now c.loop-i.i c.loop-i.sum c.loop-i.invariant (omega arith) (omega (arith, few))
