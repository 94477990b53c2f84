-- `cache_check::left_ok` meets its contract. The loop's invariant: of the items before the mark none that has left is held. Assumes nothing.
use mathlib.Core.Path.{sym, ◌∙◌}
use native.Mathlib.Omega.{arith}
use Rattle.layout.specs.Layout.{cache_of}
use Rattle.cache_check.proofs.Gone.{passed_first, passed_more, passed_held}
use Rattle.cache_check.proofs.left_ok.Goals as goal

pub loop-i-init : goal.loop-i-init
loop-i-init c =
    passed_first (cache_of c.args.b.now) c.next-i.result (rw c.left-left.ensures at c.next-i.ensures)

pub returns-then-held : goal.returns-then-held
returns-then-held c =
    passed_held (cache_of c.args.b.now) c.loop-i.i (omega (arith, c.requires.count, c.requires.few)) c.loop-i.invariant (omega (arith, c.requires.count))
    (sym c.held.ensures ∙ c.if-held.true)

pub loop-i-smaller : goal.loop-i-smaller
loop-i-smaller c =
    let next =
    passed_more (cache_of c.args.b.now) c.loop-i.i c.next-i-in-loop-i.result (omega (arith, c.requires.count, c.requires.few)) c.loop-i.invariant (omega (arith, c.requires.count))
    (sym c.held.ensures ∙ c.if-held.false)
    (rw c.left-left.ensures at c.next-i-in-loop-i.ensures) in
    omega (arith, next.0)

pub loop-i-preserved : goal.loop-i-preserved
loop-i-preserved c =
    let next =
    passed_more (cache_of c.args.b.now) c.loop-i.i c.next-i-in-loop-i.result (omega (arith, c.requires.count, c.requires.few)) c.loop-i.invariant (omega (arith, c.requires.count))
    (sym c.held.ensures ∙ c.if-held.false)
    (rw c.left-left.ensures at c.next-i-in-loop-i.ensures) in
    next.1
