-- A step and its numbers: the numbers of a step mean that step, and the kind tells which step numbers mean. Assumes nothing.
use mathlib.Core.Path.{◌≡◌}
use borrow.Author.Tests.{eq-eqb, ne_eqb}
use Rattle.types.specs.declared.Step.{Step}
use Rattle.types.specs.declared.Step.TheVariants.{Read, Write, Flush, Arrive, Retire}
use Rattle.types.specs.declared.Numbers.{Numbers}
use Rattle.types.specs.Types.{numbers_of, step_of}
use native.Mathlib.Omega.{arith}

-- a step is the one that its numbers mean
pub same_step : (s : Step) → step_of (numbers_of s) ≡ s
unfolding step_of
same_step s = grind arith

pub step_read : (n : Numbers) → n.kind ≡ 82 → step_of n ≡ Read n.item
unfolding step_of
step_read n e = rw (eq-eqb n.kind 82 e)

pub step_write : (n : Numbers) → n.kind ≡ 87 → step_of n ≡ Write n.item n.minutes
unfolding step_of
step_write n e = rw e

pub step_arrive : (n : Numbers) → n.kind ≡ 65 → step_of n ≡ Arrive n.item n.blocks n.load n.write
unfolding step_of
step_arrive n e = rw e

pub step_retire : (n : Numbers) → n.kind ≡ 81 → step_of n ≡ Retire n.item
unfolding step_of
step_retire n e = rw e

-- every other kind
pub step_flush :
    (n : Numbers) →
    (n.kind ≡ 82 → ⊥) →
    (n.kind ≡ 87 → ⊥) →
    (n.kind ≡ 65 → ⊥) →
    (n.kind ≡ 81 → ⊥) →
    step_of n ≡ Flush
unfolding step_of
step_flush n r w a q = rw (ne_eqb n.kind 82 r, ne_eqb n.kind 87 w, ne_eqb n.kind 65 a, ne_eqb n.kind 81 q)
