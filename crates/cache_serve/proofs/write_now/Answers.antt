-- `cache_serve::write_now` meets its contract: what the write credit does not bear stays. Assumes nothing.
use Prim.Native.Nat.{◌-◌}
use mathlib.Core.Path.{sym, ◌∙◌}
use native.Mathlib.Omega.{arith}
use Rattle.cache_serve.proofs.Losses.{keyed_losing, keyed_borne}
use Rattle.cache_serve.proofs.write_now.Goals as goal

pub overflow_sub-result : goal.overflow_sub-result
overflow_sub-result c =
    omega (
      arith,
      c.write_credit.ensures,
      keyed_borne c.args.b.now c.args.i c.requires c.loss-lost.ensures c.borne.ensures,
      (keyed_losing c.args.b.now c.args.i c.requires).bears.within,
    )

pub returns : goal.returns
returns c =
    (λ z. c.write_credit.ensures z - keyed_borne c.args.b.now c.args.i c.requires c.loss-lost.ensures c.borne.ensures z)
    ∙ sym (keyed_losing c.args.b.now c.args.i c.requires).write_now
