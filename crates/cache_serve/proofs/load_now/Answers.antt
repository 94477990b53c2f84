-- `cache_serve::load_now` meets its contract: the load credit bears the rest. Assumes nothing.
use Prim.Native.Nat.{◌-◌}
use mathlib.Core.Path.{sym, ◌∙◌}
use native.Mathlib.Omega.{arith}
use Rattle.cache_serve.proofs.Losses.{keyed_losing, keyed_borne}
use Rattle.cache_serve.proofs.load_now.Goals as goal

pub overflow_sub-result-2 : goal.overflow_sub-result-2
overflow_sub-result-2 c =
    omega (
      arith,
      c.loss-lost.ensures,
      c.load_credit.ensures,
      keyed_borne c.args.b.now c.args.i c.requires c.loss-lost.ensures c.borne.ensures,
      (keyed_losing c.args.b.now c.args.i c.requires).bears.part,
      (keyed_losing c.args.b.now c.args.i c.requires).bears.rest,
    )

pub returns : goal.returns
returns c =
    (λ z. c.load_credit.ensures z - (c.loss-lost.ensures z - keyed_borne c.args.b.now c.args.i c.requires c.loss-lost.ensures c.borne.ensures z))
    ∙ sym (keyed_losing c.args.b.now c.args.i c.requires).load_now
