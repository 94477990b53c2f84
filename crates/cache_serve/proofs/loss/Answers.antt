-- `cache_serve::loss` meets its contract: one quotient and one product, which is at most the two credits. Assumes nothing.
use Rattle.cache_serve.proofs.Losses.{keyed_losing, keyed_worth, keyed_loss}
use native.Mathlib.Omega.{arith}
use Rattle.cache_serve.proofs.loss.Goals as goal

pub overflow_add-worth : goal.overflow_add-worth
overflow_add-worth c =
    omega (
      arith,
      c.write_credit.ensures,
      c.load_credit.ensures,
      (keyed_losing c.args.b.now c.args.i c.requires).load,
      (keyed_losing c.args.b.now c.args.i c.requires).write,
    )

pub nonzero_div-worth : goal.nonzero_div-worth
nonzero_div-worth c =
    omega (arith, c.blocks-blocks.ensures, (keyed_losing c.args.b.now c.args.i c.requires).facts.some)

pub overflow_add-result : goal.overflow_add-result
overflow_add-result c =
    omega (
      arith,
      c.level.ensures,
      keyed_worth c.args.b.now c.args.i c.requires c.load_credit.ensures c.write_credit.ensures c.blocks-blocks.ensures,
      (keyed_losing c.args.b.now c.args.i c.requires).small,
      (keyed_losing c.args.b.now c.args.i c.requires).level,
    )

pub overflow_sub-result : goal.overflow_sub-result
overflow_sub-result c =
    omega (
      arith,
      c.key.ensures,
      c.level.ensures,
      keyed_worth c.args.b.now c.args.i c.requires c.load_credit.ensures c.write_credit.ensures c.blocks-blocks.ensures,
      (keyed_losing c.args.b.now c.args.i c.requires).due,
    )

pub overflow_mul-result : goal.overflow_mul-result
overflow_mul-result c =
    omega (
      arith,
      keyed_loss c.args.b.now c.args.i c.requires c.load_credit.ensures c.write_credit.ensures c.blocks-blocks.ensures c.level.ensures c.key.ensures,
      (keyed_losing c.args.b.now c.args.i c.requires).within,
      (keyed_losing c.args.b.now c.args.i c.requires).load,
      (keyed_losing c.args.b.now c.args.i c.requires).write,
    )

pub returns : goal.returns
returns c =
    keyed_loss c.args.b.now c.args.i c.requires c.load_credit.ensures c.write_credit.ensures
    c.blocks-blocks.ensures c.level.ensures c.key.ensures
