-- `fields::get` meets its contract: it has the number that the bytes from the present one up stand for. Assumes nothing.
use Rattle.std.proofs.Common.{◌+◌, ◌-◌, get_or, arith}
use Rattle.fields.proofs.Turns.{get_start, get_step, get_lt, get_fits}
use Rattle.fields.proofs.get.Goals as goal

pub loop-i-init : goal.loop-i-init
loop-i-init c =
    get_start c.args.buf.now c.args.at c.args.w

pub overflow_mul-x : goal.overflow_mul-x
overflow_mul-x c =
    omega (arith, get_fits c.loop-i.x c.args.w c.loop-i.i (omega arith) (omega arith) c.loop-i.invariant.0)

pub overflow_add-x-in-loop-i : goal.overflow_add-x-in-loop-i
overflow_add-x-in-loop-i c =
    omega (
      arith,
      c.type_inv.buf (c.args.at + (c.loop-i.i - 1)),
      get_fits c.loop-i.x c.args.w c.loop-i.i (omega arith) (omega arith) c.loop-i.invariant.0,
    )

pub loop-i-preserved : goal.loop-i-preserved
loop-i-preserved c =
    let i = c.loop-i.i in
    let at = c.args.at in
    let w = c.args.w in
    let buf = c.args.buf.now in (
      get_lt c.loop-i.x (get_or buf (at + (i - 1)) 0) w i (omega arith) (omega arith) c.loop-i.invariant.0 (omega (arith, c.type_inv.buf (at + (i - 1)))),
      omega (arith, get_step buf at w i (omega arith) (omega arith) (omega arith)),
    )
