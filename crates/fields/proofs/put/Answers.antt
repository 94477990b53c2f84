-- `fields::put` meets its contract: the bytes that are left, stored from here on, lead to the list asked for. Assumes nothing.
use Rattle.std.proofs.Common.{◌+◌, arith, sym, ◌∙◌}
use Rattle.fields.proofs.Turns.{put_step, put_done}
use Rattle.fields.proofs.put.Goals as goal

pub loop-i-preserved : goal.loop-i-preserved
loop-i-preserved c =
    put_step c.loop-i.buf c.args.at c.args.w c.loop-i.i c.loop-i.x (omega arith) ∙ c.loop-i.invariant

pub returns : goal.returns
returns c =
    sym (put_done c.loop-i.buf (c.args.at + c.loop-i.i) c.args.w c.loop-i.i c.loop-i.x (omega arith)) ∙ c.loop-i.invariant
