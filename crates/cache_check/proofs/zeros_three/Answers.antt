use Rattle.cache_check.proofs.Blanks.{three_more}
use Rattle.cache_check.proofs.zeros_three.Goals as goal

pub loop-i-preserved : goal.loop-i-preserved
loop-i-preserved c = three_more c.args.b.now c.args.x c.args.y c.args.z c.args.from c.loop-i.i c.loop-i.all c.loop-i.invariant
