-- `cache_check::zeros` meets its contract: the bits of the bytes tell. Assumes nothing.
use Rattle.cache_check.proofs.Blanks.{zeros_so}
use Rattle.cache_check.proofs.zeros.Goals as goal

pub returns : goal.returns
returns c = zeros_so c.args.b.now c.args.from c.args.to c.any_bits.result c.requires c.any_bits.ensures
