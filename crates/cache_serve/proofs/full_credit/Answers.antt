-- `cache_serve::full_credit` meets its contract: the shares a block, for each of the blocks. Assumes nothing.
use Rattle.cache_serve.proofs.Shares.{whole_again}
use Rattle.cache_serve.proofs.full_credit.Goals as goal

pub returns : goal.returns
returns c = whole_again c.args.price c.args.blocks c.requires.0 c.requires.1 c.shares_per_block.ensures
