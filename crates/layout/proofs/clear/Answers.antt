-- `layout::clear` meets its contract: bytes of 0, and the number of the layout. Assumes nothing.
use Rattle.std.proofs.Common.{ap, ◌∙◌, replicate, ℕ}
use Rattle.layout.proofs.Clears.{all_cleared}
use Rattle.layout.proofs.clear.Goals as goal

pub returns : goal.returns
returns c = all_cleared _ (c.fill.ensures.after (λ y e. e) ∙ ap (λ (n : ℕ). replicate n 0) c.requires) c.put.ensures
