-- `layout::put_left` meets its contract: the words are the field's row. Assumes nothing.
use Rattle.std.proofs.Common.{rules}
use Rattle.layout.proofs.Stores.{left_stored}
use Rattle.layout.proofs.put_left.Goals as goal

pub returns : goal.returns
returns c = left_stored (λ j. search rules) c.requires c.args.words (search rules) (λ k. search rules) c.put_words.ensures
