-- `layout::put_dirty` meets its contract: the words are the field's row. Assumes nothing.
use Rattle.std.proofs.Common.{rules}
use Rattle.layout.proofs.Stores.{dirty_stored}
use Rattle.layout.proofs.put_dirty.Goals as goal

pub returns : goal.returns
returns c = dirty_stored (λ j. search rules) c.requires c.args.words (search rules) (λ k. search rules) c.put_words.ensures
