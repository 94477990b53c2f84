-- `sentence::word_at` meets its contract. Assumes nothing.
use Rattle.sentence.proofs.Laws.{word_at}
use Rattle.sentence.proofs.word_at.Goals as goal

pub returns : goal.returns
returns c =
    word_at c.args.number c.start_of.result c.start_of-2.result c.start_of.ensures c.start_of-2.ensures
