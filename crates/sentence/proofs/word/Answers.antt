-- `sentence::word` meets its contract: the letters between a word's two ends. Assumes nothing.
use Rattle.sentence.specs.InnerSentences.{in_one_text}
use Rattle.sentence.proofs.word.Goals as goal

pub returns : goal.returns
unfolding in_one_text
returns c = c.word_at-from.ensures.text
