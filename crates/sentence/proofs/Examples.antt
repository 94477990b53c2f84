-- Sentences, computed: with neither line nor sail, with one of them, with both. Assumes nothing.
use mathlib.Core.Path.{◌≡◌, refl}
use Rattle.decimal.specs.Decimal.{text_of, digits_in, digits_of}
use Rattle.sentence.specs.Sentences.{word_of, line_part, item_part, sentence_of}

bare : sentence_of 17 0 0 ≡ text_of "foul locker.\n"
unfolding sentence_of word_of line_part item_part digits_of digits_in
bare = refl

lined : sentence_of 1 12 5 ≡ text_of "torn, line 12.\n"
unfolding sentence_of word_of line_part item_part digits_of digits_in
lined = refl

named : sentence_of 20 0 256 ≡ text_of "gone, sail 256.\n"
unfolding sentence_of word_of line_part item_part digits_of digits_in
named = refl

both : sentence_of 6 7 3 ≡ text_of "stranger, line 7, sail 3.\n"
unfolding sentence_of word_of line_part item_part digits_of digits_in
both = refl
