-- `sentence::find_word` meets its contract: the first word that a text is has its place. Assumes nothing.
use Rattle.std.proofs.Common.{rules, tests}
use Rattle.std.proofs.lemmas.Iterator.{first_from_Range}
use Rattle.sentence.proofs.Laws.{IsWord, OtherWord, place_sought}
use Rattle.sentence.proofs.find_word.Goals as goal

pub returns : goal.returns
returns c =
    let w = c.args.w.now in
    place_sought w c.find.result
    (first_from_Range _ _ _ c.find.result (IsWord w) (OtherWord w) c.find.ensures.ran (λ x q k. search (rules, tests)) (λ x q k. search (rules, tests)))
