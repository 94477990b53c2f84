-- `sentence::piece` meets its contract: the first stop is the piece's end. Assumes nothing.
use mathlib.Core.Path.{◌∙◌}
use Rattle.std.proofs.Common.{rules, tests}
use Rattle.std.proofs.lemmas.Iterator.{YieldsList-from_slice}
use Rattle.std.proofs.lemmas.Iterator.Search.{position_from_yields_List}
use Rattle.sentence.specs.InnerSentences.{is_stop}
use Rattle.sentence.proofs.Laws.{piece_found}
use Rattle.sentence.proofs.piece.Goals as goal

pub returns-clause-value : goal.returns-clause-value
returns-clause-value c =
    let s = c.args.s.now in
    c.unwrap_or.ensures
    ∙ piece_found s c.position.result (position_from_yields_List is_stop _ _ _ c.position.ensures.ran (YieldsList-from_slice s cc) (λ x b q k. search (rules, tests)))
