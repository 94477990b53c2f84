-- `sentence::write_sentence` meets its contract: each part is written behind the one before it. Assumes nothing.
use mathlib.Core.Path.{sym, ◌∙◌}
use mathlib.Core.List.{[], ◌∷◌}
use Prim.Native.Nat.{◌≤◌}
use native.Mathlib.Omega.{arith}
use lib.ListN.{length}
use Rattle.decimal.proofs.Laws.{wrote_all, page_all}
use Rattle.decimal.proofs.Pages.{go_next, go_end}
use Rattle.sentence.specs.Sentences.{sentence_of}
use Rattle.sentence.proofs.Laws.{word_put}
use Rattle.sentence.proofs.write_sentence.Goals as goal

pub returns : goal.returns
returns c =
    let a = c.args in
    let all = sentence_of a.number a.line a.item in
    let room : length all ≤ length a.page.now = omega arith in
    let word = word_put a.number a.line a.item a.page.now room c.word.ensures c.put_text-at.ensures.value c.put_text-at.ensures.page_after in
    let line = go_next room _ _ word c.put_line-at.ensures.count c.put_line-at.ensures.text in
    let item = go_next room _ _ line c.put_item-at.ensures.count c.put_item-at.ensures.text in
    let both = go_end (go_next room (46 ∷ 10 ∷ []) [] item c.put_text.ensures.value c.put_text.ensures.page_after) in
    record { value = both.0 ∙ sym (wrote_all all a.page.now room); page_after = both.1 ∙ sym (page_all all a.page.now room) }
