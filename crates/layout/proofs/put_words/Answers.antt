-- `layout::put_words` meets its contract: a word more is a number more of the row. Assumes nothing.
use Rattle.std.proofs.Common.{arith, ◌∙◌, sym, ◌+◌, ◌*◌}
use Rattle.layout.proofs.Stores.{word_more, words_done}
use Rattle.layout.proofs.put_words.Goals as goal

pub loop-j-preserved : goal.loop-j-preserved
loop-j-preserved c =
    let t = c.loop-j in
    word_more t.b c.args.words c.args.at t.j (omega arith) c.put.ensures ∙ t.invariant

pub returns : goal.returns
returns c =
    let t = c.loop-j in
    sym (words_done t.b c.args.words (c.args.at + t.j * 8) t.j (omega arith)) ∙ t.invariant
