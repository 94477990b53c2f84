-- `recorder::recorder_sentence` meets its contract: each way out is a law of proofs/Said.antt. Assumes nothing.
use mathlib.Core.Path.{◌≡◌, sym, ◌∙◌}
use mathlib.Core.Bool.{true}
use Rattle.sentence.specs.Sentences.{in_table}
use Rattle.recorder.proofs.Said.{said_none, said_short, said_whole}
use Rattle.recorder.proofs.recorder_sentence.Goals as goal

pub returns-then-not-in_table : goal.returns-then-not-in_table
returns-then-not-in_table c =
    let a = c.args in
    said_none a.number a.line a.item a.page.now a.written.now (sym c.in_table.ensures ∙ c.if-not-in_table.true)

pub returns-then-bytes-eq0 : goal.returns-then-bytes-eq0
returns-then-bytes-eq0 c =
    let row : in_table c.args.number ≡ true = sym c.in_table.ensures ∙ c.if-not-in_table.false in
    let a = c.args in
    said_short a.number a.line a.item a.page.now a.written.now row c.write_sentence-bytes.result _ c.write_sentence-bytes.ensures.value c.write_sentence-bytes.ensures.page_after c.if-bytes-eq0.true

pub returns : goal.returns
returns c =
    let row : in_table c.args.number ≡ true = sym c.in_table.ensures ∙ c.if-not-in_table.false in
    let a = c.args in
    said_whole a.number a.line a.item a.page.now a.written.now row c.write_sentence-bytes.result _ c.write_sentence-bytes.ensures.value c.write_sentence-bytes.ensures.page_after c.if-bytes-eq0.false
