use Rattle.std.proofs.Common.{◌≡◌, ◌+◌, ◌*◌, drop}
use Rattle.std.proofs.lemmas.List.Edits.{sets}
use Rattle.fields.specs.Inner.{run_of}
use Rattle.layout.proofs.put_words.Given as goal

-- What is left to store, stored, leads to the same bytes.
abbrev pub invariant-loop-j : goal.invariant-loop-j
invariant-loop-j l = sets l.b (l.at + l.j * 8) (run_of 8 (drop l.j l.word-items)) ≡ sets l.fn.b l.at (run_of 8 l.fn.words)
