-- `sentence::start_of` meets its contract: the table's rule is a test at each of its entries, which is computed. Assumes nothing.
use mathlib.Core.Path.{refl}
use mathlib.Core.List.{List, [], ◌∷◌}
use Prim.Native.Nat.{ℕ}
use borrow.Author.Rules.{rules}
use Rattle.sentence.specs.InnerSentences.{in_one_text, start_of}
use Rattle.basis.proofs.Tables.{entry_is}
use Rattle.sentence.proofs.Laws.{start_past}
use Rattle.sentence.proofs.start_of.Goals as goal

-- the starts, as the code has them
abbrev starts : List ℕ
starts =
    0 ∷ 0 ∷ 4 ∷ 11 ∷ 23 ∷ 33 ∷ 47 ∷ 55 ∷ 64 ∷ 72 ∷ 78 ∷ 89 ∷ 99 ∷ 105 ∷ 115 ∷ 122 ∷ 132 ∷ 141 ∷ 152 ∷ 160 ∷ 171 ∷ 175 ∷ 179 ∷ 187 ∷ 187
    ∷ 195 ∷ 205 ∷ 217 ∷ []

pub returns-then-number-lt28 : goal.returns-then-number-lt28
unfolding in_one_text start_of
returns-then-number-lt28 c =
    entry_is starts start_of 28 refl c.args.number (search rules)

pub returns-else-number-lt28 : goal.returns-else-number-lt28
returns-else-number-lt28 c =
    start_past c.args.number (search rules)
