-- `marks::count` meets its contract. Assumes nothing.
use Rattle.std.proofs.Common.{◌∙◌, arith, rules}
use Rattle.std.proofs.lemmas.Iterator.{YieldsList-from_slice, YieldsList-from_map}
use Rattle.std.proofs.lemmas.Iterator.Consumers.{sum_by_from_yields_List, fits_by_from_yields_list}
use lib.Count.{ones}
use borrow.Author.Tests.{tests}
use Rattle.marks.proofs.Laws.{count_marks, count_le}
use Rattle.marks.proofs.count.Goals as goal

pub sum-requires-clause-fits : goal.sum-requires-clause-fits
sum-requires-clause-fits c =
    fits_by_from_yields_list ones c.args.words c.map.result _
    (YieldsList-from_map _ ones (YieldsList-from_slice c.args.words cc) c.map.ensures.closure (λ x r q k. search (rules, tests)))
    (omega (arith, count_marks c.args.words (search rules) (λ k. search rules), count_le c.args.words))

pub returns : goal.returns
returns c =
    sum_by_from_yields_List ones c.args.words c.map.result _ c.sum.ensures.ran
    (YieldsList-from_map _ ones (YieldsList-from_slice c.args.words cc) c.map.ensures.closure (λ x r q k. search (rules, tests)))
    ∙ count_marks c.args.words (search rules) (λ k. search rules)
