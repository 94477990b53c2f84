-- `season_log::text_size` meets its contract. The loop's invariant: the size of what is left leads to that of the whole. Assumes nothing.
use mathlib.Core.Path.{refl, sym, ◌∙◌}
use native.Mathlib.Omega.{arith}
use borrow.Author.Tests.{eqb-true}
use Rattle.season_log.proofs.Sizes.{under_range}
use Rattle.season_log.proofs.Writing.{counting, counting_more, counting_next, counted_fault, counted_torn, counted_whole}
use Rattle.season_log.proofs.text_size.Goals as goal

pub loop-at-init : goal.loop-at-init
loop-at-init c =
    let names = c.names_bytes-bytes in
    counting c.args.heading c.args.list.now names.result names.ensures.value names.ensures.upper_bound

pub returns-then-not-in_range_under : goal.returns-then-not-in_range_under
returns-then-not-in_range_under c =
    let more = counting_more c.args.heading c.loop-at.invariant c.loop-at-test.true in
    counted_fault c.args.heading c.loop-at.invariant more c.list_numbers-step.ensures (sym c.in_range_under.ensures ∙ c.if-not-in_range_under.true) c.line_of.ensures

pub line_bytes-bytes-requires : goal.line_bytes-bytes-requires
line_bytes-bytes-requires c = under_range c.args.heading _ (eqb-true _ 0 (sym c.in_range_under.ensures ∙ c.if-not-in_range_under.false))

pub loop-at-preserved : goal.loop-at-preserved
loop-at-preserved c =
    let more = counting_more c.args.heading c.loop-at.invariant c.loop-at-test.true in
    let line = c.line_bytes-bytes.ensures in
    counting_next c.args.heading c.loop-at.invariant more c.list_numbers-step.ensures (sym c.in_range_under.ensures ∙ c.if-not-in_range_under.false) line.value line.upper_bound

pub returns-then-whole-list : goal.returns-then-whole-list
returns-then-whole-list c = counted_torn c.args.heading c.loop-at.invariant refl c.loop-at-test.false c.if-whole-list.true c.line_of-then-whole-list.ensures

pub returns : goal.returns
returns c = counted_whole c.args.heading c.loop-at.invariant (omega arith)
