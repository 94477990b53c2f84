-- `log_reader::judge` meets its contract. The loop's invariant is `Fielded`, of proofs/Judging.antt. Assumes nothing.
use mathlib.Core.Path.{refl, sym, ◌∙◌}
use mathlib.Core.Logic.{inl, inr}
use native.Mathlib.Omega.{arith}
use Rattle.log_reader.proofs.Judging.{fields_begin, field_le, field_more, field_malformed, fields_judged}
use Rattle.log_reader.proofs.judge.Goals as goal
use Rattle.log_reader.proofs.judge.Goals.{then-is_empty-via-then-is_empty, then-is_empty-via-else-is_empty+then-count-ge6}

pub loop-more-init : goal.loop-more-init
loop-more-init c =
    fields_begin c.args.l.now _ refl

pub overflow_add-end : goal.overflow_add-end
overflow_add-end c =
    omega (arith, field_le c.loop-more.invariant c.loop-more-test.true c.find.ensures)

pub slice_bounds-field_of-end : goal.slice_bounds-field_of-end
slice_bounds-field_of-end c =
    field_le c.loop-more.invariant c.loop-more-test.true c.find.ensures

pub loop-more-preserved : goal.loop-more-preserved
loop-more-preserved c =
    field_more c.loop-more.invariant c.loop-more-test.true c.find.ensures c.field_of-field.ensures refl c.if-count-ge6.false (sym c.is_empty.ensures ∙ c.if-is_empty.false)

pub returns-then-is_empty : goal.returns-then-is_empty
returns-then-is_empty c =
    field_malformed c.loop-more.invariant c.loop-more-test.true c.find.ensures c.field_of-field.ensures c.args.heading c.args.line
    (elim c.then-is_empty.branch [ then-is_empty-via-then-is_empty w ↦ inl (sym c.is_empty.ensures ∙ w.if-is_empty.true) | then-is_empty-via-else-is_empty+then-count-ge6 w ↦ inr w.if-count-ge6.true ])

pub returns : goal.returns
returns c =
    c.line_in.ensures ∙ fields_judged c.args.heading c.args.line c.loop-more.invariant c.loop-more-test.false
