-- `season_scan::scan` meets its contract. The invariants are `Lined` where a line begins and `Fielded` where a field does; the laws
-- of proofs/Turns.antt lead from each turn to the next and to the ways out. Assumes nothing.
use mathlib.Core.Path.{◌≡◌, refl, sym, ◌∙◌}
use mathlib.Core.Bool.{true, false}
use mathlib.Core.Logic.{◌⊎◌, inl, inr, ⊎_elim}
use Prim.Native.Nat.{◌+◌, ◌≤◌}
use native.Mathlib.Nat.{le_trans}
use native.Mathlib.Omega.{arith}
use lib.ListN.{length, drop}
use Rattle.std.proofs.lemmas.Result.{err_from_is_err_and}
use Rattle.line_fields.specs.Fields.{is_empty}
use Rattle.line_fields.specs.Inner.{before}
use Rattle.season_scan.proofs.Laws.{line_end}
use Rattle.season_scan.proofs.Turns.{begins, ends, no_line_feed, field_none, field_more, field_malformed, malformed_here, can_read, line_refused, line_taken, line_within_text, field_within, field_there, fielded_as}
use Rattle.season_scan.proofs.scan.Goals as goal

pub lines-init : goal.lines-init
lines-init c =
    let p = c.requires in
    begins _ _ _ _ _ _ _ p.low p.high p.roomy c.at_start-stage.ensures c.nothing_read.ensures

pub overflow_add-end : goal.overflow_add-end
overflow_add-end c = omega (arith, c.requires.short, line_within_text _ _ _ c.lines.invariant.within c.find.ensures)

pub loop-more-init : goal.loop-more-init
loop-more-init c =
    let names = c.fields_due-names.ensures in
    field_none _ _ _ _ _ _ _ _ _ refl names.value names.upper_bound (omega arith) c.wants_values-more.ensures

pub overflow_add-j : goal.overflow_add-j
overflow_add-j c =
    let to_le : c.lines.at + c.find.result ≤ length c.args.s.now = line_within_text _ _ _ c.lines.invariant.within c.find.ensures in
    omega (arith, c.requires.short, field_within _ _ _ _ to_le (c.loop-more.invariant.going c.loop-more-test.true).0 c.find-in-loop-more.ensures)

pub slice_bounds-field_of-end : goal.slice_bounds-field_of-end
slice_bounds-field_of-end c =
    let to_le : c.lines.at + c.find.result ≤ length c.args.s.now = line_within_text _ _ _ c.lines.invariant.within c.find.ensures in
    le_trans (field_within _ _ _ _ to_le (c.loop-more.invariant.going c.loop-more-test.true).0 c.find-in-loop-more.ensures) to_le

pub loop-more-preserved : goal.loop-more-preserved
loop-more-preserved c =
    let to_le : c.lines.at + c.find.result ≤ length c.args.s.now = line_within_text _ _ _ c.lines.invariant.within c.find.ensures in
    let h = fielded_as _ _ _ _ _ _ _ _ _ _ _ true c.loop-more-test.true c.loop-more.invariant in
    field_more _ _ _ _ _ _ _ _ _ _ _ _ to_le h c.find-in-loop-more.ensures (field_there c.args.s.now c.loop-more.i c.find-in-loop-more.result _ c.field_of-field.ensures) _ (cc) c.if-names-count.false (sym c.is_empty.ensures ∙ c.if-is_empty.false)

pub read_line-requires : goal.read_line-requires
read_line-requires c =
    let h = fielded_as _ _ _ _ _ _ _ _ _ _ _ false c.loop-more-test.false c.loop-more.invariant in
    can_read _ _ _ _ _ _ _ _ _ _ _ _ c.lines.invariant _ (line_end _ _ _ c.find.ensures) c.if-s-end.false _ _ _ _ h c.requires.short

pub returns-in_err-read_line : goal.returns-in_err-read_line
returns-in_err-read_line c =
    let h = fielded_as _ _ _ _ _ _ _ _ _ _ _ false c.loop-more-test.false c.loop-more.invariant in
    let p = err_from_is_err_and c.from_residual.result c.from_residual.ensures.1 in
    let all =
    line_refused _ _ _ _ _ _ _ _ _ _ _ _ c.lines.invariant _ (line_end _ _ _ c.find.ensures) c.if-s-end.false _ _ _ _ h _ _ _ _ _ _ c.in_err-read_line.ensures.reads_line c.in_err-read_line.ensures.keeps_line in
    rw (p.1, p.2) (record { leads = all.leads; few = all.few; leaves = all.leaves })

pub lines-preserved : goal.lines-preserved
lines-preserved c =
    let h = fielded_as _ _ _ _ _ _ _ _ _ _ _ false c.loop-more-test.false c.loop-more.invariant in
    line_taken _ _ _ _ _ _ _ _ _ _ _ _ c.lines.invariant _ (line_end _ _ _ c.find.ensures) c.if-s-end.false _ _ _ _ h _ _ _ _ _ c.in_ok-read_line.ensures.reads_line c.in_ok-read_line.ensures.keeps_line (c.read_line.auto.catalog, c.read_line.auto.calls, c.read_line.auto.acts)

pub returns-then-s-at : goal.returns-then-s-at
returns-then-s-at c =
    let all = ends _ _ _ _ _ _ _ _ _ _ _ _ c.lines.invariant _ c.requires.short (omega (arith, c.if-s-at.true)) (c.ended.ensures.leads_by c.lines.seen) in
    record { leads = all.leads; few = all.few; leaves = all.leaves }

pub returns-then-s-end : goal.returns-then-s-end
returns-then-s-end c =
    let found : c.lines.at + c.find.result ≡ c.lines.at + length (before 10 (drop c.lines.at c.args.s.now)) = line_end _ _ _ c.find.ensures in
    let all = no_line_feed _ _ _ _ _ _ _ _ _ _ _ _ c.lines.invariant (omega (arith, c.if-s-at.false)) (omega (arith, found, c.if-s-end.true)) in
    record { leads = all.leads; few = all.few; leaves = all.leaves }

pub returns-then-is_empty : goal.returns-then-is_empty
returns-then-is_empty c =
    let to_le : c.lines.at + c.find.result ≤ length c.args.s.now = line_within_text _ _ _ c.lines.invariant.within c.find.ensures in
    let h = fielded_as _ _ _ _ _ _ _ _ _ _ _ true c.loop-more-test.true c.loop-more.invariant in
    let bad : (is_empty c.field_of-field.result ≡ true) ⊎ (c.fields_due-names.result ≤ c.loop-more.count) =
    ⊎_elim (λ e. inl (sym c.is_empty.ensures ∙ e)) (λ e. inr e.1) c.then-is_empty.either in
    let all =
    malformed_here _ _ _ _ _ _ _ _ _ _ _ _ c.lines.invariant _ (line_end _ _ _ c.find.ensures) c.if-s-end.false (h.going refl).1
    (λ heading some. field_malformed _ _ _ _ _ _ _ _ _ _ _ _ to_le h c.find-in-loop-more.ensures (field_there c.args.s.now c.loop-more.i c.find-in-loop-more.result _ c.field_of-field.ensures) _ heading some bad) in
    record { leads = all.leads; few = all.few; leaves = all.leaves }
