-- `season_text::answer` meets its contract. Assumes nothing.
use borrow.Author.Rules.{rules}
use mathlib.Core.Path.{refl}
use Rattle.std.proofs.lemmas.Result.{err_from_is_err_and}
use Rattle.season_tables.specs.Inner.{Roomy}
use Rattle.season_text.proofs.Answers.{taken_reads, priceable, reportable, plan_refused, season_reported}
use Rattle.season_text.proofs.answer.Goals as goal

pub price_plan-requires : goal.price_plan-requires
price_plan-requires c =
    let s = c.scan.new in
    let roomy : Roomy s.catalog s.calls s.acts = search rules in
    priceable (taken_reads c.args.text.now s.seen s.catalog s.calls s.acts c.if-text-gt65536.false c.in_ok-scan.ensures.leads c.in_ok-scan.ensures.few roomy)

pub returns-in_err-cost : goal.returns-in_err-cost
returns-in_err-cost c =
    let s = c.scan.new in
    let roomy : Roomy s.catalog s.calls s.acts = search rules in
    let read = taken_reads c.args.text.now s.seen s.catalog s.calls s.acts c.if-text-gt65536.false c.in_ok-scan.ensures.leads c.in_ok-scan.ensures.few roomy in
    let p = err_from_is_err_and c.from_residual-in_err-cost.result c.from_residual-in_err-cost.ensures.1 in
    rw (p.1, p.2, plan_refused _ c.if-text-gt65536.false read c.in_err-cost.ensures.priced_as) (record { yields = (refl, refl); outcome_fits = tt })

pub report_season-requires : goal.report_season-requires
report_season-requires c =
    let s = c.scan.new in
    let roomy : Roomy s.catalog s.calls s.acts = search rules in
    let read = taken_reads c.args.text.now s.seen s.catalog s.calls s.acts c.if-text-gt65536.false c.in_ok-scan.ensures.leads c.in_ok-scan.ensures.few roomy in
    reportable read c.in_ok-cost.ensures.price_small

pub returns : goal.returns
returns c =
    let s = c.scan.new in
    let roomy : Roomy s.catalog s.calls s.acts = search rules in
    let read = taken_reads c.args.text.now s.seen s.catalog s.calls s.acts c.if-text-gt65536.false c.in_ok-scan.ensures.leads c.in_ok-scan.ensures.few roomy in
    let put = c.report_season.ensures s.acts read.text read.holds read.sound in
    rw (season_reported c.in_ok-cost.cost c.if-text-gt65536.false read c.in_ok-cost.ensures.priced_as) (record { yields = put.0; outcome_fits = put.1 })
