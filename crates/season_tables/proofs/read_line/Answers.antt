-- `season_tables::read_line` meets its contract: each return is a law of proofs/Leads.antt. Assumes nothing.
use mathlib.Core.Path.{sym, ◌∙◌}
use Rattle.std.proofs.lemmas.Result.{err_from_is_err_and}
use Rattle.season_tables.proofs.Leads.{line_sayable, lead_names, lead_blank, lead_refused, lead_values}
use Rattle.season_tables.proofs.read_line.Goals as goal

pub returns-in_default-clause-reads_line : goal.returns-in_default-clause-reads_line
returns-in_default-clause-reads_line c =
    let a = c.args in
    lead_names a.upto a.stage.now a.seen.now a.catalog.now a.calls.now a.acts.now a.text.now a.line c.heading_of.result _ _ c.in_default.is c.heading_of.ensures c.take_names.ensures

pub returns-in_err-values-clause-reads_line : goal.returns-in_err-values-clause-reads_line
returns-in_err-values-clause-reads_line c =
    let a = c.args in
    let p = err_from_is_err_and c.from_residual.result c.from_residual.ensures.1 in
    rw (p.1, p.2) (lead_refused a.upto a.stage.now a.seen.now a.catalog.now a.calls.now a.acts.now a.text.now a.line c.in-Some.heading a.fields.now c.in-Some.is (sym c.wants_values.ensures ∙ c.if-wants_values.true) c.requires.looked _ c.in_err-values.ensures)

pub take_line-requires : goal.take_line-requires
take_line-requires c =
    let p = c.requires in
    record { room = p.room; read = p.read; holds = p.holds; sayable = line_sayable c.args.stage.now c.args.seen.now c.in-Some.heading c.args.fields.now c.args.line c.in_ok-values.values p.unstepped c.in_ok-values.ensures }

pub returns-then-wants_values-clause-reads_line : goal.returns-then-wants_values-clause-reads_line
returns-then-wants_values-clause-reads_line c =
    let a = c.args in
    lead_values a.upto a.stage.now a.seen.now a.catalog.now a.calls.now a.acts.now a.text.now a.line c.in-Some.heading a.fields.now c.in-Some.is (sym c.wants_values.ensures ∙ c.if-wants_values.true) c.requires.looked c.in_ok-values.values _ _ _ _ _ c.in_ok-values.ensures c.take_line.ensures.leads_from

pub returns-clause-reads_line : goal.returns-clause-reads_line
returns-clause-reads_line c =
    let a = c.args in
    lead_blank a.upto a.stage.now a.seen.now a.catalog.now a.calls.now a.acts.now a.text.now a.line c.in-Some.heading _ _ c.in-Some.is (sym c.wants_values.ensures ∙ c.if-wants_values.false) c.take_blank.ensures
