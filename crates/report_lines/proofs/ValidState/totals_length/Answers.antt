-- `report_lines::ValidState::totals_length` meets its contract. Assumes nothing.
use native.Mathlib.Omega.{arith}
use Rattle.std.specs.Prelude.{None, Some}
use mathlib.Core.Path.{ap}
use lib.ListN.{length, length-append}
use Rattle.cache_state.specs.Cache.{view}
use Rattle.layout.specs.Layout.{cache_of}
use Rattle.report_lines.specs.Lines.{line_of, total_names}
use Rattle.report_lines.proofs.Laws.{totals_as, names_alone_count, names_priced_count}
use Rattle.report_lines.proofs.ValidState.totals_length.Goals as goal

pub returns-in-None-clause-value : goal.returns-in-None-clause-value
returns-in-None-clause-value c =
    let lines = totals_as (view (cache_of c.args.self.now.bytes.now)) c.args.rival None _ c.in-None.is c.totals.ensures in
    omega (arith, names_alone_count, ap length lines, length-append (total_names None) (line_of c.totals.result))

pub returns-in-Some-clause-value : goal.returns-in-Some-clause-value
returns-in-Some-clause-value c =
    let lines = totals_as (view (cache_of c.args.self.now.bytes.now)) c.args.rival (Some c.in-Some.rival) _ c.in-Some.is c.totals_against.ensures in
    omega (arith, names_priced_count c.in-Some.rival, ap length lines, length-append (total_names (Some c.in-Some.rival)) (line_of c.totals_against.result))
