-- `report_lines::ValidState::put_totals` meets its contract: the bytes of the code are those of the words. Assumes nothing.
use mathlib.Core.Path.{sym, ap, ◌∙◌}
use mathlib.Core.List.{List}
use Prim.Native.Nat.{ℕ}
use Rattle.std.specs.Prelude.{None, Some}
use Rattle.decimal.specs.InnerPages.{text_over}
use Rattle.cache_state.specs.Cache.{view}
use Rattle.layout.specs.Layout.{cache_of}
use Rattle.report_lines.proofs.Laws.{totals_as}
use Rattle.report_lines.proofs.ValidState.put_totals.Goals as goal

pub put_table-requires : goal.put_table-requires
put_table-requires c =
    rw (totals_as (view (cache_of c.args.self.now.bytes.now)) c.args.rival None _ c.in-None.is c.totals.ensures) at c.requires.room

pub put_table-requires-in-Some : goal.put_table-requires-in-Some
put_table-requires-in-Some c =
    rw (totals_as (view (cache_of c.args.self.now.bytes.now)) c.args.rival (Some c.in-Some.rival) _ c.in-Some.is c.totals_against.ensures) at c.requires.room

pub returns-in-None : goal.returns-in-None
returns-in-None c =
    let lines = totals_as (view (cache_of c.args.self.now.bytes.now)) c.args.rival None _ c.in-None.is c.totals.ensures in
    c.put_table.ensures ∙ ap (λ (t : List ℕ). text_over t c.args.page.now) (sym lines)

pub returns-in-Some : goal.returns-in-Some
returns-in-Some c =
    let lines = totals_as (view (cache_of c.args.self.now.bytes.now)) c.args.rival (Some c.in-Some.rival) _ c.in-Some.is c.totals_against.ensures in
    c.put_table-in-Some.ensures ∙ ap (λ (t : List ℕ). text_over t c.args.page.now) (sym lines)
