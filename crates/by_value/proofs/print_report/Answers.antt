-- `by_value::print_report`: the report's text is within the page. Assumes nothing.
use Rattle.std.proofs.Common.{sym}
use lib.Seq.{length-take-le}
use Rattle.cache_value.proofs.Tells.{report_within}
use Rattle.by_value.proofs.print_report.Goals as goal

pub slice_bounds-page-end : goal.slice_bounds-page-end
slice_bounds-page-end g c =
    report_within _ _ c.report.new.page c.in-Ok.n c.in-Ok.ensures

pub slice_bounds-write_all-end : goal.slice_bounds-write_all-end
slice_bounds-write_all-end g c =
    sym (length-take-le c.in-Ok.n c.report.new.page (report_within _ _ c.report.new.page c.in-Ok.n c.in-Ok.ensures))
