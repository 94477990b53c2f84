-- `report::refused` meets its contract. Assumes nothing.
use native.Mathlib.Omega.{arith}
use Rattle.report.specs.Report.{refusal_text}
use Rattle.report.proofs.Laws.{put_short, put_whole}
use Rattle.report.proofs.refused.Goals as goal

pub returns-then-page-bytes-clause-put : goal.returns-then-page-bytes-clause-put
returns-then-page-bytes-clause-put c = put_short (refusal_text c.args.r) c.args.page.now (omega arith)

pub returns-clause-put : goal.returns-clause-put
returns-clause-put c =
    put_whole (refusal_text c.args.r) c.args.page.now _ _ (omega arith) c.refusal_length-bytes.ensures.value c.put_refusal.ensures
