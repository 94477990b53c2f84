-- `season_log::write_log` meets its contract: the names are written, and behind them the lines. Assumes nothing.
use native.Mathlib.Omega.{arith}
use Rattle.season_log.proofs.Writing.{told_short, names_fit, lines_fit, told_text}
use Rattle.season_log.proofs.write_log.Goals as goal

pub returns-then-bytes-gt-LIMIT : goal.returns-then-bytes-gt-LIMIT
returns-then-bytes-gt-LIMIT c =
    told_short c.args.heading c.args.list.now c.args.page.now c.in_ok-bytes.bytes c.in_ok-bytes.ensures c.if-heading-gt1.false (grind arith)

pub put_names-at-requires : goal.put_names-at-requires
put_names-at-requires c = names_fit c.args.heading c.args.list.now c.args.page.now c.in_ok-bytes.bytes c.in_ok-bytes.ensures c.if-page-bytes.false

pub put_lines-requires : goal.put_lines-requires
put_lines-requires c =
    lines_fit c.args.heading c.args.list.now c.args.page.now c.in_ok-bytes.bytes c.in_ok-bytes.ensures c.if-page-bytes.false c.put_names-at.ensures.value c.put_names-at.ensures.page_after

pub returns : goal.returns
returns c =
    told_text c.args.heading c.args.list.now c.args.page.now c.in_ok-bytes.bytes c.in_ok-bytes.ensures c.if-page-bytes.false c.put_names-at.ensures.value c.put_names-at.ensures.page_after
    c.if-heading-gt1.false c.if-bytes-gt-LIMIT.false _ c.put_lines.ensures
