-- `season_log::put_lines` meets its contract. The loop's invariant: the lines of the steps that are left are left to write. Assumes nothing.
use Rattle.season_log.proofs.Writing.{whole_more, putting, lines_room, line_fits, putting_next, lines_end}
use Rattle.season_log.proofs.put_lines.Goals as goal

pub loop-at-init : goal.loop-at-init
loop-at-init c = putting c.args.heading c.args.list.now c.args.page.now c.requires

pub put_step-to-requires : goal.put_step-to-requires
put_step-to-requires c =
    let more = whole_more c.args.heading c.args.list.now c.loop-at.at c.loop-at.invariant.whole c.loop-at-test.true in
    line_fits c.args.heading c.loop-at.invariant (lines_room c.args.heading c.args.list.now c.args.page.now c.requires) more

pub loop-at-preserved : goal.loop-at-preserved
loop-at-preserved c =
    let more = whole_more c.args.heading c.args.list.now c.loop-at.at c.loop-at.invariant.whole c.loop-at-test.true in
    let room = lines_room c.args.heading c.args.list.now c.args.page.now c.requires in
    putting_next c.args.heading c.loop-at.invariant room more c.put_step-to.ensures.value c.put_step-to.ensures.page_after

pub returns : goal.returns
returns c = lines_end c.args.heading c.args.list.now c.args.page.now c.requires c.loop-at.invariant c.loop-at-test.false
