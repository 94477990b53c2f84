-- `season_text::report_season` meets its contract. Assumes nothing.
use Rattle.season_text.proofs.Answers.{rival_fits, reports_season}
use Rattle.season_text.proofs.report_season.Goals as goal

pub report-requires : goal.report-requires
report-requires c = λ v. rival_fits c.requires c.close_season.ensures

pub returns : goal.returns
returns c =
    λ acts v holds sound.
    let closed = c.close_season.ensures acts v holds sound in
    reports_season holds closed (rival_fits c.requires c.close_season.ensures) (c.report.ensures.fine closed.valid)
