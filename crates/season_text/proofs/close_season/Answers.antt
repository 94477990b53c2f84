-- `season_text::close_season` meets its contract: the numbers run are those of the text's calls. Assumes nothing.
use Rattle.season_text.proofs.Closing.{season_closes}
use Rattle.season_text.proofs.close_season.Goals as goal

pub returns : goal.returns
returns c =
    season_closes c.args.seen.now c.args.catalog.now c.args.calls.now c.args.state.now _ _ _ _ _ c.requires c.number.ensures c.run.ensures.ran
