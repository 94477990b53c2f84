-- `Seen::take_item` meets its contract: the next item is noted. Assumes nothing.
use Rattle.season_tables.proofs.Held.{item_next}
use Rattle.season_tables.proofs.Seen.take_item.Goals as goal

pub returns-clause-notes_item : goal.returns-clause-notes_item
returns-clause-notes_item c =
    item_next c.args.self.now c.args.catalog.now c.args.number _ _ _ c.args.line c.requires.2 c.requires.0 c.put.new.catalog c.requires.1 c.if-i-self.false c.put.ensures
