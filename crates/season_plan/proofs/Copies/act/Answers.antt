-- `Copies::act` meets its contract: D, or F. Assumes nothing.
use Rattle.season_plan.proofs.Deeds.{act_evicts, act_fetches}
use Rattle.season_plan.proofs.Copies.act.Goals as goal

pub returns-in-Evict : goal.returns-in-Evict
returns-in-Evict c = rw c.in-Evict.is (act_evicts (rw c.in-Evict.is at c.requires) c.evict.ensures)

pub returns-in-Fetch : goal.returns-in-Fetch
returns-in-Fetch c = rw c.in-Fetch.is (act_fetches (rw c.in-Fetch.is at c.requires) c.fetch.ensures)
