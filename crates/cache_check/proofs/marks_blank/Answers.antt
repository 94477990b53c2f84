-- `cache_check::marks_blank` meets its contract: no mark is set from n on exactly if the next one is none. Assumes nothing.
use Rattle.cache_check.proofs.Past.{marks_so}
use Rattle.cache_check.proofs.marks_blank.Goals as goal

pub returns : goal.returns
returns c =
    marks_so c.args.words c.args.n c.next.result c.requires c.next.ensures
