-- `cache_value::Cache::open` meets its contract: the opening in place, of the catalog in bytes. Assumes nothing.
use Rattle.std.proofs.Common.{refl, ap, ◌∙◌, rules}
use Rattle.std.specs.Prelude.{Ok}
use Rattle.types.specs.Types.{answer_told}
use Rattle.types.proofs.Refusals.{refused_some}
use Rattle.cache_value.proofs.Answers.{opened_as}
use Rattle.cache_value.proofs.Openings.{open_many, open_refused, open_taken}
use Rattle.cache_value.proofs.Cache.open.Goals as goal

pub returns-then-n-gt256 : goal.returns-then-n-gt256
returns-then-n-gt256 c =
    let a = c.args in
    opened_as _ 3 c.refused_opening.result (open_many a.k a.rule a.n a.blocks a.load a.write c.refused_opening.result.cache c.if-n-gt256.true c.refused_opening.ensures.cache)
    (ap answer_told c.refused_opening.ensures.answer)

pub returns-in-Ok : goal.returns-in-Ok
returns-in-Ok c =
    let a = c.args in
    opened_as _ 0 (record { answer = Ok tt; cache = c.empty.result })
    (open_taken a.k a.rule a.n a.blocks a.load a.write _ c.put_catalog.new.catalog c.if-n-gt256.false (search rules) (search rules) c.put_catalog.ensures c.in-Ok.ensures.opened
    c.decode-stored.result refl c.decode-stored.ensures c.empty.result c.deduction_of.ensures c.empty.ensures)
    refl

pub returns-in-Err : goal.returns-in-Err
returns-in-Err c =
    let a = c.args in
    let r = c.in-Err.refusal in
    let d = c.refused_opening-in-Err in
    opened_as _ _ d.result
    (open_refused a.k a.rule a.n a.blocks a.load a.write _ c.put_catalog.new.catalog c.if-n-gt256.false (search rules) (search rules) c.put_catalog.ensures c.in-Err.ensures.opened d.result.cache (refused_some r) d.ensures.cache)
    (ap answer_told d.ensures.answer ∙ c.in-Err.ensures.tells)
