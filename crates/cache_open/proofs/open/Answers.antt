-- `cache_open::open` meets its contract: the bytes are cleared, and the rule and the catalog are stored. Assumes nothing.
use Rattle.std.proofs.Common.{refl, arith}
use Rattle.landlord.specs.Calls.{opening}
use Rattle.layout.proofs.Places.{readable}
use Rattle.cache_open.proofs.Openings.{number_told, right, opening_done}
use Rattle.cache_open.proofs.open.Goals as goal

pub clear-requires : goal.clear-requires
clear-requires c =
    (right (number_told c.in_ok-opening_refused.ensures)).lengths.state

pub put_count-requires : goal.put_count-requires
put_count-requires c =
    (readable c.put_capacity.ensures, omega (arith, (right (number_told c.in_ok-opening_refused.ensures)).lengths.few))

pub put_items-requires : goal.put_items-requires
put_items-requires c =
    record { reads = readable c.put_rule.ensures; whole = record { count = refl; few = omega (arith, (right (number_told c.in_ok-opening_refused.ensures)).lengths.few) } }

pub returns-clause-opened : goal.returns-clause-opened
returns-clause-opened c =
    let a = c.args in
    opening_done a.b.now (opening a.k a.rule a.catalog.now) (number_told c.in_ok-opening_refused.ensures) c.clear.ensures c.put_capacity.ensures c.put_count.ensures c.deduction_of.ensures c.put_rule.ensures c.put_items.ensures
