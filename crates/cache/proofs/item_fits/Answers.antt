-- `cache::item_fits` meets its contract: each answer is a law of proofs/Table.antt. Assumes nothing.
use Rattle.std.proofs.Common.{◌≡◌, ◌∙◌, sym, arith, rules}
use Rattle.types.specs.Types.{answer_told, told}
use Rattle.layout.specs.Layout.{cache_of}
use Rattle.cache.proofs.Table.{tells, number_told, number_refused, let_in, refused_first, too_large, fits}
use Rattle.cache.proofs.item_fits.Goals as goal

pub returns-in_err-item_known : goal.returns-in_err-item_known
returns-in_err-item_known c =
    let r = c.in_err-item_known.field-0.0 in
    let same : answer_told c.from_residual.result ≡ told r = search rules in
    let e = c.in_err-item_known.ensures in
    same ∙ e ∙ tells c.args.item (refused_first _ c.args.item _ (number_refused c.args.item r e))

pub blocks-requires : goal.blocks-requires
blocks-requires c =
    let k = (let_in (cache_of c.args.b.now) c.args.item 0 (sym (number_told c.args.item c.in_ok-item_known.ensures))).0 in
    (c.requires.size, omega (arith, c.requires.cache.fields.few, k.below))

pub returns-then-capacity-from : goal.returns-then-capacity-from
returns-then-capacity-from c =
    let k = (let_in (cache_of c.args.b.now) c.args.item 0 (sym (number_told c.args.item c.in_ok-item_known.ensures))).0 in
    tells c.args.item (too_large (cache_of c.args.b.now) c.args.item k (omega arith))

pub returns : goal.returns
returns c =
    let k = (let_in (cache_of c.args.b.now) c.args.item 0 (sym (number_told c.args.item c.in_ok-item_known.ensures))).0 in
    tells c.args.item (fits (cache_of c.args.b.now) c.args.item k (omega arith))
