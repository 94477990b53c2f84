-- `cache_serve::serve_read` meets its contract: a law for each of its two ways. Assumes nothing.
use Rattle.cache_serve.proofs.Serves.{serve_facts, hit_reckonable, hit_becomes, load_enterable, load_ready, load_becomes}
use Rattle.cache_serve.proofs.Shares.{blocks_read}
use Rattle.landlord.specs.Catalog.{full}
use mathlib.Core.Path.{◌∙◌, ap}
use Rattle.cache_serve.proofs.serve_read.Goals as goal

pub full_credit-credit-requires : goal.full_credit-credit-requires
full_credit-credit-requires c =
    blocks_read (serve_facts c.args.b.now c.args.i c.requires).some (serve_facts c.args.b.now c.args.i c.requires).small
    c.blocks-2.ensures

pub reckon-requires : goal.reckon-requires
reckon-requires c =
    hit_reckonable c.args.b.now c.args.i c.requires c.held.ensures c.if-held.true
    (c.full_credit-credit.ensures ∙ ap full c.item_load_cost.ensures) c.write_now-write.ensures

pub returns-then-held : goal.returns-then-held
returns-then-held c =
    hit_becomes c.args.b.now c.args.i c.requires c.held.ensures c.if-held.true
    (c.full_credit-credit.ensures ∙ ap full c.item_load_cost.ensures) c.write_now-write.ensures _
    c.reckon.ensures _ c.count_step.ensures

pub enter-requires : goal.enter-requires
enter-requires c =
    load_enterable c.args.b.now c.args.i c.requires c.held.ensures c.if-held.false
    (c.full_credit-credit.ensures ∙ ap full c.item_load_cost.ensures)

pub count_load-requires : goal.count_load-requires
count_load-requires c =
    load_ready c.args.b.now c.args.i c.requires c.held.ensures c.if-held.false
    (c.full_credit-credit.ensures ∙ ap full c.item_load_cost.ensures) _ c.enter.ensures

pub returns : goal.returns
returns c =
    load_becomes c.args.b.now c.args.i c.requires c.held.ensures c.if-held.false
    (c.full_credit-credit.ensures ∙ ap full c.item_load_cost.ensures) _ c.enter.ensures _
    c.count_load.ensures
