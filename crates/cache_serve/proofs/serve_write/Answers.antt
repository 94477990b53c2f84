-- `cache_serve::serve_write` meets its contract: the write's law after that of the fetch. Assumes nothing.
use Rattle.cache_serve.proofs.Serves.{serve_facts, write_ready, write_reckonable, write_becomes}
use Rattle.cache_serve.proofs.Shares.{blocks_read}
use Rattle.landlord.specs.Catalog.{full}
use mathlib.Core.Path.{◌∙◌, ap}
use Rattle.cache_serve.proofs.serve_write.Goals as goal

pub full_credit-load-requires : goal.full_credit-load-requires
full_credit-load-requires c =
    blocks_read (serve_facts c.args.b.now c.args.i c.requires.0).some (serve_facts c.args.b.now c.args.i c.requires.0).small
    c.blocks-blocks.ensures

pub full_credit-write-requires : goal.full_credit-write-requires
full_credit-write-requires c =
    blocks_read (serve_facts c.args.b.now c.args.i c.requires.0).some (serve_facts c.args.b.now c.args.i c.requires.0).small
    c.blocks-blocks.ensures

pub count_write-requires : goal.count_write-requires
count_write-requires c =
    write_ready c.args.b.now c.args.i c.requires.0 _ _ c.fetch.ensures c.args.minutes c.requires.1

pub reckon-requires : goal.reckon-requires
reckon-requires c =
    write_reckonable c.args.b.now c.args.i c.requires.0 _ _ c.fetch.ensures c.args.minutes _
    c.count_write.ensures (c.full_credit-load.ensures ∙ ap full c.item_load_cost.ensures)
    (c.full_credit-write.ensures ∙ ap full c.item_write_cost.ensures)

pub returns : goal.returns
returns c =
    write_becomes c.args.b.now c.args.i c.requires.0 _ _ c.fetch.ensures c.args.minutes _
    c.count_write.ensures (c.full_credit-load.ensures ∙ ap full c.item_load_cost.ensures)
    (c.full_credit-write.ensures ∙ ap full c.item_write_cost.ensures) _ c.reckon.ensures
