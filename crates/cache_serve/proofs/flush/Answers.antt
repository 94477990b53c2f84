-- `cache_serve::flush` meets its contract. What is left to do leads where the whole leads; the measure is what is left of the
-- marks. Assumes nothing.
use Rattle.cache_serve.proofs.Writebacks.{flush_starts, flush_ends, flush_keyed, flush_reckonable, flushable, flush_turn}
use Rattle.cache_serve.proofs.flush.Goals as goal

pub loop-at-init : goal.loop-at-init
loop-at-init c =
    flush_starts c.args.b.now c.requires

pub returns-then-i-ge256 : goal.returns-then-i-ge256
returns-then-i-ge256 c =
    flush_ends c.args.b.now c.loop-at.b c.loop-at.at _ _ c.loop-at.invariant c.dirty.ensures c.next-i.ensures c.if-i-ge256.true

pub load_now-load-requires : goal.load_now-load-requires
load_now-load-requires c =
    flush_keyed c.args.b.now c.loop-at.b c.loop-at.at _ _ c.loop-at.invariant c.dirty.ensures c.next-i.ensures c.if-i-ge256.false

pub reckon-requires : goal.reckon-requires
reckon-requires c =
    flush_reckonable c.args.b.now c.loop-at.b c.loop-at.at _ _ c.loop-at.invariant c.dirty.ensures c.next-i.ensures c.if-i-ge256.false _
    c.load_now-load.ensures

pub write_back-requires : goal.write_back-requires
write_back-requires c =
    flushable c.args.b.now c.loop-at.b c.loop-at.at _ _ c.loop-at.invariant c.dirty.ensures c.next-i.ensures c.if-i-ge256.false _
    c.load_now-load.ensures _ c.reckon.ensures

pub loop-at-preserved : goal.loop-at-preserved
loop-at-preserved c =
    flush_turn c.args.b.now c.loop-at.b c.loop-at.at _ _ c.loop-at.invariant c.dirty.ensures c.next-i.ensures c.if-i-ge256.false _
    c.load_now-load.ensures _ c.reckon.ensures _ c.write_back.ensures
