-- `cache_room::make_room` meets its contract. The loop keeps that what is left to do leads where the rule's loop leads from the start,
-- and the blocks held; with each eviction one item fewer is held. Assumes nothing.
use mathlib.Core.Path.{sym, ◌∙◌}
use Prim.Native.Nat.{◌+◌, ◌≤◌, ◌<◌}
use native.Mathlib.Omega.{arith}
use Rattle.queue.proofs.Losses.{deduction_adds}
use Rattle.queue.proofs.Logs.{sound, used_is}
use Rattle.landlord.proofs.Slots.{deduction_ok}
use Rattle.landlord.specs.Slot.{split_of}
use Rattle.cache_state.specs.Cache.{lazy}
use Rattle.cache_state.specs.InnerView.{queue_of}
use Rattle.layout.specs.Layout.{cache_of}
use Rattle.layout.proofs.Places.{valid_reads}
use Rattle.cache_room.proofs.Rooms.{Gone, going_starts, going_on, room_hit, room_miss}
use Rattle.landlord.proofs.Ranges.{capacity_facts}
use Rattle.cache_room.proofs.make_room.Goals as goal

pub returns-then-held : goal.returns-then-held
returns-then-held c =
    record {
      reads = valid_reads c.requires.valid;
      cache =
          room_hit (cache_of c.args.b.now) c.args.i c.requires.valid.cache.fields c.requires.known
          (sym c.held.ensures ∙ c.if-held.true);
    }

pub loop-used-init : goal.loop-used-init
loop-used-init c =
    (valid_reads c.requires.valid, going_starts (cache_of c.args.b.now) c.requires.valid.cache c.used-used.ensures)

pub overflow_add-used : goal.overflow_add-used
overflow_add-used c =
    let so = c.loop-used.invariant.1 in
    let q = cache_of c.loop-used.b in
    omega (
      arith,
      c.blocks-blocks.type_inv,
      so.taken,
      so.valid.standing.kept.room,
      used_is (split_of q.rule) (deduction_ok q.rule) (deduction_adds q.rule) (queue_of q) (sound (lazy q) so.valid.lazy),
      (capacity_facts (cache_of c.loop-used.b).k so.valid.standing.capacity).high,
    )

pub overflow_sub-used : goal.overflow_sub-used
overflow_sub-used c =
    let fits : c.blocks-blocks.result ≤ c.capacity-k.result = omega (arith, c.blocks-blocks.ensures, c.capacity-k.ensures, c.requires.fits) in
    let wanting : c.capacity-k.result < c.loop-used.used + c.blocks-blocks.result = omega arith in
    let gone : Gone c.capacity-k.result
    c.blocks-blocks.result
    (cache_of c.args.b.now) (cache_of c.loop-used.b)
    (cache_of c.evict.new.b)
    c.loop-used.used c.evict.result = going_on (cache_of c.args.b.now)
    (cache_of c.loop-used.b) _ c.loop-used.invariant.1
    fits wanting c.evict.ensures.value
    c.evict.ensures.becomes_at.cache in
    gone.within

pub loop-used-smaller : goal.loop-used-smaller
loop-used-smaller c =
    let fits : c.blocks-blocks.result ≤ c.capacity-k.result = omega (arith, c.blocks-blocks.ensures, c.capacity-k.ensures, c.requires.fits) in
    let wanting : c.capacity-k.result < c.loop-used.used + c.blocks-blocks.result = omega arith in
    let gone : Gone c.capacity-k.result
    c.blocks-blocks.result
    (cache_of c.args.b.now) (cache_of c.loop-used.b)
    (cache_of c.evict.new.b)
    c.loop-used.used c.evict.result = going_on (cache_of c.args.b.now)
    (cache_of c.loop-used.b) _ c.loop-used.invariant.1
    fits wanting c.evict.ensures.value
    c.evict.ensures.becomes_at.cache in
    gone.less

pub loop-used-preserved : goal.loop-used-preserved
loop-used-preserved c =
    let fits : c.blocks-blocks.result ≤ c.capacity-k.result = omega (arith, c.blocks-blocks.ensures, c.capacity-k.ensures, c.requires.fits) in
    let wanting : c.capacity-k.result < c.loop-used.used + c.blocks-blocks.result = omega arith in
    let gone : Gone c.capacity-k.result
    c.blocks-blocks.result
    (cache_of c.args.b.now) (cache_of c.loop-used.b)
    (cache_of c.evict.new.b)
    c.loop-used.used c.evict.result = going_on (cache_of c.args.b.now)
    (cache_of c.loop-used.b) _ c.loop-used.invariant.1
    fits wanting c.evict.ensures.value
    c.evict.ensures.becomes_at.cache in
    (c.evict.ensures.becomes_at.reads, gone.going)

pub returns : goal.returns
returns c =
    record {
      reads = c.loop-used.invariant.0;
      cache =
          room_miss (cache_of c.args.b.now) (cache_of c.loop-used.b) c.args.i
          c.capacity-k.ensures c.blocks-blocks.ensures c.requires.known
          (sym c.held.ensures ∙ c.if-held.false)
          c.loop-used.invariant.1 c.loop-used-test.false;
    }
