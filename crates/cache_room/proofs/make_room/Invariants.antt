-- `cache_room::make_room` meets its contract. The loop keeps that what is left to do leads where the rule's loop leads from the start,
-- and the blocks held; with each eviction one item fewer is held. Assumes nothing.
use Rattle.queue.specs.Machine.{held_count_in}
use Rattle.cache_state.specs.InnerView.{queue_of}
use Rattle.layout.specs.Layout.{cache_of}
use Rattle.layout.specs.Inner.{Readable}
use Rattle.cache_room.proofs.Rooms.{RoomGoing}
use Rattle.cache_room.proofs.make_room.Given as goal

abbrev pub invariant-loop-used : goal.invariant-loop-used
invariant-loop-used l = Readable l.b × RoomGoing l.k l.blocks (cache_of l.initial.b) (cache_of l.b) l.used

abbrev pub decreases-loop-used : goal.decreases-loop-used
decreases-loop-used l = held_count_in (queue_of (cache_of l.b))
