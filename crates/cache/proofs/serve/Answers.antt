-- `cache::serve` meets its contract: each need is a law of proofs/Steps.antt. Assumes nothing.
use Rattle.std.proofs.Common.{◌∙◌, sym, arith}
use Rattle.cache.proofs.Steps.{passed_steps, arrival_values, arrival_ready, arrival_took, retirement_ready, request_wanted, room_servable, write_minutes, read_took, write_took}
use Rattle.cache.proofs.serve.Goals as goal

pub flush_step-requires : goal.flush_step-requires
flush_step-requires c =
    passed_steps c.args.b.now c.args.step c.requires

pub overflow_cast-blocks : goal.overflow_cast-blocks
overflow_cast-blocks c =
    let a = c.in-Arrive in
    omega (arith, (arrival_values c.args.b.now c.args.step c.requires _ _ _ _ a.is).small)

pub overflow_cast-load : goal.overflow_cast-load
overflow_cast-load c =
    let a = c.in-Arrive in
    omega (arith, (arrival_values c.args.b.now c.args.step c.requires _ _ _ _ a.is).load)

pub overflow_cast-write : goal.overflow_cast-write
overflow_cast-write c =
    let a = c.in-Arrive in
    omega (arith, (arrival_values c.args.b.now c.args.step c.requires _ _ _ _ a.is).write)

pub arrive-requires : goal.arrive-requires
arrive-requires c =
    arrival_ready c.args.b.now c.args.step c.requires _ _ _ _ c.in-Arrive.is

pub returns-in-Arrive : goal.returns-in-Arrive
returns-in-Arrive c =
    arrival_took c.args.b.now c.args.step c.requires _ _ _ _ c.in-Arrive.is _ c.arrive.ensures

pub retire-requires : goal.retire-requires
retire-requires c =
    retirement_ready c.args.b.now c.args.step c.requires _ c.in-Retire.is

pub make_room-requires : goal.make_room-requires
make_room-requires c =
    request_wanted c.args.b.now c.args.step c.requires _ c.in-Read.is

pub serve_write-requires : goal.serve_write-requires
serve_write-requires c =
    let b = c.args.b.now in
    let s = c.args.step in (
      room_servable b s c.requires _ c.in-Read.is _ c.make_room.ensures,
      write_minutes b s c.requires _ _ (sym c.in-Read.step-is ∙ c.in-Write.is),
    )

pub returns-in-Write : goal.returns-in-Write
returns-in-Write c =
    let b = c.args.b.now in
    let s = c.args.step in
    write_took b s c.requires _ c.in-Read.is _ c.make_room.ensures _ _ _ (sym c.in-Read.step-is ∙ c.in-Write.is) c.serve_write.ensures

pub serve_read-requires : goal.serve_read-requires
serve_read-requires c =
    room_servable c.args.b.now c.args.step c.requires _ c.in-Read.is _ c.make_room.ensures

pub returns-in_default : goal.returns-in_default
returns-in_default c =
    let b = c.args.b.now in
    let s = c.args.step in
    read_took b s c.requires _ c.in-Read.is _ c.make_room.ensures _ (λ j m e. c.in_default.not-Write j m (c.in-Read.step-is ∙ e)) c.serve_read.ensures
