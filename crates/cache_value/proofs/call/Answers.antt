-- `cache_value::call` meets its contract: the call in place on the struct's bytes, as the call by value. Assumes nothing.
use Rattle.std.proofs.Common.{refl}
use Rattle.std.specs.Prelude.{Ok, Err}
use Rattle.cache_value.proofs.Calls.{made_refused, made_taken}
use Rattle.cache_value.proofs.call.Goals as goal

pub returns-in-Ok : goal.returns-in-Ok
returns-in-Ok g c call makes =
    made_taken c.args.c c.encode.ensures call c.decode.result
    (makes c.encode.new.b (Ok tt) c.make.new.arg2 (record { shown = _; shows = refl; left = _; met = c.in-Ok.ensures; leaves = refl }))
    c.decode.ensures

pub returns-in-Err : goal.returns-in-Err
returns-in-Err g c call makes =
    made_refused c.args.c c.encode.ensures call c.in-Err.refusal
    (makes c.encode.new.b (Err c.in-Err.refusal) c.make.new.arg2 (record { shown = _; shows = refl; left = _; met = c.in-Err.ensures; leaves = refl }))
