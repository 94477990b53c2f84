-- `fields::get` meets its contract: it has the number that the bytes from the present one up stand for. Assumes nothing.
use Rattle.std.proofs.Common.{◌≡◌, ◌+◌, ◌-◌, ◌^◌, ◌<◌}
use Rattle.fields.specs.LittleEndian.{number_at}
use Rattle.fields.proofs.get.Given as goal

abbrev pub invariant-loop-i : goal.invariant-loop-i
invariant-loop-i l = (l.x < 256 ^ (l.w - l.i)) × (l.x ≡ number_at l.buf (l.at + l.i) (l.w - l.i))
