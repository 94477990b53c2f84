-- `fields::put` meets its contract: the bytes that are left, stored from here on, lead to the list asked for. Assumes nothing.
use Rattle.std.proofs.Common.{◌≡◌, ◌+◌, ◌-◌}
use Rattle.std.proofs.lemmas.List.Edits.{sets}
use Rattle.fields.specs.LittleEndian.{to_bytes}
use Rattle.fields.proofs.put.Given as goal

abbrev pub invariant-loop-i : goal.invariant-loop-i
invariant-loop-i l = sets l.buf (l.at + l.i) (to_bytes (l.w - l.i) l.x) ≡ sets l.initial.buf l.at (to_bytes l.w l.v)
