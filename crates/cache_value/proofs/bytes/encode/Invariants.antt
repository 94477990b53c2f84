-- `cache_value::bytes::encode` meets its contract: after i turns the first i places stand in the bytes. Assumes nothing.
use Rattle.layout.specs.Inner.{Stands}
use Rattle.cache_value.specs.Contract.{record_of}
use Rattle.cache_value.specs.Inner.{places_to}
use Rattle.cache_value.proofs.bytes.encode.Given as goal

abbrev pub invariant-loop-i : goal.invariant-loop-i
invariant-loop-i l = Stands l.b (places_to l.i (record_of l.c))
