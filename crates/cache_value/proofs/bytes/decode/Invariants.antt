-- `cache_value::bytes::decode` meets its contract: after i turns the first i places are those of the bytes. Assumes nothing.
use mathlib.Core.Path.{◌≡◌}
use Rattle.layout.specs.Layout.{cache_of}
use Rattle.cache_value.specs.Contract.{record_of}
use Rattle.cache_value.specs.Inner.{places_to}
use Rattle.cache_value.proofs.bytes.decode.Given as goal

abbrev pub invariant-loop-i : goal.invariant-loop-i
invariant-loop-i l = record_of l.c ≡ places_to l.i (cache_of l.b)
