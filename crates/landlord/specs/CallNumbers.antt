-- A list of calls as one list of numbers, seven to a call: what tells the call, and a step's kind, item, minutes, blocks, load cost and write
-- cost. The writer and the reader; that one reads what the other wrote is proofs/CallNumbers.antt. Assumes nothing.
use mathlib.Core.{Bool.cond, List.{List, [], ◌∷◌}}
use Rattle.std.specs.Prelude.{ℕ, ◌+◌, ◌*◌, ◌/◌}
use lib.{Dec.eqb, ListN.{length, get_or}}
use Rattle.types.specs.declared.{Step.Step, Numbers.Numbers}
use Rattle.types.specs.Types.{numbers_from, numbers_of}
use Rattle.landlord.specs.{Fold.tab, Calls.{Call, step_call, close}}

-- 0 is a step with the numbers behind it, and 1 the closing. Any other number is read as the closing too.
abbrev pub call_from : ℕ → Numbers → Call
call_from which n = cond (eqb which 0) (step_call n) close

-- a step's six numbers, behind a place of a list
abbrev pub numbers_behind : List ℕ → ℕ → Numbers
numbers_behind xs at =
    numbers_from (get_or xs (at + 1) 0) (get_or xs (at + 2) 0) (get_or xs (at + 3) 0) (get_or xs (at + 4) 0) (get_or xs (at + 5) 0) (get_or xs (at + 6) 0)

-- the call of the seven numbers from a place on
abbrev pub call_at : List ℕ → ℕ → Call
call_at xs at = call_from (get_or xs at 0) (numbers_behind xs at)

-- the calls that numbers stand for; a remainder is no call
unfoldable pub calls_of : List ℕ → List Call
calls_of xs = tab (length xs / 7) λ i. call_at xs (7 * i)

-- the numbers of steps as calls
unfoldable pub call_numbers : List Step → List ℕ
call_numbers [] = []
call_numbers (s ∷ steps) =
    let n = numbers_of s in
    0 ∷ n.kind ∷ n.item ∷ n.minutes ∷ n.blocks ∷ n.load ∷ n.write ∷ call_numbers steps
