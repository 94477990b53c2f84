-- What the table of refusals says to a step where the log is open: first by how many steps are taken, then by the step's own numbers, then
-- by its item, in the catalog as the steps before it have left it. The calls and the bound go by it, the text and the log by its parts.
-- Paper 01, 'When the library says no', and paper 02, 'Six'. Assumes nothing.
use Rattle.std.specs.Prelude.{Bool, cond, ◌&&◌, ℕ}
use lib.{ListN.length, Dec.{leb, ltb, eqb}}
use Rattle.types.specs.declared.{Step.{Step, TheVariants.{Read, Write, Flush, Arrive, Retire}}, Numbers.Numbers}
use Rattle.types.specs.Types.{read_kind, write_kind, flush_kind, arrive_kind, retire_kind, step_of}
use Rattle.landlord.specs.Catalog.{Catalog, item_at, listed, item_in_range}

-- "Sail numbers run from 0 to 255"; the 257th sail would have the number 256: "256 sails remain the limit by range"
abbrev pub is_item_number : ℕ → Bool
is_item_number i = leb i 255

-- a kind is R, W, L, A or Q, and the values that such a step has are in range: "a write with minutes 0 to 1,440", and an arrival's as a
-- catalogue line's
abbrev pub in_range : Numbers → Bool
in_range n =
    cond (eqb n.kind read_kind) (is_item_number n.item)
    (cond (eqb n.kind write_kind) (is_item_number n.item && leb n.minutes 1440)
    (cond (eqb n.kind arrive_kind) (is_item_number n.item && item_in_range (listed n.blocks n.load n.write))
    (cond (eqb n.kind retire_kind) (is_item_number n.item)
    (eqb n.kind flush_kind))))

-- "3 off the tape", or 0
unfoldable pub range_refusal : Numbers → ℕ
range_refusal n = cond (in_range n) 0 3

-- 6, 20, or what follows: "6 stranger: the sail is not in the catalogue"; "20 when a step or act names a sail whose Q is at an earlier
-- step, straight after 6". The catalog is as the steps before have left it.
abbrev pub if_known : Catalog → ℕ → ℕ → ℕ
if_known cat i next = cond (ltb i (length cat)) (cond (item_at cat i).left 20 next) 6

-- "7 too bulky: the sail has more than k blocks." A landing has no sail. "Q is never too bulky, and A is never a stranger or too bulky";
-- "19 when A does not carry the next unused number".
abbrev pub item_refusal : ℕ → Catalog → Step → ℕ
item_refusal k cat (Read i) = if_known cat i (cond (leb (item_at cat i).blocks k) 0 7)
item_refusal k cat (Write i minutes) = if_known cat i (cond (leb (item_at cat i).blocks k) 0 7)
item_refusal k cat Flush = 0
item_refusal k cat (Arrive i b l w) = cond (eqb i (length cat)) 0 19
item_refusal k cat (Retire i) = if_known cat i 0

-- The refusal's number, 0 if there is none: "A step checks 9, 8, 3, 6, 7", of which 9 is for a closed log alone, with 19 for an arrival and
-- 20 straight after 6.
unfoldable pub step_refusal : ℕ → Catalog → ℕ → Numbers → ℕ
step_refusal k cat taken n =
    let range = range_refusal n in
    cond (leb 1000000 taken) 8 (cond (eqb range 0) (item_refusal k cat (step_of n)) range)
