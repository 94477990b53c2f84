-- The papers' number, letter and values for each case of the shared types.
-- Assumes nothing.
use mathlib.Core.{Bool.{Bool, cond, ◌||◌}, List.{List, [], ◌∷◌}}
use Rattle.std.specs.Prelude.{ℕ, Result, Ok, Err}
use lib.{ListN.get_or, Dec.{leb, eqb}}
use Rattle.types.specs.declared.{Step.{Step, TheVariants.{Read, Write, Flush, Arrive, Retire}}, Numbers.Numbers, Act.{Act, TheVariants.{Evict, Fetch}}, Deduction.{Deduction, TheVariants.{WriteFirst, LoadFirst}}, Refusal.{Refusal, TheVariants.{Malformed, Heading, OutOfRange, OutOfSequence, PlanTooLarge, UnknownItem, ItemTooLarge, LogFull, Closed, ActOutOfOrder, NotHeld, AlreadyHeld, OverCapacity, RequestNotHeld, ShortBuffer, InputTooLong, InvalidState, UnknownRule, NotNextNumber, RetiredItem}}}

-- a step's numbers: the code of its letter, the item, the minutes, the blocks, the load cost and the write cost
abbrev pub numbers_from : ℕ → ℕ → ℕ → ℕ → ℕ → ℕ → Numbers
numbers_from kind item minutes blocks load write =
    record { kind = kind; item = item; minutes = minutes; blocks = blocks; load = load; write = write }

-- the code of each letter that stands for a step: R, W, L, A and Q
abbrev pub read_kind : ℕ
read_kind = 82

abbrev pub write_kind : ℕ
write_kind = 87

abbrev pub flush_kind : ℕ
flush_kind = 76

abbrev pub arrive_kind : ℕ
arrive_kind = 65

abbrev pub retire_kind : ℕ
retire_kind = 81

-- and for an act: D and F
abbrev pub evict_kind : ℕ
evict_kind = 68

abbrev pub fetch_kind : ℕ
fetch_kind = 70

-- A step as a call names it. What a step lacks is 0.
abbrev pub numbers_of : Step → Numbers
numbers_of (Read i) = numbers_from read_kind i 0 0 0 0
numbers_of (Write i m) = numbers_from write_kind i m 0 0 0
numbers_of Flush = numbers_from flush_kind 0 0 0 0 0
numbers_of (Arrive i b l w) = numbers_from arrive_kind i 0 b l w
numbers_of (Retire i) = numbers_from retire_kind i 0 0 0 0

-- the item that a step names; a flush names none, and it is not looked at
abbrev pub step_item : Step → ℕ
step_item s = (numbers_of s).item

-- the step that numbers of a known kind mean; values that a step lacks are not looked at
unfoldable pub step_of : Numbers → Step
step_of n =
    cond (eqb n.kind read_kind) (Read n.item)
    (cond (eqb n.kind write_kind) (Write n.item n.minutes)
    (cond (eqb n.kind arrive_kind) (Arrive n.item n.blocks n.load n.write)
    (cond (eqb n.kind retire_kind) (Retire n.item)
    Flush)))

-- an act's letter, as its code
abbrev pub act_kind : Act → ℕ
act_kind (Evict i) = evict_kind
act_kind (Fetch i) = fetch_kind

-- the item that an act names
abbrev pub act_item : Act → ℕ
act_item (Evict i) = i
act_item (Fetch i) = i

-- the act of a letter, D or F, and an item
abbrev pub act_of : ℕ → ℕ → Act
act_of kind item = cond (eqb kind evict_kind) (Evict item) (Fetch item)

-- "a call gives the rule as 0 or 1, in that order": write-first, load-first (paper 02, 'Three')
abbrev pub deduction_number : Deduction → ℕ
deduction_number WriteFirst = 0
deduction_number LoadFirst = 1

-- whether a number is that of a rule
abbrev pub is_deduction : ℕ → Bool
is_deduction number = leb number 1

-- the rule of a number that is one
abbrev pub deduction_of : ℕ → Deduction
deduction_of number = cond (eqb number 0) WriteFirst LoadFirst

-- whether a refusal of this number names an item: "for 6, 7, 11, 12 and 14 the sail", and "19 and 20 print the sail" (paper 02, 'One')
abbrev pub names_item : ℕ → Bool
names_item number =
    eqb number 6 || eqb number 7 || eqb number 11 || eqb number 12 || eqb number 14 || eqb number 19 || eqb number 20

-- the item that a refusal of this number tells: 0 where it names none
abbrev pub item_told : ℕ → ℕ → ℕ
item_told number item = cond (names_item number) item 0

-- what an answer tells: a number of the table of refusals, 1 to 17 in paper 01, 'When the library says no', and 18 to 20 in paper 02,
-- 'Three' and 'Six'; the line of the text, from 1, and 0 where no text was read; and the item, where the number names one
pub record Told : Type 0 where
  pub number : ℕ
  pub line : ℕ
  pub item : ℕ

abbrev pub telling : ℕ → ℕ → ℕ → Told
telling number line item = record { number = number; line = line; item = item_told number item }

-- nothing is refused
abbrev pub nothing_told : Told
nothing_told = telling 0 0 0

-- what a refusal tells
abbrev pub told : Refusal → Told
told (Malformed l) = telling 1 l 0
told (Heading l) = telling 2 l 0
told (OutOfRange l) = telling 3 l 0
told (OutOfSequence l) = telling 4 l 0
told (PlanTooLarge l) = telling 5 l 0
told (UnknownItem l i) = telling 6 l i
told (ItemTooLarge l i) = telling 7 l i
told (LogFull l) = telling 8 l 0
told (Closed l) = telling 9 l 0
told (ActOutOfOrder l) = telling 10 l 0
told (NotHeld l i) = telling 11 l i
told (AlreadyHeld l i) = telling 12 l i
told (OverCapacity l) = telling 13 l 0
told (RequestNotHeld l i) = telling 14 l i
told (ShortBuffer l) = telling 15 l 0
told (InputTooLong l) = telling 16 l 0
told (InvalidState l) = telling 17 l 0
told (UnknownRule l) = telling 18 l 0
told (NotNextNumber l i) = telling 19 l i
told (RetiredItem l i) = telling 20 l i

-- What an answer tells: a refusal, or nothing, whatever it hands back.
abbrev pub answer_told : {T : Type 0} → Result T Refusal → Told
answer_told (Ok _) = nothing_told
answer_told (Err r) = told r

-- and its number: 0 where nothing is refused
abbrev pub answer_number : {T : Type 0} → Result T Refusal → ℕ
answer_number a = (answer_told a).number

abbrev pub refusal_number : Refusal → ℕ
refusal_number r = (told r).number

abbrev pub refusal_line : Refusal → ℕ
refusal_line r = (told r).line

abbrev pub refusal_item : Refusal → ℕ
refusal_item r = (told r).item

-- the refusals on a line and about an item, in the order of the table
abbrev pub refusals : ℕ → ℕ → List Refusal
refusals l i =
    Malformed l ∷ Heading l ∷ OutOfRange l ∷ OutOfSequence l ∷ PlanTooLarge l ∷ UnknownItem l i ∷ ItemTooLarge l i ∷ LogFull l ∷ Closed l ∷ ActOutOfOrder l ∷ NotHeld l i ∷ AlreadyHeld l i ∷ OverCapacity l ∷ RequestNotHeld l i ∷ ShortBuffer l ∷ InputTooLong l ∷ InvalidState l ∷ UnknownRule l ∷ NotNextNumber l i ∷ RetiredItem l i ∷ []

-- the refusal that tells so much (proofs/Refusals.antt, refusal-is); a number of no row, 0 among them, would be told as 17
unfoldable pub refusal_from : Told → Refusal
refusal_from t = get_or (InvalidState t.line ∷ refusals t.line t.item) t.number (InvalidState t.line)
