-- What the rule knows of one item, and how a step changes it. Paper 01, 'Sails, locker, shares' and 'The step rule', and paper 02, 'Three'.
-- That an item not held has no credit, and a clean one no write credit, cannot be written otherwise here.
-- Assumes nothing.
use Rattle.std.specs.Prelude.{Bool, true, false, ℕ, ◌-◌, min}
use Rattle.types.specs.declared.Deduction.{Deduction, TheVariants.{WriteFirst, LoadFirst}}

-- one of the locker's places: empty; held clean with a load credit; held dirty with a load and a write credit
pub data Slot : Type 0 where
  absent : Slot
  clean : (load : ℕ) → Slot
  dirty : (load write : ℕ) → Slot

-- paper 01: a held sail
abbrev pub held : Slot → Bool
held absent = false
held (clean a) = true
held (dirty a b) = true

-- paper 01: a dirty one; a held sail is clean or dirty
abbrev pub is_dirty : Slot → Bool
is_dirty absent = false
is_dirty (clean a) = false
is_dirty (dirty a b) = true

-- paper 01: its load credit, in shares; an empty place has none
abbrev pub load_credit : Slot → ℕ
load_credit absent = 0
load_credit (clean a) = a
load_credit (dirty a b) = a

-- paper 01: its write credit, in shares; an empty place and a clean sail have none
abbrev pub write_credit : Slot → ℕ
write_credit absent = 0
write_credit (clean a) = 0
write_credit (dirty a b) = b

-- How a loss is split: of an item's blocks, the loss, its load credit and its write credit, the part of the loss that
-- the write credit bears. The load credit bears the rest.
abbrev pub Split : Type 0
Split = ℕ → ℕ → ℕ → ℕ → ℕ

-- "from its write credit first and from its load credit when that is used up"
abbrev pub write_first : Split
write_first blocks loss load write = min loss write

-- paper 02, 'Three': "loss from the load credit first and the write credit after"; the write credit bears what the load credit cannot
abbrev pub load_first : Split
load_first blocks loss load write = loss - load

-- the split of each rule of deduction
abbrev pub split_of : Deduction → Split
split_of WriteFirst = write_first
split_of LoadFirst = load_first

-- a held item's slot after a loss; a clean item has only its load credit to lose from
abbrev pub lose : Split → ℕ → ℕ → Slot → Slot
lose split blocks loss absent = absent
lose split blocks loss (clean a) = clean (a - loss)
lose split blocks loss (dirty a b) = dirty (a - (loss - split blocks loss a b)) (b - split blocks loss a b)

-- "the sail is loaded clean, write credit 0", if it is not held
abbrev pub brought : Slot → Slot
brought absent = clean 0
brought (clean a) = clean a
brought (dirty a b) = dirty a b

-- "the load credit becomes load cost × 720,720"; a read touches neither mark nor write credit
abbrev pub refilled : ℕ → Slot → Slot
refilled top absent = absent
refilled top (clean a) = clean top
refilled top (dirty a b) = dirty top b

-- "a write also makes the sail dirty and its write credit write cost × 720,720"
abbrev pub written : ℕ → Slot → Slot
written top absent = absent
written top (clean a) = dirty a top
written top (dirty a b) = dirty a top

-- a landing: a dirty item "becomes clean, and its write credit becomes 0. Load credits remain."
abbrev pub flushed : Slot → Slot
flushed absent = absent
flushed (clean a) = clean a
flushed (dirty a b) = clean a
