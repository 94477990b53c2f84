-- The queue form of the rule: one level that rises with each eviction, and for each held item a key, with its credits as they
-- were last reckoned. What an item has lost since follows from its key and the level. Paper 02, 'Seven'. Assumes nothing.
use Rattle.std.specs.Prelude.{◌≡◌, true, false, List, [], ◌∷◌, ◌++◌, ℕ, ◌+◌, ◌*◌, ◌-◌, ◌/◌, ◌≤◌, ◌<◌, length, get_or, set}
use Rattle.std.specs.Int.{◌∣◌}
use Rattle.types.specs.declared.Step.{Step, TheVariants.Retire}
use Rattle.landlord.specs.Fold.{tab}
use Rattle.landlord.specs.Catalog.{Catalog, item_at, catalog_next}
use Rattle.landlord.specs.Slot.{Split, Slot, absent, held, load_credit, write_credit, lose}
use Rattle.landlord.specs.Rule.{State}
use Rattle.landlord.specs.Claims.{SlotKept}

-- the credit a block of a slot
abbrev pub worth : ℕ → Slot → ℕ
worth blocks s = (load_credit s + write_credit s) / blocks

-- the key of a slot that is reckoned now: "its credit a block plus the level"
abbrev pub key_now : ℕ → ℕ → Slot → ℕ
key_now blocks level s = level + worth blocks s

-- what the item has lost a block since: "their loss since follows from key and level"
abbrev pub loss_since : ℕ → ℕ → ℕ → Slot → ℕ
loss_since blocks level key s = key_now blocks level s - key

-- the slot with the credits that its key stands for
abbrev pub slot_now : Split → ℕ → ℕ → ℕ → Slot → Slot
slot_now split blocks level key s = lose split blocks (blocks * loss_since blocks level key s) s

-- A key that a slot can have. "a loss below 0 is foul" (`due`), and it is no more than the credits (`within`)
pub record KeyOk (blocks level key : ℕ) (s : Slot) : Type 0 where
  pub due : key ≤ key_now blocks level s
  pub within : level ≤ key

-- A split for which a loss may be taken later, in one sum: to lose x and then y is to lose x + y. It is asked only where the
-- credits can bear the loss.
pub record SplitAdds (split : Split) : Type 0 where
  pub each :
      (s x y a b : ℕ) → 1 ≤ s → s ∣ x → s ∣ y → s ∣ a → s ∣ b → x + y ≤ a + b →
      split s (x + y) a b ≡ split s x a b + split s y (a - (x - split s x a b)) (b - split s x a b)

-- the rule's state in the queue's form
pub record Queue : Type 0 where
  pub catalog : Catalog
  pub slots : List Slot
  pub keys : List ℕ
  pub level : ℕ

abbrev pub stored_at : Queue → ℕ → Slot
stored_at q i = get_or q.slots i absent

abbrev pub key_at : Queue → ℕ → ℕ
key_at q i = get_or q.keys i 0

abbrev pub blocks_of : Queue → ℕ → ℕ
blocks_of q i = (item_at q.catalog i).blocks

-- What decides which of the held items goes, before its number: "in order of key, then number". It is landlord's `precedence`, with the
-- key for the rank.
abbrev pub precedence_in : Queue → ℕ → ℕ
precedence_in q i = key_at q i

-- the slot of item i as it stands
abbrev pub now_at : Split → Queue → ℕ → Slot
now_at split q i = slot_now split (blocks_of q i) q.level (key_at q i) (stored_at q i)

-- the state that the queue stands for
abbrev pub plain : Split → Queue → State
plain split q = record { catalog = q.catalog; slots = tab (length q.catalog) (now_at split q) }

-- item v is evicted, and the level rises to its key
abbrev pub dropped : Queue → ℕ → Queue
dropped q v = record { catalog = q.catalog; slots = set q.slots v absent; keys = set q.keys v 0; level = key_at q v }

-- the slot of item i is reckoned anew
abbrev pub reckoned : Queue → ℕ → Slot → Queue
reckoned q i s =
    record {
      catalog = q.catalog;
      slots = set q.slots i s;
      keys = set q.keys i (key_now (blocks_of q i) q.level s);
      level = q.level;
    }

-- item i is taken out, and the level stays: "other credits do not move"
abbrev pub removed : Queue → ℕ → Queue
removed q i = record { catalog = q.catalog; slots = set q.slots i absent; keys = set q.keys i 0; level = q.level }

-- the catalog grows by a step's item, whose place is empty
abbrev pub longer : Queue → Step → Queue
longer q s = record { catalog = catalog_next q.catalog s; slots = q.slots ++ (absent ∷ []); keys = q.keys ++ (0 ∷ []); level = q.level }

-- the item's mark in the catalog is set
abbrev pub marked_left : Queue → ℕ → Queue
marked_left q i = record { catalog = catalog_next q.catalog (Retire i); slots = q.slots; keys = q.keys; level = q.level }

-- what holds of a queue: credits as reckoned are as the rule keeps them, the keys of held items are in reach, and others have none
pub record QueueOk (q : Queue) : Type 0 where
  pub slots : length q.slots ≡ length q.catalog
  pub keys : length q.keys ≡ length q.catalog
  pub slot : (i : ℕ) → i < length q.catalog → SlotKept (item_at q.catalog i) (stored_at q i)
  pub key : (i : ℕ) → i < length q.catalog → held (stored_at q i) ≡ true → KeyOk (blocks_of q i) q.level (key_at q i) (stored_at q i)
  pub unkeyed : (i : ℕ) → i < length q.catalog → held (stored_at q i) ≡ false → key_at q i ≡ 0

-- the item that goes: held, first in order, and of these the lowest number
pub record First (q : Queue) (v : ℕ) : Type 0 where
  pub below : v < length q.catalog
  pub is_held : held (stored_at q v) ≡ true
  pub least : (i : ℕ) → i < length q.catalog → held (stored_at q i) ≡ true → precedence_in q v ≤ precedence_in q i
  pub first : (i : ℕ) → i < v → held (stored_at q i) ≡ true → precedence_in q v < precedence_in q i

-- the most that a block can be worth: "the level is at most drops × 131,070 × 720,720"
abbrev pub most_rise : ℕ
most_rise = 131070 * 720720
