-- Laws of `view`: the rule's slots, items and figures read off the fields of a cache. Assumes nothing.
use mathlib.Core.Path.{◌≡◌, refl, sym, ap, ◌∙◌}
use mathlib.Core.Bool.{Bool, true, false, cond}
use Prim.Native.Nat.{ℕ, ◌≤◌, ◌<◌}
use lib.ListN.{length, get_or}
use Rattle.landlord.specs.Fold.{sum_to}
use Rattle.landlord.specs.Catalog.{Item, item_at, no_item}
use Rattle.queue.specs.Queue.{stored_at, key_at, blocks_of, now_at}
use Rattle.queue.specs.Machine.{used_in, held_count_in}
use Rattle.landlord.proofs.Slots.{lose_held}
use Rattle.landlord.specs.Slot.{split_of, absent, held, is_dirty, load_credit, write_credit}
use Rattle.landlord.specs.Rule.{size, slot_at, blocks_at, used, held_count}
use Rattle.landlord.specs.Figures.{use_at, no_use}
use Rattle.landlord.proofs.Folds.{tab_length, tab_at, tab_past}
use Rattle.landlord.proofs.Sums.{sum_eq}
use Rattle.cache_state.specs.Cache.{Cache, dirty_at, left_at, held_at, slot_of, catalog_of, slots_of, keys_of, uses_of}
use Rattle.cache_state.specs.InnerView.{item_of, usage_of, slot_from, queue_of, state_of, figures_of}

pub size_is : (c : Cache) → size (state_of c) ≡ c.n
unfolding catalog_of
size_is c = tab_length c.n (item_of c)

pub slots_length : (c : Cache) → length (slots_of c) ≡ c.n
unfolding slots_of
slots_length c = tab_length c.n (slot_of c)

pub uses_length : (c : Cache) → length (uses_of c) ≡ c.n
unfolding uses_of
uses_length c = tab_length c.n (usage_of c)

pub item_is : (c : Cache) (i : ℕ) → i < c.n → item_at (catalog_of c) i ≡ item_of c i
unfolding catalog_of
item_is c i l = tab_at c.n (item_of c) i no_item l

pub stored_is : (c : Cache) (i : ℕ) → i < c.n → stored_at (queue_of c) i ≡ slot_of c i
unfolding slots_of
stored_is c i l = tab_at c.n (slot_of c) i absent l

-- past the catalog there is no item and nothing held
pub stored_past : (c : Cache) (i : ℕ) → c.n ≤ i → stored_at (queue_of c) i ≡ absent
unfolding slots_of
stored_past c i l = tab_past c.n (slot_of c) i absent l

pub keys_length : (c : Cache) → length (keys_of c) ≡ c.n
unfolding keys_of
keys_length c = tab_length c.n (λ i. get_or c.keys i 0)

pub key_is : (c : Cache) (i : ℕ) → i < c.n → key_at (queue_of c) i ≡ get_or c.keys i 0
unfolding keys_of
key_is c i l = tab_at c.n (λ i. get_or c.keys i 0) i 0 l

-- the rule's slot: what the key stands for
pub slot_is : (c : Cache) (i : ℕ) → i < c.n → slot_at (state_of c) i ≡ now_at (split_of c.rule) (queue_of c) i
slot_is c i l = tab_at (length (catalog_of c)) (now_at (split_of c.rule) (queue_of c)) i absent (rw (size_is c) l)

pub use_is : (c : Cache) (i : ℕ) → i < c.n → use_at (figures_of c) i ≡ usage_of c i
unfolding uses_of
use_is c i l = tab_at c.n (usage_of c) i no_use l

pub blocks_is : (c : Cache) (i : ℕ) → i < c.n → blocks_at (state_of c) i ≡ get_or c.blocks i 0
blocks_is c i l = ap (λ (x : Item). x.blocks) (item_is c i l)

pub left_is : (c : Cache) (i : ℕ) → i < c.n → (item_at (catalog_of c) i).left ≡ left_at c i
left_is c i l = ap (λ (x : Item). x.left) (item_is c i l)

-- a slot's marks and credits, from what it was made of
pub from_held : (h d : Bool) (a b : ℕ) → held (slot_from h d a b) ≡ h
from_held true true a b = refl
from_held true false a b = refl
from_held false d a b = refl

pub from_dirty : (h d : Bool) (a b : ℕ) → (h ≡ false → d ≡ false) → is_dirty (slot_from h d a b) ≡ d
from_dirty true true a b f = refl
from_dirty true false a b f = refl
from_dirty false d a b f = sym (f refl)

pub from_load : (h d : Bool) (a b : ℕ) → (h ≡ false → a ≡ 0) → load_credit (slot_from h d a b) ≡ a
from_load true true a b f = refl
from_load true false a b f = refl
from_load false d a b f = sym (f refl)

pub from_write : (h d : Bool) (a b : ℕ) → (h ≡ false → b ≡ 0) → (d ≡ false → b ≡ 0) → write_credit (slot_from h d a b) ≡ b
from_write true true a b f g = refl
from_write true false a b f g = sym (g refl)
from_write false d a b f g = sym (f refl)

pub stored_held : (c : Cache) (i : ℕ) → i < c.n → held (stored_at (queue_of c) i) ≡ held_at c i
stored_held c i l = ap held (stored_is c i l) ∙ from_held (held_at c i) (dirty_at c i) (get_or c.loadcredit i 0) (get_or c.writecredit i 0)

pub held_is : (c : Cache) (i : ℕ) → i < c.n → held (slot_at (state_of c) i) ≡ held_at c i
held_is c i l = ap held (slot_is c i l) ∙ lose_held (split_of c.rule) _ _ (stored_at (queue_of c) i) ∙ stored_held c i l

-- the sums over the held items, over the fields
pub used_is : (c : Cache) → used (state_of c) ≡ sum_to c.n (λ i. cond (get_or c.held i false) (get_or c.blocks i 0) 0)
unfolding used
used_is c =
    ap (λ (m : ℕ). sum_to m (λ i. cond (held (slot_at (state_of c) i)) (blocks_at (state_of c) i) 0)) (size_is c)
    ∙ sum_eq c.n _ _ (λ i l. λ z. cond (held_is c i l z) (blocks_is c i l z) 0)

pub count_is : (c : Cache) → held_count (state_of c) ≡ sum_to c.n (λ i. cond (get_or c.held i false) 1 0)
unfolding held_count
count_is c =
    ap (λ (m : ℕ). sum_to m (λ i. cond (held (slot_at (state_of c) i)) 1 0)) (size_is c)
    ∙ sum_eq c.n _ _ (λ i l. λ z. cond (held_is c i l z) 1 0)

-- the same of the queue
pub used_in_lem : (c : Cache) → used_in (queue_of c) ≡ sum_to c.n (λ i. cond (held_at c i) (get_or c.blocks i 0) 0)
unfolding used_in
used_in_lem c =
    ap (λ (m : ℕ). sum_to m (λ i. cond (held (stored_at (queue_of c) i)) (blocks_of (queue_of c) i) 0)) (size_is c)
    ∙ sum_eq c.n _ _ (λ i l. λ z. cond (stored_held c i l z) (blocks_is c i l z) 0)

pub count_in : (c : Cache) → held_count_in (queue_of c) ≡ sum_to c.n (λ i. cond (held_at c i) 1 0)
unfolding held_count_in
count_in c =
    ap (λ (m : ℕ). sum_to m (λ i. cond (held (stored_at (queue_of c) i)) 1 0)) (size_is c)
    ∙ sum_eq c.n _ _ (λ i l. λ z. cond (stored_held c i l z) 1 0)
