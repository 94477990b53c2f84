-- The credits of a held item as they stand, by numbers of the cache: one quotient, and the rule's split. Assumes nothing.
use mathlib.Core.Path.{◌≡◌, refl, sym, ap, subst, ◌∙◌}
use mathlib.Core.Bool.{Bool, true, false}
use mathlib.Core.List.{List}
use Prim.Native.Nat.{ℕ, ◌+◌, ◌*◌, ◌-◌, ◌/◌, ◌≤◌, ◌<◌, ◌∣◌}
use native.Mathlib.Nat.{dvd-mul_right, mul-le-mul_left}
use native.Mathlib.Omega.{arith}
use lib.ListN.{length, get_or}
use Rattle.landlord.specs.Catalog.{item_at}
use Rattle.landlord.specs.Slot.{Slot, Split, split_of, load_credit, write_credit, lose}
use Rattle.landlord.specs.Claims.{Bears, SlotKept}
use Rattle.landlord.specs.Inner.{ItemFacts}
use Rattle.landlord.proofs.Slots.{deduction_ok}
use Rattle.landlord.proofs.Ranges.{catalog_facts}
use Rattle.queue.specs.Queue.{stored_at, key_at, blocks_of, now_at, worth, KeyOk, most_rise}
use Rattle.queue.specs.Machine.{LazyOk}
use Rattle.queue.proofs.Losses.{worth_whole, worth_most, deduction_adds}
use Rattle.cache_state.specs.Cache.{Cache, dirty_at, held_at, catalog_of, lazy, Normal}
use Rattle.cache_state.specs.InnerView.{item_of, queue_of, slot_from}
use Rattle.cache_state.proofs.Views.{size_is, item_is, key_is, blocks_is, stored_is, stored_held}
use Rattle.cache_state.proofs.Stored.{load_here, write_here}
use Rattle.layout.specs.Layout.{cache_of}
use Rattle.cache_serve.specs.InnerStores.{loss_at}
use Rattle.cache_serve.specs.InnerReady.{KeyedAt}

-- what a loss leaves of the two credits, as the rule splits it
record Leaves (x : Slot) (a w loss t : ℕ) : Type 0 where
  load : load_credit x ≡ a - (loss - t)
  write : write_credit x ≡ w - t

leaves :
    (split : Split) (s loss : ℕ) (d : Bool) (a w : ℕ) →
    (d ≡ false → w ≡ 0) →
    Bears s loss a w (split s loss a w) →
    Leaves (lose split s loss (slot_from true d a w)) a w loss (split s loss a w)
leaves split s loss true a w f b = record { load = refl; write = refl }
leaves split s loss false a w f b = record { load = omega (arith, f refl, b.within); write = omega (arith, f refl) }

-- what is known of the credits of held item i, of its key and of what it has lost
pub record Losing (c : Cache) (i : ℕ) : Type 0 where
  pub facts : ItemFacts (item_of c i)
  pub load : get_or c.loadcredit i 0 ≤ 65535 * 720720
  pub write : get_or c.writecredit i 0 ≤ 65535 * 720720
  pub level : c.level ≤ 1000000 * most_rise
  pub due : get_or c.keys i 0 ≤ c.level + (get_or c.loadcredit i 0 + get_or c.writecredit i 0) / get_or c.blocks i 0
  pub small : (get_or c.loadcredit i 0 + get_or c.writecredit i 0) / get_or c.blocks i 0 ≤ most_rise
  pub loss : loss_at (queue_of c) i ≡ get_or c.blocks i 0 * (c.level + (get_or c.loadcredit i 0 + get_or c.writecredit i 0) / get_or c.blocks i 0 - get_or c.keys i 0)
  pub within : loss_at (queue_of c) i ≤ get_or c.loadcredit i 0 + get_or c.writecredit i 0
  pub bears :
      Bears (get_or c.blocks i 0) (loss_at (queue_of c) i) (get_or c.loadcredit i 0) (get_or c.writecredit i 0)
      (split_of c.rule (get_or c.blocks i 0) (loss_at (queue_of c) i) (get_or c.loadcredit i 0) (get_or c.writecredit i 0))
  pub load_now :
      load_credit (now_at (split_of c.rule) (queue_of c) i)
      ≡ get_or c.loadcredit i 0
      - (loss_at (queue_of c) i - split_of c.rule (get_or c.blocks i 0) (loss_at (queue_of c) i) (get_or c.loadcredit i 0) (get_or c.writecredit i 0))
  pub write_now :
      write_credit (now_at (split_of c.rule) (queue_of c) i)
      ≡ get_or c.writecredit i 0
      - split_of c.rule (get_or c.blocks i 0) (loss_at (queue_of c) i) (get_or c.loadcredit i 0) (get_or c.writecredit i 0)

module _ (c : Cache) (ok : Normal c) (good : LazyOk (lazy c)) (few : c.evictions ≤ 1000000) (i : ℕ) (l : i < c.n) (is_held : held_at c i ≡ true) where
  inside : i < length (catalog_of c)
  inside = rw (size_is c) l

  facts : ItemFacts (item_at (catalog_of c) i)
  facts = (catalog_facts (catalog_of c) good.catalog).each i inside

  kept : SlotKept (item_at (catalog_of c) i) (stored_at (queue_of c) i)
  kept = good.queue.slot i inside

  s_is : blocks_of (queue_of c) i ≡ get_or c.blocks i 0
  s_is = blocks_is c i l

  worth_is : worth (blocks_of (queue_of c) i) (stored_at (queue_of c) i) ≡ (get_or c.loadcredit i 0 + get_or c.writecredit i 0) / get_or c.blocks i 0
  worth_is = λ z. (load_here c ok i l z + write_here c ok i l z) / blocks_is c i l z

  key : KeyOk (blocks_of (queue_of c) i) c.level (key_at (queue_of c) i) (stored_at (queue_of c) i)
  key = good.queue.key i inside (stored_held c i l ∙ is_held)

  sum_is : blocks_of (queue_of c) i * worth (blocks_of (queue_of c) i) (stored_at (queue_of c) i) ≡ get_or c.loadcredit i 0 + get_or c.writecredit i 0
  sum_is =
      worth_whole (split_of c.rule) (deduction_ok c.rule) (deduction_adds c.rule) (item_at (catalog_of c) i) facts.some (stored_at (queue_of c) i) kept
      ∙ (λ z. load_here c ok i l z + write_here c ok i l z)

  bound : loss_at (queue_of c) i ≤ get_or c.loadcredit i 0 + get_or c.writecredit i 0
  bound =
      let m : c.level + worth (blocks_of (queue_of c) i) (stored_at (queue_of c) i) - key_at (queue_of c) i ≤ worth (blocks_of (queue_of c) i) (stored_at (queue_of c) i) = omega (arith, key.within) in
      omega (arith, mul-le-mul_left (blocks_of (queue_of c) i) m, sum_is)

  divides : get_or c.blocks i 0 ∣ loss_at (queue_of c) i
  divides = subst (λ (x : ℕ). x ∣ loss_at (queue_of c) i) s_is (dvd-mul_right (blocks_of (queue_of c) i) _)

  bears :
      Bears (get_or c.blocks i 0) (loss_at (queue_of c) i) (get_or c.loadcredit i 0) (get_or c.writecredit i 0)
      (split_of c.rule (get_or c.blocks i 0) (loss_at (queue_of c) i) (get_or c.loadcredit i 0) (get_or c.writecredit i 0))
  bears =
      (deduction_ok c.rule).each (get_or c.blocks i 0) (loss_at (queue_of c) i) (get_or c.loadcredit i 0) (get_or c.writecredit i 0)
      (rw s_is at facts.some) divides
      (subst (λ (x : ℕ). get_or c.blocks i 0 ∣ x) (load_here c ok i l) (subst (λ (x : ℕ). x ∣ load_credit (stored_at (queue_of c) i)) s_is kept.whole_load))
      (subst (λ (x : ℕ). get_or c.blocks i 0 ∣ x) (write_here c ok i l) (subst (λ (x : ℕ). x ∣ write_credit (stored_at (queue_of c) i)) s_is kept.whole_write))
      bound

  -- the slot as it stands, by the numbers
  pub now_is :
      now_at (split_of c.rule) (queue_of c) i
      ≡ lose (split_of c.rule) (get_or c.blocks i 0) (loss_at (queue_of c) i) (slot_from true (dirty_at c i) (get_or c.loadcredit i 0) (get_or c.writecredit i 0))
  now_is =
      λ z. lose (split_of c.rule) (s_is z) (loss_at (queue_of c) i)
      ((stored_is c i l ∙ ap (λ (h : Bool). slot_from h (dirty_at c i) (get_or c.loadcredit i 0) (get_or c.writecredit i 0)) is_held) z)

  left :
      Leaves (now_at (split_of c.rule) (queue_of c) i) (get_or c.loadcredit i 0) (get_or c.writecredit i 0) (loss_at (queue_of c) i)
      (split_of c.rule (get_or c.blocks i 0) (loss_at (queue_of c) i) (get_or c.loadcredit i 0) (get_or c.writecredit i 0))
  left =
      subst
      (λ (x : Slot). Leaves x (get_or c.loadcredit i 0) (get_or c.writecredit i 0) (loss_at (queue_of c) i)
      (split_of c.rule (get_or c.blocks i 0) (loss_at (queue_of c) i) (get_or c.loadcredit i 0) (get_or c.writecredit i 0)))
      (sym now_is)
      (leaves (split_of c.rule) (get_or c.blocks i 0) (loss_at (queue_of c) i) (dirty_at c i) (get_or c.loadcredit i 0) (get_or c.writecredit i 0) (ok.clean i l) bears)

  pub losing : Losing c i
  losing =
      record {
        facts = rw (item_is c i l) at facts;
        load = omega (arith, kept.load_top, load_here c ok i l, facts.load);
        write = omega (arith, kept.write_top, write_here c ok i l, facts.write);
        level = omega (arith, good.level);
        due = omega (arith, key.due, worth_is, key_is c i l);
        small = omega (arith, worth_is, most);
        loss = λ z. s_is z * (c.level + worth_is z - key_is c i l z);
        within = bound;
        bears = bears;
        load_now = left.load;
        write_now = left.write;
      }
    where
      most : worth (blocks_of (queue_of c) i) (stored_at (queue_of c) i) ≤ most_rise
      most = worth_most (item_at (catalog_of c) i) (stored_at (queue_of c) i) facts kept

-- the same of the bytes
module _ (b : List ℕ) (i : ℕ) (p : KeyedAt b i) where
  pub keyed_losing : Losing (cache_of b) i
  keyed_losing = losing (cache_of b) p.fields p.lazy p.drops i p.known p.is_held

  -- what the write credit bears of it
  pub keyed_borne :
      {lost t : ℕ} →
      lost ≡ loss_at (queue_of (cache_of b)) i →
      t ≡ split_of (cache_of b).rule (get_or (cache_of b).blocks i 0) lost (get_or (cache_of b).loadcredit i 0) (get_or (cache_of b).writecredit i 0) →
      t
      ≡ split_of (cache_of b).rule (get_or (cache_of b).blocks i 0) (loss_at (queue_of (cache_of b)) i) (get_or (cache_of b).loadcredit i 0) (get_or (cache_of b).writecredit i 0)
  keyed_borne e f =
      f
      ∙ ap (λ (x : ℕ). split_of (cache_of b).rule (get_or (cache_of b).blocks i 0) x (get_or (cache_of b).loadcredit i 0) (get_or (cache_of b).writecredit i 0)) e

  -- the worth of a block, as it is read
  pub keyed_worth :
      {a w s : ℕ} →
      a ≡ get_or (cache_of b).loadcredit i 0 →
      w ≡ get_or (cache_of b).writecredit i 0 →
      s ≡ get_or (cache_of b).blocks i 0 →
      (a + w) / s ≡ (get_or (cache_of b).loadcredit i 0 + get_or (cache_of b).writecredit i 0) / get_or (cache_of b).blocks i 0
  keyed_worth ea ew es = λ z. (ea z + ew z) / es z

  -- and the loss
  pub keyed_loss :
      {a w s level key : ℕ} →
      a ≡ get_or (cache_of b).loadcredit i 0 →
      w ≡ get_or (cache_of b).writecredit i 0 →
      s ≡ get_or (cache_of b).blocks i 0 →
      level ≡ (cache_of b).level →
      key ≡ get_or (cache_of b).keys i 0 →
      s * (level + (a + w) / s - key) ≡ loss_at (queue_of (cache_of b)) i
  keyed_loss ea ew es el ek = (λ z. es z * (el z + (ea z + ew z) / es z - ek z)) ∙ sym keyed_losing.loss
