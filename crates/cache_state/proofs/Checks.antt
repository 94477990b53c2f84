-- The check of validity, put together: what the parts of it decide (specs/InnerParts.antt) is validity, no less and no more; and the
-- laws of the sums that its loops make. Assumes nothing.
use mathlib.Core.Path.{◌≡◌, refl, sym, ap, ◌∙◌}
use mathlib.Core.Bool.{Bool, true, false, not, cond}
use mathlib.Core.List.{List, ◌∷◌}
use Prim.Native.Nat.{ℕ, zero, suc, ◌+◌, ◌-◌, ◌≤◌, ◌<◌}
use native.Mathlib.Numerals.{add-one}
use native.Mathlib.Omega.{arith}
use lib.ListN.{length, get_or}
use Rattle.landlord.specs.Fold.{sum_to}
use Rattle.landlord.specs.Catalog.{item_at}
use Rattle.landlord.specs.Slot.{is_dirty, held, split_of}
use Rattle.landlord.specs.Rule.{size, slot_at}
use Rattle.landlord.specs.Figures.{Use, use_at}
use Rattle.landlord.specs.Claims.{SlotKept}
use Rattle.landlord.proofs.Slots.{lose_dirty, deduction_ok}
use Rattle.queue.specs.Queue.{stored_at, key_at, blocks_of, KeyOk, QueueOk}
use Rattle.queue.specs.Machine.{LazyOk}
use Rattle.queue.proofs.Losses.{now_kept, deduction_adds}
use Rattle.landlord.specs.Valid.{dirty_count, left_count, StandingOk}
use Rattle.landlord.specs.Inner.{ItemFacts}
use Rattle.landlord.specs.Catalog.{CatalogOk}
use Rattle.landlord.proofs.Folds.{tab_length}
use Rattle.landlord.proofs.Sums.{sum_eq}
use Rattle.landlord.proofs.Ranges.{catalog_facts, catalog_ok, capacity_facts, capacity_ok}
use Rattle.marks.specs.Marks.{marked}
use Rattle.marks.specs.Inner.{marks_from, marks, count_set}
use Rattle.cache_state.specs.Cache.{Cache, dirty_at, held_at, catalog_of, lazy, view, Normal, Valid}
use Rattle.cache_state.specs.InnerView.{item_of, queue_of, state_of, counts_of, figures_of}
use Rattle.validity.specs.Inner.{CountsOk}
use Rattle.cache_state.specs.InnerParts.{PastOk, EntryAt, EntriesOk, KeyAt, KeysOk, QueueParts, LeftOk, SumsOf}
use Rattle.basis.specs.InnerDecided.{Decided}
use Rattle.basis.proofs.Decides.{no, sure, denied}
use Rattle.cache_state.proofs.Views.{size_is, slots_length, keys_length, uses_length, item_is, slot_is, key_is, blocks_is, stored_held, use_is, left_is, held_is}
use Rattle.cache_state.proofs.Stored.{load_here, write_here}
use Rattle.cache_state.proofs.Stored as stored

-- ---- sums, as the loops make them

pub sum_first : (f : ℕ → ℕ) → 0 ≡ sum_to 0 f
unfolding sum_to
sum_first f = refl

pub sum_more : (f : ℕ → ℕ) (i s x : ℕ) → s ≡ sum_to i f → x ≡ f i → s + x ≡ sum_to (i + 1) f
unfolding sum_to
sum_more f i s x e h = rw (add-one i) (omega arith)

-- a sum that begins at the other end
sum_front : (n : ℕ) (f : ℕ → ℕ) → sum_to (suc n) f ≡ f 0 + sum_to n (λ i. f (suc i))
unfolding sum_to
sum_front zero f = omega arith
sum_front (suc n) f = omega (arith, sum_front n f)

-- terms that are 0 from m on add nothing
sum_cut : (m n : ℕ) (f : ℕ → ℕ) → ((i : ℕ) → m ≤ i → i < m + n → f i ≡ 0) → sum_to (n + m) f ≡ sum_to m f
unfolding sum_to
sum_cut m zero f h =
    let e : 0 + m ≡ m = omega arith in
    rw e
sum_cut m (suc n) f h =
    let e : suc n + m ≡ suc (n + m) = omega arith in
    rw e (omega (arith, sum_cut m n f (λ i l b. h i l (omega arith)), h (n + m) (omega arith) (omega arith)))

-- ---- the dirty items, and those that have left, are those marked

count_sum : (n : ℕ) (f : ℕ → Bool) (i : ℕ) → count_set (marks_from n f i) ≡ sum_to n (λ j. cond (f (i + j)) 1 0)
unfolding marks_from count_set sum_to
count_sum zero f i = refl
count_sum (suc n) f i =
    let g : ℕ → ℕ = λ j. cond (f (i + j)) 1 0 in
    let e : sum_to n (λ j. cond (f (suc i + j)) 1 0) ≡ sum_to n (λ j. g (suc j)) =
    sum_eq n _ _ (λ j l. let q : suc i + j ≡ i + suc j = omega arith in ap (λ (z : ℕ). cond (f z) 1 0) q) in
    let z : i + 0 ≡ i = omega arith in
    let first : g 0 ≡ cond (f i) 1 0 = ap (λ (x : ℕ). cond (f x) 1 0) z in
    omega (arith, one (f i) (marks_from n f (suc i)), count_sum n f (suc i), e, sum_front n g, first)
  where
    one : (b : Bool) (bs : List Bool) → count_set (b ∷ bs) ≡ cond b 1 0 + count_set bs
    one true bs = omega arith
    one false bs = omega arith

-- a loss changes no mark: an item is dirty as it is marked
module _ (c : Cache) (v : Normal c) (i : ℕ) (l : i < c.n) where
  pub dirty_here : is_dirty (slot_at (state_of c) i) ≡ dirty_at c i
  dirty_here = ap is_dirty (slot_is c i l) ∙ lose_dirty (split_of c.rule) _ _ (stored_at (queue_of c) i) ∙ stored.dirty_here c v i l

-- of marks that are set below n only, as many are set as those below n
count_below : (ws : List ℕ) (n : ℕ) → n ≤ 256 → ((i : ℕ) → n ≤ i → i < 256 → marked ws i ≡ false) → sum_to n (λ i. cond (marked ws i) 1 0) ≡ count_set (marks ws)
unfolding marks
count_below ws n few none =
    let e : 256 ≡ (256 - n) + n = omega arith in
    sym (sum_cut n (256 - n) (λ i. cond (marked ws i) 1 0) (λ i l b. ap (λ (t : Bool). cond t 1 0) (none i l (omega arith))))
    ∙ ap (λ (m : ℕ). sum_to m (λ i. cond (marked ws i) 1 0)) (sym e)
    ∙ sum_eq 256 _ _ (λ i l. let q : i ≡ 0 + i = omega arith in ap (λ (z : ℕ). cond (marked ws z) 1 0) q)
    ∙ sym (count_sum 256 (marked ws) 0)

pub dirty_count_lem : (c : Cache) → Normal c → dirty_count (state_of c) ≡ count_set (marks c.dirty)
unfolding dirty_count
dirty_count_lem c v =
    ap (λ (m : ℕ). sum_to m (λ i. cond (is_dirty (slot_at (state_of c) i)) 1 0)) (size_is c)
    ∙ sum_eq c.n _ _ (λ i l. λ z. cond (dirty_here c v i l z) 1 0)
    ∙ count_below c.dirty c.n v.few (λ i l b. (v.past i l b).place.slot.dirty)

pub left_count_lem : (c : Cache) → Normal c → left_count (catalog_of c) ≡ count_set (marks c.left)
unfolding left_count
left_count_lem c v =
    ap (λ (m : ℕ). sum_to m (λ i. cond (item_at (catalog_of c) i).left 1 0)) (size_is c)
    ∙ sum_eq c.n _ _ (λ i l. λ z. cond (left_is c i l z) 1 0)
    ∙ count_below c.left c.n v.few (λ i l b. (v.past i l b).left)

-- ---- the end of the loop that tests each item

module _ (c : Cache) where
  pub entries_fail : (i : ℕ) {r : Bool} → i < c.n → Decided (EntryAt c i) r → not r ≡ true → Decided (EntriesOk c) false
  entries_fail i l d e = no (λ p. denied d e (p.each i l))

  pub entries_end : (i : ℕ) → c.n ≤ i → ((j : ℕ) → j < i → EntryAt c j) → Decided (EntriesOk c) true
  entries_end i l h = sure record { each = λ j m. h j (omega arith) }

-- ---- the parts make the whole

-- what the check finds, one record for each of its tests
pub record Parts (c : Cache) : Type 0 where
  pub few : c.n ≤ 256
  pub past : PastOk c
  pub entries : EntriesOk c
  pub keys : KeysOk c
  pub queue : QueueParts c
  pub left : LeftOk c
  pub sums : SumsOf c
  pub counts : CountsOk c.k (counts_of c)

-- the costs are in range because of their type, with no test
pub record Costs (c : Cache) : Type 0 where
  pub load : (i : ℕ) → get_or c.load i 0 ≤ 65535
  pub write : (i : ℕ) → get_or c.write i 0 ≤ 65535

pub normal_of : (c : Cache) → Parts c → Normal c
normal_of c p =
    record {
      few = p.few;
      past = p.past.each;
      absent = λ i l e.
          record {
            dirty = (p.entries.each i l).marks.absent_clean e;
            load_credit = (p.entries.each i l).marks.absent_empty e;
            write_credit = (p.entries.each i l).marks.clean_empty ((p.entries.each i l).marks.absent_clean e);
            key = (p.keys.each i l).none e;
          };
      clean = λ i l e. (p.entries.each i l).marks.clean_empty e;
      heap = p.queue.heap;
      order = p.queue.order;
      used = p.queue.used;
    }

-- a slot's credits, by the rule and on the fields
slot_of : (c : Cache) → Normal c → (i : ℕ) → i < c.n → EntryAt c i → SlotKept (item_at (catalog_of c) i) (stored_at (queue_of c) i)
slot_of c v i l o =
    rw (item_is c i l)
    record {
      whole_load = rw (load_here c v i l) o.loads.whole;
      whole_write = rw (write_here c v i l) o.writes.whole;
      load_top = rw (load_here c v i l) o.loads.top;
      write_top = rw (write_here c v i l) o.writes.top;
    }

-- a key that fits, by the queue and on the fields
key_of : (c : Cache) → Normal c → (i : ℕ) → i < c.n → KeyAt c i → held (stored_at (queue_of c) i) ≡ true → KeyOk (blocks_of (queue_of c) i) c.level (key_at (queue_of c) i) (stored_at (queue_of c) i)
key_of c v i l o h =
    rw (blocks_is c i l, key_is c i l)
    (record {
      due = rw (load_here c v i l, write_here c v i l) (o.due (sym (stored_held c i l) ∙ h));
      within = o.within (sym (stored_held c i l) ∙ h);
    })

sum_loads : (c : Cache) → sum_to (size (state_of c)) (λ i. (use_at (figures_of c) i).loads) ≡ sum_to c.n (λ i. get_or c.itemloads i 0)
sum_loads c =
    ap (λ (m : ℕ). sum_to m (λ i. (use_at (figures_of c) i).loads)) (size_is c)
    ∙ sum_eq c.n _ _ (λ i l. ap (λ (u : Use). u.loads) (use_is c i l))

sum_writebacks : (c : Cache) → sum_to (size (state_of c)) (λ i. (use_at (figures_of c) i).writebacks) ≡ sum_to c.n (λ i. get_or c.itemwritebacks i 0)
sum_writebacks c =
    ap (λ (m : ℕ). sum_to m (λ i. (use_at (figures_of c) i).writebacks)) (size_is c)
    ∙ sum_eq c.n _ _ (λ i l. ap (λ (u : Use). u.writebacks) (use_is c i l))

pub valid_of : (c : Cache) → Costs c → Parts c → Valid c
valid_of c w p = record { fields = v; lazy = requeued; standing = standing }
  where
    v : Normal c
    v = normal_of c p

    below : (i : ℕ) → i < size (state_of c) → i < c.n
    below i l = rw (size_is c) at l

    item : (i : ℕ) → i < c.n → ItemFacts (item_at (catalog_of c) i)
    item i l =
        let o : EntryAt c i = p.entries.each i l in
        rw (item_is c i l) record { some = o.some; small = o.small; load = w.load i; write = w.write i }

    catalog : CatalogOk (catalog_of c)
    catalog = catalog_ok (catalog_of c) (record { few = rw (size_is c) p.few; each = λ i l. item i (below i l) })

    queue : QueueOk (queue_of c)
    queue =
        record {
          slots = slots_length c ∙ sym (size_is c);
          keys = keys_length c ∙ sym (size_is c);
          slot = λ i l. slot_of c v i (below i l) (p.entries.each i (below i l));
          key = λ i l h. key_of c v i (below i l) (p.keys.each i (below i l)) h;
          unkeyed = λ i l h. key_is c i (below i l) ∙ (p.keys.each i (below i l)).none (sym (stored_held c i (below i l)) ∙ h);
        }

    requeued : LazyOk (lazy c)
    requeued = record { catalog = catalog; queue = queue; level = p.queue.level }

    standing : StandingOk (view c)
    standing =
        record {
          capacity = capacity_ok c.k (record { low = p.counts.low; high = p.counts.high });
          kept =
              record {
                catalog = catalog;
                slots = tab_length (length (catalog_of c)) _;
                slot =
                    λ i l.
                    rw (slot_is c i (below i l))
                    (now_kept (split_of c.rule) (deduction_ok c.rule) (deduction_adds c.rule) (item_at (catalog_of c) i) (item i (below i l)).some c.level
                    (key_at (queue_of c) i) (stored_at (queue_of c) i) (queue.slot i l) (λ h. queue.key i l h));
                room = p.sums.room;
                left = λ i l e. held_is c i (below i l) ∙ p.left.each i (below i l) (sym (left_is c i (below i l)) ∙ e);
              };
          steps = p.counts.steps;
          retirements = p.sums.gone ∙ sym (left_count_lem c v);
          taken = p.counts.taken;
          evictions = p.sums.kept;
          dirty_evictions = p.counts.dirty_evictions;
          dirty_written = p.counts.dirty_written;
          writebacks = rw (dirty_count_lem c v) p.sums.due;
          load_cost = p.counts.load_cost;
          write_cost = p.counts.write_cost;
          uses = uses_length c ∙ sym (size_is c);
          loads_add = sum_loads c ∙ p.sums.loads_add;
          writebacks_add = sum_writebacks c ∙ p.sums.writebacks_add;
          minutes = λ i l. rw (use_is c i (below i l)) (p.entries.each i (below i l)).minutes_top;
          closed = λ e i l. dirty_here c v i (below i l) ∙ (p.entries.each i (below i l)).marks.closed_clean e;
        }

entry_of : (c : Cache) → Valid c → (i : ℕ) → i < c.n → EntryAt c i
entry_of c o i l =
    record {
      some = rw (item_is c i l) at ((catalog_facts (catalog_of c) o.standing.kept.catalog).each i m).some;
      small = rw (item_is c i l) at ((catalog_facts (catalog_of c) o.standing.kept.catalog).each i m).small;
      marks =
          record {
            absent_clean = λ e. (v.absent i l e).dirty;
            absent_empty = λ e. (v.absent i l e).load_credit;
            clean_empty = λ e. v.clean i l e;
            closed_clean = λ e. sym (dirty_here c v i l) ∙ o.standing.closed e i m;
          };
      loads = record { whole = rw (load_here c v i l) at s.whole_load; top = rw (load_here c v i l) at s.load_top };
      writes = record { whole = rw (write_here c v i l) at s.whole_write; top = rw (write_here c v i l) at s.write_top };
      minutes_top = rw (use_is c i l) at (o.standing.minutes i m);
    }
  where
    v : Normal c
    v = o.fields

    m : i < size (state_of c)
    m = rw (size_is c) l

    s : SlotKept (item_of c i) (stored_at (queue_of c) i)
    s = rw (item_is c i l) at (o.lazy.queue.slot i m)

keys_of : (c : Cache) → Valid c → (i : ℕ) → i < c.n → KeyAt c i
keys_of c o i l =
    record {
      none = λ e. (o.fields.absent i l e).key;
      within = λ e. (ok e).within;
      due = λ e. rw (load_here c o.fields i l, write_here c o.fields i l) at (ok e).due;
    }
  where
    m : i < size (state_of c)
    m = rw (size_is c) l

    ok : held_at c i ≡ true → KeyOk (get_or c.blocks i 0) c.level (get_or c.keys i 0) (stored_at (queue_of c) i)
    ok e = rw (blocks_is c i l, key_is c i l) at (o.lazy.queue.key i m (stored_held c i l ∙ e))

pub parts_of : (c : Cache) → Valid c → Parts c
parts_of c o =
    record {
      few = o.fields.few;
      past = record { each = o.fields.past };
      entries = record { each = entry_of c o };
      keys = record { each = keys_of c o };
      queue = record { heap = o.fields.heap; order = o.fields.order; used = o.fields.used; level = o.lazy.level };
      left = record { each = λ i l e. sym (held_is c i l) ∙ o.standing.kept.left i (rw (size_is c) l) (left_is c i l ∙ e) };
      sums =
          record {
            room = o.standing.kept.room;
            kept = o.standing.evictions;
            due = rw (dirty_count_lem c o.fields) at o.standing.writebacks;
            loads_add = sym (sum_loads c) ∙ o.standing.loads_add;
            writebacks_add = sym (sum_writebacks c) ∙ o.standing.writebacks_add;
            gone = o.standing.retirements ∙ left_count_lem c o.fields;
          };
      counts =
          record {
            low = (capacity_facts c.k o.standing.capacity).low;
            high = (capacity_facts c.k o.standing.capacity).high;
            steps = o.standing.steps;
            taken = o.standing.taken;
            dirty_evictions = o.standing.dirty_evictions;
            dirty_written = o.standing.dirty_written;
            load_cost = o.standing.load_cost;
            write_cost = o.standing.write_cost;
          };
    }
