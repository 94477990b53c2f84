-- The contracts by `lazy` leave no choice but how the heap is arranged: caches with tidy fields (`Normal`) at which the lazy form stands
-- alike, and whose heaps are arranged alike, are one and the same.
-- Assumes nothing.
use mathlib.Core.Path.{◌≡◌, refl, sym, ap, ◌∙◌}
use mathlib.Core.Bool.{Bool, true, false, cond}
use Rattle.landlord.specs.Fold.{sum_to}
use mathlib.Core.List.{List}
use Prim.Native.Nat.{ℕ, ◌^◌, ◌≤◌, ◌<◌}
use native.Mathlib.Decide.{dec_le}
use native.Mathlib.Omega.{arith}
use lib.ListN.{length, get_or, replicate, get_or-replicate, length-replicate}
use lib.Seq.{ext_get_or}
use Rattle.landlord.specs.Catalog.{Item, item_at}
use Rattle.landlord.specs.Slot.{held, is_dirty, load_credit, write_credit}
use Rattle.landlord.specs.Figures.{Use, use_at}
use Rattle.queue.specs.Queue.{stored_at, key_at}
use Rattle.queue.specs.Machine.{LazyStanding}
use Rattle.heap.specs.Heap.{place_of}
use Rattle.landlord.proofs.Slots.{deduction_one}
use Rattle.landlord.proofs.Sums.{sum_zero}
use Rattle.marks.specs.Inner.{marks}
use Rattle.marks.proofs.Laws.{length_marks, marked_at, marks_tell}
use Rattle.cache_state.specs.Cache.{Cache, lazy, held_at, held_items, held_blocks, heap_at, Normal, Valid}
use Rattle.cache_state.specs.InnerView.{item_of, usage_of, queue_of}
use Rattle.cache_state.specs.InnerBecomes.{Becomes}
use Rattle.cache_state.proofs.Views.{size_is, item_is, use_is, key_is, stored_held}
use Rattle.cache_state.proofs.Stored.{dirty_here, load_here, write_here}

-- what the types of its fields say of a cache: a place for each of 256 items, and four words of 64 bits
pub record Sizes (c : Cache) : Type 0 where
  pub blocks : length c.blocks ≡ 256
  pub load : length c.load ≡ 256
  pub write : length c.write ≡ 256
  pub held : length c.held ≡ 256
  pub load_credit : length c.loadcredit ≡ 256
  pub write_credit : length c.writecredit ≡ 256
  pub dirty : length c.dirty ≡ 4
  pub words : (k : ℕ) → get_or c.dirty k 0 < 2 ^ 64
  pub minutes : length c.minutes ≡ 256
  pub loads : length c.itemloads ≡ 256
  pub writebacks : length c.itemwritebacks ≡ 256
  pub keys : length c.keys ≡ 256
  pub places : length c.places ≡ 256
  pub left : length c.left ≡ 4
  pub left_words : (k : ℕ) → get_or c.left k 0 < 2 ^ 64

module _ (c d : Cache) (sc : Sizes c) (sd : Sizes d) (nc : Normal c) (nd : Normal d) (e : lazy c ≡ lazy d) (arranged : c.heap ≡ d.heap) where
  same_n : c.n ≡ d.n
  same_n = sym (size_is c) ∙ ap (λ (v : LazyStanding). length v.queue.catalog) e ∙ size_is d

  -- two arrays that agree below the catalog's end, and have nothing past it
  agree :
      {A : Type 0} (z : A) (xs ys : List A) →
      length xs ≡ 256 →
      length ys ≡ 256 →
      ((i : ℕ) → i < c.n → i < d.n → get_or xs i z ≡ get_or ys i z) →
      ((i : ℕ) → c.n ≤ i → i < 256 → get_or xs i z ≡ z) →
      ((i : ℕ) → d.n ≤ i → i < 256 → get_or ys i z ≡ z) →
      xs ≡ ys
  agree z xs ys lx ly below px py = ext_get_or z xs ys (lx ∙ sym ly) (λ i l. at i (omega arith) (dec_le c.n i))
    where
      at : (i : ℕ) → i < 256 → Dec (c.n ≤ i) → get_or xs i z ≡ get_or ys i z
      at i l (yes p) = px i p l ∙ sym (py i (omega (arith, same_n)) l)
      at i l (no p) = below i (omega arith) (omega (arith, same_n))

  -- the rule's item, line and slot of a number, read off either cache
  item : (i : ℕ) → i < c.n → i < d.n → item_of c i ≡ item_of d i
  item i l m = sym (item_is c i l) ∙ ap (λ (v : LazyStanding). item_at v.queue.catalog i) e ∙ item_is d i m

  usage : (i : ℕ) → i < c.n → i < d.n → usage_of c i ≡ usage_of d i
  usage i l m = sym (use_is c i l) ∙ ap (λ (v : LazyStanding). use_at v.figures i) e ∙ use_is d i m

  slot : (i : ℕ) → stored_at (queue_of c) i ≡ stored_at (queue_of d) i
  slot i = ap (λ (v : LazyStanding). stored_at v.queue i) e

  same_blocks : c.blocks ≡ d.blocks
  same_blocks =
      agree 0 c.blocks d.blocks sc.blocks sd.blocks (λ i l m. ap (λ (x : Item). x.blocks) (item i l m)) (λ i l b. (nc.past i l b).blocks) (λ i l b. (nd.past i l b).blocks)

  same_load : c.load ≡ d.load
  same_load =
      agree 0 c.load d.load sc.load sd.load (λ i l m. ap (λ (x : Item). x.load) (item i l m)) (λ i l b. (nc.past i l b).load) (λ i l b. (nd.past i l b).load)

  same_write : c.write ≡ d.write
  same_write =
      agree 0 c.write d.write sc.write sd.write (λ i l m. ap (λ (x : Item). x.write) (item i l m)) (λ i l b. (nc.past i l b).write) (λ i l b. (nd.past i l b).write)

  same_held : c.held ≡ d.held
  same_held =
      agree false c.held d.held sc.held sd.held (λ i l m. sym (stored_held c i l) ∙ ap held (slot i) ∙ stored_held d i m) (λ i l b. (nc.past i l b).place.held) (λ i l b. (nd.past i l b).place.held)

  same_loadcredit : c.loadcredit ≡ d.loadcredit
  same_loadcredit =
      agree 0 c.loadcredit d.loadcredit sc.load_credit sd.load_credit (λ i l m. sym (load_here c nc i l) ∙ ap load_credit (slot i) ∙ load_here d nd i m) (λ i l b. (nc.past i l b).place.slot.load_credit) (λ i l b. (nd.past i l b).place.slot.load_credit)

  same_writecredit : c.writecredit ≡ d.writecredit
  same_writecredit =
      agree 0 c.writecredit d.writecredit sc.write_credit sd.write_credit (λ i l m. sym (write_here c nc i l) ∙ ap write_credit (slot i) ∙ write_here d nd i m) (λ i l b. (nc.past i l b).place.slot.write_credit) (λ i l b. (nd.past i l b).place.slot.write_credit)

  same_minutes : c.minutes ≡ d.minutes
  same_minutes =
      agree 0 c.minutes d.minutes sc.minutes sd.minutes (λ i l m. ap (λ (u : Use). u.minutes) (usage i l m)) (λ i l b. (nc.past i l b).place.minutes) (λ i l b. (nd.past i l b).place.minutes)

  same_itemloads : c.itemloads ≡ d.itemloads
  same_itemloads =
      agree 0 c.itemloads d.itemloads sc.loads sd.loads (λ i l m. ap (λ (u : Use). u.loads) (usage i l m)) (λ i l b. (nc.past i l b).place.loads) (λ i l b. (nd.past i l b).place.loads)

  same_itemwritebacks : c.itemwritebacks ≡ d.itemwritebacks
  same_itemwritebacks =
      agree 0 c.itemwritebacks d.itemwritebacks sc.writebacks sd.writebacks (λ i l m. ap (λ (u : Use). u.writebacks) (usage i l m)) (λ i l b. (nc.past i l b).place.writebacks) (λ i l b. (nd.past i l b).place.writebacks)

  same_marks : marks c.dirty ≡ marks d.dirty
  same_marks =
      agree false (marks c.dirty) (marks d.dirty) (length_marks c.dirty) (length_marks d.dirty)
      (λ i l m.
      marked_at c.dirty i (omega (arith, nc.few))
      ∙ sym (dirty_here c nc i l) ∙ ap is_dirty (slot i) ∙ dirty_here d nd i m
      ∙ sym (marked_at d.dirty i (omega (arith, nc.few))))
      (λ i l b. marked_at c.dirty i b ∙ (nc.past i l b).place.slot.dirty)
      (λ i l b. marked_at d.dirty i b ∙ (nd.past i l b).place.slot.dirty)

  same_dirty : c.dirty ≡ d.dirty
  same_dirty = marks_tell c.dirty d.dirty sc.dirty sd.dirty sc.words sd.words same_marks

  same_gone : marks c.left ≡ marks d.left
  same_gone =
      agree false (marks c.left) (marks d.left) (length_marks c.left) (length_marks d.left)
      (λ i l m.
      marked_at c.left i (omega (arith, nc.few)) ∙ ap (λ (x : Item). x.left) (item i l m) ∙ sym (marked_at d.left i (omega (arith, nc.few))))
      (λ i l b. marked_at c.left i b ∙ (nc.past i l b).left)
      (λ i l b. marked_at d.left i b ∙ (nd.past i l b).left)

  same_left : c.left ≡ d.left
  same_left = marks_tell c.left d.left sc.left sd.left sc.left_words sd.left_words same_gone

  same_rule : c.rule ≡ d.rule
  same_rule = deduction_one c.rule d.rule (ap (λ (v : LazyStanding). v.split) e)

  same_keys : c.keys ≡ d.keys
  same_keys =
      agree 0 c.keys d.keys sc.keys sd.keys (λ i l m. sym (key_is c i l) ∙ ap (λ (v : LazyStanding). key_at v.queue i) e ∙ key_is d i m) (λ i l b. (nc.past i l b).place.slot.key) (λ i l b. (nd.past i l b).place.slot.key)

  same_count : held_items c ≡ held_items d
  unfolding held_items
  same_count = ap (λ (hs : List Bool). sum_to 256 (λ i. cond (get_or hs i false) 1 0)) same_held

  same_used : c.used ≡ d.used
  unfolding held_blocks
  same_used = nc.used ∙ (λ z. sum_to 256 (λ i. cond (get_or (same_held z) i false) (get_or (same_blocks z) i 0) 0)) ∙ sym nd.used

  -- the places are told by the heap: each held item stands where the heap has it, and others have place 0
  same_places : c.places ≡ d.places
  same_places = ext_get_or 0 c.places d.places (sc.places ∙ sym sd.places) (λ i l. at i (omega (arith, sc.places)) (held_at c i) refl)
    where
      at : (i : ℕ) → i < 256 → (b : Bool) → held_at c i ≡ b → get_or c.places i 0 ≡ get_or d.places i 0
      at i l true h =
          let low : place_of (heap_at c) i < held_items d = rw same_count at (nc.heap.low i l h) in
          let there : get_or d.heap (place_of (heap_at c) i) 0 ≡ i = ap (λ (xs : List ℕ). get_or xs (place_of (heap_at c) i) 0) (sym arranged) ∙ nc.heap.all i l h in
          sym (nd.heap.placed (place_of (heap_at c) i) low) ∙ ap (λ (j : ℕ). get_or d.places j 0) there
      at i l false h = nc.heap.none i l h ∙ sym (nd.heap.none i l (ap (λ (hs : List Bool). get_or hs i false) (sym same_held) ∙ h))

  pub tells : c ≡ d
  tells =
      λ j.
      record {
        k = (e j).k;
        n = same_n j;
        blocks = same_blocks j;
        load = same_load j;
        write = same_write j;
        held = same_held j;
        loadcredit = same_loadcredit j;
        writecredit = same_writecredit j;
        dirty = same_dirty j;
        minutes = same_minutes j;
        itemloads = same_itemloads j;
        itemwritebacks = same_itemwritebacks j;
        steps = (e j).figures.totals.steps;
        hits = (e j).figures.totals.hits;
        loads = (e j).figures.totals.loads;
        loadcost = (e j).figures.totals.load_cost;
        evictions = (e j).figures.totals.evictions;
        dirtyevictions = (e j).figures.totals.dirty_evictions;
        writebacks = (e j).figures.totals.writebacks;
        writecost = (e j).figures.totals.write_cost;
        flushes = (e j).figures.totals.flushes;
        closed = (e j).closed;
        rule = same_rule j;
        left = same_left j;
        arrivals = (e j).figures.totals.arrivals;
        retirements = (e j).figures.totals.retirements;
        level = (e j).queue.level;
        keys = same_keys j;
        heap = arranged j;
        places = same_places j;
        used = same_used j;
      }

-- there is one cache that stands where the lazy form stands, for each arrangement of the heap
pub becomes_one : (v : LazyStanding) (c d : Cache) → Sizes c → Sizes d → Becomes v c → Becomes v d → c.heap ≡ d.heap → c ≡ d
becomes_one v c d sc sd bc bd = tells c d sc sd bc.fields bd.fields (bc.stands ∙ sym bd.stands)

-- and so there is one valid cache with a given line, for each arrangement of the heap
pub valid_one : (c d : Cache) → Sizes c → Sizes d → Valid c → Valid d → lazy c ≡ lazy d → c.heap ≡ d.heap → c ≡ d
valid_one c d sc sd vc vd e = tells c d sc sd vc.fields vd.fields e

-- a cache that holds nothing has one arrangement: every place of its heap is 0
pub empty_heap : (c : Cache) → Normal c → ((i : ℕ) → i < 256 → held_at c i ≡ false) → length c.heap ≡ 256 → c.heap ≡ replicate 256 0
unfolding held_items
empty_heap c ok none long =
    ext_get_or 0 c.heap (replicate 256 0) (long ∙ sym (length-replicate {A = ℕ} 256 0))
    (λ i l. ok.heap.past i (omega (arith, size)) ∙ sym (get_or-replicate 256 i 0 0 (omega (arith, long))))
  where
    size : sum_to 256 (λ i. cond (held_at c i) 1 0) ≡ 0
    size = sum_zero 256 (λ i. cond (held_at c i) 1 0) (λ i u. ap (λ (t : Bool). cond t 1 0) (none i u))
