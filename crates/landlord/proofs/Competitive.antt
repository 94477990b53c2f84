-- The wear bound. The rule and a plan, run over one log, make moves of the game of proofs/Moves.antt; so what is shown there
-- of every such game holds of them. Assumes nothing.
use mathlib.Core.Path.{◌≡◌, refl, sym, ap, subst, ◌∙◌}
use mathlib.Core.Logic.{◌≢◌}
use mathlib.Core.Bool.{Bool, true, false, cond}
use mathlib.Core.List.{List, [], ◌∷◌, ◌++◌}
use Prim.Native.Nat.{ℕ, suc, ◌+◌, ◌*◌, ◌-◌, ◌≤◌, ◌<◌}
use native.Mathlib.Nat.{dvd-mul_right, add-zero, zero-add, add_assoc}
use native.Mathlib.Omega.{arith}
use lib.ListN.{length, set, length-set, get_or-eq_default}
use lib.Seq.{get_or-set_same, get_or-set_other}
use lib.Dec.{leb, ltb}
use borrow.Author.Tests.{ltb-true, leb-true}
use Rattle.types.specs.declared.Step.{Step}
use Rattle.types.specs.declared.Step.TheVariants.{Read, Write, Flush, Arrive, Retire}
use Rattle.types.specs.declared.Act.{Act}
use Rattle.types.specs.declared.Act.TheVariants.{Evict, Fetch}
use Rattle.landlord.specs.Fold.{fold, sum_to, tab}
use Rattle.landlord.specs.Catalog.{Catalog, Item, CatalogOk, item_at, listed, catalog_next, catalog_after, unit, full}
use Rattle.landlord.specs.Slot.{Slot, absent, clean, dirty, held, is_dirty, load_credit, write_credit, Split, lose, brought, refilled, written, flushed}
use Rattle.landlord.specs.Rule.{State, emptied, Event, hit, loaded, evicted, wrote, retired, Moved, size, slot_at, blocks_at, used, rank, victim, evict_item, evict, make_room, put_slot, found, flush, drop_item, step}
use Rattle.landlord.specs.Figures.{Totals, Standing, Start, adds, total_cost, opened, moved, took, closes, ran, season, left_side, right_side}
use Rattle.landlord.specs.Plan.{Plan, Copy, no_copy, clean_copy, dirty_copy, has, is_changed, cleaned, copy_at, plan_used, owed, Done, done, faulty, Priced, costs, fault, if_present, plan_acts, and_paid, and_then, all_acts, plan_serves, priced_with, price_then, price_from, price}
use Rattle.landlord.specs.Claims.{SplitOk, SlotKept, Kept, Least, AllowedLog, CompetitiveBound, SharpBound}
use Rattle.landlord.proofs.Ranges.{catalog_facts}
use Rattle.landlord.proofs.Folds.{either, tab_at, tab_length}
use Rattle.landlord.proofs.Slots.{Lost, lose_lost, read_held, flush_held}
use Rattle.landlord.proofs.Sums.{sum_eq}
use Rattle.landlord.proofs.Potential
use Rattle.landlord.proofs.Keeps.{Evicting, enough, more, RoomMade, make_room_lem, Served, least_rank, rank_whole, bears_rank, evicted_slot, other_slot, evict_catalog, evict_kept, still_absent, put_same, put_other, flush_slot, grown, grown_slot, drop_slot, drop_other}
use Rattle.landlord.proofs.Catalogs.{padded, one_longer, arrived_other, retired_length, retired_alike}
use Rattle.landlord.proofs.Logs.{event_sum, event_sum_none, event_sum_one, event_append, write_backs_sum, tally_part, AllServed, all_served, StandsAfter, opened_stands, took_stands, closes_stands, ran_stands}
use Rattle.landlord.proofs.Potential.{Both, both, Terms, Charged, held_blocks, was_read, keeps_takes}
use Rattle.landlord.proofs.Moves
use Rattle.landlord.proofs.Moves.{Position, sum_over, Paid, Upd, Eviction, Move, Run, Fresh, PlanClean, Sized}

-- a slot of the cache and a copy of the plan, as one item of the game
abbrev joint : Slot → Copy → Both
joint s q = both (held s) (is_dirty s) (has q) (is_changed q) (load_credit s) (write_credit s)

-- where the game stands: what both have paid, the rule's state, the plan's copies
abbrev position : ℕ → ℕ → State → List Copy → Position
position a b x q = record { paid = a; plan_paid = b; items = λ i. joint (slot_at x i) (copy_at q i) }

copy_clean : (c : Copy) → is_changed (cleaned c) ≡ false
copy_clean c = grind arith

-- what an event costs the cache
abbrev cost_added : Catalog → Event → ℕ
cost_added cat e = (adds cat e).load_cost + (adds cat e).write_cost

-- positions with any items: the plan pays c and the cache nothing, and the other way round, and both
abbrev at : ℕ → ℕ → (ℕ → Both) → Position
at a b f = record { paid = a; plan_paid = b; items = f }

plan_pays : {f g : ℕ → Both} (a b c : ℕ) → Paid (at a b f) (at a (b + c) g) 0 c
plan_pays a b c = record { by_cache = sym (add-zero a); by_plan = refl }

cache_pays : {f g : ℕ → Both} (a b c : ℕ) → Paid (at a b f) (at (a + c) b g) c 0
cache_pays a b c = record { by_cache = refl; by_plan = sym (add-zero b) }

nobody_pays : {f g : ℕ → Both} (a b : ℕ) → Paid (at a b f) (at a b g) 0 0
nobody_pays a b = record { by_cache = sym (add-zero a); by_plan = sym (add-zero b) }

module _ (k h : ℕ) (low : 1 ≤ h) (high : h ≤ k) (cat : Catalog) (good : CatalogOk cat) where
  abbrev terms : Terms
  terms =
      record {
        n = length cat;
        c = k - h + 1;
        p = h - 1;
        unit = unit;
        blocks = λ i. (item_at cat i).blocks;
        load_cost = λ i. (item_at cat i).load;
        write_cost = λ i. (item_at cat i).write;
        positive = λ i l. ((catalog_facts cat good).each i l).some;
      }

  -- one slot of the plan changed
  plan_upd : (x : State) (q : List Copy) (i : ℕ) (c : Copy) → length q ≡ length cat → i < length cat → Upd (length cat) (λ j. joint (slot_at x j) (copy_at q j)) (λ j. joint (slot_at x j) (copy_at (set q i c) j)) i (joint (slot_at x i) c)
  plan_upd x q i c e l =
      record {
        here = ap (joint (slot_at x i)) (get_or-set_same q i c no_copy (omega arith));
        others = λ j b d. ap (joint (slot_at x j)) (get_or-set_other q i j c no_copy d);
      }

  -- What a part of a plan reaches from a position, if it is done: the cache has paid a and stands at x, the plan has paid
  -- the part's cost over b and has n copies, none of an item past the catalog.
  abbrev Reach : ℕ → Position → ℕ → ℕ → State → Done → Type 0
  Reach n from a b x (done r c) = (length r ≡ n) × Run terms from (position a (b + c) x r) × ((i : ℕ) → length cat ≤ i → copy_at r i ≡ no_copy)
  Reach n from a b x (faulty f) = Unit {0}

  none_past : (r : List Copy) → length r ≡ length cat → (i : ℕ) → length cat ≤ i → copy_at r i ≡ no_copy
  none_past r e i l = get_or-eq_default r no_copy (omega arith)

  -- an act on an item that is in the catalog and has not left
  present_reach :
      (s j i : ℕ) (from : Position) (a b : ℕ) (x : State) (d : Done) →
      (i < length cat → Reach (length cat) from a b x d) →
      Reach (length cat) from a b x (if_present cat s j i d)
  present_reach s j i from a b x d there =
      either (Reach (length cat) from a b x) (ltb i (length cat)) _ _
      (λ f. either (Reach (length cat) from a b x) (item_at cat i).left _ _ (λ g. tt) (λ g. there (ltb-true i (length cat) f)))
      (λ f. tt)

  -- an act is a move of the plan
  act_reach : (s j : ℕ) (act : Act) (a b : ℕ) (x : State) (q : List Copy) → length q ≡ length cat → Reach (length cat) (position a b x q) a b x (plan_acts cat s j act q)
  unfolding plan_acts
  act_reach s j (Evict i) a b x q e =
      let len : length (set q i no_copy) ≡ length cat = length-set q i no_copy ∙ e in
      present_reach s j i (position a b x q) a b x _
      (λ l. either (Reach (length cat) (position a b x q) a b x) (has (copy_at q i)) _ _
      (λ g. (len, Run.step (Move.plan_evicts i l g (plan_pays a b _) (plan_upd x q i no_copy e l)) Run.stay, none_past (set q i no_copy) len))
      (λ g. tt))
  act_reach s j (Fetch i) a b x q e =
      let len : length (set q i clean_copy) ≡ length cat = length-set q i clean_copy ∙ e in
      present_reach s j i (position a b x q) a b x _
      (λ l. either (Reach (length cat) (position a b x q) a b x) (has (copy_at q i)) _ _
      (λ g. tt)
      (λ g. (len, Run.step (Move.plan_fetches i l g (plan_pays a b _) (plan_upd x q i clean_copy e l)) Run.stay, none_past (set q i clean_copy) len)))

  then_reach :
      (n : ℕ) (from : Position) (a b a' : ℕ) (x x' : State) (d : Done) (next : List Copy → Done) →
      Reach (length cat) from a b x d →
      ((c : ℕ) (r : List Copy) → length r ≡ length cat → Reach n (position a (b + c) x r) a' (b + c) x' (next r)) →
      Reach n from a' b x' (and_then d next)
  then_reach n from a b a' x x' (done r c) next first later = go (next r) (later c r first.0)
    where
      go : (d : Done) → Reach n (position a (b + c) x r) a' (b + c) x' d → Reach n from a' b x' (and_paid c d)
      go (done r' c') found = (
        found.0,
        Moves.append first.1 (subst (λ (z : ℕ). Run terms (position a (b + c) x r) (position a' z x' r')) (add_assoc b c c') found.1),
        found.2,
      )
      go (faulty f) found = tt
  then_reach n from a b a' x x' (faulty f) next first later = tt

  acts_reach : (s j : ℕ) (acts : List Act) (a b : ℕ) (x : State) (q : List Copy) → length q ≡ length cat → Reach (length cat) (position a b x q) a b x (all_acts cat s j acts q)
  unfolding all_acts
  acts_reach s j [] a b x q e = (e, subst (λ (z : ℕ). Run terms (position a b x q) (position a z x q)) (sym (add-zero b)) Run.stay, none_past q e)
  acts_reach s j (act ∷ acts) a b x q e =
      then_reach (length cat) (position a b x q) a b a x x (plan_acts cat s j act q) (all_acts cat s (suc j) acts) (act_reach s j act a b x q e)
      (λ c r f. acts_reach s (suc j) acts a (b + c) x r f)

  -- a run's end, written otherwise
  run_to : {s : Position} (a a' b b' : ℕ) (x x' : State) (q : List Copy) → a ≡ a' → b ≡ b' → x ≡ x' → Run terms s (position a b x q) → Run terms s (position a' b' x' q)
  run_to {s} a a' b b' x x' q p r w run = subst (Run terms s) (λ z. position (p z) (r z) (w z) q) run

  -- The rule's part. The state's catalog is the season's.
  abbrev blocks_of : ℕ → ℕ
  blocks_of i = (item_at cat i).blocks

  abbrev event_cost : List Event → ℕ
  event_cost es = event_sum (cost_added cat) es

  blocks_same : (x : State) → x.catalog ≡ cat → (i : ℕ) → blocks_at x i ≡ blocks_of i
  blocks_same x e i = ap (λ (c : Catalog). (item_at c i).blocks) e

  size_same : (x : State) → x.catalog ≡ cat → size x ≡ length cat
  size_same x e = ap length e

  used_same : (x : State) → x.catalog ≡ cat → (q : List Copy) → used x ≡ sum_over terms (held_blocks terms) (position 0 0 x q).items
  unfolding used
  used_same x e q = ap (λ (c : Catalog). sum_to (length c) (λ i. cond (held (slot_at x i)) (item_at c i).blocks 0)) e

  -- a slot that loses m for each block, in any split, is charged as the game has it
  charged_lose :
      (split : Split) (i m : ℕ) (s : Slot) (q : Copy) →
      (held s ≡ true → Lost (blocks_of i * m) s (lose split (blocks_of i) (blocks_of i * m) s)) →
      Charged terms i m (joint s q) (joint (lose split (blocks_of i) (blocks_of i * m) s) q)
  charged_lose split i m absent q lost = keeps_takes 0 0 (omega arith) (omega arith) (omega arith)
  charged_lose split i m (clean a) q lost =
      let l = lost refl in
      keeps_takes (a - blocks_of i * m) 0 l.load l.write (omega arith)
  charged_lose split i m (dirty a b) q lost =
      let l = lost refl in
      keeps_takes (a - (blocks_of i * m - split (blocks_of i) (blocks_of i * m) a b)) (b - split (blocks_of i) (blocks_of i * m) a b) l.load l.write (omega arith)

  -- an eviction costs the writeback of a dirty item
  evicted_cost : (v : ℕ) (d : Bool) → cost_added cat (evicted v d) ≡ cond d (item_at cat v).write 0
  evicted_cost v true = omega arith
  evicted_cost v false = refl

  module _ (split : Split) (ok : SplitOk split) where
    -- the rule's eviction is an eviction of the game
    eviction :
        (g : ℕ) (x : State) (q : List Copy) →
        Kept k x →
        x.catalog ≡ cat →
        Least x (victim x) →
        g < length cat →
        has (copy_at q g) ≡ true →
        held (slot_at x g) ≡ false →
        plan_used cat q ≤ h →
        k < used x + blocks_of g →
        Eviction terms (position 0 0 x q).items (position 0 0 (evict_item split (victim x) x) q).items g (victim x) (rank x (victim x))
    unfolding plan_used
    eviction g x q kept e least l r n fits over-full =
        let v : ℕ = victim x in
        record {
          wanted = l;
          plan_holds = r;
          not_held = n;
          plan_fits = omega arith;
          too_full = let u = used_same x e q in omega arith;
          victim = omega (arith, size_same x e, least.below);
          victim_held = least.is_held;
          rank = sym (ap (λ (b : ℕ). rank x v * b) (sym (blocks_same x e v)) ∙ rank_whole k x v kept least.below);
          gone = ap (λ (s : Slot). joint s (copy_at q v)) (evicted_slot split v x least.below);
          others = λ i b d. charged i (rw (size_same x e) b) d;
        }
      where
        m : ℕ
        m = rank x (victim x)

        loses : (i : ℕ) → i < size x → i ≢ victim x → slot_at (evict_item split (victim x) x) i ≡ lose split (blocks_of i) (blocks_of i * m) (slot_at x i)
        loses i b d = other_slot split (victim x) x i b d ∙ ap (λ (n : ℕ). lose split n (n * m) (slot_at x i)) (blocks_same x e i)

        inside : (i : ℕ) → i < size x → SlotKept (item_at cat i) (slot_at x i)
        inside i b = subst (λ (c : Catalog). SlotKept (item_at c i) (slot_at x i)) e (kept.slot i b)

        bears : (i : ℕ) → i < size x → held (slot_at x i) ≡ true → blocks_of i * m ≤ load_credit (slot_at x i) + write_credit (slot_at x i)
        bears i b t =
            subst (λ (n : ℕ). n * m ≤ load_credit (slot_at x i) + write_credit (slot_at x i)) (blocks_same x e i)
            (bears_rank k x (victim x) i kept b (least_rank least i b t))

        charged : (i : ℕ) → i < size x → i ≢ victim x → Charged terms i m (joint (slot_at x i) (copy_at q i)) (joint (slot_at (evict_item split (victim x) x) i) (copy_at q i))
        charged i b d =
            subst (λ (s : Slot). Charged terms i m (joint (slot_at x i) (copy_at q i)) (joint s (copy_at q i))) (sym (loses i b d))
            (charged_lose split i m (slot_at x i) (copy_at q i)
            (λ t. lose_lost split ok (item_at cat i) ((catalog_facts cat good).each i (rw (← size_same x e) b)).some (blocks_of i * m) (slot_at x i) t (dvd-mul_right (blocks_of i) m) (inside i b) (bears i b t)))

    evictions :
        (g a b c : ℕ) (x : State) (m : Moved) (q : List Copy) →
        Evicting split k (blocks_of g) x m →
        Kept k x →
        x.catalog ≡ cat →
        g < length cat →
        has (copy_at q g) ≡ true →
        held (slot_at x g) ≡ false →
        plan_used cat q ≤ h →
        c ≡ a + event_cost m.events →
        Run terms (position a b x q) (position c b m.state q)
    evictions g a b c x m q (enough l) kept e lg r n fits paid =
        let same : a ≡ c = omega (arith, event_sum_none (cost_added cat)) in
        subst (λ (z : ℕ). Run terms (position a b x q) (position z b x q)) same Run.stay
    evictions g a b c x m q (more {m = rest} over-full least next) kept e lg r n fits paid =
        let v : ℕ = victim x in
        let d : Bool = is_dirty (slot_at x v) in
        let w : ℕ = cond d (item_at cat v).write 0 in
        Run.step {t = position (a + w) b (evict split x).state q}
        (Move.evicts g v (rank x v) (eviction g x q kept e least lg r n fits over-full) (cache_pays a b w))
        (evictions g (a + w) b c (evict split x).state rest q next (evict_kept k split v x ok kept least) (evict_catalog split v x ∙ e) lg r
        (still_absent split v x g (rw (size_same x e) lg) n) fits
        (omega (arith, paid, event_append (cost_added cat) (evict split x).events rest.events, event_sum_one (cost_added cat) (evicted v d), evicted_cost v d)))

    -- making room for item i, which the plan holds
    room_run :
        (i a b : ℕ) (x : State) (q : List Copy) →
        Kept k x →
        x.catalog ≡ cat →
        i < length cat →
        blocks_of i ≤ k →
        has (copy_at q i) ≡ true →
        plan_used cat q ≤ h →
        Run terms (position a b x q) (position (a + event_cost (make_room split k i x).events) b (make_room split k i x).state q)
    room_run i a b x q kept e l small r fits = go (held (slot_at x i)) refl
      where
        m : Moved
        m = make_room split k i x

        room : RoomMade split k i x m
        room = make_room_lem split k i x ok (rw (size_same x e) l) (rw (blocks_same x e i) small)

        go : (t : Bool) → held (slot_at x i) ≡ t → Run terms (position a b x q) (position (a + event_cost m.events) b m.state q)
        go true t =
            subst (λ (n : Moved). Run terms (position a b x q) (position (a + event_cost n.events) b n.state q)) (sym (room.stayed t))
            (subst (λ (z : ℕ). Run terms (position a b x q) (position z b x q)) (omega (arith, event_sum_none (cost_added cat))) Run.stay)
        go false t =
            evictions i a b (a + event_cost m.events) x m q (subst (λ (n : ℕ). Evicting split k n x m) (blocks_same x e i) (room.ran t).1) kept e l r t fits refl

  -- one slot of the cache changed
  cache_upd :
      (y : State) (q : List Copy) (i : ℕ) (s : Slot) →
      i < length y.slots →
      Upd (length cat) (position 0 0 y q).items (position 0 0 (put_slot y i s) q).items i (joint s (copy_at q i))
  cache_upd y q i s l =
      record {
        here = ap (λ (z : Slot). joint z (copy_at q i)) (put_same y i s l);
        others = λ j b d. ap (λ (z : Slot). joint z (copy_at q j)) (put_other y i j s d);
      }

  abbrev read_top : ℕ → ℕ
  read_top i = full (item_at cat i).load

  abbrev write_top : ℕ → ℕ
  write_top i = full (item_at cat i).write

  -- an item that the plan holds, read by the cache: a load, or a hit
  found_move :
      (i a b : ℕ) (y : State) (q : List Copy) (s : Slot) →
      slot_at y i ≡ s →
      i < length cat →
      i < length y.slots →
      has (copy_at q i) ≡ true →
      Move terms (position a b y q) (position (a + cost_added cat (cond (held s) (hit i) (loaded i))) b (put_slot y i (refilled (read_top i) (brought s))) q)
  found_move i a b y q absent e l m r =
      Move.loads i l (ap held e) r (record { by_cache = ap (λ (z : ℕ). a + z) (add-zero (item_at cat i).load); by_plan = sym (add-zero b) }) (cache_upd y q i (clean (read_top i)) m)
  found_move i a b y q (clean c) e l m r =
      Move.reads i l (ap held e) r (record { by_cache = refl; by_plan = sym (add-zero b) })
      (subst (λ (s : Slot). Upd (length cat) (position 0 0 y q).items (position 0 0 (put_slot y i (clean (read_top i))) q).items i (was_read terms i (joint s (copy_at q i)))) (sym e)
      (cache_upd y q i (clean (read_top i)) m))
  found_move i a b y q (dirty c d) e l m r =
      Move.reads i l (ap held e) r (record { by_cache = refl; by_plan = sym (add-zero b) })
      (subst (λ (s : Slot). Upd (length cat) (position 0 0 y q).items (position 0 0 (put_slot y i (dirty (read_top i) d)) q).items i (was_read terms i (joint s (copy_at q i)))) (sym e)
      (cache_upd y q i (dirty (read_top i) d) m))

  -- and then written: both sides have it dirty
  write_move :
      (i a b : ℕ) (y : State) (q : List Copy) (s : Slot) →
      i < length cat →
      i < length y.slots →
      length q ≡ length cat →
      has (copy_at q i) ≡ true →
      Move terms (position a b (put_slot y i (refilled (read_top i) (brought s))) q)
      (position a b (put_slot y i (written (write_top i) (refilled (read_top i) (brought s)))) (set q i dirty_copy))
  write_move i a b y q s l m e r =
      Move.writes i l holds r (nobody_pays a b)
      (record {
        here = (λ z. joint (put_same y i new m z) (get_or-set_same q i dirty_copy no_copy (let f : i < length q = omega arith in f) z)) ∙ dirtied s ∙ sym before;
        others = λ j b d. λ z. joint ((put_other y i j new d ∙ sym (put_other y i j old d)) z) (get_or-set_other q i j dirty_copy no_copy d z);
      })
    where
      old : Slot
      old = refilled (read_top i) (brought s)

      new : Slot
      new = written (write_top i) old

      holds : held (slot_at (put_slot y i old) i) ≡ true
      holds = ap held (put_same y i old m) ∙ read_held (read_top i) s

      both_dirty : Both
      both_dirty = both true true true true (read_top i) (write_top i)

      dirtied : (z : Slot) → joint (written (write_top i) (refilled (read_top i) (brought z))) dirty_copy ≡ both_dirty
      dirtied absent = refl
      dirtied (clean c) = refl
      dirtied (dirty c d) = refl

      before : Potential.was_written terms i (joint (slot_at (put_slot y i old) i) (copy_at q i)) ≡ both_dirty
      before = λ z. both (holds z) true (r z) true (read_top i) (write_top i)

  -- a landing or the closing, on both sides
  flushed_joint : (s : Slot) (c : Copy) → joint (flushed s) (cleaned c) ≡ Potential.was_flushed (joint s c)
  flushed_joint s c =
      λ z. both (flush_held s z) (slot_clean s z) (copy_kept c z) (copy_clean c z) (load_kept s z) (write_gone s z)
    where
      slot_clean : (s : Slot) → is_dirty (flushed s) ≡ false
      slot_clean absent = refl
      slot_clean (clean a) = refl
      slot_clean (dirty a b) = refl

      load_kept : (s : Slot) → load_credit (flushed s) ≡ load_credit s
      load_kept absent = refl
      load_kept (clean a) = refl
      load_kept (dirty a b) = refl

      write_gone : (s : Slot) → write_credit (flushed s) ≡ 0
      write_gone absent = refl
      write_gone (clean a) = refl
      write_gone (dirty a b) = refl

      copy_kept : (c : Copy) → has (cleaned c) ≡ has c
      copy_kept no_copy = refl
      copy_kept clean_copy = refl
      copy_kept dirty_copy = refl

  -- the plan's copies after a flush
  abbrev cleaned_all : List Copy → List Copy
  cleaned_all q = tab (length cat) (λ i. cleaned (copy_at q i))

  flush_cost : (x : State) → x.catalog ≡ cat → event_cost (flush x).events ≡ sum_to (length cat) (λ i. cond (is_dirty (slot_at x i)) (item_at cat i).write 0)
  unfolding flush
  flush_cost x e =
      write_backs_sum (cost_added cat) (size x) (λ i. is_dirty (slot_at x i))
      ∙ ap (λ (n : ℕ). sum_to n (λ i. cond (is_dirty (slot_at x i)) (0 + (item_at cat i).write) 0)) (size_same x e)
      ∙ sum_eq (length cat) _ _ (λ i l. ap (λ (n : ℕ). cond (is_dirty (slot_at x i)) n 0) (zero-add (item_at cat i).write))

  flush_move :
      (a b c : ℕ) (x : State) (q : List Copy) →
      x.catalog ≡ cat →
      c ≡ a + event_cost (flush x).events →
      Move terms (position a b x q) (position c (b + owed cat q) (flush x).state (cleaned_all q))
  unfolding owed
  flush_move a b c x q e paid =
      Move.flushes (record { by_cache = paid ∙ ap (λ (z : ℕ). a + z) (flush_cost x e); by_plan = refl })
      (λ i l. (λ z. joint (flush_slot x i (rw (size_same x e) l) z) (tab_at (length cat) (λ j. cleaned (copy_at q j)) i no_copy l z)) ∙ flushed_joint (slot_at x i) (copy_at q i))

  -- an item that leaves is dropped by both
  drop_cost : (x : State) (i : ℕ) → event_cost (drop_item i x).events ≡ cond (is_dirty (slot_at x i)) (item_at cat i).write 0
  unfolding drop_item
  drop_cost x i = go (slot_at x i)
    where
      go : (s : Slot) → event_cost (cond (held s) (evicted i (is_dirty s) ∷ []) []) ≡ cond (is_dirty s) (item_at cat i).write 0
      go absent = event_sum_none (cost_added cat)
      go (clean a) = event_sum_one (cost_added cat) (evicted i false)
      go (dirty a b) = event_sum_one (cost_added cat) (evicted i true) ∙ evicted_cost i true

  retire_move :
      (i a b c : ℕ) (x : State) (q : List Copy) →
      i < length cat →
      i < length x.slots →
      length q ≡ length cat →
      c ≡ a + event_cost (drop_item i x).events →
      Move terms (position a b x q)
      (position c (b + cond (is_changed (copy_at q i)) (item_at cat i).write 0) (drop_item i x).state (set q i no_copy))
  retire_move i a b c x q l m e paid =
      Move.retires i l (record { by_cache = paid ∙ ap (λ (z : ℕ). a + z) (drop_cost x i); by_plan = refl })
      (record {
        here = λ z. joint (drop_slot x i m z) (get_or-set_same q i no_copy no_copy (let f : i < length q = omega arith in f) z);
        others = λ j b d. λ z. joint (drop_other x i j d z) (get_or-set_other q i j no_copy no_copy d z);
      })

  -- an arrival moves nothing: all that there is reads as before
  arrival_same : (a b : ℕ) (x : State) (q : List Copy) (it : Item) → position a b x q ≡ position a b (grown x it) (q ++ (no_copy ∷ []))
  arrival_same a b x q it = λ z. at a b (λ i. joint (sym (grown_slot x it i) z) (sym (padded q no_copy i) z))

  module _ (split : Split) (ok : SplitOk split) where
    -- what making room leaves: the catalog, and a place for the item
    catalog_kept : (i : ℕ) (x : State) → x.catalog ≡ cat → i < length cat → blocks_of i ≤ k → (make_room split k i x).state.catalog ≡ cat
    catalog_kept i x e l small = (make_room_lem split k i x ok (rw (size_same x e) l) (rw (blocks_same x e i) small)).catalog ∙ e

    placed : (i : ℕ) (x : State) → Kept k x → x.catalog ≡ cat → i < length cat → blocks_of i ≤ k → i < length (make_room split k i x).state.slots
    placed i x kept e l small =
        let y : State = (make_room split k i x).state in
        let c : Kept k y = (make_room_lem split k i x ok (rw (size_same x e) l) (rw (blocks_same x e i) small)).kept kept in
        omega (arith, c.slots, size_same y (catalog_kept i x e l small))

    -- room made, and the item read; the plan holds it and is within its capacity
    request_run :
        (i a b : ℕ) (x : State) (q : List Copy) →
        Kept k x →
        x.catalog ≡ cat →
        i < length cat →
        blocks_of i ≤ k →
        has (copy_at q i) ≡ true →
        plan_used cat q ≤ h →
        Run terms (position a b x q)
        (position (a + event_cost (make_room split k i x).events + cost_added cat (found (make_room split k i x).state i)) b
        (put_slot (make_room split k i x).state i (refilled (read_top i) (brought (slot_at (make_room split k i x).state i)))) q)
    request_run i a b x q kept e l small r fits =
        Moves.append (room_run split ok i a b x q kept e l small r fits)
        (Run.step (found_move i (a + event_cost (make_room split k i x).events) b (make_room split k i x).state q (slot_at (make_room split k i x).state i) refl l (placed i x kept e l small) r) Run.stay)

    step_reach :
        (s : ℕ) (st : Step) (a b : ℕ) (x : State) (q : List Copy) →
        Kept k x →
        x.catalog ≡ cat →
        length q ≡ length cat →
        Served k cat st →
        Reach (length (catalog_next cat st)) (position a b x q) (a + event_cost (step split k st x).events) b (step split k st x).state (plan_serves cat h s st q)
    unfolding plan_serves step event_sum
    step_reach s (Read i) a b x q kept e len served =
        either (Reach (length cat) (position a b x q) _ b (step split k (Read i) x).state) (has (copy_at q i)) _ _
        (λ r. either (Reach (length cat) (position a b x q) _ b (step split k (Read i) x).state) (leb (plan_used cat q) h) _ _
        (λ f. (
          len,
          run_to (a + event_cost m.events + cost_added cat (found m.state i)) _ b (b + 0) _ _ q
              (omega (arith, event_append (cost_added cat) m.events (found m.state i ∷ []))) (sym (add-zero b))
              (ap (λ (c : Catalog). put_slot m.state i (refilled (full (item_at c i).load) (brought (slot_at m.state i)))) (sym (catalog_kept i x e served.0 served.1)))
              (request_run i a b x q kept e served.0 served.1 r (leb-true (plan_used cat q) h f)),
          none_past q len,
        ))
        (λ f. tt))
        (λ r. tt)
      where
        m : Moved
        m = make_room split k i x
    step_reach s (Write i minutes) a b x q kept e len served =
        either (Reach (length cat) (position a b x q) _ b (step split k (Write i minutes) x).state) (has (copy_at q i)) _ _
        (λ r. either (Reach (length cat) (position a b x q) _ b (step split k (Write i minutes) x).state) (leb (plan_used cat q) h) _ _
        (λ f. (
          length-set q i dirty_copy ∙ len,
          run_to (a + event_cost m.events + cost_added cat (found m.state i)) _ b (b + 0) _ _ (set q i dirty_copy)
              (omega (arith, event_append (cost_added cat) m.events (found m.state i ∷ wrote i minutes ∷ []))) (sym (add-zero b))
              (ap (λ (c : Catalog). put_slot m.state i (written (full (item_at c i).write) (refilled (full (item_at c i).load) (brought (slot_at m.state i))))) (sym (catalog_kept i x e served.0 served.1)))
              (Moves.append (request_run i a b x q kept e served.0 served.1 r (leb-true (plan_used cat q) h f))
              (Run.step (write_move i _ b m.state q (slot_at m.state i) served.0 (placed i x kept e served.0 served.1) len r) Run.stay)),
          none_past (set q i dirty_copy) (length-set q i dirty_copy ∙ len),
        ))
        (λ f. tt))
        (λ r. tt)
      where
        m : Moved
        m = make_room split k i x
    step_reach s Flush a b x q kept e len served =
        either (Reach (length cat) (position a b x q) _ b (step split k Flush x).state) (leb (plan_used cat q) h) _ _
        (λ f. (tab_length (length cat) _, Run.step (flush_move a b _ x q e (omega arith)) Run.stay, none_past (cleaned_all q) (tab_length (length cat) _)))
        (λ f. tt)
    step_reach s (Arrive i bl lo wr) a b x q kept e len served =
        either (Reach (length (cat ++ (it ∷ []))) (position a b x q) _ b (step split k (Arrive i bl lo wr) x).state) (leb (plan_used cat q) h) _ _
        (λ f. (
          one_longer q no_copy ∙ ap suc len ∙ sym (one_longer cat it),
          subst (Run terms (position a b x q))
              (arrival_same a b x q it ∙ (λ z. position (sym (add-zero a) z) (sym (add-zero b) z) (grown x it) (q ++ (no_copy ∷ [])))) Run.stay,
          λ j m. padded q no_copy j ∙ none_past q len j m,
        ))
        (λ f. tt)
      where
        it : Item
        it = listed bl lo wr
    step_reach s (Retire i) a b x q kept e len served =
        either (Reach (length (catalog_next cat (Retire i))) (position a b x q) _ b (step split k (Retire i) x).state) (leb (plan_used cat q) h) _ _
        (λ f. (
          length-set q i no_copy ∙ len ∙ sym (retired_length cat i),
          Run.step (retire_move i a b _ x q served.0 (omega (arith, kept.slots, size_same x e, served.0)) len
              (omega (arith, event_append (cost_added cat) (drop_item i x).events (retired i ∷ [])))) Run.stay,
          none_past (set q i no_copy) (length-set q i no_copy ∙ len),
        ))
        (λ f. tt)

  -- where the game stands after part of a season
  abbrev stand : Standing → ℕ → List Copy → Position
  stand v b q = position (total_cost v.figures) b v.state q

  moved_cost : (v : Standing) (m : Moved) (c : Bool) → v.state.catalog ≡ cat → total_cost (moved v m c).figures ≡ total_cost v.figures + event_cost m.events
  moved_cost v m c e =
      tally_part (λ (a : Totals). a.load_cost + a.write_cost) (λ a b. omega arith) v.state.catalog v.figures m.events
      ∙ ap (λ (z : Catalog). total_cost v.figures + event_sum (cost_added z) m.events) e

  -- what is kept at every position
  abbrev Holds : Position → Type 0
  Holds p = Moves.Good terms p × Moves.Inv terms p

  -- where the plan has closed too: it owes nothing
  record Settled (v : Standing) (b : ℕ) : Type 0 where
    copies : List Copy
    holds : Holds (stand v b copies)
    clear : PlanClean terms (stand v b copies)

  closing : (v : Standing) (b : ℕ) (q : List Copy) → v.state.catalog ≡ cat → Holds (stand v b q) → Settled (closes v) (b + owed cat q)
  unfolding closes
  closing v b q e now =
      record {
        copies = cleaned_all q;
        holds =
            Moves.keeps (flush_move (total_cost v.figures) b (total_cost (closes v).figures) v.state q e (moved_cost v (flush v.state) true e)) now.0 now.1;
        clear = λ i l. ap is_changed (tab_at (length cat) (λ j. cleaned (copy_at q j)) i no_copy l) ∙ copy_clean (copy_at q i);
      }

  served_reach :
      (s : ℕ) (st : Step) (t : ℕ) (v : Standing) (b : ℕ) (q : List Copy) →
      StandsAfter k cat t false v →
      length q ≡ length cat →
      Served k cat st →
      Reach (length (catalog_next cat st)) (stand v b q) (total_cost (took v st).figures) b (took v st).state (plan_serves cat h s st q)
  unfolding took
  served_reach s st t v b q so len served =
      subst (λ (z : ℕ). Reach n (stand v b q) z b (step v.split v.k st v.state).state (plan_serves cat h s st q))
      (sym (moved_cost v (step v.split v.k st v.state) v.closed so.catalog))
      (subst
      (λ (m : ℕ). Reach n (stand v b q) (total_cost v.figures + event_cost (step v.split m st v.state).events) b (step v.split m st v.state).state (plan_serves cat h s st q))
      (sym so.capacity) (step_reach v.split so.fit s st (total_cost v.figures) b v.state q so.kept so.catalog len served))
    where
      n : ℕ
      n = length (catalog_next cat st)

  -- the acts before a step, and the step
  turn_reach :
      (plan : Plan) (s : ℕ) (st : Step) (t : ℕ) (v : Standing) (b : ℕ) (q : List Copy) →
      StandsAfter k cat t false v →
      length q ≡ length cat →
      Served k cat st →
      Reach (length (catalog_next cat st)) (stand v b q) (total_cost (took v st).figures) b (took v st).state
      (and_then (all_acts cat s 0 (plan s) q) (plan_serves cat h s st))
  turn_reach plan s st t v b q so len served =
      then_reach (length (catalog_next cat st)) (stand v b q) (total_cost v.figures) b (total_cost (took v st).figures) v.state (took v st).state
      (all_acts cat s 0 (plan s) q) (plan_serves cat h s st) (acts_reach s 0 (plan s) (total_cost v.figures) b v.state q len)
      (λ c r f. served_reach s st t v (b + c) r so f served)

  -- the start, where nothing is held and nothing paid
  fresh : Fresh terms (position 0 0 (emptied cat) (tab (length cat) (λ i. no_copy)))
  fresh =
      record {
        cache_zero = refl;
        plan_zero = refl;
        empty = λ i l z. joint (tab_at (length cat) (λ j. absent) i absent l z) (tab_at (length cat) (λ j. no_copy) i no_copy l z);
      }

  sized : Sized terms k h
  sized = record { least = low; most = high; c_is = refl; p_is = refl }

-- The catalog is the season's as the steps have left it, so from step to step the game goes over into one with the next catalog.
module _ (k h : ℕ) (low : 1 ≤ h) (high : h ≤ k) where
  abbrev game : (cat : Catalog) → CatalogOk cat → Terms
  game cat good = terms k h low high cat good

  same_game : (cat : Catalog) (good good' : CatalogOk cat) → Moves.Extends (game cat good) (game cat good')
  same_game cat good good' =
      record { c_same = refl; p_same = refl; unit_same = refl; more = omega arith; load_same = λ i l. refl; write_same = λ i l. refl }

  -- the game of the catalog after a step has the items of the one before it, and what has come
  next_game :
      (cat : Catalog) (st : Step) (good : CatalogOk cat) (good' : CatalogOk (catalog_next cat st)) →
      Served k cat st →
      Moves.Extends (game cat good) (game (catalog_next cat st) good')
  next_game cat (Read i) good good' served = same_game cat good good'
  next_game cat (Write i m) good good' served = same_game cat good good'
  next_game cat Flush good good' served = same_game cat good good'
  next_game cat (Arrive i b l w) good good' served =
      record {
        c_same = refl;
        p_same = refl;
        unit_same = refl;
        more = omega (arith, one_longer cat (listed b l w));
        load_same = λ j m. ap (λ (y : Item). y.load) (arrived_other cat (listed b l w) j m);
        write_same = λ j m. ap (λ (y : Item). y.write) (arrived_other cat (listed b l w) j m);
      }
  next_game cat (Retire i) good good' served =
      record {
        c_same = refl;
        p_same = refl;
        unit_same = refl;
        more = omega (arith, retired_length cat i);
        load_same = λ j m. (retired_alike cat i j served.0).load;
        write_same = λ j m. (retired_alike cat i j served.0).write;
      }

  -- a plan's cost brings the game to the close, where the plan owes nothing
  record Reached (cat : Catalog) (v : Standing) (b : ℕ) : Type 0 where
    good : CatalogOk cat
    settled : Settled k h low high cat good v b

  abbrev Ends : Catalog → Standing → ℕ → Priced → Type 0
  Ends cat v b (costs c) = Reached cat v (b + c)
  Ends cat v b (fault f) = Unit {0}

  then_ends :
      (n : ℕ) (cat last : Catalog) (good : CatalogOk cat) (v w v' : Standing) (b : ℕ) (q : List Copy) (d : Done) (next : List Copy → Priced) →
      Reach k h low high cat good n (stand k h low high cat good v b q) (total_cost w.figures) b w.state d →
      Holds k h low high cat good (stand k h low high cat good v b q) →
      ((c : ℕ) (r : List Copy) →
      length r ≡ n →
      ((i : ℕ) → length cat ≤ i → copy_at r i ≡ no_copy) →
      Holds k h low high cat good (stand k h low high cat good w (b + c) r) →
      Ends last v' (b + c) (next r)) →
      Ends last v' b (price_then d next)
  then_ends n cat last good v w v' b q (done r c) next first now later =
      go (next r) (later c r first.0 first.2 (Moves.keeps_run first.1 now.0 now.1))
    where
      go : (p : Priced) → Ends last v' (b + c) p → Ends last v' b (priced_with c p)
      go (costs c') end = subst (Reached last v') (add_assoc b c c') end
      go (fault f) end = tt
  then_ends n cat last good v w v' b q (faulty f) next first now later = tt

  -- what has come is not held
  new_absent :
      (cat : Catalog) (st : Step) (v : Standing) (t i : ℕ) →
      StandsAfter k cat t false v →
      Served k cat st →
      length cat ≤ i →
      slot_at (took v st).state i ≡ absent
  unfolding took step
  new_absent cat st v t i so served past = by_step st served
    where
      x : State
      x = v.state

      -- where no item comes the slots end with the catalog
      ends : (s : Step) → Served k cat s → length (catalog_next cat s) ≡ length cat → slot_at (took v s).state i ≡ absent
      ends s here same =
          let w : Standing = took v s in
          let so' : StandsAfter k (catalog_next cat s) (t + 1) false w = took_stands k cat t v s so here in
          get_or-eq_default w.state.slots absent (omega (arith, so'.kept.slots, ap length so'.catalog, same))

      by_step : (s : Step) → Served k cat s → slot_at (took v s).state i ≡ absent
      by_step (Read j) here = ends (Read j) here refl
      by_step (Write j m) here = ends (Write j m) here refl
      by_step Flush here = ends Flush here refl
      by_step (Arrive j b l w) here =
          grown_slot x (listed b l w) i ∙ get_or-eq_default x.slots absent (omega (arith, so.kept.slots, ap length so.catalog))
      by_step (Retire j) here = ends (Retire j) here (retired_length cat j)

  chain :
      (plan : Plan) (s t : ℕ) (steps : List Step) (cat : Catalog) (good : CatalogOk cat) (v : Standing) (b : ℕ) (q : List Copy) →
      StandsAfter k cat t false v →
      length q ≡ length cat →
      AllServed k cat steps →
      Holds k h low high cat good (stand k h low high cat good v b q) →
      Ends (catalog_after cat steps) (closes (fold took v steps)) b (price_from cat h plan s steps q)
  unfolding price_from fold
  chain plan s t [] cat good v b q so len served now = record { good = good; settled = closing k h low high cat good v b q so.catalog now }
  chain plan s t (st ∷ steps) cat good v b q so len served now =
      let w : Standing = took v st in
      let so' : StandsAfter k (catalog_next cat st) (t + 1) false w = took_stands k cat t v st so served.0 in
      let good' : CatalogOk (catalog_next cat st) = subst CatalogOk so'.catalog so'.kept.catalog in
      then_ends (length (catalog_next cat st)) cat (catalog_after (catalog_next cat st) steps) good v w (closes (fold took w steps)) b q
      (and_then (all_acts cat s 0 (plan s) q) (plan_serves cat h s st)) (price_from (catalog_next cat st) h plan (suc s) steps)
      (turn_reach k h low high cat good plan s st t v b q so len served.0) now
      (λ c r f none keeps. chain plan (suc s) (t + 1) steps (catalog_next cat st) good' w (b + c) r so' f served.1
      (Moves.extended (next_game cat st good good' served.0)
      (λ i past below z. joint (new_absent cat st v t i so served.0 past z) (none i past z)) keeps.0 keeps.1))

-- the ratio without the 0 from which the plan's cost was counted, and with its products turned round
turned : (paid y k c : ℕ) → y * paid ≤ k * (0 + c) → y * paid ≤ k * c
turned paid y k c l = omega arith

turned_sharp : (paid y u p loads k c : ℕ) → y * u * paid + p * loads ≤ k * u * (0 + c) → y * paid * u + p * loads ≤ k * c * u
turned_sharp paid y u p loads k c l = omega arith

module _ (o : Start) (ok : SplitOk o.split) (good : CatalogOk o.catalog) (steps : List Step) (allowed : AllowedLog o.k o.catalog steps) where
  abbrev k : ℕ
  k = o.k

  abbrev cat : Catalog
  cat = o.catalog

  served : AllServed k cat steps
  served = all_served k cat steps allowed

  -- a plan that is priced brings the game from its start to the close of the season
  priced :
      (h : ℕ) (low : 1 ≤ h) (high : h ≤ k) (plan : Plan) (c : ℕ) →
      price cat h plan steps ≡ costs c →
      Reached k h low high (catalog_after cat steps) (season o steps) (0 + c)
  priced h low high plan c e =
      subst (Ends k h low high (catalog_after cat steps) (season o steps) 0) e
      (chain k h low high plan 0 0 steps cat good (opened o) 0 (tab (length cat) (λ i. no_copy)) (opened_stands o ok good)
      (tab_length (length cat) _) served (Moves.start (fresh k h low high cat good)))

  -- The wear bound, for every log that the table of refusals lets through: (rule's total over the log and its closing)
  -- × (k - h + 1) ≤ k × (cost of any plan that is legal over the log with h blocks), for every h from 1 to k.
  pub competitive_bound : CompetitiveBound o steps
  competitive_bound h low high plan c e =
      let end = priced h low high plan c e in
      turned (total_cost (season o steps).figures) (k - h + 1) k c
      (Moves.ratio (sized k h low high (catalog_after cat steps) end.good) (let one : 1 ≤ unit = omega arith in one)
      end.settled.holds.0 end.settled.holds.1 end.settled.clear)

  -- the sharper line, with the load credits held at the close
  pub sharp_bound : SharpBound o steps
  sharp_bound h low high plan c e =
      let end = priced h low high plan c e in
      let x : State = (season o steps).state in
      let last : Catalog = catalog_after cat steps in
      let same : x.catalog ≡ last = (closes_stands k last (length steps) (ran o steps) (ran_stands o steps ok good served)).catalog in
      let line =
      turned_sharp (total_cost (season o steps).figures) (k - h + 1) unit (h - 1) (sum_to (length last) (λ i. load_credit (slot_at x i))) k c
      (Moves.ratio_load (sized k h low high last end.good) end.settled.holds.0 end.settled.holds.1 end.settled.clear)
      in
      subst (λ (z : Catalog). left_side k h (total_cost (season o steps).figures) * unit + (h - 1) * sum_to (length z) (λ i. load_credit (slot_at x i)) ≤ right_side k c * unit) (sym same) line
