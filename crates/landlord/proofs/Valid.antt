-- What holds of the rule wherever it stands (`StandingOk`, specs/Valid.antt): at opening, after each eviction, after a request
-- is served, after a landing and the closing, and so after every call and over the log of every list of calls.
-- Assumes nothing.
use mathlib.Core.Path.{◌≡◌, refl, sym, ap, subst, ◌∙◌}
use mathlib.Core.Bool.{Bool, true, false, cond, false≢true}
use mathlib.Core.List.{List, [], ◌∷◌}
use Prim.Native.Nat.{ℕ, ◌+◌, ◌*◌, ◌≤◌, ◌<◌}
use native.Mathlib.Decide.{ℕ_discrete}
use native.Mathlib.Omega.{arith}
use lib.ListN.{length}
use lib.Dec.{eqb}
use borrow.Author.Tests.{eqb-true}
use Rattle.types.specs.declared.Step.{Step}
use Rattle.types.specs.declared.Step.TheVariants.{Read, Write, Flush, Arrive, Retire}
use Rattle.types.specs.Types.{numbers_of, step_of}
use Rattle.landlord.specs.Fold.{fold}
use Rattle.landlord.specs.Catalog.{Catalog, Item, CatalogOk, CapacityOk, none_left, item_at, listed, item_in_range, full}
use Rattle.landlord.specs.Slot.{Slot, absent, held, is_dirty, Split, written}
use Rattle.landlord.specs.Rule.{State, size, slot_at, blocks_at, used, held_count, emptied, wrote, flush_step, evicted, retired, Moved, stay, joined, victim, evict_item, evict, make_room, put_slot, found, read_slot, serve_read, serve_write, flush, arrive, drop_item, leave, step}
use Rattle.landlord.specs.Figures.{Totals, Figures, Standing, Start, use_at, tally, opened, changed, moved, took, closes}
use Rattle.landlord.specs.Steps.{in_range, step_refusal}
use Rattle.landlord.specs.Calls.{Call, step_call, close, refusal_now, log_of, rule_over, accepted, after, Opening, start_of, starts_at}
use Rattle.landlord.specs.Inner.{OpeningOk}
use Rattle.landlord.specs.Claims.{SplitOk, SlotKept, Kept, Least}
use Rattle.landlord.specs.Valid.{dirty_count, left_count, StandingOk}
use Rattle.landlord.proofs.Ranges.{catalog_facts, item_facts}
use Rattle.landlord.proofs.Sums.{sum_zero, sum_term}
use Rattle.landlord.proofs.Folds.{either, tab_at, fold_append}
use Rattle.landlord.proofs.Catalogs.{one_longer, retired_length, left_none, left_arrived, left_retired}
use Rattle.landlord.proofs.Slots.{blocks_divide, lose_dirty, read_held, write_held, write_kept, flush_clean}
use Rattle.landlord.proofs.Keeps.{mark_sum, mark_change, evict_sum, evict_count, evict_catalog, evicted_slot, other_slot, evict_kept, Evicting, enough, more, RoomMade, make_room_lem, put_same, put_other, put_kept, requested, flush_slot, flush_sum, flush_keeps, Served, empty_kept, grown, grown_sum, grown_kept, drop_slot, drop_catalog, drop_sum, drop_kept, leave_sum, leave_kept}
use Rattle.landlord.proofs.Logs.{tally_part, room_sum, drop_events, steps_added, no_step, allowed_served}
use Rattle.landlord.proofs.Steps.{free_range, passes, means}
use Rattle.landlord.proofs.Calls.{open_log, open_step, rule_follows}
use Rattle.landlord.proofs.Counts.{CountsKept, nothing_counted, tallied, evicted_counted, found_counted, flush_counted, arrived_counted}

-- the count of steps
abbrev taken : Standing → ℕ
taken v = v.figures.totals.steps

-- a closed cache has nothing dirty
abbrev Clean : State → Bool → Type 0
Clean x is_closed = is_closed ≡ true → (i : ℕ) → i < size x → is_dirty (slot_at x i) ≡ false

-- the figures of a cache that stands so, where t steps are taken
abbrev Right : State → ℕ → Figures → Type 0
Right x t f = CountsKept (size x) (left_count x.catalog) t (held_count x) (dirty_count x) (1440 * t) f

-- What holds where the rule stands is what holds of its state and what holds of its figures; so it comes apart and together.
counted_of_lem : (v : Standing) → StandingOk v → Right v.state (taken v) v.figures
counted_of_lem v o = grind arith

standing_of :
    (v : Standing) (t : ℕ) →
    CapacityOk v.k →
    Kept v.k v.state →
    t ≤ 1000000 →
    Right v.state t v.figures →
    Clean v.state v.closed →
    StandingOk v
standing_of v t capacity kept few c tidy = grind arith

-- at opening nothing is held, none has left, and nothing is counted
pub ok_opened : (o : Start) → CapacityOk o.k → CatalogOk o.catalog → none_left o.catalog ≡ true → StandingOk (opened o)
unfolding held_count dirty_count
ok_opened o capacity good new =
    standing_of (opened o) 0 capacity (empty_kept o.k cat good) (omega arith)
    (rw (none held refl, none is_dirty refl, left_none cat new) (nothing_counted cat))
    (λ c. absurd (false≢true c))
  where
    cat : Catalog
    cat = o.catalog

    none : (mark : Slot → Bool) → mark absent ≡ false → mark_sum mark (λ i. 1) (emptied cat) ≡ 0
    none mark e =
        sum_zero (length cat) _
        (λ i l. ap (λ (t : Bool). cond t 1 0) (ap mark (tab_at (length cat) (λ j. absent) i absent l) ∙ e))

-- so it is from each opening that is not refused
pub ok_starts : (o : Opening Catalog) → OpeningOk o → StandingOk (starts_at o)
ok_starts o f = ok_opened (start_of o) f.ranges.capacity f.ranges.catalog f.ranges.fresh

-- an eviction takes the victim out of the dirty ones
evict_dirty : (split : Split) (v : ℕ) (x : State) → v < size x → dirty_count (evict_item split v x) + cond (is_dirty (slot_at x v)) 1 0 ≡ dirty_count x
unfolding dirty_count
evict_dirty split v x l = evict_sum is_dirty (λ i. 1) split v x refl (lose_dirty split) l

-- and makes none dirty
evict_clean : (split : Split) (v : ℕ) (x : State) (c : Bool) → v < size x → Clean x c → Clean (evict_item split v x) c
unfolding evict_item
evict_clean split v x c below tidy e i l = go (ℕ_discrete i v)
  where
    go : Dec (i ≡ v) → is_dirty (slot_at (evict_item split v x) i) ≡ false
    go (yes q) = ap is_dirty (ap (slot_at (evict_item split v x)) q ∙ evicted_slot split v x below)
    go (no q) = ap is_dirty (other_slot split v x i l q) ∙ lose_dirty split _ _ (slot_at x i) ∙ tidy e i l

-- after each single eviction of a miss
pub ok_evict :
    (split : Split) (v : Standing) →
    SplitOk split →
    StandingOk v →
    Least v.state (victim v.state) →
    StandingOk (moved v (evict split v.state) v.closed)
unfolding fold evict_item
ok_evict split v ok o low =
    let x : State = v.state in
    standing_of (moved v (evict split x) v.closed) (taken v) o.capacity (evict_kept v.k split (victim x) x ok o.kept low) o.taken
    (evicted_counted x.catalog v.figures (victim x) (is_dirty (slot_at x (victim x))) _ _ _ _ _ _ _ o.kept.catalog low.below (counted_of_lem v o)
    (evict_count split (victim x) x low.below low.is_held) (evict_dirty split (victim x) x low.below))
    (evict_clean split (victim x) x v.closed low.below o.closed)

-- where an item has a mark, one at least has it
marked : (mark : Slot → Bool) (x : State) (i : ℕ) → i < size x → mark (slot_at x i) ≡ true → 1 ≤ mark_sum mark (λ j. 1) x
marked mark x i l e =
    omega (arith, sum_term (size x) i (λ j. cond (mark (slot_at x j)) 1 0) l, ap {B = ℕ} (λ (t : Bool). cond t 1 0) e)

-- An eviction can be counted: the victim was loaded, and there are no more loads than steps.
pub evict_counts : (v : Standing) → StandingOk v → Least v.state (victim v.state) → v.figures.totals.evictions + 1 ≤ 1000000
unfolding held_count
evict_counts v o low =
    omega (arith, o.steps, o.evictions, o.taken, marked held v.state (victim v.state) low.below low.is_held)

-- A writeback can be counted: the item is dirty, and the writebacks with the dirty items are no more than the steps.
pub writeback_counts : (v : Standing) (i : ℕ) → StandingOk v → i < size v.state → is_dirty (slot_at v.state i) ≡ true → v.figures.totals.writebacks + 1 ≤ 1000000
unfolding dirty_count
writeback_counts v i o l e = omega (arith, o.writebacks, o.taken, marked is_dirty v.state i l e)

-- an item's line counts no more than the totals
pub line_loads : (v : Standing) (i : ℕ) → StandingOk v → i < size v.state → (use_at v.figures i).loads ≤ v.figures.totals.loads
line_loads v i o l = omega (arith, o.loads_add, sum_term (size v.state) i (λ j. (use_at v.figures j).loads) l)

pub line_writebacks : (v : Standing) (i : ℕ) → StandingOk v → i < size v.state → (use_at v.figures i).writebacks ≤ v.figures.totals.writebacks
line_writebacks v i o l = omega (arith, o.writebacks_add, sum_term (size v.state) i (λ j. (use_at v.figures j).writebacks) l)

-- moved by two moves, one after the other, where the first keeps the catalog
pub moved_joined :
    (v : Standing) (a b : Moved) (c : Bool) →
    a.state.catalog ≡ v.state.catalog →
    moved v (joined a b) c ≡ moved (moved v a c) b c
moved_joined v a b c e =
    ap (λ (f : Figures). changed v b.state f c)
    (fold_append (tally v.state.catalog) v.figures a.events b.events
    ∙ ap (λ (cat : Catalog). fold (tally cat) (moved v a c).figures b.events) (sym e))

-- the loop that makes room, eviction by eviction
evicting_ok :
    (split : Split) (v : Standing) (blocks : ℕ) (x : State) (m : Moved) (f : Figures) →
    SplitOk split →
    Evicting split v.k blocks x m →
    StandingOk (changed v x f v.closed) →
    StandingOk (moved (changed v x f v.closed) m v.closed)
unfolding fold
evicting_ok split v blocks x m f ok (enough l) o = o
evicting_ok split v blocks x m f ok (more {m = n} over low next) o =
    let u : Standing = changed v x f v.closed in
    let w : Standing = moved u (evict split x) v.closed in
    rw (moved_joined u (evict split x) n v.closed (evict_catalog split (victim x) x))
    (evicting_ok split v blocks w.state n w.figures ok next (ok_evict split u ok o low))

-- room made for an item, whether it was held or not
pub ok_room :
    (split : Split) (v : Standing) (i : ℕ) →
    SplitOk split →
    StandingOk v →
    i < size v.state →
    blocks_at v.state i ≤ v.k →
    StandingOk (moved v (make_room split v.k i v.state) v.closed)
ok_room split v i ok o l fits = go (held (slot_at v.state i)) refl
  where
    m : Moved
    m = make_room split v.k i v.state

    room : RoomMade split v.k i v.state m
    room = make_room_lem split v.k i v.state ok l fits

    go : (t : Bool) → held (slot_at v.state i) ≡ t → StandingOk (moved v m v.closed)
    go true e = rw (room.stayed e) (evicting_ok split v 0 v.state (stay v.state) v.figures ok (enough (omega (arith, o.kept.room))) o)
    go false e = evicting_ok split v (blocks_at v.state i) v.state m v.figures ok (room.ran e).1 o

-- an eviction is no step
pub evict_steps : (split : Split) (v : Standing) (c : Bool) → (moved v (evict split v.state) c).figures.totals.steps ≡ v.figures.totals.steps
unfolding fold
evict_steps split v c = omega (arith, no_step v.state.catalog (victim v.state) (is_dirty (slot_at v.state (victim v.state))))

-- nor is making room
room_steps :
    (split : Split) (v : Standing) (i : ℕ) (m : Moved) (c : Bool) →
    RoomMade split v.k i v.state m →
    taken (moved v m c) ≡ taken v
room_steps split v i m c room =
    omega (
      arith,
      tally_part (λ (a : Totals). a.steps) (λ a b. refl) v.state.catalog v.figures m.events,
      room_sum (steps_added v.state.catalog) (no_step v.state.catalog) split v.k i v.state m room,
    )

-- a step can be taken
pub record Taking (v : Standing) : Type 0 where
  pub standing : StandingOk v
  pub few : v.figures.totals.steps < 1000000
  pub is_open : v.closed ≡ false

-- item i can be served: it is in the catalog, has not left, and is held or else there is room for it
pub record CanServe (v : Standing) (i : ℕ) : Type 0 where
  pub taking : Taking v
  pub below : i < size v.state
  pub present : (item_at v.state.catalog i).left ≡ false
  pub free : held (slot_at v.state i) ≡ false → used v.state + blocks_at v.state i ≤ v.k

-- after room is made for it, an item can be served
pub room_ready :
    (split : Split) (v : Standing) (i : ℕ) →
    SplitOk split →
    Taking v →
    i < size v.state →
    blocks_at v.state i ≤ v.k →
    (item_at v.state.catalog i).left ≡ false →
    CanServe (moved v (make_room split v.k i v.state) v.closed) i
room_ready split v i ok o l fits here =
    let m : Moved = make_room split v.k i v.state in
    let room : RoomMade split v.k i v.state m = make_room_lem split v.k i v.state ok l fits in
    record {
      taking =
          record {
            standing = ok_room split v i ok o.standing l fits;
            few = omega (arith, room_steps split v i m v.closed room, o.few);
            is_open = o.is_open;
          };
      below = rw room.catalog l;
      present = rw room.catalog here;
      free = λ e. omega (arith, room.free e, ap (λ (c : Catalog). (item_at c i).blocks) room.catalog);
    }

-- one slot changed to one that is held: what the marks then count
put_held : (x : State) (i : ℕ) (s : Slot) → length x.slots ≡ size x → i < size x → held s ≡ true → held_count (put_slot x i s) + cond (held (slot_at x i)) 1 0 ≡ held_count x + 1
unfolding held_count
put_held x i s e l h =
    mark_change held (λ j. 1) x (put_slot x i s) i refl l (λ j b d. ap held (put_other x i j s d))
    ∙ ap (λ (t : Bool). held_count x + cond t 1 0) (ap held (put_same x i s (omega arith)) ∙ h)

put_dirty : (x : State) (i : ℕ) (s : Slot) → i < size x → dirty_count (put_slot x i s) ≤ dirty_count x + 1
unfolding dirty_count
put_dirty x i s l =
    omega (
      arith,
      mark_change is_dirty (λ j. 1) x (put_slot x i s) i refl l (λ j b d. ap is_dirty (put_other x i j s d)),
      most (is_dirty (slot_at (put_slot x i s) i)),
    )
  where
    most : (t : Bool) → cond t 1 0 ≤ 1
    most true = omega arith
    most false = omega arith

-- the hit or the load of an item just requested is counted, and its minutes are not yet
found_right :
    (v : Standing) (i top : ℕ) (s : Slot) →
    StandingOk v →
    i < size v.state →
    held s ≡ true →
    1440 * taken v ≤ top →
    CountsKept (size v.state) (left_count v.state.catalog) (taken v + 1) (held_count (put_slot v.state i s)) (dirty_count (put_slot v.state i s)) top
    (tally v.state.catalog v.figures (found v.state i))
found_right v i top s o l h up =
    found_counted v.state.catalog v.figures i (held (slot_at v.state i)) _ (taken v) _ _ _ _ _ top o.kept.catalog l (counted_of_lem v o)
    (put_held v.state i s o.kept.slots l h) (put_dirty v.state i s l) up

-- a requested item's slot changed and one step more counted: this is a read, and this is a write
serve_ok :
    (v : Standing) (i : ℕ) (s : Slot) (f : Figures) →
    CanServe v i →
    SlotKept (item_at v.state.catalog i) s →
    held s ≡ true →
    Right (put_slot v.state i s) (taken v + 1) f →
    StandingOk (changed v (put_slot v.state i s) f v.closed)
serve_ok v i s f r new h right =
    let o : StandingOk v = r.taking.standing in
    standing_of (changed v (put_slot v.state i s) f v.closed) (taken v + 1) o.capacity
    (put_kept v.k v.state i s o.kept r.below new h r.present r.free)
    (omega (arith, r.taking.few)) right (λ c. absurd (false≢true (sym r.taking.is_open ∙ c)))

pub ok_serve_read : (v : Standing) (i : ℕ) → CanServe v i → StandingOk (moved v (serve_read i v.state) v.closed)
unfolding fold
ok_serve_read v i r =
    let x : State = v.state in
    let o : StandingOk v = r.taking.standing in
    serve_ok v i (read_slot x i) (tally x.catalog v.figures (found x i)) r (requested v.k x i o.kept r.below) (read_held _ (slot_at x i))
    (found_right v i (1440 * (taken v + 1)) (read_slot x i) o r.below (read_held _ (slot_at x i)) (omega arith))

pub ok_serve_write : (v : Standing) (i minutes : ℕ) → CanServe v i → minutes ≤ 1440 → StandingOk (moved v (serve_write i minutes v.state) v.closed)
unfolding fold
ok_serve_write v i minutes r few =
    let x : State = v.state in
    let o : StandingOk v = r.taking.standing in
    let it : Item = item_at x.catalog i in
    let s : Slot = written (full it.write) (read_slot x i) in
    let h : held s ≡ true = write_held _ (read_slot x i) ∙ read_held _ (slot_at x i) in
    let f : Figures = tally x.catalog v.figures (found x i) in
    serve_ok v i s (tally x.catalog f (wrote i minutes)) r
    (write_kept it (read_slot x i) (blocks_divide it ((catalog_facts x.catalog o.kept.catalog).each i r.below)) (requested v.k x i o.kept r.below)) h
    (tallied x.catalog f (wrote i minutes) _ (taken v + 1) _ _ (1440 * taken v) _ _ _ _ _ o.kept.catalog r.below
    (found_right v i (1440 * taken v) s o r.below h (omega arith)) (omega arith) (omega arith) (omega arith) (omega arith) (omega arith))

-- a landing as an event: a step that moves nothing
abbrev pub flush_counts : State → Moved
flush_counts x = record { state = x; events = flush_step ∷ [] }

pub ok_flush_counts : (v : Standing) → Taking v → StandingOk (moved v (flush_counts v.state) v.closed)
unfolding fold
ok_flush_counts v r =
    let o : StandingOk v = r.standing in
    standing_of (moved v (flush_counts v.state) v.closed) (taken v + 1) o.capacity o.kept (omega (arith, r.few))
    (tallied v.state.catalog v.figures flush_step _ (taken v) _ _ _ _ _ _ _ _ o.kept.catalog tt (counted_of_lem v o)
    (omega arith) (omega arith) (omega arith) (omega arith) (omega arith))
    o.closed

-- after a flush none is dirty, and as many are held as before
flush_none : (x : State) → dirty_count (flush x).state ≡ 0
unfolding dirty_count flush
flush_none x = sum_zero (size x) _ (λ i l. ap (λ (t : Bool). cond t 1 0) (ap is_dirty (flush_slot x i l) ∙ flush_clean (slot_at x i)))

flush_held_count : (x : State) → held_count (flush x).state ≡ held_count x
unfolding held_count
flush_held_count x = flush_sum (λ i. 1) x

-- a flush, whether the log is then closed or not: it leaves nothing dirty
pub ok_flush : (v : Standing) (c : Bool) → StandingOk v → StandingOk (moved v (flush v.state) c)
unfolding flush dirty_count
ok_flush v c o =
    let x : State = v.state in
    standing_of (moved v (flush x) c) (taken v) o.capacity (flush_keeps v.k x o.kept) o.taken
    (rw (flush_held_count x, flush_none x)
    (flush_counted x.catalog (size x) (λ i. is_dirty (slot_at x i)) v.figures _ (taken v) _ 0 _ o.kept.catalog (omega arith)
    (rw (let e : 0 + dirty_count x ≡ dirty_count x = omega arith in e) (counted_of_lem v o))))
    (λ e i l. ap is_dirty (flush_slot x i l) ∙ flush_clean (slot_at x i))

-- the closing is a flush, and a landing is a step and a flush
pub ok_closes : (v : Standing) → StandingOk v → StandingOk (closes v)
unfolding closes
ok_closes v o = ok_flush v true o

ok_flush_step : (v : Standing) → Taking v → StandingOk (moved v (joined (flush_counts v.state) (flush v.state)) v.closed)
ok_flush_step v r =
    rw (moved_joined v (flush_counts v.state) (flush v.state) v.closed refl)
    (ok_flush (moved v (flush_counts v.state) v.closed) v.closed (ok_flush_counts v r))

-- an arrival: a step, and one item more, which is not held
pub ok_arrives :
    (v : Standing) (i b l w : ℕ) →
    Taking v →
    item_in_range (listed b l w) ≡ true →
    size v.state < 256 →
    StandingOk (moved v (arrive (Arrive i b l w) i v.state) v.closed)
unfolding fold
ok_arrives v i b l w r new few =
    let o : StandingOk v = r.standing in
    standing_of (moved v (arrive (Arrive i b l w) i x) v.closed) (taken v + 1) o.capacity
    (grown_kept v.k x it o.kept (item_facts it new) few) (omega (arith, r.few))
    (rw (one_longer x.catalog it, left_arrived x.catalog i b l w, same_held, same_dirty)
    (arrived_counted x.catalog v.figures i _ (taken v) _ _ (1440 * taken v) _ (counted_of_lem v o) (omega arith)))
    (λ c. absurd (false≢true (sym r.is_open ∙ c)))
  where
    x : State
    x = v.state

    it : Item
    it = listed b l w

    same_held : held_count (grown x it) ≡ held_count x
    same_held = unfold held_count in grown_sum x it (λ (s : Slot) (y : Item). cond (held s) 1 0) r.standing.kept.slots refl

    same_dirty : dirty_count (grown x it) ≡ dirty_count x
    same_dirty = unfold dirty_count in grown_sum x it (λ (s : Slot) (y : Item). cond (is_dirty s) 1 0) r.standing.kept.slots refl

-- what is not held is not dirty
pub not_dirty : (s : Slot) → held s ≡ false → is_dirty s ≡ false
not_dirty s e = grind arith

-- an item dropped, and no other changed: an eviction if it was held, and else nothing
pub ok_drop : (v : Standing) (i : ℕ) → StandingOk v → i < size v.state → StandingOk (moved v (drop_item i v.state) v.closed)
unfolding fold drop_item
ok_drop v i o l = go (held (slot_at x i)) refl
  where
    x : State
    x = v.state

    y : State
    y = put_slot x i absent

    helds : held_count y + cond (held (slot_at x i)) 1 0 ≡ held_count x
    helds = unfold held_count drop_item in drop_sum held (λ j. 1) x i refl o.kept.slots l

    dirties : dirty_count y + cond (is_dirty (slot_at x i)) 1 0 ≡ dirty_count x
    dirties = unfold dirty_count drop_item in drop_sum is_dirty (λ j. 1) x i refl o.kept.slots l

    tidy : Clean y v.closed
    tidy c j b = at (ℕ_discrete j i)
      where
        at : Dec (j ≡ i) → is_dirty (slot_at y j) ≡ false
        at (yes q) = ap is_dirty (ap (slot_at y) q ∙ put_same x i absent (omega (arith, o.kept.slots)))
        at (no q) = ap is_dirty (put_other x i j absent q) ∙ o.closed c j b

    go :
        (t : Bool) →
        held (slot_at x i) ≡ t →
        StandingOk (changed v y (fold (tally x.catalog) v.figures (cond t (evicted i (is_dirty (slot_at x i)) ∷ []) [])) v.closed)
    go true e =
        standing_of _ (taken v) o.capacity (drop_kept v.k x i o.kept l) o.taken
        (evicted_counted x.catalog v.figures i (is_dirty (slot_at x i)) _ _ _ _ _ _ _ o.kept.catalog l (counted_of_lem v o) (rw e at helds) dirties)
        tidy
    go false e =
        let h : held_count y ≡ held_count x = omega (arith, rw e at helds) in
        let d : dirty_count y ≡ dirty_count x = omega (arith, rw (not_dirty (slot_at x i) e) at dirties) in
        standing_of _ (taken v) o.capacity (drop_kept v.k x i o.kept l) o.taken (rw (h, d) (counted_of_lem v o)) tidy

-- an item that is not held leaves: a step, and a mark
pub ok_leaves :
    (v : Standing) (i : ℕ) →
    Taking v →
    i < size v.state →
    (item_at v.state.catalog i).left ≡ false →
    held (slot_at v.state i) ≡ false →
    StandingOk (moved v (leave i v.state) v.closed)
unfolding fold
ok_leaves v i r l present none =
    let o : StandingOk v = r.standing in
    standing_of (moved v (leave i x) v.closed) (taken v + 1) o.capacity (leave_kept v.k x i o.kept l none) (omega (arith, r.few))
    (rw (retired_length x.catalog i, left_retired x.catalog i l present, same_held, same_dirty)
    (tallied x.catalog v.figures (retired i) _ (taken v) _ _ (1440 * taken v) _ _ _ _ _ o.kept.catalog l (counted_of_lem v o)
    refl refl (omega arith) (omega arith) (omega arith)))
    (λ c. absurd (false≢true (sym r.is_open ∙ c)))
  where
    x : State
    x = v.state

    same_held : held_count (leave i x).state ≡ held_count x
    same_held = unfold held_count in leave_sum x i (λ (s : Slot) (y : Item). cond (held s) 1 0) l (λ s y z a. refl)

    same_dirty : dirty_count (leave i x).state ≡ dirty_count x
    same_dirty = unfold dirty_count in leave_sum x i (λ (s : Slot) (y : Item). cond (is_dirty s) 1 0) l (λ s y z a. refl)

-- a retirement: the item is dropped, and leaves
pub ok_retires :
    (v : Standing) (i : ℕ) →
    Taking v →
    i < size v.state →
    (item_at v.state.catalog i).left ≡ false →
    StandingOk (moved v (joined (drop_item i v.state) (leave i (drop_item i v.state).state)) v.closed)
ok_retires v i r l present =
    let d : Moved = drop_item i v.state in
    let same : d.state.catalog ≡ v.state.catalog = drop_catalog v.state i in
    let none : taken (moved v d v.closed) ≡ taken v =
    omega (
      arith,
      tally_part (λ (a : Totals). a.steps) (λ a b. refl) v.state.catalog v.figures d.events,
      drop_events (steps_added v.state.catalog) (no_step v.state.catalog) v.state i,
    )
    in
    rw (moved_joined v d (leave i d.state) v.closed same)
    (ok_leaves (moved v d v.closed) i
    (record { standing = ok_drop v i r.standing l; few = omega (arith, none, r.few); is_open = r.is_open })
    (rw same l) (rw same present) (ap held (drop_slot v.state i (omega (arith, r.standing.kept.slots)))))

-- every step that the table lets through: what it moves
ok_step :
    (v : Standing) (s : Step) →
    SplitOk v.split →
    Taking v →
    Served v.k v.state.catalog s →
    (numbers_of s).minutes ≤ 1440 →
    StandingOk (moved v (step v.split v.k s v.state) v.closed)
unfolding step
ok_step v (Read i) ok r served few =
    let m : Moved = make_room v.split v.k i v.state in
    rw (moved_joined v m (serve_read i m.state) v.closed (make_room_lem v.split v.k i v.state ok served.0 served.1).catalog)
    (ok_serve_read (moved v m v.closed) i (room_ready v.split v i ok r served.0 served.1 served.2))
ok_step v (Write i minutes) ok r served few =
    let m : Moved = make_room v.split v.k i v.state in
    rw (moved_joined v m (serve_write i minutes m.state) v.closed (make_room_lem v.split v.k i v.state ok served.0 served.1).catalog)
    (ok_serve_write (moved v m v.closed) i minutes (room_ready v.split v i ok r served.0 served.1 served.2) few)
ok_step v Flush ok r served few = ok_flush_step v r
ok_step v (Arrive i b l w) ok r served few = ok_arrives v i b l w r served.2 served.1
ok_step v (Retire i) ok r served few = ok_retires v i r served.0 served.1

-- so each step that is taken
pub ok_took :
    (v : Standing) (s : Step) →
    SplitOk v.split →
    Taking v →
    Served v.k v.state.catalog s →
    (numbers_of s).minutes ≤ 1440 →
    StandingOk (took v s)
unfolding took
ok_took v s ok r served few = ok_step v s ok r served few

-- the minutes of a step in range
minutes_few : (s : Step) → in_range (numbers_of s) ≡ true → (numbers_of s).minutes ≤ 1440
minutes_few s h = grind arith

-- a call that is not refused
accepted_ok : (v : Standing) (call : Call) → SplitOk v.split → StandingOk v → refusal_now v call ≡ 0 → StandingOk (accepted v call)
accepted_ok v (step_call n) ok o e =
    let k = v.k in
    let cat = v.state.catalog in
    let t = taken v in
    let lets : step_refusal k cat t (numbers_of (step_of n)) ≡ 0 = means k cat t n (open_step k cat t v.closed n e) in
    let p = passes k cat t (numbers_of (step_of n)) lets in
    ok_took v (step_of n) ok (record { standing = o; few = p.few; is_open = open_log k cat t v.closed (step_call n) e })
    (allowed_served k cat t (step_of n) lets) (minutes_few (step_of n) (free_range (numbers_of (step_of n)) p.range))
accepted_ok v close ok o e = ok_closes v o

-- a call keeps the split
pub after_split : (v : Standing) (call : Call) → (after v call).split ≡ v.split
unfolding after
after_split v call =
    either (λ (w : Standing). w.split ≡ v.split) (eqb (refusal_now v call) 0) (accepted v call) v (λ e. kept call) (λ e. refl)
  where
    kept : (call : Call) → (accepted v call).split ≡ v.split
    kept (step_call n) = unfold took in refl
    kept close = unfold closes in refl

-- every call: a refused one changes nothing, and an accepted one has passed the table
pub ok_after : (v : Standing) (call : Call) → SplitOk v.split → StandingOk v → StandingOk (after v call)
unfolding after
ok_after v call ok o =
    either StandingOk (eqb (refusal_now v call) 0) (accepted v call) v
    (λ e. accepted_ok v call ok o (eqb-true (refusal_now v call) 0 e)) (λ e. o)

-- so wherever the rule stands over the log of a list of calls
pub ok_over :
    (o : Start) (calls : List Call) →
    SplitOk o.split →
    CapacityOk o.k →
    CatalogOk o.catalog →
    none_left o.catalog ≡ true →
    StandingOk (rule_over o (log_of o.k o.catalog calls))
unfolding fold
ok_over o calls ok capacity good new =
    rw (rule_follows o ok good calls) at (from (opened o) calls ok (ok_opened o capacity good new))
  where
    from : (v : Standing) (calls : List Call) → SplitOk v.split → StandingOk v → StandingOk (fold after v calls)
    from v [] ok o = o
    from v (call ∷ calls) ok o = from (after v call) calls (subst SplitOk (sym (after_split v call)) ok) (ok_after v call ok o)
