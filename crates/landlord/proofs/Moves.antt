-- The game of a cache against a plan: its moves, and the invariant that every move keeps, whichever item of least rank
-- is evicted and however a loss is split between an item's credits. From it follows what the cache pays at most.
-- Assumes nothing.
use mathlib.Core.Bool.{true, false}
use mathlib.Core.Path.{◌≡◌}
use mathlib.Core.Logic.{◌≢◌}
use Prim.Native.Nat.{ℕ, suc, ◌+◌, ◌*◌, ◌-◌, ◌≤◌, ◌<◌}
use native.Mathlib.Nat.{le_of_mul-le-mul_left, mul-le-mul_left}
use native.Mathlib.Decide.{dec_lt}
use native.Mathlib.Omega.{arith}
use Rattle.landlord.specs.Fold.{sum_to}
use Rattle.landlord.proofs.Sums.{sum_le, sum_add, sum_plus, sum_zero, sum_but_with, sum_longer}
use Rattle.landlord.proofs.Potential
use Rattle.landlord.proofs.Potential.{Both, Terms, Fine, Covered, Charged, cache_blocks, writeback, plan_writeback, held_blocks, plan_blocks, shared_blocks, cache_side, plan_side, rise, fall, absent, plan_evicted, plan_fetched, evicted, loaded, was_read, was_written, was_flushed}

pub record Position : Type 0 where
  -- what the cache has paid
  pub paid : ℕ
  -- what the plan has paid
  pub plan_paid : ℕ
  pub items : ℕ → Both

-- the sum of q over the items
abbrev pub sum_over : Terms → (ℕ → Both → ℕ) → (ℕ → Both) → ℕ
sum_over T q f = sum_to T.n (λ i. q i (f i))

-- from s to t the cache pays a and the plan b
pub record Paid (s t : Position) (a b : ℕ) : Type 0 where
  pub by_cache : t.paid ≡ s.paid + a
  pub by_plan : t.plan_paid ≡ s.plan_paid + b

-- below n the items t are the items f, but item i is x: said of any two functions, also of lists read by number
pub record Upd (n : ℕ) (f t : ℕ → Both) (i : ℕ) (x : Both) : Type 0 where
  pub here : t i ≡ x
  pub others : (j : ℕ) → j < n → j ≢ i → t j ≡ f j

-- For the wanted item g the cache evicts item v, whose credits are m for each of its blocks. Every other item held loses
-- m for each of its blocks too. That v has the least rank is what makes such a loss possible, so it is not asked again.
pub record Eviction (T : Terms) (f t : ℕ → Both) (g v m : ℕ) : Type 0 where
  pub wanted : g < T.n
  pub plan_holds : (f g).plan_held ≡ true
  pub not_held : (f g).held ≡ false
  pub plan_fits : sum_over T (plan_blocks T) f ≤ suc T.p
  pub too_full : cache_blocks T < sum_over T (held_blocks T) f + T.blocks g
  pub victim : v < T.n
  pub victim_held : (f v).held ≡ true
  pub rank : (f v).load + (f v).write ≡ m * T.blocks v
  pub gone : t v ≡ evicted (f v)
  pub others : (i : ℕ) → i < T.n → i ≢ v → Charged T i m (f i) (t i)

pub data Move (T : Terms) (s t : Position) : Type 0 where
  plan_evicts :
      (i : ℕ)
      → i < T.n
      → (s.items i).plan_held ≡ true
      → Paid s t 0 (plan_writeback T i (s.items i))
      → Upd T.n s.items t.items i (plan_evicted (s.items i))
      → Move T s t
  plan_fetches :
      (i : ℕ)
      → i < T.n
      → (s.items i).plan_held ≡ false
      → Paid s t 0 (T.load_cost i)
      → Upd T.n s.items t.items i (plan_fetched (s.items i))
      → Move T s t
  evicts :
      (g v m : ℕ)
      → Eviction T s.items t.items g v m
      → Paid s t (writeback T v (s.items v)) 0
      → Move T s t
  loads :
      (i : ℕ)
      → i < T.n
      → (s.items i).held ≡ false
      → (s.items i).plan_held ≡ true
      → Paid s t (T.load_cost i) 0
      → Upd T.n s.items t.items i (loaded T i (s.items i))
      → Move T s t
  reads :
      (i : ℕ)
      → i < T.n
      → (s.items i).held ≡ true
      → (s.items i).plan_held ≡ true
      → Paid s t 0 0
      → Upd T.n s.items t.items i (was_read T i (s.items i))
      → Move T s t
  writes :
      (i : ℕ)
      → i < T.n
      → (s.items i).held ≡ true
      → (s.items i).plan_held ≡ true
      → Paid s t 0 0
      → Upd T.n s.items t.items i (was_written T i (s.items i))
      → Move T s t
  flushes :
      Paid s t (sum_over T (writeback T) s.items) (sum_over T (plan_writeback T) s.items)
      → ((i : ℕ) → i < T.n → t.items i ≡ was_flushed (s.items i))
      → Move T s t
  retires :
      (i : ℕ)
      → i < T.n
      → Paid s t (writeback T i (s.items i)) (plan_writeback T i (s.items i))
      → Upd T.n s.items t.items i absent
      → Move T s t

-- some moves, one after the other
pub data Run (T : Terms) : Position → Position → Type 0 where
  stay : {s : Position} → Run T s s
  step : {s t u : Position} → Move T s t → Run T t u → Run T s u

pub append : {T : Terms} {s t u : Position} → Run T s t → Run T t u → Run T s u
append stay q = q
append (step m r) q = step m (append r q)

-- every item stands as it may
abbrev pub Good : Terms → Position → Type 0
Good T s = (i : ℕ) → i < T.n → Fine T i (s.items i)

-- what the cache has paid, with what its items count against it, is covered by what the plan has paid and the credits
pub record Inv (T : Terms) (s : Position) : Type 0 where
  pub bound :
      T.c * T.unit * s.paid + sum_over T (cache_side T) s.items
      ≤ cache_blocks T * T.unit * s.plan_paid + sum_over T (plan_side T) s.items

-- both are kept from s to t
abbrev pub Keeps : Terms → Position → Position → Type 0
Keeps T s t = Good T s → Inv T s → Good T t × Inv T t

-- nothing paid, nothing held, on either side
pub record Fresh (T : Terms) (s : Position) : Type 0 where
  pub cache_zero : s.paid ≡ 0
  pub plan_zero : s.plan_paid ≡ 0
  pub empty : (i : ℕ) → i < T.n → s.items i ≡ absent

pub start : {T : Terms} {s : Position} → Fresh T s → Good T s × Inv T s
start {T} {s} z = ((λ i l. rw (z.empty i l) (omega arith)), record { bound = rw z.cache_zero (omega (arith, nothing)) })
  where
    nothing : sum_over T (cache_side T) s.items ≡ 0
    nothing = sum_zero T.n (λ i. cache_side T i (s.items i)) (λ i l. rw (z.empty i l) (omega arith))

-- the changes of all items
abbrev rises : Terms → Position → Position → ℕ
rises T s t = sum_to T.n (λ i. rise T i (s.items i) (t.items i))

abbrev falls : Terms → Position → Position → ℕ
falls T s t = sum_to T.n (λ i. fall T i (s.items i) (t.items i))

-- the invariant moves on where they are covered together, with what was paid
carried :
    {T : Terms} {s t : Position} {a b : ℕ}
    → Paid s t a b
    → rises T s t + T.c * T.unit * a ≤ falls T s t + cache_blocks T * T.unit * b
    → Inv T s
    → Inv T t
carried {T} {s} {t} w h v =
    let up = sum_add T.n (λ i. cache_side T i (t.items i)) (λ i. plan_side T i (s.items i)) in
    let down = sum_add T.n (λ i. plan_side T i (t.items i)) (λ i. cache_side T i (s.items i)) in
    record { bound = rw (w.by_cache, w.by_plan) (omega arith) }

-- what holds of every number below n, shown for i and for the others
at_each : (n i : ℕ) (P : ℕ → Type 0) → P i → ((j : ℕ) → j < n → j ≢ i → P j) → (j : ℕ) → j < n → P j
at_each n i P here others j l = grind arith

-- an allowed change of one item
one :
    {T : Terms} {s t : Position} (i : ℕ) {x : Both} {a b : ℕ}
    → i < T.n
    → Covered T i (s.items i) x a b
    → Paid s t a b
    → Upd T.n s.items t.items i x
    → Keeps T s t
one {T} {s} {t} i {x} {a} {b} l o w u g v = (good, carried w covered v)
  where
    good : Good T t
    good =
        at_each T.n i (λ j. Fine T j (t.items j)) (rw u.here o.fine) (λ j m e. rw (u.others j m e) (g j m))

    covered : rises T s t + T.c * T.unit * a ≤ falls T s t + cache_blocks T * T.unit * b
    covered =
        sum_but_with T.n i (T.c * T.unit * a) (cache_blocks T * T.unit * b) (λ j. rise T j (s.items j) (t.items j))
        (λ j. fall T j (s.items j) (t.items j)) l (rw u.here o.covered)
        (λ j m e. rw (u.others j m e) (omega arith))

-- Only an eviction couples the items: what the plan's side loses, for the blocks that both hold, is at most what the
-- cache's side loses, for all blocks held.
module _ {T : Terms} {f t : ℕ → Both} {g v m : ℕ} (e : Eviction T f t g v m) where
  -- the plan holds the wanted item beside those that both hold
  beside : sum_over T (shared_blocks T) f + T.blocks g ≤ sum_over T (plan_blocks T) f + 0
  beside =
      sum_but_with T.n g (T.blocks g) 0 (λ i. shared_blocks T i (f i)) (λ i. plan_blocks T i (f i)) e.wanted
      (rw (e.plan_holds, e.not_held) (omega arith)) (λ i l ne. Potential.shared_least T i (f i))

  enough : cache_blocks T * sum_over T (shared_blocks T) f ≤ T.p * sum_over T (held_blocks T) f
  enough =
      Potential.crowded T.c T.p (sum_over T (shared_blocks T) f) (sum_over T (held_blocks T) f) (T.blocks g)
      (T.positive g e.wanted) (omega (arith, beside)) e.too_full

evicting :
    {T : Terms} {s t : Position} {g v m : ℕ}
    → Eviction T s.items t.items g v m
    → Paid s t (writeback T v (s.items v)) 0
    → Keeps T s t
evicting {T} {s} {t} {g} {v} {m} e w ok inv =
    let ups = sum_plus T.n (T.p * m) up held in
    let downs = sum_plus T.n (cache_blocks T * m) down shared in
    let lost = mul-le-mul_left m (enough e) in
    (good, carried w (omega (arith, together)) inv)
  where
    good : Good T t
    good =
        at_each T.n v (λ i. Fine T i (t.items i)) (rw e.gone (Potential.evicted_fine (ok v e.victim)))
        (λ i l ne. Potential.charged_fine (ok i l) (e.others i l ne))

    up : ℕ → ℕ
    up i = rise T i (s.items i) (t.items i)

    down : ℕ → ℕ
    down i = fall T i (s.items i) (t.items i)

    held : ℕ → ℕ
    held i = held_blocks T i (s.items i)

    shared : ℕ → ℕ
    shared i = shared_blocks T i (s.items i)

    leaves : up v + T.p * m * held v + T.c * T.unit * writeback T v (s.items v) ≤ down v + cache_blocks T * m * shared v + 0
    leaves =
        let emptied : (s.items v).load + (s.items v).write ≡ m * held v = rw e.victim_held e.rank in
        rw e.gone (omega (arith, Potential.evicts m (ok v e.victim) emptied))

    together :
        sum_to T.n (λ i. up i + T.p * m * held i) + T.c * T.unit * writeback T v (s.items v)
        ≤ sum_to T.n (λ i. down i + cache_blocks T * m * shared i) + 0
    together =
        sum_but_with T.n v (T.c * T.unit * writeback T v (s.items v)) 0 (λ i. up i + T.p * m * held i)
        (λ i. down i + cache_blocks T * m * shared i) e.victim leaves
        (λ i l ne. Potential.charged (ok i l) (e.others i l ne))

flushing :
    {T : Terms} {s t : Position}
    → Paid s t (sum_over T (writeback T) s.items) (sum_over T (plan_writeback T) s.items)
    → ((i : ℕ) → i < T.n → t.items i ≡ was_flushed (s.items i))
    → Keeps T s t
flushing {T} {s} {t} w h ok inv =
    let ups = sum_plus T.n (T.c * T.unit) up owed in
    let downs = sum_plus T.n (cache_blocks T * T.unit) down plan_owed in
    ((λ i l. rw (h i l) (Potential.flushes (ok i l)).fine), carried w (omega (arith, together)) inv)
  where
    up : ℕ → ℕ
    up i = rise T i (s.items i) (t.items i)

    down : ℕ → ℕ
    down i = fall T i (s.items i) (t.items i)

    owed : ℕ → ℕ
    owed i = writeback T i (s.items i)

    plan_owed : ℕ → ℕ
    plan_owed i = plan_writeback T i (s.items i)

    together :
        sum_to T.n (λ i. up i + T.c * T.unit * owed i)
        ≤ sum_to T.n (λ i. down i + cache_blocks T * T.unit * plan_owed i)
    together =
        sum_le T.n (λ i. up i + T.c * T.unit * owed i) (λ i. down i + cache_blocks T * T.unit * plan_owed i)
        (λ i l. rw (h i l) (Potential.flushes (ok i l)).covered)

pub keeps : {T : Terms} {s t : Position} → Move T s t → Good T s → Inv T s → Good T t × Inv T t
keeps (plan_evicts i l r w u) g v = one i l (Potential.plan_evicts (g i l)) w u g v
keeps (plan_fetches i l r w u) g v = one i l (Potential.plan_fetches_lem (g i l) r) w u g v
keeps (evicts i j m e w) g v = evicting e w g v
keeps (loads i l h r w u) g v = one i l (Potential.keeps_loads (g i l) h r) w u g v
keeps (reads i l h r w u) g v = one i l (Potential.reads (g i l) h r) w u g v
keeps (writes i l h r w u) g v = one i l (Potential.writes (g i l) h r) w u g v
keeps (flushes w h) g v = flushing w h g v
keeps (retires i l w u) g v = one i l (Potential.retires (g i l)) w u g v

pub keeps_run : {T : Terms} {s t : Position} → Run T s t → Good T s → Inv T s → Good T t × Inv T t
keeps_run stay g v = (g, v)
keeps_run (step m r) g v =
    let k = keeps m g v in
    keeps_run r k.0 k.1

-- The same game with items that have come: the others have the costs that they had.
pub record Extends (T U : Terms) : Type 0 where
  pub c_same : U.c ≡ T.c
  pub p_same : U.p ≡ T.p
  pub unit_same : U.unit ≡ T.unit
  pub more : T.n ≤ U.n
  pub load_same : (i : ℕ) → i < T.n → U.load_cost i ≡ T.load_cost i
  pub write_same : (i : ℕ) → i < T.n → U.write_cost i ≡ T.write_cost i

-- what has come is absent on both sides, and counts for nothing
pub extended :
    {T U : Terms} {s : Position}
    → Extends T U
    → ((i : ℕ) → T.n ≤ i → i < U.n → s.items i ≡ absent)
    → Good T s
    → Inv T s
    → Good U s × Inv U s
extended {T} {U} {s} e new g v = (good, record { bound = rw (cache_same, plan_same, e.c_same, e.p_same, e.unit_same) v.bound })
  where
    good : Good U s
    good i l = at (dec_lt i T.n)
      where
        at : Dec (i < T.n) → Fine U i (s.items i)
        at (yes b) =
            record {
              load_most = rw (e.load_same i b, e.unit_same) (g i b).load_most;
              write_most = rw (e.write_same i b, e.unit_same) (g i b).write_most;
              dirty_held = (g i b).dirty_held;
              plan_dirty_held = (g i b).plan_dirty_held;
            }
        at (no b) = rw (new i (omega arith) l) (omega arith)

    cache_same : sum_over U (cache_side U) s.items ≡ sum_over T (cache_side T) s.items
    cache_same =
        sum_longer T.n U.n (λ i. cache_side T i (s.items i)) (λ i. cache_side U i (s.items i)) e.more
        (λ i l. rw (e.c_same, e.p_same, e.unit_same, e.load_same i l, e.write_same i l))
        (λ i low high. rw (new i low high) (omega arith))

    plan_same : sum_over U (plan_side U) s.items ≡ sum_over T (plan_side T) s.items
    plan_same =
        sum_longer T.n U.n (λ i. plan_side T i (s.items i)) (λ i. plan_side U i (s.items i)) e.more
        (λ i l. rw (e.c_same, e.p_same))
        (λ i low high. rw (new i low high) (omega arith))

-- the plan owes no writeback, as after a flush
abbrev pub PlanClean : Terms → Position → Type 0
PlanClean T s = (i : ℕ) → i < T.n → (s.items i).plan_dirty ≡ false

pub settled_load :
    {T : Terms} {s : Position}
    → Good T s
    → Inv T s
    → PlanClean T s
    → T.c * T.unit * s.paid + T.p * sum_to T.n (λ i. (s.items i).load) ≤ cache_blocks T * T.unit * s.plan_paid
settled_load {T} {s} g v q = omega (arith, rest, sum_plus T.n T.p plan load)
  where
    plan : ℕ → ℕ
    plan i = plan_side T i (s.items i)

    load : ℕ → ℕ
    load i = (s.items i).load

    rest : sum_to T.n (λ i. plan i + T.p * load i) ≤ sum_over T (cache_side T) s.items
    rest =
        sum_le T.n (λ i. plan i + T.p * load i) (λ i. cache_side T i (s.items i))
        (λ i l. Potential.at_rest (g i l) (q i l))

pub settled :
    {T : Terms} {s : Position}
    → 1 ≤ T.unit
    → Good T s
    → Inv T s
    → PlanClean T s
    → T.c * s.paid ≤ (T.c + T.p) * s.plan_paid
settled {T} {s} u g v q =
    let scaled : T.unit * (T.c * s.paid) ≤ T.unit * (cache_blocks T * s.plan_paid) = omega (arith, settled_load g v q) in
    le_of_mul-le-mul_left scaled u

-- the terms of a cache of k blocks against a plan of h blocks
pub record Sized (T : Terms) (k h : ℕ) : Type 0 where
  pub least : 1 ≤ h
  pub most : h ≤ k
  pub c_is : T.c ≡ k - h + 1
  pub p_is : T.p ≡ h - 1

whole : {T : Terms} {k h : ℕ} → Sized T k h → cache_blocks T ≡ k
whole z = omega arith

pub ratio_load :
    {T : Terms} {s : Position} {k h : ℕ}
    → Sized T k h
    → Good T s
    → Inv T s
    → PlanClean T s
    → (k - h + 1) * T.unit * s.paid + (h - 1) * sum_to T.n (λ i. (s.items i).load) ≤ k * T.unit * s.plan_paid
ratio_load z g v q = rw (← z.c_is, ← z.p_is, ← whole z) (settled_load g v q)

pub ratio :
    {T : Terms} {s : Position} {k h : ℕ}
    → Sized T k h
    → 1 ≤ T.unit
    → Good T s
    → Inv T s
    → PlanClean T s
    → (k - h + 1) * s.paid ≤ k * s.plan_paid
ratio z u g v q = rw (← z.c_is, ← whole z) (settled u g v q)
