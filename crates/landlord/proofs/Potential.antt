-- One item as the cache and the plan hold it, and what each change of it does to its share of the potential.
-- The potential itself, a sum over all items, stands in Moves.
-- Assumes nothing.
use mathlib.Core.Bool.{Bool, true, false, cond}
use mathlib.Core.Path.{◌≡◌}
use Prim.Native.Nat.{ℕ, zero, suc, ◌+◌, ◌*◌, ◌≤◌, ◌<◌}
use native.Mathlib.Nat.{mul-le-mul_left}
use native.Mathlib.Omega.{arith}

-- one item as the cache and the plan hold it
pub record Both : Type 0 where
  pub held : Bool
  pub dirty : Bool
  pub plan_held : Bool
  pub plan_dirty : Bool
  -- load credit in the cache
  pub load : ℕ
  -- write credit in the cache
  pub write : ℕ

-- what a game is played under: n items, a cache of c + p blocks, a plan of p + 1 blocks, `unit` credits to a unit of cost
pub record Terms : Type 0 where
  pub n : ℕ
  pub c : ℕ
  pub p : ℕ
  pub unit : ℕ
  pub blocks : ℕ → ℕ
  pub load_cost : ℕ → ℕ
  pub write_cost : ℕ → ℕ
  pub positive : (i : ℕ) → i < n → 1 ≤ blocks i

-- the cache's blocks
abbrev pub cache_blocks : Terms → ℕ
cache_blocks T = T.c + T.p

-- x where the mark is set, else nothing
abbrev pub pick : Bool → ℕ → ℕ
pick t x = cond t x 0

-- an item that may stand so: no load credit unless held, no write credit unless dirty, neither above its cost;
-- dirty only what is held, on both sides (pick _ 1 counts a mark as 0 or 1)
pub record Fine (T : Terms) (i : ℕ) (x : Both) : Type 0 where
  pub load_most : x.load ≤ pick x.held (T.load_cost i) * T.unit
  pub write_most : x.write ≤ pick x.dirty (T.write_cost i) * T.unit
  pub dirty_held : pick x.dirty 1 ≤ pick x.held 1
  pub plan_dirty_held : pick x.plan_dirty 1 ≤ pick x.plan_held 1

-- what each side owes for an item that is dirty there
abbrev pub writeback : Terms → ℕ → Both → ℕ
writeback T i x = pick x.dirty (T.write_cost i)

abbrev pub plan_writeback : Terms → ℕ → Both → ℕ
plan_writeback T i x = pick x.plan_dirty (T.write_cost i)

-- the blocks that the cache holds of an item, that the plan holds, and that both hold
abbrev pub held_blocks : Terms → ℕ → Both → ℕ
held_blocks T i x = pick x.held (T.blocks i)

abbrev pub plan_blocks : Terms → ℕ → Both → ℕ
plan_blocks T i x = pick x.plan_held (T.blocks i)

abbrev pub shared_blocks : Terms → ℕ → Both → ℕ
shared_blocks T i x = pick x.plan_held (held_blocks T i x)

-- An item's share of the two sides of the invariant. The potential of an item that the plan holds counts what a credit
-- lacks of its cost. Here the credit stands on the plan's side, so that nothing is subtracted; what the plan owes for a
-- dirty item and the cost that its write credit is held against are then the same, and stand on neither side.
abbrev pub cache_side : Terms → ℕ → Both → ℕ
cache_side T i x =
    T.c * T.unit * writeback T i x
    + T.p * (x.load + x.write)
    + cache_blocks T * (pick x.plan_held (T.load_cost i) * T.unit)

abbrev pub plan_side : Terms → ℕ → Both → ℕ
plan_side T i x = cache_blocks T * (pick x.plan_held x.load + pick x.plan_dirty x.write)

-- of an item's change from x to y: what has to be covered, and what covers it
abbrev pub rise : Terms → ℕ → Both → Both → ℕ
rise T i x y = cache_side T i y + plan_side T i x

abbrev pub fall : Terms → ℕ → Both → Both → ℕ
fall T i x y = plan_side T i y + cache_side T i x

-- a change of one item that keeps all we know, while the cache pays a and the plan b
pub record Covered (T : Terms) (i : ℕ) (x y : Both) (a b : ℕ) : Type 0 where
  pub fine : Fine T i y
  pub covered : rise T i x y + T.c * T.unit * a ≤ fall T i x y + cache_blocks T * T.unit * b

-- What becomes of an item in each move.
abbrev pub both : Bool → Bool → Bool → Bool → ℕ → ℕ → Both
both h d r q a b = record { held = h; dirty = d; plan_held = r; plan_dirty = q; load = a; write = b }

abbrev pub absent : Both
absent = both false false false false 0 0

abbrev pub plan_evicted : Both → Both
plan_evicted x = both x.held x.dirty false false x.load x.write

abbrev pub plan_fetched : Both → Both
plan_fetched x = both x.held x.dirty true false x.load x.write

abbrev pub evicted : Both → Both
evicted x = both false false x.plan_held x.plan_dirty 0 0

abbrev pub with_credits : Both → ℕ → ℕ → Both
with_credits x a b = both x.held x.dirty x.plan_held x.plan_dirty a b

abbrev pub loaded : Terms → ℕ → Both → Both
loaded T i x = both true false x.plan_held x.plan_dirty (T.load_cost i * T.unit) 0

abbrev pub was_read : Terms → ℕ → Both → Both
was_read T i x = with_credits x (T.load_cost i * T.unit) x.write

abbrev pub was_written : Terms → ℕ → Both → Both
was_written T i x = both x.held true x.plan_held true (T.load_cost i * T.unit) (T.write_cost i * T.unit)

abbrev pub was_flushed : Both → Both
was_flushed x = both x.held false x.plan_held false x.load 0

-- What `pick` keeps of an inequality.
pick_most : (t : Bool) (x : ℕ) → pick t x ≤ x
pick_most t x = grind arith

pick_le : (t : Bool) (x y : ℕ) → x ≤ y → pick t x ≤ pick t y
pick_le t x y h = grind arith

pick_within : (t u : Bool) (x : ℕ) → pick t 1 ≤ pick u 1 → pick t x ≤ pick u x
pick_within t u x h = grind arith

pick_cost : (t u : Bool) (x y k : ℕ) → x ≤ pick u y * k → pick t x ≤ pick t y * k
pick_cost t u x y k h = grind arith

-- to show something of an item, take the marks of the two holdings as known
known :
    (P : Both → Type 0) (x : Both) (h r : Bool)
    → x.held ≡ h
    → x.plan_held ≡ r
    → P (both h x.dirty r x.plan_dirty x.load x.write)
    → P x
known P x h r e f y = grind arith

-- Each move of one item is allowed.
module _ {T : Terms} {i : ℕ} {x : Both} (o : Fine T i x) where
  -- the credits that the plan's holding counts are at most the costs
  load_cost : pick x.plan_held x.load ≤ pick x.plan_held (T.load_cost i) * T.unit
  load_cost = pick_cost x.plan_held x.held x.load (T.load_cost i) T.unit o.load_most

  write_cost : pick x.plan_dirty x.write ≤ plan_writeback T i x * T.unit
  write_cost = pick_cost x.plan_dirty x.dirty x.write (T.write_cost i) T.unit o.write_most

  pub plan_evicts : Covered T i x (plan_evicted x) 0 (plan_writeback T i x)
  plan_evicts = omega (arith, mul-le-mul_left (cache_blocks T) load_cost, mul-le-mul_left (cache_blocks T) write_cost)

  pub flushes : Covered T i x (was_flushed x) (writeback T i x) (plan_writeback T i x)
  flushes = omega (arith, mul-le-mul_left (cache_blocks T) write_cost)

  -- the item leaves on both sides, and each pays what it owes: no term of it is left
  pub retires : Covered T i x absent (writeback T i x) (plan_writeback T i x)
  retires = omega (arith, mul-le-mul_left (cache_blocks T) load_cost, mul-le-mul_left (cache_blocks T) write_cost)

  -- where the plan owes no writeback, what is left of the potential is at least the load credits' part
  pub at_rest : x.plan_dirty ≡ false → plan_side T i x + T.p * x.load ≤ cache_side T i x
  at_rest e = rw e (omega (arith, mul-le-mul_left (cache_blocks T) load_cost))

pub plan_fetches_lem :
    {T : Terms} {i : ℕ} {x : Both}
    → Fine T i x
    → x.plan_held ≡ false
    → Covered T i x (plan_fetched x) 0 (T.load_cost i)
plan_fetches_lem h k = grind arith

pub keeps_loads :
    {T : Terms} {i : ℕ} {x : Both}
    → Fine T i x
    → x.held ≡ false
    → x.plan_held ≡ true
    → Covered T i x (loaded T i x) (T.load_cost i) 0
keeps_loads {T} {i} {x} o e r = known P x false true e r shown o
  where
    P : Both → Type 0
    P z = Fine T i z → Covered T i z (loaded T i z) (T.load_cost i) 0

    -- what is not held has no credit
    shown : P (both false x.dirty true x.plan_dirty x.load x.write)
    shown f =
        let none : pick x.dirty (T.write_cost i) ≤ 0 = pick_within x.dirty false (T.write_cost i) f.dirty_held in
        let no_write : x.write ≤ 0 = omega (arith, mul-le-mul_left T.unit none) in
        let counted : x.load + pick x.plan_dirty x.write ≤ 0 = omega (arith, pick_most x.plan_dirty x.write) in
        omega (arith, mul-le-mul_left (cache_blocks T) counted, pick_most x.plan_dirty 1)

pub reads :
    {T : Terms} {i : ℕ} {x : Both}
    → Fine T i x
    → x.held ≡ true
    → x.plan_held ≡ true
    → Covered T i x (was_read T i x) 0 0
reads {T} {i} {x} o e r = known P x true true e r shown o
  where
    P : Both → Type 0
    P z = Fine T i z → Covered T i z (was_read T i z) 0 0

    shown : P (both true x.dirty true x.plan_dirty x.load x.write)
    shown f = omega (arith, mul-le-mul_left T.c f.load_most)

-- the writeback is charged when the item turns dirty, on both sides
pub writes :
    {T : Terms} {i : ℕ} {x : Both}
    → Fine T i x
    → x.held ≡ true
    → x.plan_held ≡ true
    → Covered T i x (was_written T i x) 0 0
writes {T} {i} {x} o e r = known P x true true e r shown o
  where
    P : Both → Type 0
    P z = Fine T i z → Covered T i z (was_written T i z) 0 0

    shown : P (both true x.dirty true x.plan_dirty x.load x.write)
    shown f =
        omega (
          arith,
          mul-le-mul_left T.c f.load_most,
          mul-le-mul_left T.c f.write_most,
          mul-le-mul_left (cache_blocks T) (pick_most x.plan_dirty x.write),
        )

-- an item from which an eviction of rank m takes: m for each block held, in any split between its two credits
pub record Charged (T : Terms) (i m : ℕ) (x y : Both) : Type 0 where
  pub held_kept : y.held ≡ x.held
  pub dirty_kept : y.dirty ≡ x.dirty
  pub plan_held_kept : y.plan_held ≡ x.plan_held
  pub plan_dirty_kept : y.plan_dirty ≡ x.plan_dirty
  pub load_less : y.load ≤ x.load
  pub write_less : y.write ≤ x.write
  pub loss : x.load + x.write ≡ (y.load + y.write) + m * held_blocks T i x

-- the marks are kept, and a and b are left of the credits
pub keeps_takes :
    {T : Terms} {i m : ℕ} {x : Both} (a b : ℕ)
    → a ≤ x.load
    → b ≤ x.write
    → x.load + x.write ≡ (a + b) + m * held_blocks T i x
    → Charged T i m x (with_credits x a b)
keeps_takes a b u v e = grind arith

pub shared_least : (T : Terms) (i : ℕ) (x : Both) → shared_blocks T i x ≤ plan_blocks T i x
shared_least T i x = pick_le x.plan_held (held_blocks T i x) (T.blocks i) (pick_most x.held (T.blocks i))

-- of a loss the plan's holding counts at most the whole, and nothing where the plan does not hold the item
loss_seen :
    (r q : Bool) (a b a' b' m s : ℕ)
    → pick q 1 ≤ pick r 1
    → a' ≤ a
    → b' ≤ b
    → a + b ≡ (a' + b') + m * s
    → pick r a + pick q b ≤ pick r a' + pick q b' + m * pick r s
loss_seen r q a b a' b' m s w u v e = grind arith

module _ {T : Terms} {i m : ℕ} {x y : Both} (o : Fine T i x) (h : Charged T i m x y) where
  kept : y ≡ with_credits x y.load y.write
  kept = λ j. both (h.held_kept j) (h.dirty_kept j) (h.plan_held_kept j) (h.plan_dirty_kept j) y.load y.write

  pub charged_fine : Fine T i y
  charged_fine = rw kept (omega arith)

  -- the cache's side falls by p for each credit lost; the plan's falls by the cache's size for each, but only for
  -- blocks that both hold
  pub charged : rise T i x y + T.p * m * held_blocks T i x ≤ fall T i x y + cache_blocks T * m * shared_blocks T i x
  charged = rw kept (omega (arith, mul-le-mul_left (cache_blocks T) seen, lost))
    where
      seen :
          pick x.plan_held x.load + pick x.plan_dirty x.write
          ≤ pick x.plan_held y.load + pick x.plan_dirty y.write + m * shared_blocks T i x
      seen =
          loss_seen x.plan_held x.plan_dirty x.load x.write y.load y.write m (held_blocks T i x)
          o.plan_dirty_held h.load_less h.write_less h.loss

      lost : T.p * (x.load + x.write) ≡ T.p * (y.load + y.write) + T.p * m * held_blocks T i x
      lost = rw h.loss (omega arith)

pub evicted_fine : {T : Terms} {i : ℕ} {x : Both} → Fine T i x → Fine T i (evicted x)
evicted_fine o = omega arith

-- an item of rank m is emptied by such a loss, and goes; its writeback was charged when it turned dirty
pub evicts :
    {T : Terms} {i : ℕ} (m : ℕ) {x : Both}
    → Fine T i x
    → x.load + x.write ≡ m * held_blocks T i x
    → rise T i x (evicted x) + T.p * m * held_blocks T i x + T.c * T.unit * writeback T i x
    ≤ fall T i x (evicted x) + cache_blocks T * m * shared_blocks T i x
evicts {T} {i} m {x} o e =
    let emptied : Charged T i m x (with_credits x 0 0) = keeps_takes 0 0 (omega arith) (omega arith) (omega arith) in
    omega (arith, charged o emptied)

-- Why an eviction loses nothing. The plan holds the wanted item, of g blocks, and the cache does not, so that the
-- blocks held by both are at most p + 1 - g. The cache is too full for it: it holds at least c + p + 1 - g blocks.
pub crowded : (c p shared held g : ℕ) → 1 ≤ g → shared + g ≤ suc p → c + p < held + g → (c + p) * shared ≤ p * held
crowded c p shared held zero z fits full = omega arith
crowded c p shared held (suc g) z fits full =
    let few : shared + g ≤ p = omega arith in
    let many : c + p ≤ held + g = omega arith in
    omega (arith, mul-le-mul_left (c + p) few, mul-le-mul_left p many)
