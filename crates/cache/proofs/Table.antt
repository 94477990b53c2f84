-- The table of refusals, asked test by test in the order of the code: what each test that comes out so says of the answer.
-- Assumes nothing.
use mathlib.Core.Path.{◌≡◌, refl, sym, ap, ◌∙◌}
use mathlib.Core.Logic.{◌≢◌}
use mathlib.Core.Bool.{Bool, true, false, cond}
use Prim.Native.Nat.{ℕ, ◌≤◌, ◌<◌}
use native.Mathlib.Omega.{arith}
use lib.ListN.{length, get_or}
use lib.Dec.{ltb, eqb}
use borrow.Author.Tests.{eq-eqb, ne_eqb, le-leb, lt-leb, lt-ltb, le-ltb, ltb-true}
use Rattle.types.specs.declared.Refusal.{Refusal}
use Rattle.types.specs.declared.Step.{Step}
use Rattle.types.specs.declared.Step.TheVariants.{Read, Write, Flush, Arrive, Retire}
use Rattle.types.specs.declared.Numbers.{Numbers}
use Rattle.types.specs.Types.{Told, told, telling, step_of, step_item}
use Rattle.types.proofs.Refusals.{refused_some}
use Rattle.landlord.specs.Catalog.{Catalog, item_at}
use Rattle.landlord.specs.Steps.{in_range, range_refusal, if_known, item_refusal, step_refusal}
use Rattle.landlord.specs.Calls.{step_call, refusal_at, refusal_now}
use Rattle.cache_state.specs.Cache.{Cache, left_at, catalog_of, view}
use Rattle.cache_state.proofs.Views.{size_is, left_is, blocks_is}
use Rattle.cache.specs.Inner.{request_refusal}

-- ---- what an answer tells: its number, on no line, and the item where the number names one

pub tells : {n m : ℕ} (item : ℕ) → n ≡ m → telling n 0 item ≡ telling m 0 item
tells item e = ap (λ (n : ℕ). telling n 0 item) e

pub number_told : {t : Told} {n : ℕ} (item : ℕ) → t ≡ telling n 0 item → t.number ≡ n
number_told item e = ap (λ (t : Told). t.number) e

-- a refusal's number is not 0
pub number_refused : {n : ℕ} (item : ℕ) (r : Refusal) → told r ≡ telling n 0 item → n ≢ 0
number_refused item r e z = refused_some r (number_told item e ∙ z)

-- ---- an item: whether it is there, and has not left

pub record Known (c : Cache) (i : ℕ) : Type 0 where
  pub below : i < c.n
  pub stays : left_at c i ≡ false

module _ (c : Cache) (i next : ℕ) where
  pub unknown : c.n ≤ i → 6 ≡ if_known (catalog_of c) i next
  unknown l = rw (size_is c, le-ltb i c.n l)

  pub retired : i < c.n → left_at c i ≡ true → 20 ≡ if_known (catalog_of c) i next
  retired l e = rw (size_is c, lt-ltb i c.n l, left_is c i l, e)

  pub there : Known c i → next ≡ if_known (catalog_of c) i next
  there k = rw (size_is c, lt-ltb i c.n k.below, left_is c i k.below, k.stays)

  -- one that is not refused is there, and what follows does not refuse it
  pub let_in : if_known (catalog_of c) i next ≡ 0 → Known c i × (next ≡ 0)
  let_in e = go (ltb i (length (catalog_of c))) (item_at (catalog_of c) i).left refl refl e
    where
      go :
          (a b : Bool) →
          ltb i (length (catalog_of c)) ≡ a →
          (item_at (catalog_of c) i).left ≡ b →
          ◌≡◌ {A = ℕ} (cond a (cond b 20 next) 6) 0 →
          Known c i × (next ≡ 0)
      go true true p q e = absurd (omega arith)
      go true false p q e =
          let l : i < c.n = omega (arith, ltb-true i (length (catalog_of c)) p, size_is c) in
          (record { below = l; stays = sym (left_is c i l) ∙ q }, e)
      go false b p q e = absurd (omega arith)

-- one that is refused is so whatever follows
pub refused_first : (cat : Catalog) (i next : ℕ) → if_known cat i 0 ≢ 0 → if_known cat i 0 ≡ if_known cat i next
refused_first cat i next d = go (ltb i (length cat)) (item_at cat i).left d
  where
    go : (a b : Bool) → ◌≢◌ {A = ℕ} (cond a (cond b 20 0) 6) 0 → ◌≡◌ {A = ℕ} (cond a (cond b 20 0) 6) (cond a (cond b 20 next) 6)
    go true true d = refl
    go true false d = absurd (d refl)
    go false b d = refl

-- ---- its room, and the number of one that arrives

module _ (c : Cache) (i : ℕ) (k : Known c i) where
  pub too_large : c.k < get_or c.blocks i 0 → 7 ≡ request_refusal c.k (catalog_of c) i
  too_large l = rw (blocks_is c i k.below, lt-leb (get_or c.blocks i 0) c.k l) (there c i 7 k)

  pub fits : get_or c.blocks i 0 ≤ c.k → 0 ≡ request_refusal c.k (catalog_of c) i
  fits l = rw (blocks_is c i k.below, le-leb (get_or c.blocks i 0) c.k l) (there c i 0 k)

module _ (c : Cache) (i blocks load write : ℕ) where
  pub misnumbered : i ≢ c.n → 19 ≡ item_refusal c.k (catalog_of c) (Arrive i blocks load write)
  misnumbered d = rw (size_is c, ne_eqb i c.n d)

  pub numbered : i ≡ c.n → 0 ≡ item_refusal c.k (catalog_of c) (Arrive i blocks load write)
  numbered e = rw (size_is c, eq-eqb i c.n e)

-- ---- the whole table

module _ (c : Cache) (n : Numbers) where
  abbrev pub answer : ℕ
  answer = refusal_now (view c) (step_call n)

  pub table_closed : c.closed ≡ true → 9 ≡ answer
  unfolding refusal_at
  table_closed e = rw e

  pub table_full : c.closed ≡ false → 1000000 ≤ c.steps → 8 ≡ answer
  unfolding refusal_at step_refusal
  table_full e l = rw (e, le-leb 1000000 c.steps l)

  pub table_range : c.closed ≡ false → c.steps < 1000000 → in_range n ≡ false → 3 ≡ answer
  unfolding refusal_at step_refusal range_refusal
  table_range e l r = rw (e, lt-leb 1000000 c.steps l, r)

  -- an open cache with room in its log, asked for a step in range
  pub record Ranged : Type 0 where
    pub is_open : c.closed ≡ false
    pub few : c.steps < 1000000
    pub ranged : in_range n ≡ true

  table_item : Ranged → item_refusal c.k (catalog_of c) (step_of n) ≡ answer
  unfolding refusal_at step_refusal range_refusal
  table_item s = rw (s.is_open, lt-leb 1000000 c.steps s.few, s.ranged)

  -- what it tells of the item, it tells of the step's numbers: where a step names none, nothing is refused
  item_numbers : telling (item_refusal c.k (catalog_of c) (step_of n)) 0 (step_item (step_of n)) ≡ telling (item_refusal c.k (catalog_of c) (step_of n)) 0 n.item
  unfolding step_of
  item_numbers = go (eqb n.kind 82) (eqb n.kind 87) (eqb n.kind 65) (eqb n.kind 81)
    where
      same : Step → Type 0
      same s = telling (item_refusal c.k (catalog_of c) s) 0 (step_item s) ≡ telling (item_refusal c.k (catalog_of c) s) 0 n.item

      go :
          (p q r t : Bool) →
          same
          (cond p (Read n.item)
          (cond q (Write n.item n.minutes)
          (cond r (Arrive n.item n.blocks n.load n.write)
          (cond t (Retire n.item) Flush))))
      go true q r t = refl
      go false true r t = refl
      go false false true t = refl
      go false false false true = refl
      go false false false false = refl

  pub table_tells : {t : Told} (s : Step) → Ranged → s ≡ step_of n → t ≡ telling (item_refusal c.k (catalog_of c) s) 0 (step_item s) → t ≡ telling answer 0 n.item
  table_tells s r is e =
      e
      ∙ ap (λ (z : Step). telling (item_refusal c.k (catalog_of c) z) 0 (step_item z)) is
      ∙ item_numbers
      ∙ tells n.item (table_item r)
