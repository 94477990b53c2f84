-- What the test of the places in use comes to: where as many items are held as places are in use, each held item is there once.
-- Assumes nothing.
use mathlib.Core.Path.{◌≡◌, refl, sym, ap, ◌∙◌}
use mathlib.Core.Logic.{◌≢◌}
use mathlib.Core.Bool.{Bool, true, false, cond}
use mathlib.Core.List.{List}
use Prim.Native.Nat.{ℕ, zero, suc, ◌+◌, ◌≤◌, ◌<◌}
use native.Mathlib.Decide.{ℕ_discrete, dec_lt}
use native.Mathlib.Omega.{arith}
use lib.Dec.{eqb}
use borrow.Author.Tests.{eq-eqb, ne_eqb}
use lib.ListN.{length, get_or, get_or-eq_default}
use Rattle.landlord.specs.Fold.{sum_to}
use Rattle.landlord.proofs.Sums.{sum_change}
use Rattle.heap.specs.Heap.{Heap, heap_of, item_at, place_of}
use Rattle.heap.specs.InnerMoves.{SpotsOn, HeapOk}

-- how many numbers below k are in a set
abbrev pub count_of : (ℕ → Bool) → ℕ → ℕ
count_of m k = sum_to k (λ i. cond (m i) 1 0)

-- a set without one number
abbrev pub without : (ℕ → Bool) → ℕ → ℕ → Bool
without m x i = cond (eqb i x) false (m i)

pub without_count : (m : ℕ → Bool) (k x : ℕ) → x < k → m x ≡ true → suc (count_of (without m x) k) ≡ count_of m k
without_count m k x l e =
    let c : count_of (without m x) k + cond (m x) 1 0 ≡ count_of m k + cond (without m x x) 1 0 =
    sum_change k x (λ i. cond (without m x i) 1 0) (λ i. cond (m i) 1 0) l (λ i b ne. ap (λ (t : Bool). cond (cond t false (m i)) 1 0) (ne_eqb i x ne))
    in
    let a : ◌≡◌ {A = ℕ} (cond (m x) 1 0) 1 = ap {B = ℕ} (λ (t : Bool). cond t 1 0) e in
    let b : ◌≡◌ {A = ℕ} (cond (without m x x) 1 0) 0 = ap {B = ℕ} (λ (t : Bool). cond (cond t false (m x)) 1 0) (eq-eqb x x refl) in
    omega arith

pub without_other : (m : ℕ → Bool) (x i : ℕ) → i ≢ x → without m x i ≡ m i
without_other m x i ne = grind arith

-- numbers of a set that differ are at most as many as the set has
pub differ :
    (k n : ℕ) (f : ℕ → ℕ) (m : ℕ → Bool) →
    ((j : ℕ) → j < n → f j < k) →
    ((j : ℕ) → j < n → m (f j) ≡ true) →
    ((a b : ℕ) → a < n → b < n → f a ≡ f b → a ≡ b) →
    n ≤ count_of m k
differ k zero f m low in-set one = omega arith
differ k (suc n) f m low in-set one =
    let rest : n ≤ count_of (without m (f n)) k =
    differ k n f (without m (f n)) (λ j l. low j (omega arith))
    (λ j l. without_other m (f n) (f j) (λ e. (let z : j ≡ n = one j n (omega arith) (omega arith) e in let y : j < n = l in omega arith)) ∙ in-set j (omega arith))
    (λ a b x y e. one a b (omega arith) (omega arith) e)
    in
    omega (arith, without_count m k (f n) (low n (omega arith)) (in-set n (omega arith)))

module _
    (m : ℕ → Bool) (keys items places : List ℕ) (n : ℕ)
    (ok : SpotsOn m keys items places n)
    (bytes : (j : ℕ) → get_or items j 0 < 256)
    (others : (i : ℕ) → i < 256 → m i ≡ false → get_or places i 0 ≡ 0) where
  abbrev h : Heap
  h = heap_of items places n

  -- each place in use has an item whose place it is
  placed : (j : ℕ) → j < n → place_of h (item_at h j) ≡ j
  placed zero l = (ok.root (omega arith)).placed
  placed (suc j) l = (ok.each (suc j) (omega arith) l).placed

  -- and which is held: one that is not could stand at the root alone
  only : (j : ℕ) → j < n → m (item_at h j) ≡ true
  only zero l = (ok.root (omega arith)).is_held
  only (suc j) l = go (m (item_at h (suc j))) refl
    where
      go : (b : Bool) → m (item_at h (suc j)) ≡ b → m (item_at h (suc j)) ≡ true
      go true e = e
      go false e = absurd (let z : 0 ≡ suc j = sym (others (item_at h (suc j)) (bytes (suc j)) e) ∙ placed (suc j) l in omega arith)

  apart : (a b : ℕ) → a < n → b < n → item_at h a ≡ item_at h b → a ≡ b
  apart a b x y e = grind arith

  -- where as many are held, each of them has its place
  found : n ≡ count_of m 256 → (i : ℕ) → i < 256 → m i ≡ true → (place_of h i < n) × (item_at h (place_of h i) ≡ i)
  found e i l t = go (dec_lt (place_of h i) n)
    where
      missing : ((j : ℕ) → j < n → item_at h j ≢ i) → ⊥
      missing out =
          let few : n ≤ count_of (without m i) 256 =
          differ 256 n (item_at h) (without m i) (λ j b. bytes j) (λ j b. without_other m i (item_at h j) (out j b) ∙ only j b) apart
          in
          omega (arith, without_count m 256 i l t)

      at : (j : ℕ) → j < n → item_at h j ≡ i → place_of h i ≡ j
      at j b q = ap (place_of h) (sym q) ∙ placed j b

      go : Dec (place_of h i < n) → (place_of h i < n) × (item_at h (place_of h i) ≡ i)
      go (yes b) = (b, here (ℕ_discrete (item_at h (place_of h i)) i))
        where
          here : Dec (item_at h (place_of h i) ≡ i) → item_at h (place_of h i) ≡ i
          here (yes q) = q
          here (no q) = absurd (missing (λ j c r. q (ap (item_at h) (at j c r) ∙ r)))
      go (no b) = absurd (missing (λ j c r. b (rw (at j c r) c)))

  -- the heap has each held item once and nothing else, and is in order
  pub heap_ok :
      n ≤ 256 →
      n ≡ count_of m 256 →
      length items ≡ 256 →
      ((j : ℕ) → n ≤ j → j < 256 → get_or items j 0 ≡ 0) →
      HeapOk m keys h
  heap_ok few e size unused = grind (arith, placed, only, found e, get_or-eq_default items 0)

-- and so the test decides it
pub heap_spots : (m : ℕ → Bool) (keys items places : List ℕ) (n : ℕ) → HeapOk m keys (heap_of items places n) → SpotsOn m keys items places n
heap_spots m keys items places n ok = grind arith
