-- Laws of a catalog in lent bytes: how many items there are, which they are, the first n of them, one more at their end,
-- and how large the numbers of an item can be. Assumes nothing.
use mathlib.Core.Path.{◌≡◌, refl, sym, ap, ◌∙◌}
use mathlib.Core.List.{List, [], ◌∷◌, ◌++◌}
use Prim.Native.Nat.{ℕ, ◌+◌, ◌*◌, ◌/◌, ◌≤◌, ◌<◌}
use native.Mathlib.Omega.{arith}
use native.Mathlib.Decide.{ℕ_discrete}
use lib.ListN.{length, take, drop, get_or, length-append, get_or-append}
use lib.Seq.{sets, length-sets, sets-eq, length-take-le, take_at, get_or-take, get_or_at, get_or-append-add}
use Rattle.landlord.specs.Fold.{tab_from}
use Rattle.landlord.specs.Catalog.{Item, item_at, no_item, listed}
use Rattle.landlord.proofs.Folds.{tab_length, tab_at, tab_of}
use Rattle.catalog_bytes.specs.Catalogs.{item_in, catalog_in}
use Rattle.catalog_bytes.specs.Inner.{catalog_of_first, item_bytes}

-- ---- what bytes stand for

pub length_catalog_in : (xs : List ℕ) → length (catalog_in xs) ≡ length xs / 5
unfolding catalog_in
length_catalog_in xs = tab_length (length xs / 5) (item_in xs)

pub item_at_lem : (xs : List ℕ) (i : ℕ) → i < length xs / 5 → item_at (catalog_in xs) i ≡ item_in xs i
unfolding catalog_in
item_at_lem xs i l = tab_at (length xs / 5) (item_in xs) i no_item l

-- an item is its five bytes
item_eq :
    (xs ys : List ℕ) (i : ℕ) →
    ((k : ℕ) → k < 5 → get_or xs (5 * i + k) 0 ≡ get_or ys (5 * i + k) 0) →
    item_in xs i ≡ item_in ys i
item_eq xs ys i h =
    let e : 5 * i + 0 ≡ 5 * i = omega arith in
    let b : get_or xs (5 * i) 0 ≡ get_or ys (5 * i) 0 = rw e at (h 0 (omega arith)) in
    rw (b, h 1 (omega arith), h 2 (omega arith), h 3 (omega arith), h 4 (omega arith))

-- ---- the first n items

pub first_item : (n i : ℕ) (xs : List ℕ) → i < n → 5 * n ≤ length xs → item_in (take (5 * n) xs) i ≡ item_in xs i
first_item n i xs l h = item_eq (take (5 * n) xs) xs i (λ k m. get_or-take (5 * n) xs (5 * i + k) 0 (omega arith))

pub first_length : (n : ℕ) (xs : List ℕ) → 5 * n ≤ length xs → length (catalog_of_first n xs) ≡ n
first_length n xs h = omega (arith, length_catalog_in (take (5 * n) xs), length-take-le (5 * n) xs h)

pub first_at : (n i : ℕ) (xs : List ℕ) → i < n → 5 * n ≤ length xs → item_at (catalog_of_first n xs) i ≡ item_in xs i
first_at n i xs l h =
    item_at_lem (take (5 * n) xs) i (omega (arith, length-take-le (5 * n) xs h)) ∙ first_item n i xs l h

pub none_first : (xs : List ℕ) → catalog_of_first 0 xs ≡ []
unfolding catalog_in tab_from
none_first xs = refl

-- ---- one more item

pub put_length : (n : ℕ) (xs : List ℕ) (x : Item) → length (sets xs (5 * n) (item_bytes x)) ≡ length xs
put_length n xs x = length-sets xs (5 * n) (item_bytes x)

module _ (b l w : ℕ) where
  abbrev x : Item
  x = listed b l w

  -- the item that stands after whole items
  item_after : (xs : List ℕ) (i : ℕ) → length xs ≡ 5 * i → item_in (xs ++ item_bytes x) i ≡ x
  item_after xs i e =
      let e₀ : 5 * i + 0 ≡ 5 * i = omega arith in
      let p : get_or (xs ++ item_bytes x) (5 * i) 0 ≡ b = rw e₀ at (byte 0) in
      let q : (item_in (xs ++ item_bytes x) i).load ≡ l = omega (arith, byte 1, byte 2) in
      let r : (item_in (xs ++ item_bytes x) i).write ≡ w = omega (arith, byte 3, byte 4) in
      λ j. listed (p j) (q j) (r j)
    where
      byte : (k : ℕ) → get_or (xs ++ item_bytes x) (5 * i + k) 0 ≡ get_or (item_bytes x) k 0
      byte k = rw (← e) (get_or-append-add xs (item_bytes x) k 0)

  -- the bytes of one more item are a catalog with that item at its end
  catalog_more : (xs : List ℕ) (n : ℕ) → length xs ≡ 5 * n → catalog_in (xs ++ item_bytes x) ≡ catalog_in xs ++ (x ∷ [])
  unfolding catalog_in
  catalog_more xs n e = sym (tab_of (catalog_in xs ++ (x ∷ [])) (length (xs ++ item_bytes x) / 5) (item_in (xs ++ item_bytes x)) no_item count each)
    where
      items : length (catalog_in xs) ≡ n
      items = omega (arith, length_catalog_in xs)

      bytes : length (xs ++ item_bytes x) ≡ 5 * n + 5
      bytes = omega (arith, length-append xs (item_bytes x))

      count : length (catalog_in xs ++ (x ∷ [])) ≡ length (xs ++ item_bytes x) / 5
      count = omega (arith, length-append (catalog_in xs) (x ∷ []), items, bytes)

      each : (i : ℕ) → i < length (xs ++ item_bytes x) / 5 → item_at (catalog_in xs ++ (x ∷ [])) i ≡ item_in (xs ++ item_bytes x) i
      each i m = at (ℕ_discrete i n)
        where
          at : Dec (i ≡ n) → item_at (catalog_in xs ++ (x ∷ [])) i ≡ item_in (xs ++ item_bytes x) i
          at (yes q) =
              get_or_at (catalog_in xs) x [] no_item i (omega (arith, items))
              ∙ sym (item_after xs i (omega arith))
          at (no q) =
              let before : i < n = omega (arith, bytes) in
              get_or-append (catalog_in xs) (x ∷ []) no_item i (omega (arith, items))
              ∙ item_at_lem xs i (omega arith)
              ∙ item_eq xs (xs ++ item_bytes x) i (λ k m. sym (get_or-append xs (item_bytes x) 0 (5 * i + k) (omega arith)))

pub one_more :
    (n : ℕ) (xs : List ℕ) (b l w : ℕ) →
    5 * n + 5 ≤ length xs →
    catalog_of_first (n + 1) (sets xs (5 * n) (item_bytes (listed b l w))) ≡ catalog_of_first n xs ++ (listed b l w ∷ [])
one_more n xs b l w h =
    let x = listed b l w in
    let f : length (take (5 * n) xs) ≡ 5 * n = length-take-le (5 * n) xs (omega arith) in
    let t : take (5 * (n + 1)) (sets xs (5 * n) (item_bytes x)) ≡ take (5 * n) xs ++ item_bytes x
    = ap (take (5 * (n + 1))) (sets-eq (item_bytes x) xs (5 * n) h)
    ∙ take_at (take (5 * n) xs ++ item_bytes x) (drop (5 * n + 5) xs) (5 * (n + 1)) (omega (arith, length-append (take (5 * n) xs) (item_bytes x)))
    in ap catalog_in t ∙ catalog_more b l w (take (5 * n) xs) n f

-- ---- how large the numbers of an item can be

pub load_lt : (xs : List ℕ) (i : ℕ) → ((j : ℕ) → get_or xs j 0 < 256) → (item_in xs i).load < 65536
load_lt xs i h = omega (arith, h (5 * i + 1), h (5 * i + 2))

pub write_lt : (xs : List ℕ) (i : ℕ) → ((j : ℕ) → get_or xs j 0 < 256) → (item_in xs i).write < 65536
write_lt xs i h = omega (arith, h (5 * i + 3), h (5 * i + 4))
