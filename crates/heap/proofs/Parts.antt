-- Laws of a heap in lent bytes: what is read at a place, and what a store leaves. Assumes nothing.
use mathlib.Core.Path.{◌≡◌, refl, sym, ap, ◌∙◌}
use mathlib.Core.List.{List, [], ◌∷◌}
use Prim.Native.Nat.{ℕ, zero, suc, ◌+◌, ◌*◌, ◌≤◌, ◌<◌}
use native.Mathlib.Omega.{arith}
use lib.ListN.{length, get_or, set, take, drop, length-drop}
use lib.Seq.{length-take-le, take-set-le, drop-set-lt, take-set-lt, drop-set-add, get_or-take, get_or-drop, take-take, drop-drop}
use Rattle.fields.specs.LittleEndian.{from_bytes, run_from_bytes}
use Rattle.heap.specs.InnerPart.{part_bytes, at_items, at_places, keys_in, items_in, places_in, Kept}

module _ (s : List ℕ) where
  pub items_at : (j : ℕ) → j < 256 → get_or (items_in s) j 0 ≡ get_or s (at_items + j) 0
  unfolding items_in
  items_at j l = get_or-take 256 (drop at_items s) j 0 l ∙ get_or-drop at_items s j 0

  pub places_at : (i : ℕ) → i < 256 → get_or (places_in s) i 0 ≡ get_or s (at_places + i) 0
  unfolding places_in
  places_at i l = get_or-take 256 (drop at_places s) i 0 l ∙ get_or-drop at_places s i 0

  pub items_long : length s ≡ part_bytes → length (items_in s) ≡ 256
  unfolding items_in
  items_long e = length-take-le 256 (drop at_items s) (omega (arith, length-drop at_items s))

  pub places_long : length s ≡ part_bytes → length (places_in s) ≡ 256
  unfolding places_in
  places_long e = length-take-le 256 (drop at_places s) (omega (arith, length-drop at_places s))

  -- a store among the items
  pub item_put : (j v : ℕ) → j < 256 → items_in (set s (at_items + j) v) ≡ set (items_in s) j v
  unfolding items_in
  item_put j v l = ap (take 256) (drop-set-add at_items s j v) ∙ take-set-lt 256 (drop at_items s) j v l

  pub item_put_places : (j v : ℕ) → j < 256 → places_in (set s (at_items + j) v) ≡ places_in s
  unfolding places_in
  item_put_places j v l = ap (take 256) (drop-set-lt at_places s (at_items + j) v (omega arith))

  -- a store among the places
  pub place_put : (i v : ℕ) → i < 256 → places_in (set s (at_places + i) v) ≡ set (places_in s) i v
  unfolding places_in
  place_put i v l = ap (take 256) (drop-set-add at_places s i v) ∙ take-set-lt 256 (drop at_places s) i v l

  pub place_put_items : (i v : ℕ) → i < 256 → items_in (set s (at_places + i) v) ≡ items_in s
  unfolding items_in
  place_put_items i v l =
      let e : at_places + i ≡ at_items + (256 + i) = omega arith in
      ap (λ (p : ℕ). take 256 (drop at_items (set s p v))) e
      ∙ ap (take 256) (drop-set-add at_items s (256 + i) v)
      ∙ take-set-le 256 (drop at_items s) (256 + i) v (omega arith)

  -- neither touches a key
  pub head_put : (p v : ℕ) → at_items ≤ p → take at_items (set s p v) ≡ take at_items s
  head_put p v l = take-set-le at_items s p v l

-- numbers are read from their bytes alone
pub drop_take : (w n : ℕ) (s : List ℕ) → drop w (take (w + n) s) ≡ take n (drop w s)
drop_take zero n s = let e : 0 + n ≡ n = omega arith in ap (λ (k : ℕ). take k s) e
drop_take (suc w) n [] = (let e : suc w + n ≡ suc (w + n) = omega arith in ap (λ (k : ℕ). drop (suc w) (take {A = ℕ} k [])) e) ∙ none n
  where
    none : (n : ℕ) → ◌≡◌ {A = List ℕ} [] (take n [])
    none zero = refl
    none (suc n) = refl
drop_take (suc w) n (x ∷ s) =
    let e : suc w + n ≡ suc (w + n) = omega arith in
    ap (λ (k : ℕ). drop (suc w) (take k (x ∷ s))) e ∙ drop_take w n s

pub run_take : (n : ℕ) (s : List ℕ) → run_from_bytes 8 n (take (n * 8) s) ≡ run_from_bytes 8 n s
unfolding run_from_bytes
run_take zero s = refl
run_take (suc n) s =
    let e : suc n * 8 ≡ 8 + n * 8 = omega arith in
    λ z. from_bytes (take-take 8 (suc n * 8) s (omega arith) z) ∷ (ap (λ (k : ℕ). run_from_bytes 8 n (drop 8 (take k s))) e ∙ ap (run_from_bytes 8 n) (drop_take 8 (n * 8) s) ∙ run_take n (drop 8 s)) z

pub kept_keys : (s r : List ℕ) → Kept s r → keys_in r ≡ keys_in s
unfolding keys_in
kept_keys s r k = sym (run_take 256 r) ∙ ap (run_from_bytes 8 256) k.head ∙ run_take 256 s

run_at : (n : ℕ) (s : List ℕ) (i : ℕ) → i < n → get_or (run_from_bytes 8 n s) i 0 ≡ from_bytes (take 8 (drop (i * 8) s))
unfolding run_from_bytes
run_at zero s i l = absurd (omega arith)
run_at (suc n) s zero l = refl
run_at (suc n) s (suc i) l =
    let e : 8 + i * 8 ≡ suc i * 8 = omega arith in
    run_at n (drop 8 s) i (omega arith) ∙ ap (λ (t : List ℕ). from_bytes (take 8 t)) (drop-drop (i * 8) 8 s ∙ ap (λ (k : ℕ). drop k s) e)

-- a key, as it is read
pub key_at_lem : (s : List ℕ) (i r : ℕ) → i < 256 → r ≡ from_bytes (take 8 (drop (i * 8) s)) → r ≡ get_or (keys_in s) i 0
unfolding keys_in
key_at_lem s i r l e = e ∙ sym (run_at 256 s i l)

-- ---- what is left

pub kept_on : {s r t : List ℕ} → Kept s r → Kept r t → Kept s t
kept_on a b = record { size = b.size; head = b.head ∙ a.head }
