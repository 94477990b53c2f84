-- The stores of the functions on lent bytes, and what they keep. Assumes nothing.
use mathlib.Core.Path.{◌≡◌, refl, sym, ◌∙◌}
use mathlib.Core.Logic.{◌≢◌}
use mathlib.Core.Bool.{true, false}
use mathlib.Core.List.{List}
use Prim.Native.Nat.{ℕ, suc, ◌+◌, ◌-◌, ◌≤◌, ◌<◌}
use native.Mathlib.Omega.{arith}
use Rattle.std.proofs.lemmas.Grind.{common_steps}
use lib.ListN.{length, get_or, set}
use Rattle.heap.specs.Heap.{heap_of, weight_of, above}
use Rattle.heap.specs.InnerPart.{part_bytes, at_items, at_places, keys_in, items_in, places_in, heap_in, Kept}
use Rattle.heap.specs.InnerMoves.{Exchanged, Swapping, Rises, Lowest, Climbing, Sinking, Same, SiftedIn, AppendedIn, Cut, CutIn, RoomyIn, InsertedIn, FilledIn, RemovedIn, ClimbingIn, UnsettledIn}
use Rattle.heap.proofs.Parts.{items_long, places_long, item_put, item_put_places, place_put, place_put_items, head_put, kept_keys, kept_on}
use Rattle.heap.proofs.Contents.{exchanged_same, same_trans}
use Rattle.heap.proofs.Sifts.{climbs, sinks, climbed}
use Rattle.heap.proofs.Ops.{exchange, insert_climbs, insert_done, remove_last, remove_moves, remove_done}

-- bytes with one of the items and one of the places stored
abbrev pub put_item : List ℕ → ℕ → ℕ → List ℕ
put_item s j v = set s (at_items + j) v

abbrev pub put_place : List ℕ → ℕ → ℕ → List ℕ
put_place s i v = set s (at_places + i) v

-- the exchange
module _ (s : List ℕ) (i j a b : ℕ) (e : length s ≡ part_bytes) (il : i < 256) (jl : j < 256) (al : a < 256) (bl : b < 256) where
  abbrev one : List ℕ
  one = put_item s i b

  abbrev two : List ℕ
  two = put_item one j a

  abbrev three : List ℕ
  three = put_place two b i

  abbrev four : List ℕ
  four = put_place three a j

  items_are : items_in four ≡ set (set (items_in s) i b) j a
  items_are = grind (arith, item_put, place_put_items)

  places_are : places_in four ≡ set (set (places_in s) b i) a j
  places_are = grind (arith, item_put_places, place_put)

  pub swap_stores : a ≡ get_or (items_in s) i 0 → b ≡ get_or (items_in s) j 0 → Swapping s i j four
  swap_stores ea eb =
      record {
        each = λ n. swapped n;
        kept = grind (arith, common_steps, head_put);
      }
    where
      final : (n : ℕ) → heap_in n four ≡ heap_of (set (set (items_in s) i (get_or (items_in s) j 0)) j (get_or (items_in s) i 0)) (set (set (places_in s) b i) a j) n
      final n = λ z. heap_of ((items_are ∙ (λ y. set (set (items_in s) i (eb y)) j (ea y))) z) (places_are z) n

      swapped : (n : ℕ) → Exchanged (heap_in n s) i j (heap_in n four)
      swapped n = rw (final n) (exchange (heap_in n s) i j a b (items_long s e) (places_long s e) il jl ea eb al bl)

-- ---- the siftings

-- an item rises, from the bytes s; t are the bytes now
pub record Rising (n : ℕ) (s t : List ℕ) (i : ℕ) : Type 0 where
  pub climbs : Climbing (keys_in s) (heap_in n t) i
  pub same : Same (heap_in n s) (heap_in n t)
  pub kept : Kept s t

module _ (n : ℕ) (s t : List ℕ) (i : ℕ) (so : Rising n s t i) where
  keys_are : keys_in t ≡ keys_in s
  keys_are = kept_keys s t so.kept

  pub rising_on : (r : List ℕ) → Rises (weight_of (keys_in t) (items_in t)) i true → Swapping t i (above i) r → Rising n s r (above i)
  rising_on r ri x =
      let up : 1 ≤ i = ri.some refl in
      record {
        climbs = climbs (keys_in s) (heap_in n t) (heap_in n r) i so.climbs (rw keys_are at ri) (x.each n);
        same = same_trans _ _ _ so.same (exchanged_same (heap_in n t) i (above i) _ (x.each n) so.climbs.here (omega (arith, so.climbs.here)) (omega arith));
        kept = kept_on so.kept x.kept;
      }

  pub rising_ends : Rises (weight_of (keys_in t) (items_in t)) i false → SiftedIn n s t
  rising_ends ri = record { sifted = climbed (keys_in s) (heap_in n s) (heap_in n t) i so.climbs so.same (rw keys_are at ri); kept = so.kept }

-- an item sinks
pub record Falling (n : ℕ) (s t : List ℕ) (i next : ℕ) : Type 0 where
  pub sinks : Sinking (keys_in s) (heap_in n t) i
  pub same : Same (heap_in n s) (heap_in n t)
  pub kept : Kept s t
  pub lowest : Lowest (weight_of (keys_in s) (items_in t)) n i next

module _ (n : ℕ) (s t : List ℕ) (i next : ℕ) (so : Falling n s t i next) where
  pub falling_on : (r : List ℕ) (after : ℕ) → next ≢ i → Swapping t i next r → Lowest (weight_of (keys_in r) (items_in r)) n next after → Falling n s r next after
  falling_on r after ne x l =
      let k : Kept s r = kept_on so.kept x.kept in
      record {
        sinks = sinks (keys_in s) (heap_in n t) (heap_in n r) i next so.sinks so.lowest ne (x.each n);
        same = same_trans _ _ _ so.same (exchanged_same (heap_in n t) i next _ (x.each n) so.sinks.here so.lowest.here (λ e. ne (sym e)));
        kept = k;
        lowest = rw (kept_keys s r k) at l;
      }

-- ---- a place more, and one less

pub append_put : (n : ℕ) (s : List ℕ) (item : ℕ) → length s ≡ part_bytes → n < 256 → item < 256 → AppendedIn n s item (put_place (put_item s n item) item n)
append_put n s item e l il = grind (arith, common_steps, item_put, item_put_places, place_put, place_put_items, head_put, items_long, places_long)

pub cut_put : (n : ℕ) (s : List ℕ) (last gone : ℕ) → length s ≡ part_bytes → last < 256 → gone < 256 → gone ≡ get_or (items_in s) last 0 → CutIn n s last (put_place (put_item s last 0) gone 0)
cut_put n s last gone e l gl is = grind (arith, common_steps, item_put, item_put_places, place_put, place_put_items, head_put, items_long, places_long)

-- an insertion
module _ (n : ℕ) (s : List ℕ) (item : ℕ) (pre : RoomyIn n s item) (t : List ℕ) (x : AppendedIn n s item t) where
  pub insert_up : ClimbingIn (n + 1) t n
  insert_up =
      let e : n + 1 ≡ suc n = omega arith in
      rw e
      (record {
        size = x.kept.size;
        climbs = rw (kept_keys s t x.kept) (insert_climbs (keys_in s) (heap_in n s) item (heap_in (suc n) t) x.appended pre.roomy);
      })

  pub inserts : (r : List ℕ) → SiftedIn (n + 1) t r → InsertedIn n s item r
  inserts r y =
      let e : n + 1 ≡ suc n = omega arith in
      let z : SiftedIn (suc n) t r = rw e at y in
      record {
        inserted =
            insert_done (keys_in s) (heap_in n s) item (heap_in (suc n) t) x.appended pre.roomy (heap_in (suc n) r)
            (rw (kept_keys s t x.kept) at z.sifted);
        kept = kept_on x.kept z.kept;
      }

-- a removal
module _ (n : ℕ) (s : List ℕ) (at : ℕ) (pre : FilledIn n s at) where
  full : n - 1 + 1 ≡ n
  full = omega (arith, pre.filled.here)

  pub removes_last : (r : List ℕ) → at ≡ n - 1 → CutIn (n - 1 + 1) s (n - 1) r → RemovedIn n s at r
  removes_last r e x =
      let y : CutIn n s (n - 1) r = rw full at x in
      record { removed = remove_last (keys_in s) (heap_in n s) at pre.filled (heap_in (n - 1) r) e y.cut; kept = y.kept }

  module _ (t r : List ℕ) (ne : at ≢ n - 1) (x : Swapping s at (n - 1) t) (y : CutIn (n - 1 + 1) t (n - 1) r) where
    cut : Cut (heap_in n t) (n - 1) (heap_in (n - 1) r)
    cut = (rw full at y).cut

    kept : Kept s r
    kept = kept_on x.kept y.kept

    pub remove_unsettled : UnsettledIn (n - 1) r at
    remove_unsettled =
        record {
          size = y.kept.size;
          unsettled = rw (kept_keys s r kept) (remove_moves (keys_in s) (heap_in n s) at pre.filled (heap_in n t) (heap_in (n - 1) r) ne (x.each n) cut);
        }

    pub removes : (u : List ℕ) → SiftedIn (n - 1) r u → RemovedIn n s at u
    removes u z =
        record {
          removed =
              remove_done (keys_in s) (heap_in n s) at pre.filled (heap_in n t) (heap_in (n - 1) r) ne (x.each n) cut (heap_in (n - 1) u)
              (rw (kept_keys s r kept) at z.sifted);
          kept = kept_on kept z.kept;
        }
