-- What the operations need: the stores of an exchange, of a new last place and of its going, an insertion, a removal. Assumes nothing.
use mathlib.Core.Path.{◌≡◌, sym, ap, ◌∙◌}
use mathlib.Core.Logic.{◌≢◌}
use mathlib.Core.List.{List}
use Prim.Native.Nat.{ℕ, suc, ◌-◌, ◌<◌}
use native.Mathlib.Omega.{arith}
use Rattle.std.proofs.lemmas.Grind.{common_steps}
use lib.ListN.{length, set}
use Rattle.heap.specs.Heap.{Heap, item_at}
use Rattle.heap.specs.InnerMoves.{Exchanged, Climbing, Unsettled, Sifted, Appended, Cut, Roomy, Inserted, Filled, Removed}
use Rattle.heap.proofs.Contents.{appended, cut_contains, exchanged_same}

-- the stores of an exchange
pub exchange :
    (h : Heap) (i j a b : ℕ) →
    length h.items ≡ 256 →
    length h.place ≡ 256 →
    i < 256 →
    j < 256 →
    a ≡ item_at h i →
    b ≡ item_at h j →
    a < 256 →
    b < 256 →
    Exchanged h i j
    (record {
      items = set (set h.items i (item_at h j)) j (item_at h i);
      place = set (set h.place b i) a j;
      size = h.size;
    })
exchange h i j a b li lp il jl ea eb al bl = grind (arith, common_steps)

-- an insertion
module _ (keys : List ℕ) (h : Heap) (item : ℕ) (q : Heap) (x : Appended h item q) (pre : Roomy keys h) where
  pub insert_climbs : Climbing keys q h.size
  insert_climbs = grind arith

  pub insert_done : (r : Heap) → Sifted keys q r → Inserted keys h item r
  insert_done r s =
      record {
        size = s.same.size ∙ x.size;
        ordered = s.ordered;
        contains = λ m t c e p. s.same.keeps t (appended h item q x pre.room m t c e p);
      }

-- a removal: of the last place
module _ (keys : List ℕ) (h : Heap) (at : ℕ) (pre : Filled keys h at) where
  pub remove_last : (r : Heap) → at ≡ h.size - 1 → Cut h (h.size - 1) r → Removed keys h at r
  remove_last r e x = grind arith

  -- of another: the last item stands at its place, and may be out of order there
  module _ (q r : Heap) (ne : at ≢ h.size - 1) (x : Exchanged h at (h.size - 1) q) (y : Cut q (q.size - 1) r) where
    last_is : q.size - 1 ≡ h.size - 1
    last_is = ap (λ (z : ℕ). z - 1) x.size

    pub remove_moves : Unsettled keys r at
    remove_moves = grind arith

    pub remove_done : (t : Heap) → Sifted keys r t → Removed keys h at t
    remove_done t s =
        let z : suc (q.size - 1) ≡ q.size = omega (arith, pre.here, x.size) in
        let f : h.size - 1 < h.size = omega (arith, pre.here) in
        record {
          size = ap suc (s.same.size ∙ y.size) ∙ z ∙ x.size;
          ordered = s.ordered;
          contains =
              λ m u c p.
              let two : item_at q (q.size - 1) ≡ item_at h at = ap (item_at q) last_is ∙ x.two in
              s.same.keeps u
              (cut_contains q (q.size - 1) r y z m u ((exchanged_same h at (h.size - 1) q x pre.here f ne).keeps m c) (rw (sym two) at p));
        }
