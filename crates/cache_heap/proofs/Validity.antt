-- The heap's part in what a valid state is: the test of the places in use, on the fields of the cache, and what it comes to. Assumes
-- nothing.
use mathlib.Core.Path.{◌≡◌, sym, ap, subst, ◌∙◌}
use mathlib.Core.Bool.{Bool, false, not}
use mathlib.Core.List.{List}
use Prim.Native.Nat.{ℕ, ◌-◌, ◌≤◌, ◌<◌}
use native.Mathlib.Decide.{dec_lt}
use native.Mathlib.Omega.{arith}
use lib.Dec.{eqb}
use lib.ListN.{length, get_or, take, drop, length-drop, get_or-eq_default}
use lib.Seq.{length-take-le, get_or-take, get_or-drop}
use Rattle.fields.specs.Inner.{Below}
use Rattle.heap.specs.Heap.{heap_of}
use Rattle.heap.specs.InnerMoves.{SpotsOn, HeapOk, flagged}
use Rattle.heap.proofs.Spots.{heap_ok, heap_spots}
use Rattle.basis.specs.InnerDecided.{Decided}
use Rattle.cache_state.specs.Cache.{Cache, held_at, held_items, heap_at}
use Rattle.layout.specs.Layout.{state_bytes, cache_of}
use Rattle.layout.specs.InnerRows.{at_held, at_rule}
use Rattle.layout.proofs.Rounds.{whole, fits}
use Rattle.layout.proofs.Places.{flag_at}
use Rattle.cache_heap.specs.Inner.{SpotsAt}

-- the flags of a state
abbrev pub flags_of : List ℕ → List ℕ
flags_of b = take (at_rule - at_held) (drop at_held b)

module _ (b : List ℕ) (size : length b ≡ state_bytes) where
  pub flags_size : length (flags_of b) ≡ 256
  flags_size = length-take-le 256 (drop at_held b) (omega (arith, length-drop at_held b))

  flag_is : (i : ℕ) → flagged (flags_of b) i ≡ held_at (cache_of b) i
  flag_is i = go (dec_lt i 256)
    where
      go : Dec (i < 256) → flagged (flags_of b) i ≡ held_at (cache_of b) i
      go (yes l) =
          ap (λ (x : ℕ). not (eqb x 0)) (get_or-take 256 (drop at_held b) i 0 l ∙ get_or-drop at_held b i 0) ∙ sym (flag_at 256 at_held b i l)
      go (no l) =
          ap (λ (x : ℕ). not (eqb x 0)) (get_or-eq_default (flags_of b) 0 (omega (arith, flags_size)))
          ∙ sym (get_or-eq_default (cache_of b).held false (omega (arith, (whole b).held)))

  -- the places of the part are those of the cache
  spots_out : (n : ℕ) → SpotsOn (flagged (flags_of b)) (cache_of b).keys (cache_of b).heap (cache_of b).places n → SpotsAt (cache_of b) n
  spots_out n s = record { root = λ some. record { is_held = sym (flag_is _) ∙ (s.root some).is_held; placed = (s.root some).placed }; each = s.each }

  spots_back : (n : ℕ) → SpotsAt (cache_of b) n → SpotsOn (flagged (flags_of b)) (cache_of b).keys (cache_of b).heap (cache_of b).places n
  spots_back n s = record { root = λ some. record { is_held = flag_is _ ∙ (s.root some).is_held; placed = (s.root some).placed }; each = s.each }

  pub spots_decided : (n : ℕ) (r : Bool) (keys items places : List ℕ) → keys ≡ (cache_of b).keys → items ≡ (cache_of b).heap → places ≡ (cache_of b).places → Decided (SpotsOn (flagged (flags_of b)) keys items places n) r → Decided (SpotsAt (cache_of b) n) r
  spots_decided n r keys items places ek ei ep d =
      let e : Decided (SpotsOn (flagged (flags_of b)) (cache_of b).keys (cache_of b).heap (cache_of b).places n) r = rw (ek, ei, ep) at d in
      record { yes = λ t. spots_out n (e.yes t); only = λ s. e.only (spots_back n s) }

-- with as many items held as places are in use, and nothing in the others, that is the heap
pub heap_valid :
    (b : List ℕ) → Below 256 b → (n : ℕ) → n ≤ 256 → n ≡ held_items (cache_of b) → SpotsAt (cache_of b) n →
    ((j : ℕ) → n ≤ j → j < 256 → get_or (cache_of b).heap j 0 ≡ 0) →
    ((i : ℕ) → i < 256 → held_at (cache_of b) i ≡ false → get_or (cache_of b).places i 0 ≡ 0) →
    HeapOk (held_at (cache_of b)) (cache_of b).keys (heap_at (cache_of b))
unfolding held_items
heap_valid b bytes n few e spots unused others =
    subst (λ (k : ℕ). HeapOk (held_at c) c.keys (heap_of c.heap c.places k)) e
    (heap_ok (held_at c) c.keys c.heap c.places n spots (λ j. omega (arith, (fits b bytes).heap j)) others few e (whole b).heap unused)
  where
    c : Cache
    c = cache_of b

pub valid_heap : (b : List ℕ) → HeapOk (held_at (cache_of b)) (cache_of b).keys (heap_at (cache_of b)) → SpotsAt (cache_of b) (held_items (cache_of b))
valid_heap b ok = heap_spots (held_at (cache_of b)) (cache_of b).keys (cache_of b).heap (cache_of b).places (held_items (cache_of b)) ok
