-- What stands at a place of a state's bytes: one number of a run, one flag; and the bytes of a cache, which are the only ones that
-- stand for it. Assumes nothing.
use mathlib.Core.Path.{◌≡◌, refl, sym, ap, subst, ◌∙◌}
use mathlib.Core.List.{List, [], ◌∷◌}
use mathlib.Core.Bool.{false, not}
use Prim.Native.Nat.{ℕ, zero, suc, ◌+◌, ◌*◌, ◌<◌}
use native.Mathlib.Omega.{arith}
use lib.Dec.{eqb}
use lib.ListN.{length, drop, get_or}
use lib.Seq.{drop-drop, get_or-drop}
use Rattle.fields.specs.LittleEndian.{number_at, run_from_bytes, flags_from_bytes}
use Rattle.fields.specs.Inner.{Below}
use Rattle.landlord.specs.Valid.{StandingOk}
use Rattle.queue.specs.Machine.{LazyStanding, standing, LazyOk}
use Rattle.cache_state.specs.Cache.{Cache}
use Rattle.cache_state.specs.InnerBecomes.{Becomes}
use Rattle.cache_state.proofs.Tells.{Sizes, tells}
use Rattle.layout.specs.Layout.{numbers_at, cache_of, AllowedBytes, ValidBytes}
use Rattle.layout.specs.Inner.{Stands, Readable, BecomesAt}
use Rattle.layout.specs.InnerRows.{bytes_of, Fits}
use Rattle.layout.proofs.Rounds.{round, back, fits, length_bytes_of, allowed_bytes_of}

-- ---- reads

-- one number of a run, or one flag of several, is the number at its place
run_from_at : (w n : ℕ) (bs : List ℕ) (i : ℕ) → i < n → get_or (run_from_bytes w n bs) i 0 ≡ number_at bs (i * w) w
unfolding run_from_bytes number_at
run_from_at w zero bs i l = absurd (omega arith)
run_from_at w (suc n) bs zero l =
    let e : 0 * w ≡ 0 = omega arith in
    rw e
run_from_at w (suc n) bs (suc i) l =
    let e : suc i * w ≡ w + i * w = omega arith in
    rw (e, ← drop-drop (i * w) w bs) (run_from_at w n (drop w bs) i (omega arith))

pub number_at_lem : (w n at : ℕ) (b : List ℕ) (i r : ℕ) → i < n → r ≡ number_at b (at + i * w) w → r ≡ get_or (numbers_at b at n w) i 0
unfolding number_at numbers_at
number_at_lem w n at b i r l e = e ∙ rw (run_from_at w n (drop at b) i l, drop-drop)

pub flags_from_at : (n : ℕ) (bs : List ℕ) (i : ℕ) → i < n → get_or (flags_from_bytes n bs) i false ≡ not (eqb (get_or bs i 0) 0)
unfolding flags_from_bytes
flags_from_at zero bs i l = absurd (omega arith)
flags_from_at (suc n) bs zero l = refl
flags_from_at (suc n) bs (suc i) l =
    let e : 1 + i ≡ suc i = omega arith in
    flags_from_at n (drop 1 bs) i (omega arith) ∙ rw (get_or-drop 1 bs i 0, e)

pub flag_at : (n at : ℕ) (b : List ℕ) (i : ℕ) → i < n → get_or (flags_from_bytes n (drop at b)) i false ≡ not (eqb (get_or b (at + i) 0) 0)
flag_at n at b i l = flags_from_at n (drop at b) i l ∙ rw (get_or-drop at b i 0)

-- four numbers read one by one
pub read_four : (b : List ℕ) (at : ℕ) → numbers_at b at 4 8 ≡ number_at b at 8 ∷ number_at b (at + 8) 8 ∷ number_at b (at + 16) 8 ∷ number_at b (at + 24) 8 ∷ []
unfolding run_from_bytes number_at numbers_at
read_four b at =
    let p : at + 8 + 8 ≡ at + 16 = omega arith in
    let q : at + 16 + 8 ≡ at + 24 = omega arith in
    simp (drop-drop, p, q)

-- ---- the bytes of a cache

-- bytes of a cache are those of what they stand for
pub readable : {b : List ℕ} {c : Cache} → Stands b c → Readable b
readable s = record { size = s.size; allowed = s.allowed; cache = refl }

-- the same cache, told in another way
pub stands_as : {b : List ℕ} {c d : Cache} → Stands b c → c ≡ d → Stands b d
stands_as s e = record { size = s.size; allowed = s.allowed; cache = s.cache ∙ e }

-- a store told of what the bytes stood for, told of the cache that it was
pub stands_on : {b after : List ℕ} {c : Cache} {A : Type 0} {v : A} (f : Cache → A → Cache) → Stands after (f (cache_of b) v) → Stands b c → Stands after (f c v)
stands_on {v = v} f t s = stands_as t (ap (λ (d : Cache). f d v) s.cache)

pub valid_reads : {b : List ℕ} → ValidBytes b → Readable b
valid_reads v = record { size = v.size; allowed = v.allowed; cache = refl }

-- bytes of a cache that stands where the lazy form stands
pub stands_become : {b : List ℕ} {c : Cache} {v : LazyStanding} → Stands b c → Becomes v c → BecomesAt v b
stands_become {v = v} s h = record { reads = readable s; cache = subst (Becomes v) (sym s.cache) h }

-- where the rule stands in order they are valid
pub becomes_valid : {v : LazyStanding} {b : List ℕ} → LazyOk v → StandingOk (standing v) → BecomesAt v b → ValidBytes b
becomes_valid fit ok h =
    record {
      size = h.reads.size;
      allowed = h.reads.allowed;
      cache = record { fields = h.cache.fields; lazy = subst LazyOk (sym h.cache.stands) fit; standing = subst (λ (w : LazyStanding). StandingOk (standing w)) (sym h.cache.stands) ok };
    }

-- the bytes of a cache that fits stand for it
pub stands : {after : List ℕ} {c : Cache} → after ≡ bytes_of c → Fits c → Stands after c
stands {c = c} e f =
    record {
      size = ap length e ∙ length_bytes_of c f;
      allowed = subst AllowedBytes (sym e) (allowed_bytes_of c f);
      cache = ap cache_of e ∙ round c f;
    }

-- and bytes that stand for a cache are its bytes
pub encoded : (b : List ℕ) → Below 256 b → Readable b → b ≡ bytes_of (cache_of b)
encoded b h s = sym (back b s.size h s.allowed)

-- so there is exactly one list of bytes for a cache
pub lent_one : (b d : List ℕ) → Below 256 b → Below 256 d → Readable b → Readable d → cache_of b ≡ cache_of d → b ≡ d
lent_one b d hb hd sb sd e = encoded b hb sb ∙ ap bytes_of e ∙ sym (encoded d hd sd)

-- and exactly one that stands where the lazy form stands, for each arrangement of the heap: the contracts of calls on lent bytes leave no
-- other choice
sizes : (c : Cache) → Fits c → Sizes c
sizes c f =
    record {
      blocks = f.whole.blocks;
      load = f.whole.load;
      write = f.whole.write;
      held = f.whole.held;
      load_credit = f.whole.loadcredit;
      write_credit = f.whole.writecredit;
      dirty = f.whole.dirty;
      words = f.dirty;
      minutes = f.whole.minutes;
      loads = f.whole.itemloads;
      writebacks = f.whole.itemwritebacks;
      left = f.whole.left;
      left_words = f.left;
      keys = f.whole.keys;
      places = f.whole.places;
    }

pub becomes_one : (v : LazyStanding) (b d : List ℕ) → Below 256 b → Below 256 d → BecomesAt v b → BecomesAt v d → (cache_of b).heap ≡ (cache_of d).heap → b ≡ d
becomes_one v b d hb hd sb sd arranged =
    lent_one b d hb hd sb.reads sd.reads
    (tells (cache_of b) (cache_of d) (sizes (cache_of b) (fits b hb)) (sizes (cache_of d) (fits d hd)) sb.cache.fields sd.cache.fields
    (sb.cache.stands ∙ sym sd.cache.stands) arranged)
