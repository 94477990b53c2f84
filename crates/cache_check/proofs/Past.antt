-- The places past the catalog: the tests of their bytes find that they are blank, no less and no more. Assumes nothing.
use mathlib.Core.Path.{◌≡◌, sym, subst}
use mathlib.Core.Bool.{true}
use mathlib.Core.List.{List}
use Prim.Native.Nat.{ℕ, ◌+◌, ◌*◌, ◌≤◌, ◌<◌}
use native.Mathlib.Decide.{dec_lt}
use native.Mathlib.Omega.{arith}
use lib.Dec.{leb}
use lib.ListN.{drop, get_or}
use borrow.Author.Tests.{leb-true, le-leb}
use Rattle.marks.specs.Marks.{marked}
use Rattle.marks.specs.Inner.{marks, first_set}
use Rattle.marks.proofs.Laws.{NextMark, next_is}
use Rattle.cache_state.specs.Cache.{Cache, Blank}
use Rattle.cache_state.specs.InnerParts.{PastOk}
use Rattle.basis.specs.InnerDecided.{Decided}
use Rattle.basis.proofs.Decides.{clash}
use Rattle.layout.specs.Layout.{cache_of, numbers_at}
use Rattle.layout.specs.InnerRows.{at_blocks, at_held, at_places}
use Rattle.cache_check.specs.Inner.{Zeros, BlankMarks, PastTests}
use Rattle.cache_check.proofs.Blanks.{run_zero, zero_run, flags_zero, zero_flags}

-- every place past the catalog is blank, and has no place in the heap
pub record PastBlank (c : Cache) : Type 0 where
  pub past : PastOk c
  pub places : (i : ℕ) → c.n ≤ i → i < 256 → get_or c.places i 0 ≡ 0

module _ (b : List ℕ) (n : ℕ) (e : n ≡ (cache_of b).n) where
  times_one : n * 1 ≡ n
  times_one = omega arith

  from_one : (at : ℕ) → Zeros b (at + n * 1) (at + 256 * 1) → Zeros b (at + n) (at + 256)
  from_one at = subst (λ (k : ℕ). Zeros b (at + k) (at + 256)) times_one

  by_one : (at : ℕ) → Zeros b (at + n) (at + 256) → Zeros b (at + n * 1) (at + 256 * 1)
  by_one at = subst (λ (k : ℕ). Zeros b (at + k) (at + 256)) (sym times_one)

  pub blank_tests : n ≤ 256 → PastBlank (cache_of b) → PastTests b n
  unfolding numbers_at
  blank_tests few p =
      record {
        eights = record { first = run 8 _ (λ i h. h.place.slot.load_credit); second = run 8 _ (λ i h. h.place.slot.write_credit); third = run 8 _ (λ i h. h.place.slot.key) };
        fours = record { first = run 4 _ (λ i h. h.place.minutes); second = run 4 _ (λ i h. h.place.loads); third = run 4 _ (λ i h. h.place.writebacks) };
        twos = record { first = run 2 _ (λ i h. h.load); second = run 2 _ (λ i h. h.write); third = run 2 _ (λ i h. h.write) };
        ones =
            record {
              first = from_one at_blocks (run 1 _ (λ i h. h.blocks));
              second = zero_flags b at_held n (record { each = λ i l m. (here i l m).place.held });
              third = from_one at_places (zero_run b _ 1 n few (record { each = λ i l m. p.places i (omega arith) m }));
            };
        dirty = record { each = λ i l m. (here i l m).place.slot.dirty };
        left = record { each = λ i l m. (here i l m).left };
      }
    where
      here : (i : ℕ) → n ≤ i → i < 256 → Blank (cache_of b) i
      here i l m = p.past.each i (omega arith) m

      run : (w at : ℕ) → ((i : ℕ) → Blank (cache_of b) i → get_or (numbers_at b at 256 w) i 0 ≡ 0) → Zeros b (at + n * w) (at + 256 * w)
      run w at f = zero_run b at w n few (record { each = λ i l m. f i (here i l m) })

  pub tests_blank : PastTests b n → PastBlank (cache_of b)
  unfolding numbers_at
  tests_blank t =
      record {
        past = record {
          each = λ i l m.
              let k : n ≤ i = omega arith in
              record {
                place =
                    record {
                      held = (flags_zero b at_held n t.ones.second).each i k m;
                      slot =
                          record {
                            dirty = t.dirty.each i k m;
                            load_credit = (run_zero b _ 8 n t.eights.first).each i k m;
                            write_credit = (run_zero b _ 8 n t.eights.second).each i k m;
                            key = (run_zero b _ 8 n t.eights.third).each i k m;
                          };
                      minutes = (run_zero b _ 4 n t.fours.first).each i k m;
                      loads = (run_zero b _ 4 n t.fours.second).each i k m;
                      writebacks = (run_zero b _ 4 n t.fours.third).each i k m;
                    };
                blocks = (run_zero b _ 1 n (by_one at_blocks t.ones.first)).each i k m;
                load = (run_zero b _ 2 n t.twos.first).each i k m;
                write = (run_zero b _ 2 n t.twos.second).each i k m;
                left = t.left.each i k m;
              };
        };
        places = λ i l m. (run_zero b _ 1 n (by_one at_places t.ones.third)).each i (omega arith) m;
      }

-- marks are not set from n on exactly if the next one that is set is none
pub marks_so : (ws : List ℕ) (n r : ℕ) → n ≤ 256 → r ≡ n + first_set (drop n (marks ws)) → Decided (BlankMarks ws n) (leb 256 r)
marks_so ws n r few is =
    record {
      yes = λ t. record { each = λ i l m. mark.before i l (omega (arith, leb-true 256 r t)) };
      only = λ p. past (dec_lt r 256) p;
    }
  where
    mark : NextMark ws n r
    mark = next_is ws n r few is

    past : Dec (r < 256) → BlankMarks ws n → leb 256 r ≡ true
    past (yes l) p = clash (marked ws r) (mark.here l) (p.each r mark.after l)
    past (no l) p = le-leb 256 r (omega arith)
