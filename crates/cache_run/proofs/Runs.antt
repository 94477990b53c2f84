-- Laws of running a list of calls: one call more, its answer noted. Assumes nothing.
use mathlib.Core.Path.{◌≡◌, refl, sym, ap, subst, ◌∙◌}
use mathlib.Core.List.{List, [], ◌∷◌, ◌++◌, append-nil}
use Prim.Native.Nat.{ℕ, zero, suc, ◌+◌, ◌*◌, ◌/◌, ◌≤◌, ◌<◌}
use Rattle.std.specs.Simd.{first_chunks}
use Rattle.std.proofs.lemmas.List.{get_or-take, get_or-drop}
use Rattle.types.specs.Types.{numbers_from}
use Rattle.landlord.proofs.CallNumbers.{call_is}
use native.Mathlib.Omega.{arith}
use native.Mathlib.Numerals.{add-one}
use lib.ListN.{length, get_or, drop, set, length-append, drop_of_length-le}
use lib.Seq.{sets, drop-cons, append_snoc}
use Rattle.landlord.specs.Calls.{Opening, Call, close}
use Rattle.landlord.specs.CallNumbers.{call_from, call_at, calls_of}
use Rattle.cache_open.specs.Opening.{OpenedLent}
use Rattle.cache.specs.Contract.{Kind, lent, Answers}
use Rattle.cache_run.specs.Season.{Follows, none, then, RanLent}
use Rattle.cache.proofs.Calls.{answers_called}
use Rattle.cache_run.specs.Inner.{RanCalls}
use Rattle.cache_run.proofs.Season.{season_lent}

-- ---- the numbers, seven to a call

-- number j of the i-th seven
seven_at : (k i j at : ℕ) (xs : List ℕ) → i < k → j < 7 → 7 * i + j ≡ at → get_or (get_or (first_chunks 7 k xs) i []) j 0 ≡ get_or xs at 0
seven_at zero i j at xs l b e = absurd (omega arith)
seven_at (suc k) zero j at xs l b e = get_or-take 7 xs j 0 b ∙ ap (λ (m : ℕ). get_or xs m 0) (let z : j ≡ at = omega arith in z)
seven_at (suc k) (suc i) j at xs l b e =
    seven_at k i j (7 * i + j) (drop 7 xs) (omega arith) b refl
    ∙ get_or-drop 7 xs (7 * i + j) 0
    ∙ ap (λ (m : ℕ). get_or xs m 0) (let z : 7 + (7 * i + j) ≡ at = omega arith in z)

-- the i-th seven is call i
pub call_seven : (xs : List ℕ) (i : ℕ) → i < length xs / 7 → get_or (calls_of xs) i close ≡ call_at (get_or (first_chunks 7 (length xs / 7) xs) i []) 0
call_seven xs i l = call_is xs i (7 * i) l refl ∙ sym same
  where
    at : (j : ℕ) → j < 7 → get_or (get_or (first_chunks 7 (length xs / 7) xs) i []) j 0 ≡ get_or xs (7 * i + j) 0
    at j b = seven_at (length xs / 7) i j (7 * i + j) xs l b refl

    same : call_at (get_or (first_chunks 7 (length xs / 7) xs) i []) 0 ≡ call_at xs (7 * i)
    same = λ z.
        call_from (seven_at (length xs / 7) i 0 (7 * i) xs l (omega arith) (omega arith) z)
        (numbers_from (at 1 (omega arith) z) (at 2 (omega arith) z) (at 3 (omega arith) z) (at 4 (omega arith) z) (at 5 (omega arith) z) (at 6 (omega arith) z))

-- storing a run of values and one more
sets_more : (l vs : List ℕ) (at v : ℕ) → sets l at (vs ++ (v ∷ [])) ≡ set (sets l at vs) (at + length vs) v
sets_more l [] at v = ap (λ (n : ℕ). set l n v) (let e : at ≡ at + 0 = omega arith in e)
sets_more l (w ∷ vs) at v = sets_more (set l at w) vs (suc at) v ∙ ap (λ (n : ℕ). set (sets (set l at w) (suc at) vs) n v) (let e : suc at + length vs ≡ at + suc (length vs) = omega arith in e)

-- after i calls: the state is valid, what is left to do from here leads to the answers from the start, and those so far are
-- noted
pub record CallsGoing {C : Type 0} (kind : Kind C) (c : C) (calls : List Call) (before : List ℕ) (i : ℕ) (q : C) (out : List ℕ) : Type 0 where
  pub valid : kind.Valid q
  pub numbers : List ℕ
  pub count : length numbers ≡ i
  pub goes : (rest : List ℕ) (d : C) → Follows kind q (drop i calls) rest d → Follows kind c calls (numbers ++ rest) d
  pub noted : out ≡ sets before 0 numbers

pub going_starts : {C : Type 0} (kind : Kind C) (c : C) (calls : List Call) (before : List ℕ) → kind.Valid c → CallsGoing kind c calls before 0 c before
going_starts kind c calls before ok = record { valid = ok; numbers = []; count = refl; goes = λ rest d f. f; noted = refl }

pub going_on :
    {C : Type 0} (kind : Kind C) (c q r : C) (calls : List Call) (before out after : List ℕ) (i : ℕ) (call : Call) (number : ℕ) →
    i < length calls →
    get_or calls i close ≡ call →
    Answers kind q call number r →
    after ≡ set out i number →
    CallsGoing kind c calls before i q out →
    CallsGoing kind c calls before (i + 1) r after
going_on {C = C} kind c q r calls before out after i call number l e h noted g =
    record {
      valid = h.valid;
      numbers = g.numbers ++ (number ∷ []);
      count = length-append g.numbers (number ∷ []) ∙ (let z : length g.numbers + 1 ≡ i + 1 = omega (arith, g.count) in z);
      goes = λ rest d f. subst (λ (z : List ℕ). Follows kind c calls z d) (sym (append_snoc g.numbers number rest)) (g.goes (number ∷ rest) d (steps rest d f));
      noted = noted ∙ ap (λ (z : List ℕ). set z i number) g.noted ∙ ap (λ (n : ℕ). set (sets before 0 g.numbers) n number) (let z : i ≡ 0 + length g.numbers = omega (arith, g.count) in z) ∙ sym (sets_more before g.numbers 0 number);
    }
  where
    ahead : drop i calls ≡ call ∷ drop (i + 1) calls
    ahead = drop-cons calls i close l ∙ (λ z. e z ∷ drop (sym (add-one i) z) calls)

    steps : (rest : List ℕ) (d : C) → Follows kind r (drop (i + 1) calls) rest d → Follows kind q (drop i calls) (number ∷ rest) d
    steps rest d f = subst (λ (z : List Call). Follows kind q z (number ∷ rest) d) (sym ahead) (then (answers_called kind q r call number g.valid h) f)

pub going_ends : {C : Type 0} (kind : Kind C) (c q : C) (calls : List Call) (before out : List ℕ) (i : ℕ) → length calls ≤ i → CallsGoing kind c calls before i q out → RanCalls kind c calls before out q
going_ends kind c q calls before out i l g =
    record {
      numbers = g.numbers ++ [];
      follows = g.goes [] q (subst (λ (z : List Call). Follows kind q z [] q) (sym (drop_of_length-le calls l)) none);
      noted = g.noted ∙ ap (sets before 0) (sym (append-nil g.numbers));
    }

-- the whole list from an opening that was accepted, of which the season theorem holds
pub run_taken :
    (b first : List ℕ) (o : Opening (List ℕ)) (calls : List Call) (before after last : List ℕ) →
    OpenedLent b o 0 first →
    RanCalls lent first calls before after last →
    RanLent b o calls before after 0 last
run_taken b first o calls before after last h ran =
    record {
      answer = h.answer;
      refused = λ z. absurd (z refl);
      numbers = ran.numbers;
      season = λ z. (season_lent o calls ran.numbers last (record { before = b; first = first; opening = h; follows = ran.follows }), ran.noted);
    }
