-- Laws of calls as numbers: call by call, and that what is written is read. Assumes nothing.
use mathlib.Core.Path.{◌≡◌, refl, sym, ap, ◌∙◌}
use mathlib.Core.List.{List, [], ◌∷◌, ◌++◌, map}
use Prim.Native.Nat.{ℕ, zero, suc, ◌+◌, ◌*◌, ◌/◌, ◌<◌}
use native.Mathlib.Omega.{arith}
use lib.ListN.{length, get_or}
use Rattle.types.specs.declared.Step.{Step}
use Rattle.types.specs.declared.Numbers.{Numbers}
use Rattle.types.specs.Types.{numbers_from, numbers_of}
use Rattle.landlord.specs.Fold.{tab_from}
use Rattle.landlord.specs.Calls.{Call, close, call_of}
use Rattle.landlord.specs.CallNumbers.{call_from, call_at, calls_of, call_numbers}
use Rattle.landlord.proofs.Folds.{tab_length, tab_at, tab_of}

pub count_is : (xs : List ℕ) → length (calls_of xs) ≡ length xs / 7
unfolding calls_of
count_is xs = tab_length (length xs / 7) (λ i. call_at xs (7 * i))

-- call i, where the code keeps seven times its number
pub call_is : (xs : List ℕ) (i at : ℕ) → i < length xs / 7 → at ≡ 7 * i → get_or (calls_of xs) i close ≡ call_at xs at
unfolding calls_of
call_is xs i at l e = tab_at (length xs / 7) (λ j. call_at xs (7 * j)) i close l ∙ ap (call_at xs) (sym e)

-- seven numbers are one call more
calls_more : (a : ℕ) (n : Numbers) (xs : List ℕ) → calls_of (a ∷ n.kind ∷ n.item ∷ n.minutes ∷ n.blocks ∷ n.load ∷ n.write ∷ xs) ≡ call_from a n ∷ calls_of xs
unfolding calls_of
calls_more a n xs =
    sym (tab_of (call_from a n ∷ calls_of xs) (length all / 7) (λ i. call_at all (7 * i)) close (ap suc (count_is xs) ∙ (omega arith)) each)
  where
    all : List ℕ
    all = a ∷ n.kind ∷ n.item ∷ n.minutes ∷ n.blocks ∷ n.load ∷ n.write ∷ xs

    behind : (m n : ℕ) → m + 7 ≡ n → get_or xs m 0 ≡ get_or all n 0
    behind m n e = ap (λ (j : ℕ). get_or all j 0) (let z : suc (suc (suc (suc (suc (suc (suc m)))))) ≡ n = omega arith in z)

    each : (i : ℕ) → i < length all / 7 → get_or (call_from a n ∷ calls_of xs) i close ≡ call_at all (7 * i)
    each zero l = refl
    each (suc i) l =
        let at = 7 * i in
        let at' = 7 * suc i in
        call_is xs i at (omega arith) refl
        ∙ (λ z. call_from (behind at at' (omega arith) z)
        (numbers_from (behind (at + 1) (at' + 1) (omega arith) z) (behind (at + 2) (at' + 2) (omega arith) z) (behind (at + 3) (at' + 3) (omega arith) z)
        (behind (at + 4) (at' + 4) (omega arith) z) (behind (at + 5) (at' + 5) (omega arith) z) (behind (at + 6) (at' + 6) (omega arith) z)))

-- the numbers of the steps, and behind them a 1 with six numbers more, are the steps as calls and one closing
pub numbers_close : (steps : List Step) (more : List ℕ) → length more ≡ 6 → calls_of (call_numbers steps ++ (1 ∷ more)) ≡ map call_of steps ++ (close ∷ [])
unfolding calls_of call_numbers tab_from
numbers_close [] more e = rw e
numbers_close (s ∷ steps) more e =
    calls_more 0 (numbers_of s) (call_numbers steps ++ (1 ∷ more))
    ∙ ap (λ (z : List Call). call_of s ∷ z) (numbers_close steps more e)
