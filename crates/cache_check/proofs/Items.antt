-- A chain that tests each item: `(0..n).all(..)`. Assumes nothing.
use Rattle.std.proofs.Common.{◌≡◌, refl, ℕ, ◌+◌, ◌<◌, Bool, true, false, List, length, get_or, Option, sym, ◌∙◌, subst, arith}
use Rattle.std.proofs.iter.Yields.{nat_range_steps}
use Rattle.std.proofs.lemmas.Iterator.{YieldsList-from_range, cases_from_all}
use Rattle.std.proofs.lemmas.List.FromFn.{length-range_with_len, get_or-range_with_len}
use Rattle.std.specs.Bool.{MatchBool}
use Rattle.std.specs.Fn.{Called}
use Rattle.std.specs.Iterator.{YieldsThen}
use Rattle.std.specs.List.{FoldsTo, AllWithin, HoldsAt, range_with_len}
use Rattle.std.specs.Option.{MatchOption}
use Rattle.std.specs.declared.ops.Range.{Range}
use denote.Param.Members.{Mut}
use Rattle.basis.specs.InnerDecided.{Decided}
use Rattle.basis.proofs.Decides.{no, sure}

-- where each call decides a statement on its number, the whole decides that it holds of every number below n
pub all_below :
    {F : Type 0} {g : Mut F (ℕ × Unit {0}) Bool} {s : Range ℕ} (u : Range ℕ) (f : F) (n : ℕ) (r : Bool) (P : ℕ → Type 0) →
    s ≡ record { start = 0; end = n } →
    (xs : List ℕ) × (o : Option ℕ) × (j : F) × YieldsThen nat_range_steps s xs o u × FoldsTo (λ p x q. Called g p (x, tt) true q) f xs j × MatchOption o (r ≡ true) (λ x. (r ≡ false) × ((h : F) × Called g j (x, tt) false h)) →
    ((x : ℕ) (b : Bool) (q : F) → Called g f (x, tt) b q → (q ≡ f) × Decided (P x) b) →
    Decided ((i : ℕ) → i < n → P i) r
all_below {F} {g} u f n r P e ran each =
    go r
    (cases_from_all u f r P (λ x. P x → ⊥) ran (YieldsList-from_range 0 n n e (omega arith))
    (λ x q k. let d = each x true q k in (d.0, d.1.yes refl)) (λ x q k p. let e : false ≡ true = (each x false q k).1.only p in cc))
  where
    at : (i d : ℕ) → i < n → get_or (range_with_len 0 n) i d ≡ i
    at i d l = get_or-range_with_len 0 n i d l ∙ (let z : 0 + i ≡ i = omega arith in z)

    go : (r : Bool) → MatchBool r (AllWithin P (range_with_len 0 n) 0 (length (range_with_len 0 n))) ((k : ℕ) × (k < length (range_with_len 0 n)) × HoldsAt (λ x. P x → ⊥) (range_with_len 0 n) k) → Decided ((i : ℕ) → i < n → P i) r
    go true h = sure (λ i l. subst P (at i 0 l) (h i 0 (omega arith) (omega (arith, length-range_with_len 0 n))))
    go false h = no (λ q. let l : h.0 < n = omega (arith, h.1, length-range_with_len 0 n) in h.2 0 (subst P (sym (at h.0 0 l)) (q h.0 l)))
