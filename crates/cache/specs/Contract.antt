-- What a call promises, of any kind of state: `Called`, which the contracts and the season theorem both cite. What an opening promises stands
-- in crates/cache_open/specs/Opening.antt. Assumes nothing.
use mathlib.Core.{Path.{◌≡◌, refl}, Logic.◌≢◌, List.List}
use Rattle.std.specs.Prelude.{ℕ}
use Rattle.landlord.specs.{Figures.Standing, Calls.{Call, refusal_now, after}}
use Rattle.queue.specs.Machine.{LazyStanding, standing, after_in}
use Rattle.cache_state.specs.Cache.{lazy, view}
use Rattle.layout.specs.Layout.{cache_of, ValidBytes}

-- A kind of state: where the lazy form stands in one; where the rule stands, which is what the lazy form stands for; and which are valid.
pub record Kind (C : Type 0) : Type 1 where
  pub lazy : C → LazyStanding
  pub view : C → Standing
  pub same : (c : C) → view c ≡ standing (lazy c)
  pub Valid : C → Type 0

-- the bytes that a caller lends
abbrev pub lent : Kind (List ℕ)
lent = record { lazy = λ b. lazy (cache_of b); view = λ b. view (cache_of b); same = λ b. refl; Valid = ValidBytes }

-- A call on a valid state: the number that the table gives; a valid state where the rule stands after the call, with level, keys and stored
-- credits as the lazy form has them; and, refused, the state that was handed in. What is left open is how the heap is arranged, and that
-- alone: for each arrangement there is only one such list of bytes (proofs/Tells.antt).
pub record Answers {C : Type 0} (kind : Kind C) (c : C) (call : Call) (number : ℕ) (d : C) : Type 0 where
  pub answer : number ≡ refusal_now (kind.view c) call
  pub valid : kind.Valid d
  pub stands : kind.view d ≡ after (kind.view c) call
  pub lazy : kind.lazy d ≡ after_in (kind.lazy c) call
  pub refused : number ≢ 0 → d ≡ c

-- a call on any state: an invalid one is refused with 17 and left as it is
pub record Called {C : Type 0} (kind : Kind C) (c : C) (call : Call) (number : ℕ) (d : C) : Type 0 where
  pub fine : kind.Valid c → Answers kind c call number d
  pub invalid : (kind.Valid c → ⊥) → (number ≡ 17) × (d ≡ c)
