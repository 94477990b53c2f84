-- Laws of what a line leaves as it was: nothing but the place behind what has been noted is written. Assumes nothing.
use mathlib.Core.Path.{◌≡◌, sym, ap, subst, ◌∙◌}
use mathlib.Core.List.{List}
use Prim.Native.Nat.{ℕ, ◌+◌, ◌*◌, ◌-◌, ◌≤◌}
use native.Mathlib.Omega.{arith}
use lib.ListN.{drop}
use lib.Seq.{drop-drop}
use Rattle.season_tables.specs.declared.Seen.{Seen}
use Rattle.season_tables.specs.Inner.{Untouched}

-- further on, what was as it was still is
later : (m k : ℕ) (before after : List ℕ) → m ≤ k → drop m after ≡ drop m before → drop k after ≡ drop k before
later m k before after h e =
    let i : m + (k - m) ≡ k = omega arith in
    subst (λ (z : ℕ). drop z after ≡ drop z before) i
    (sym (drop-drop (k - m) m after) ∙ ap (drop (k - m)) e ∙ drop-drop (k - m) m before)

-- two lines in turn
pub untouched_later :
    (q p : Seen) (catalog calls acts catalog₁ calls₁ acts₁ catalog₂ calls₂ acts₂ : List ℕ) →
    Untouched q catalog calls acts catalog₁ calls₁ acts₁ →
    Untouched p catalog₁ calls₁ acts₁ catalog₂ calls₂ acts₂ →
    q.present.n ≤ p.present.n →
    q.steps ≤ p.steps →
    q.acts ≤ p.acts →
    Untouched p catalog calls acts catalog₂ calls₂ acts₂
untouched_later q p catalog calls acts catalog₁ calls₁ acts₁ catalog₂ calls₂ acts₂ f g n s a =
    record {
      past_items = g.past_items ∙ later (5 * q.present.n) (5 * p.present.n) catalog catalog₁ (omega arith) f.past_items;
      past_steps = g.past_steps ∙ later (7 * q.steps) (7 * p.steps) calls calls₁ (omega arith) f.past_steps;
      past_acts = g.past_acts ∙ later (3 * q.acts) (3 * p.acts) acts acts₁ (omega arith) f.past_acts;
    }
