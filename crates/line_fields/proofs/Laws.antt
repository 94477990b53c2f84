-- The laws that the proofs of the functions cite: two tests in one, and where the first b of some bytes stands. Those that a scan over
-- lines and fields cites are in proofs/Pieces.antt. Assumes nothing.
use mathlib.Core.Path.{◌≡◌, refl}
use mathlib.Core.Bool.{Bool, true, not, ◌&&◌, and-eq-true_iff}
use mathlib.Core.List.{List}
use Prim.Native.Nat.{ℕ}
use native.Mathlib.Omega.{arith}
use lib.Dec.{eqb}
use lib.ListN.{length}
use Rattle.std.specs.List.{position, position_or_len}
use Rattle.std.specs.Option.{unwrap_or}
use Rattle.std.proofs.lemmas.List.Recursion.{is_position_or_len}
use Rattle.std.proofs.lemmas.List.Sums.{prefix_len-le-length}
use Rattle.line_fields.specs.Inner.{before}

pub and_parts : (p q : Bool) → (p && q) ≡ true → (p ≡ true) × (q ≡ true)
and_parts p q = (and-eq-true_iff p q).0

-- the place of the first b, or the end: as many bytes stand before it
pub before_first : (b : ℕ) (s : List ℕ) → unwrap_or (position (λ x. eqb x b) s) (length s) ≡ length (before b s)
unfolding before
before_first b s = grind (arith, before_is s, prefix_len-le-length (λ x. not (eqb x b)) s)
  where
    before_is : (s : List ℕ) → length (before b s) ≡ position_or_len (λ x. eqb x b) s
    before_is = is_position_or_len (λ s. length (before b s)) (λ x. eqb x b) refl (λ x s. grind arith)
