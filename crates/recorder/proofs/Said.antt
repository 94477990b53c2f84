-- Laws of the exported sentence: a number of no row, a page that is too short, and a sentence on the page. Assumes nothing.
use mathlib.Core.Path.{◌≡◌, refl, sym, ap, ◌∙◌}
use mathlib.Core.Bool.{Bool, true, false, cond, false≢true}
use mathlib.Core.List.{List}
use Prim.Native.Nat.{ℕ, ◌≤◌}
use native.Mathlib.Omega.{arith}
use lib.ListN.{length}
use Rattle.decimal.specs.Decimal.{fits, wrote_of, page_of}
use Rattle.sentence.specs.Sentences.{in_table, sentence_of}
use Rattle.sentence.proofs.Sentences.{sentence_some}
use Rattle.recorder.specs.Reports.{SaidLent}

-- a count of bytes that is 0 tells a short page, any other a page with room
none_wrote : (b : Bool) {w n : ℕ} → w ≡ cond b n 0 → 2 ≤ n → w ≡ 0 → b ≡ false
none_wrote true e some z = absurd (omega (arith, e, some, z))
none_wrote false e some z = refl

all_wrote : (b : Bool) (n : ℕ) {w : ℕ} → w ≡ cond b n 0 → (w ≡ 0 → ⊥) → b ≡ true
all_wrote true n e z = refl
all_wrote false n e z = absurd (z e)

module _ (number line item : ℕ) (before : List ℕ) (was : ℕ) where
  pub said_none : in_table number ≡ false → SaidLent number line item before was 3 before was
  said_none e = record { row = λ t. absurd (false≢true (sym e ∙ t)); none = λ t. (refl, refl, refl) }

  module _ (e : in_table number ≡ true) (w : ℕ) (after : List ℕ) (n : w ≡ wrote_of (sentence_of number line item) before) (p : after ≡ page_of (sentence_of number line item) before) where
    pub said_short : w ≡ 0 → SaidLent number line item before was 15 after was
    unfolding wrote_of
    said_short z =
        let short = none_wrote (fits (sentence_of number line item) before) n (sentence_some number line item) z in
        record {
          row = λ _.
              record {
                answer = ap (λ (b : Bool). cond b 0 15) (sym short);
                page = p;
                size = ap (λ (b : Bool). cond b (length (sentence_of number line item)) was) (sym short);
              };
          none = λ f. absurd (false≢true (sym f ∙ e));
        }

    pub said_whole : (w ≡ 0 → ⊥) → SaidLent number line item before was 0 after w
    unfolding wrote_of
    said_whole z =
        let room = all_wrote (fits (sentence_of number line item) before) (length (sentence_of number line item)) n z in
        record {
          row = λ _.
              record {
                answer = ap (λ (b : Bool). cond b 0 15) (sym room);
                page = p;
                size =
                    n ∙ ap (λ (b : Bool). cond b (length (sentence_of number line item)) 0) room
                    ∙ ap (λ (b : Bool). cond b (length (sentence_of number line item)) was) (sym room);
              };
          none = λ f. absurd (false≢true (sym f ∙ e));
        }
