-- The laws by which the report and the output of a refused input are proved: how long each is, by its lines, and what an answer promises.
-- Assumes nothing.
use mathlib.Core.Path.{◌≡◌, refl, sym, ap, ◌∙◌}
use mathlib.Core.List.{List, [], ◌∷◌, ◌++◌, append-nil}
use Prim.Native.Nat.{ℕ, ◌+◌, ◌≤◌, ◌<◌}
use native.Mathlib.Omega.{arith}
use borrow.Author.Tests.{le-leb, lt-leb}
use lib.ListN.{length, length-append}
use Rattle.std.specs.Prelude.{Option, Result, Ok, Err}
use Rattle.decimal.specs.InnerPages.{text_over}
use Rattle.decimal.proofs.Pages.{TextGoing, go_first}
use Rattle.decimal.proofs.Laws.{wrote_all, wrote_none, page_all, page_none}
use Rattle.types.specs.declared.Refusal.{Refusal}
use Rattle.types.specs.declared.Refusal.TheVariants.{ShortBuffer}
use Rattle.types.specs.Types.{refusal_number, refusal_line, refusal_item}
use Rattle.sentence.specs.Sentences.{sentence_of}
use Rattle.landlord.specs.Figures.{Standing}
use Rattle.cache_state.specs.Cache.{view}
use Rattle.layout.specs.Layout.{cache_of, ValidBytes}
use Rattle.report_lines.specs.declared.Rival.{Rival}
use Rattle.report_lines.specs.Lines.{line_of, item_lines, total_lines}
use Rattle.report.specs.Report.{report_of, refusal_text, Put, Reported}
use Rattle.report.specs.Inner.{item_names, refusal_names}

-- ## Lengths

pub item_names_count : length item_names ≡ 29
item_names_count = refl

pub refusal_names_count : length refusal_names ≡ 13
refusal_names_count = refl

pub report_count :
    (v : Standing) (rival : Option Rival) →
    length (report_of v rival) ≡ 30 + length (item_lines 0 v.figures.uses) + length (total_lines v rival)
unfolding report_of
report_count v rival =
    omega (
      arith,
      item_names_count,
      length-append item_names (item_lines 0 v.figures.uses ++ (10 ∷ total_lines v rival)),
      length-append (item_lines 0 v.figures.uses) (10 ∷ total_lines v rival),
    )

-- the names are written, and behind them the items' lines, the blank line and the totals are left
pub names_written :
    (v : Standing) (rival : Option Rival) {before after : List ℕ} {w : ℕ} → length (report_of v rival) ≤ length before →
    w ≡ length item_names → after ≡ text_over item_names before →
    TextGoing (report_of v rival) before w (item_lines 0 v.figures.uses ++ ((10 ∷ []) ++ (total_lines v rival ++ []))) after
unfolding report_of
names_written v rival room value page_after =
    rw (append-nil (total_lines v rival)) (go_first item_names _ _ room value page_after)

-- the output of a refusal that tells so much
module _ (r : Refusal) {number line item : ℕ} (n : number ≡ refusal_number r) (l : line ≡ refusal_line r) (i : item ≡ refusal_item r) where
  told_is : refusal_text r ≡ (refusal_names ++ line_of (number ∷ line ∷ [])) ++ (sentence_of number line item ++ [])
  unfolding refusal_text
  told_is = rw (append-nil (sentence_of number line item), n, l, i)

  -- the names and the two numbers, and the sentence behind them
  pub refused_count : length (refusal_text r) ≡ 13 + length (line_of (number ∷ line ∷ [])) + length (sentence_of number line item)
  refused_count =
      let both = line_of (number ∷ line ∷ []) in
      let all = ap length told_is in
      omega (
        arith,
        refusal_names_count,
        length-append refusal_names both,
        length-append (refusal_names ++ both) (sentence_of number line item ++ []),
        length-append (sentence_of number line item) [],
      )

  -- the names and the numbers are written, and the sentence is left
  pub numbers_written :
      {before after : List ℕ} {w : ℕ} → length (refusal_text r) ≤ length before →
      w ≡ length (line_of (number ∷ line ∷ [])) →
      after ≡ text_over (refusal_names ++ line_of (number ∷ line ∷ [])) before →
      TextGoing (refusal_text r) before (13 + w) (sentence_of number line item ++ []) after
  numbers_written room value page_after =
      let both = line_of (number ∷ line ∷ []) in
      rw told_is
      (go_first (refusal_names ++ both) _ _ (rw told_is at room) (omega (arith, refusal_names_count, length-append refusal_names both)) page_after)

-- ## The answer

-- a page that is too short, and one with the text
pub put_short : (t before : List ℕ) → length before < length t → Put t before (Err (ShortBuffer 0)) before
put_short t before h =
    record {
      tells = rw (lt-leb (length t) (length before) h);
      size = sym (wrote_none t before h);
      page = sym (page_none t before h);
    }

pub put_whole :
    (t before after : List ℕ) (n : ℕ) → length t ≤ length before → n ≡ length t → after ≡ text_over t before → Put t before (Ok n) after
put_whole t before after n h l e =
    record {
      tells = rw (le-leb (length t) (length before) h);
      size = l ∙ sym (wrote_all t before h);
      page = e ∙ sym (page_all t before h);
    }

pub fine_told :
    (b : List ℕ) (rival : Option Rival) (before : List ℕ) (r : Result ℕ Refusal) (after : List ℕ) → ValidBytes b →
    Put (report_of (view (cache_of b)) rival) before r after → Reported b rival before r after
fine_told b rival before r after v p = record { fine = λ w. p; invalid = λ f. absurd (f v) }
