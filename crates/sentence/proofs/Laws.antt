-- The laws by which the functions of `sentence` are proved: the table of words, a text written in parts, a text taken apart. What holds of
-- every word of the table is a test that is computed over its numbers, and one law for all such tests (`in_rows`). Assumes nothing.
use mathlib.Core.Path.{◌≡◌, refl, sym, ap, ◌∙◌}
use mathlib.Core.Bool.{Bool, true, false, cond, not, ◌&&◌, ◌||◌, and-eq-true_iff, false≢true}
use mathlib.Core.List.{List, [], ◌∷◌, ◌++◌, append_assoc, append-nil}
use mathlib.Core.Logic.{⊎_elim}
use Prim.Native.Nat.{ℕ, zero, suc, ◌+◌, ◌-◌, ◌≤◌, ◌<◌}
use Prim.Native.String.{String}
use native.Mathlib.Numerals.{add-one}
use native.Mathlib.Omega.{arith}
use borrow.Author.Tests.{leb-true, eqb-true, eqb-false, le-leb, eq-eqb, ne_eqb, not-true}
use lib.Dec.{leb, ltb, eqb}
use lib.ListN.{length, get_or, take, drop, length-append, take-append-drop, get_or-eq_default}
use lib.Seq.{take_at, drop_at, take_all}
use Rattle.std.specs.List.{position_or_len}
use Rattle.std.proofs.lemmas.Bool.{cases_lt}
use Rattle.std.proofs.lemmas.Bool.Decides.{nat_tests}
use Rattle.std.proofs.Common.{drop-cons, Option, Some, None, MatchOption, SomeIff, unwrap_or}
use Rattle.decimal.specs.Decimal.{text_of, same_text, digits_of, all_digits}
use Rattle.decimal.specs.InnerPages.{text_over, labelled}
use Rattle.decimal.proofs.Laws.{digits_all, digits_length}
use Rattle.decimal.proofs.Texts.{same_true}
use Rattle.decimal.proofs.Pages.{TextGoing, go_first}
use Rattle.types.specs.Types.{names_item}
use Rattle.basis.proofs.Tables.{every, every_at}
use Rattle.sentence.specs.Sentences.{words, word_of, in_table, line_part, item_part, sentence_of, longest_sentence}
use Rattle.sentence.specs.InnerSentences.{in_one_text, start_of, WordAt, is_stop, piece_of, place_of}
use Rattle.std.proofs.lemmas.Grind.{common_steps}

-- ## Tests

-- one of two tests passes, and it is not the first
the_other : (a b : Bool) → (a || b) ≡ true → a ≡ false → b ≡ true
the_other a b h e = grind (arith, common_steps)

-- ## The table

pub word_none : (n : ℕ) → 28 ≤ n → word_of n ≡ []
unfolding word_of
word_none n h = ap text_of (get_or-eq_default words "" {n = n} h)

pub no_row : (n : ℕ) → 28 ≤ n → in_table n ≡ false
unfolding in_table
no_row n h = rw (word_none n h)

-- a number of the table is below 28
row_below : (n : ℕ) → in_table n ≡ true → n < 28
row_below n t = ⊎_elim (λ l. l) (λ l. absurd (false≢true (sym (no_row n l) ∙ t))) (cases_lt n 28)

-- a test that passes at each number below 28, by computing it, and past them, where there is no word, passes for every number
in_rows : (f : ℕ → Bool) → every f 28 ≡ true → ((n : ℕ) → 28 ≤ n → f n ≡ true) → (n : ℕ) → f n ≡ true
in_rows f t past n = ⊎_elim (every_at f 28 t n) (past n) (cases_lt n 28)

-- 0, 23 and the numbers from 28 on have no row
pub row_none : (n : ℕ) → ((n ≡ 0 → ⊥) → (n ≡ 23 → ⊥) → 28 ≤ n) → false ≡ in_table n
unfolding in_table word_of
row_none n h = go (eqb n 0) refl (eqb n 23) refl
  where
    go : (a : Bool) → eqb n 0 ≡ a → (b : Bool) → eqb n 23 ≡ b → false ≡ in_table n
    go true e b f = sym (ap in_table (eqb-true n 0 e))
    go false e true f = sym (ap in_table (eqb-true n 23 f))
    go false e false f = sym (no_row n (h (eqb-false n 0 e) (eqb-false n 23 f)))

-- the others have one
pub row_law : (n : ℕ) → (n ≡ 0 → ⊥) → (n ≡ 23 → ⊥) → n < 28 → true ≡ in_table n
unfolding in_table word_of
row_law n h k l =
    let t = every_at (λ m. (eqb m 0 || eqb m 23) || in_table m) 28 refl n l in
    let e : (eqb n 0 || eqb n 23) ≡ false = rw (ne_eqb n 0 h) (ne_eqb n 23 k) in
    sym (the_other _ (in_table n) t e)

-- a word has no comma and no full stop
unfoldable pub plain : List ℕ → Bool
plain [] = true
plain (b ∷ s) = not (is_stop b) && plain s

pub word_plain : (n : ℕ) → plain (word_of n) ≡ true
unfolding plain word_of
word_plain = in_rows (λ n. plain (word_of n)) refl (λ n h. ap plain (word_none n h))

-- the words differ: each is found at its own number
pub place_word : (n : ℕ) → in_table n ≡ true → place_of words (word_of n) ≡ n
unfolding place_of same_text in_table word_of
place_word n t =
    let found = every_at (λ m. not (in_table m) || eqb (place_of words (word_of m)) m) 28 refl n (row_below n t) in
    eqb-true _ n (the_other (not (in_table n)) _ found (rw t))

-- a word that stands before a sail has at most 11 letters, any other at most 28
word_size : (n : ℕ) → length (word_of n) ≤ cond (names_item n) 11 28
unfolding word_of
word_size n =
    leb-true _ _
    (in_rows (λ m. leb (length (word_of m)) (cond (names_item m) 11 28)) refl
    (λ m h. rw (word_none m h) (le-leb 0 (cond (names_item m) 11 28) (omega arith)))
    n)

-- ## The words as one text

-- past the last of them there is nothing more
pub start_past : (n : ℕ) → 28 ≤ n → 224 ≡ start_of n
unfolding start_of in_one_text
start_past n h = rw (take_all n words h)

-- the words before a word, the word, and those behind it
parted : (table : List String) (n : ℕ) → in_one_text table ≡ in_one_text (take n table) ++ (text_of (get_or table n "") ++ in_one_text (drop (suc n) table))
unfolding in_one_text
parted [] zero = refl
parted [] (suc n) = refl
parted (w ∷ rest) zero = refl
parted (w ∷ rest) (suc n) = ap (λ (l : List ℕ). text_of w ++ l) (parted rest n) ∙ sym (append_assoc (text_of w) (in_one_text (take n rest)) _)

parted_next : (table : List String) (n : ℕ) → in_one_text (take (suc n) table) ≡ in_one_text (take n table) ++ text_of (get_or table n "")
unfolding in_one_text
parted_next [] zero = refl
parted_next [] (suc n) = refl
parted_next (w ∷ rest) zero = append-nil (text_of w)
parted_next (w ∷ rest) (suc n) = ap (λ (l : List ℕ). text_of w ++ l) (parted_next rest n) ∙ sym (append_assoc (text_of w) (in_one_text (take n rest)) _)

-- a word stands from its own start to the next one's
pub word_at : (n a e : ℕ) → a ≡ start_of n → e ≡ start_of (n + 1) → WordAt n a e
unfolding start_of in_one_text word_of
word_at n a e p q =
    let front = in_one_text (take n words) in
    let back = in_one_text (drop (suc n) words) in
    let all : in_one_text words ≡ front ++ (word_of n ++ back) = parted words n in
    let next : e ≡ length front + length (word_of n) =
    (rw add-one at q) ∙ ap length (parted_next words n) ∙ length-append front (word_of n) in
    let whole : 224 ≡ length front + (length (word_of n) + length back) =
    ap length all ∙ length-append front (word_of n ++ back) ∙ ap (λ (k : ℕ). length front + k) (length-append (word_of n) back) in
    let size : e - a ≡ length (word_of n) = omega arith in
    let here : drop a (in_one_text words) ≡ word_of n ++ back = ap (drop a) all ∙ drop_at front (word_of n ++ back) a (sym p) in
    record {
      grows = omega arith;
      within = omega arith;
      size = size;
      text = ap (take (e - a)) here ∙ take_at (word_of n) back (e - a) (sym size);
    }

-- ## The parts of a sentence, and their lengths

pub line_none : (line : ℕ) → line ≡ 0 → line_part line ≡ []
unfolding line_part
line_none line h = rw (eq-eqb line 0 h)

pub line_told : (line : ℕ) → (line ≡ 0 → ⊥) → line_part line ≡ labelled (text_of ", line ") line
unfolding line_part
line_told line h = rw (ne_eqb line 0 h)

pub item_none : (number item : ℕ) → names_item number ≡ false → item_part number item ≡ []
unfolding item_part
item_none number item h = rw h

pub item_told_lem : (number item : ℕ) → names_item number ≡ true → item_part number item ≡ labelled (text_of ", sail ") item
unfolding item_part
item_told_lem number item h = rw h

-- a part that tells a number: its label's 7 bytes and the digits
pub line_count : (line : ℕ) → (line ≡ 0 → ⊥) → 7 + length (digits_of line) ≡ length (line_part line)
line_count line h = rw (line_told line h) (sym (length-append (text_of ", line ") (digits_of line)))

pub item_count_lem : (number item : ℕ) → names_item number ≡ true → 7 + length (digits_of item) ≡ length (item_part number item)
item_count_lem number item h = rw (item_told_lem number item h) (sym (length-append (text_of ", sail ") (digits_of item)))

-- a number of 32 bits has at most 10 digits
pub digits_ten : (v : ℕ) → v ≤ 4294967295 → length (digits_of v) ≤ 10
digits_ten v h = digits_length v 10 (omega arith) (omega arith)

pub line_size : (line : ℕ) → line ≤ 4294967295 → length (line_part line) ≤ 17
line_size line h = grind (arith, line_none line, line_count line, digits_ten line)

-- word and sail together
word_item_size : (n i : ℕ) → i ≤ 4294967295 → length (word_of n) + length (item_part n i) ≤ 28
word_item_size n i h = grind (arith, word_size, item_none, item_count_lem, digits_ten)

-- the bytes of a sentence, part by part
pub sentence_count :
    (n l i : ℕ) → length (sentence_of n l i) ≡ length (word_of n) + length (line_part l) + length (item_part n i) + 2
unfolding sentence_of
sentence_count n l i = grind (arith, common_steps)

pub parts_size :
    (n l i : ℕ) → l ≤ 4294967295 → i ≤ 4294967295 → length (word_of n) + length (line_part l) + length (item_part n i) + 2 ≤ longest_sentence
parts_size n l i h k = omega (arith, line_size l h, word_item_size n i k)

pub word_few : (n : ℕ) → length (word_of n) ≤ 28
word_few n = grind (arith, word_size n)

pub item_size : (n i : ℕ) → i ≤ 4294967295 → length (item_part n i) ≤ 28
item_size n i h = omega (arith, word_item_size n i h)

-- what one needs of them
pub ruleset sizes = (sentence_count, word_few, line_size, item_size)

pub ruleset parts = (line_none, line_told, line_count, item_none, item_told_lem, item_count_lem, digits_ten)

-- ## A text written in parts, each into the rest of the page

-- the word is put, and the others are left
pub word_put :
    (n l i : ℕ) (before : List ℕ) {word page : List ℕ} {a : ℕ} →
    length (sentence_of n l i) ≤ length before →
    word ≡ word_of n →
    a ≡ length word →
    page ≡ text_over word before →
    TextGoing (sentence_of n l i) before a (line_part l ++ (item_part n i ++ text_of ".\n")) page
unfolding sentence_of
word_put n l i before room w e p =
    go_first (word_of n) _ before room (e ∙ ap length w) (p ∙ ap (λ (t : List ℕ). text_over t before) w)

-- ## A text taken apart

-- a piece ends at the first comma or full stop
piece_length : (s : List ℕ) → length (piece_of s) ≡ position_or_len is_stop s
unfolding piece_of
piece_length [] = refl
piece_length (b ∷ s) = go (is_stop b) (piece_length s)
  where
    go : (t : Bool) → length (piece_of s) ≡ position_or_len is_stop s → length (cond t [] (b ∷ piece_of s)) ≡ cond (not t) (1 + position_or_len is_stop s) 0
    go true e = refl
    go false e = omega (arith, e)

pub take_piece : (s : List ℕ) → take (length (piece_of s)) s ≡ piece_of s
unfolding piece_of
take_piece [] = refl
take_piece (b ∷ s) = go (is_stop b) (take_piece s)
  where
    go : (t : Bool) → take (length (piece_of s)) s ≡ piece_of s → take (length (cond t [] (b ∷ piece_of s))) (b ∷ s) ≡ cond t [] (b ∷ piece_of s)
    go true e = refl
    go false e = ap (λ (l : List ℕ). b ∷ l) e

-- a text is its piece and what stands behind it
pub piece_front : (s : List ℕ) → s ≡ piece_of s ++ drop (length (piece_of s)) s
piece_front s = sym (take-append-drop (length (piece_of s)) s) ∙ ap (λ (l : List ℕ). l ++ drop (length (piece_of s)) s) (take_piece s)

pub piece_fits : (s : List ℕ) → length (piece_of s) ≤ length s
piece_fits s = omega (arith, ap length (piece_front s), length-append (piece_of s) (drop (length (piece_of s)) s))

-- where the first comma or full stop is found, or nowhere
pub piece_found :
    (s : List ℕ) (r : Option ℕ) →
    r ≡ cond (ltb (position_or_len is_stop s) (length s)) (Some (position_or_len is_stop s)) None →
    unwrap_or r (length s) ≡ length (piece_of s)
piece_found s r e = grind (arith, nat_tests, piece_length s, piece_fits s)

-- a word or a number, and behind it a comma or a full stop
pub piece_plain : (w r : List ℕ) → plain w ≡ true → piece_of (w ++ r) ≡ w ++ piece_of r
unfolding plain piece_of
piece_plain [] r h = refl
piece_plain (b ∷ w) r h =
    let p = (and-eq-true_iff (not (is_stop b)) (plain w)).0 h in
    rw (not-true (is_stop b) p.0) (ap (λ (l : List ℕ). b ∷ l) (piece_plain w r p.1))

digits_plain : (s : List ℕ) → all_digits s ≡ true → plain s ≡ true
unfolding plain all_digits
digits_plain [] h = refl
digits_plain (b ∷ s) h =
    let p = (and-eq-true_iff (leb 48 b && leb b 57) (all_digits s)).0 h in
    let q = leb-true 48 b ((and-eq-true_iff (leb 48 b) (leb b 57)).0 p.0).0 in
    rw (ne_eqb b 44 (λ e. omega arith), ne_eqb b 46 (λ e. omega arith)) (digits_plain s p.1)

pub number_plain : (v : ℕ) → plain (digits_of v) ≡ true
number_plain v = digits_plain (digits_of v) (digits_all v)

-- ## A word looked up

abbrev Is : List String → List ℕ → ℕ → Type 0
Is table w n = same_text (text_of (get_or table n "")) w ≡ true

abbrev Not : List String → List ℕ → ℕ → Type 0
Not table w n = same_text (text_of (get_or table n "")) w ≡ false

-- the place of a word is where it is found first
place_first : (table : List String) (w : List ℕ) (n : ℕ) → n < length table → Is table w n → ((k : ℕ) → k < n → Not table w k) → place_of table w ≡ n
unfolding place_of
place_first [] w n h e f = absurd (omega arith)
place_first (t ∷ rest) w zero h e f = rw e
place_first (t ∷ rest) w (suc n) h e f = rw (f 0 (omega arith)) (ap suc (place_first rest w n (omega arith) e (λ k l. f (suc k) (omega arith))))

-- or past the table, if it is found nowhere
place_nowhere : (table : List String) (w : List ℕ) → ((k : ℕ) → k < length table → Not table w k) → place_of table w ≡ length table
unfolding place_of
place_nowhere [] w f = refl
place_nowhere (t ∷ rest) w f = rw (f 0 (omega arith)) (ap suc (place_nowhere rest w (λ k l. f (suc k) (omega arith))))

abbrev pub IsWord : List ℕ → ℕ → Type 0
IsWord w n = same_text (word_of n) w ≡ true

abbrev pub OtherWord : List ℕ → ℕ → Type 0
OtherWord w n = same_text (word_of n) w ≡ false

-- what looking through the table finds
pub place_sought :
    (w : List ℕ) (r : Option ℕ) →
    MatchOption r ((k : ℕ) → 0 ≤ k → k < 28 → OtherWord w k) (λ i. (0 ≤ i) × (i < 28) × IsWord w i × ((k : ℕ) → 0 ≤ k → k < i → OtherWord w k)) →
    SomeIff r (place_of words w < 28) (place_of words w)
unfolding word_of
place_sought w None f = λ h. omega (arith, place_nowhere words w (λ k l. f k (omega arith) l))
place_sought w (Some i) f =
    let p = place_first words w i f.1 f.2 (λ k l. f.3 k (omega arith) l) in
    (omega (arith, f.1), sym p)

-- a word that is found is the word looked for
place_right : (table : List String) (w : List ℕ) → place_of table w < length table → text_of (get_or table (place_of table w) "") ≡ w
unfolding place_of
place_right [] w h = absurd (omega arith)
place_right (t ∷ rest) w h = go (same_text (text_of t) w) refl h (place_right rest w)
  where
    go :
        (b : Bool) → same_text (text_of t) w ≡ b →
        cond b 0 (suc (place_of rest w)) < suc (length rest) →
        (place_of rest w < length rest → text_of (get_or rest (place_of rest w) "") ≡ w) →
        text_of (get_or (t ∷ rest) (cond b 0 (suc (place_of rest w))) "") ≡ w
    go true e k ih = same_true (text_of t) w e
    go false e k ih = ih (omega arith)

pub place_found : (w : List ℕ) → in_table (place_of words w) ≡ true → w ≡ word_of (place_of words w)
unfolding word_of
place_found w t = sym (place_right words w (row_below (place_of words w) t))
