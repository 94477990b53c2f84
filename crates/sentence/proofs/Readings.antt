-- What a text is read as (`read_back`) is what it says: the sentence of numbers is read as those numbers (`reading_back`), and a text that is
-- read as numbers is their sentence (`reading_sound`). The other laws say what each function finds. Assumes nothing.
use mathlib.Core.Path.{◌≡◌, refl, sym, ap, subst, ◌∙◌}
use mathlib.Core.Bool.{Bool, true, false, cond}
use mathlib.Core.List.{List, [], ◌++◌, append_assoc, append-nil}
use Prim.Native.Nat.{ℕ, ◌+◌, ◌-◌, ◌≤◌, ◌<◌}
use native.Mathlib.Omega.{arith}
use borrow.Author.Tests.{eqb-true, eqb-false}
use lib.Dec.{eqb}
use lib.ListN.{length, take, drop, length-append, length-drop, take-append-drop}
use lib.Seq.{drop-drop, take_all, take-append_seam, drop-append_seam}
use Rattle.std.specs.Cmp.Lexicographic.{pointwise}
use Rattle.std.proofs.Common.{Option, Some, None, Result, Ok, Err}
use Rattle.std.specs.Result.{result_ok}
use Rattle.decimal.specs.declared.NumberError.{NumberError}
use Rattle.decimal.specs.Decimal.{text_of, same_text, digits_of}
use Rattle.decimal.specs.InnerPages.{labelled}
use Rattle.decimal.specs.InnerReads.{read_of}
use Rattle.decimal.proofs.Laws.{read_digits, read_value}
use Rattle.decimal.proofs.Texts.{same_refl, same_true, same_pointwise, same_comm}
use Rattle.types.specs.Types.{names_item, item_told}
use Rattle.sentence.specs.declared.Part.{Part}
use Rattle.sentence.specs.declared.Sentence.{Sentence}
use Rattle.sentence.specs.Sentences.{words, word_of, in_table, line_part, item_part, sentence_of, Sayable, SaysThat}
use Rattle.sentence.specs.InnerSentences.{piece_of, place_of, saying, told, part_from, part_of, end_of, item_behind, rest_of, line_behind, behind_word, read_back}
use Rattle.sentence.proofs.Laws.{word_plain, no_row, place_word, place_found, line_none, line_told, item_none, item_told_lem, take_piece, piece_front, piece_fits, piece_plain, number_plain}

pub some_one : {T : Type 0} {a b : T} → Some a ≡ Some b → a ≡ b
some_one e = cc

-- ## A number behind its label

module _ (label : List ℕ) (limit : ℕ) (s : List ℕ) where
  part_other : same_text label (take (length label) s) ≡ false → part_of label limit s ≡ None
  unfolding part_of
  part_other h = rw h

  part_read :
      same_text label (take (length label) s) ≡ true →
      (let digits = piece_of (drop (length label) s) in
      part_of label limit s ≡ part_from (length label + length digits) (read_of digits limit))
  unfolding part_of
  part_read h = rw h

  -- what is read as a number behind its label is that number's text
  pub part_is : (v bytes : ℕ) → part_of label limit s ≡ told v bytes → (s ≡ labelled label v ++ drop bytes s) × (v ≤ limit) × (bytes ≤ length s)
  part_is v bytes h = go (same_text label (take (length label) s)) refl
    where
      rest : List ℕ
      rest = drop (length label) s

      found :
          (x : Result ℕ NumberError) → read_of (piece_of rest) limit ≡ x → same_text label (take (length label) s) ≡ true →
          part_from (length label + length (piece_of rest)) x ≡ told v bytes →
          (s ≡ labelled label v ++ drop bytes s) × (v ≤ limit) × (bytes ≤ length s)
      found (Err why) e t q = absurd (cc)
      found (Ok x) e t q =
          let r = read_value (piece_of rest) limit x e in
          let same : x ≡ v = ap (λ (y : Part). y.value) (some_one q) in
          let n : length label + length (piece_of rest) ≡ bytes = ap (λ (y : Part). y.bytes) (some_one q) in
          let front : s ≡ label ++ rest =
          sym (take-append-drop (length label) s) ∙ ap (λ (l : List ℕ). l ++ rest) (sym (same_true label (take (length label) s) t)) in
          let back : rest ≡ digits_of v ++ drop bytes s =
          piece_front rest
          ∙ ap (λ (l : List ℕ). l ++ drop (length (piece_of rest)) rest) (r.0 ∙ ap digits_of same)
          ∙ ap (λ (l : List ℕ). digits_of v ++ l) (drop-drop (length (piece_of rest)) (length label) s ∙ ap (λ (k : ℕ). drop k s) n) in (
            front ∙ ap (λ (l : List ℕ). label ++ l) back ∙ sym (append_assoc label (digits_of v) (drop bytes s)),
            omega (arith, r.1),
            omega (arith, piece_fits rest, ap length front, length-append label rest),
          )

      go :
          (t : Bool) → same_text label (take (length label) s) ≡ t →
          (s ≡ labelled label v ++ drop bytes s) × (v ≤ limit) × (bytes ≤ length s)
      go true e = found (read_of (piece_of rest) limit) refl e (sym (part_read e) ∙ h)
      go false e = let m = part_other e in absurd (cc)

-- a number behind its label is read
part_told :
    (label : List ℕ) (limit v : ℕ) (r : List ℕ) → v ≤ limit → piece_of r ≡ [] →
    part_of label limit (labelled label v ++ r) ≡ told v (length (labelled label v))
unfolding part_of
part_told label limit v r h k =
    let all : labelled label v ++ r ≡ label ++ (digits_of v ++ r) = append_assoc label (digits_of v) r in
    let digits : piece_of (digits_of v ++ r) ≡ digits_of v =
    piece_plain (digits_of v) r (number_plain v) ∙ ap (λ (l : List ℕ). digits_of v ++ l) k ∙ append-nil (digits_of v) in
    rw (all, take-append_seam label (digits_of v ++ r), drop-append_seam label (digits_of v ++ r), same_refl label, digits, read_digits v limit h)
    (ap (told v) (sym (length-append label (digits_of v))))

-- ## A sentence is read as its numbers

-- what stands behind the word, and behind the line, begins with a comma or a full stop, and the sail is not taken for a line
tail_stops : (n i : ℕ) → piece_of (item_part n i ++ text_of ".\n") ≡ []
unfolding piece_of
tail_stops n i = go (names_item n) refl
  where
    go : (t : Bool) → names_item n ≡ t → piece_of (item_part n i ++ text_of ".\n") ≡ []
    go true e = rw (item_told_lem n i e)
    go false e = rw (item_none n i e)

tail_other : (limit n i : ℕ) → part_of (text_of ", line ") limit (item_part n i ++ text_of ".\n") ≡ None
unfolding part_of same_text
tail_other limit n i = go (names_item n) refl
  where
    go : (t : Bool) → names_item n ≡ t → part_of (text_of ", line ") limit (item_part n i ++ text_of ".\n") ≡ None
    go true e = rw (item_told_lem n i e)
    go false e = rw (item_none n i e)

line_stops : (l : ℕ) (r : List ℕ) → piece_of r ≡ [] → piece_of (line_part l ++ r) ≡ []
unfolding piece_of
line_stops l r h = go (eqb l 0) refl
  where
    go : (t : Bool) → eqb l 0 ≡ t → piece_of (line_part l ++ r) ≡ []
    go true e = rw (line_none l (eqb-true l 0 e)) h
    go false e = rw (line_told l (eqb-false l 0 e))

rest_reads : (limit n l i : ℕ) → i ≤ limit → rest_of limit n l (item_part n i ++ text_of ".\n") ≡ saying n l (item_told n i)
unfolding rest_of end_of same_text piece_of
rest_reads limit n l i h = go (names_item n) refl
  where
    go : (t : Bool) → names_item n ≡ t → rest_of limit n l (item_part n i ++ text_of ".\n") ≡ saying n l (item_told n i)
    go true e =
        let sail = text_of ", sail " in
        rw (
          e,
          item_told_lem n i e,
          part_told sail limit i (text_of ".\n") h refl,
          drop-append_seam (labelled sail i) (text_of ".\n"),
        )
    go false e = rw (e, item_none n i e)

behind_reads :
    (limit n l i : ℕ) → in_table n ≡ true → l ≤ limit → i ≤ limit →
    behind_word limit n (line_part l ++ (item_part n i ++ text_of ".\n")) ≡ saying n l (item_told n i)
unfolding behind_word
behind_reads limit n l i t h k = go (eqb l 0) refl
  where
    tail : List ℕ
    tail = item_part n i ++ text_of ".\n"

    go : (b : Bool) → eqb l 0 ≡ b → behind_word limit n (line_part l ++ tail) ≡ saying n l (item_told n i)
    go true e =
        let z = eqb-true l 0 e in
        rw (t, line_none l z, tail_other limit n i) (rest_reads limit n 0 i k ∙ ap (λ (m : ℕ). saying n m (item_told n i)) (sym z))
    go false e =
        let label = text_of ", line " in
        rw (
          t,
          line_told l (eqb-false l 0 e),
          part_told label limit l tail h (tail_stops n i),
          e,
          drop-append_seam (labelled label l) tail,
        )
        (rest_reads limit n l i k)

pub reading_back :
    (limit n l i : ℕ) → in_table n ≡ true → l ≤ limit → i ≤ limit → read_back limit (sentence_of n l i) ≡ saying n l (item_told n i)
unfolding read_back sentence_of
reading_back limit n l i t h k =
    let rest = line_part l ++ (item_part n i ++ text_of ".\n") in
    let word : piece_of (word_of n ++ rest) ≡ word_of n =
    piece_plain (word_of n) rest (word_plain n) ∙ ap (λ (w : List ℕ). word_of n ++ w) (line_stops l _ (tail_stops n i)) ∙ append-nil (word_of n) in
    rw (word, place_word n t, drop-append_seam (word_of n) rest) (behind_reads limit n l i t h k)

-- ## What is read as numbers is their sentence

-- the largest line and the largest item
abbrev big : ℕ
big = 4294967295

abbrev Sound : List ℕ → Option Sentence → Type 0
Sound s None = Unit {0}
Sound s (Some x) = SaysThat s (Some x)

sound_as : {s u : List ℕ} (r : Option Sentence) → s ≡ u → Sound u r → Sound s r
sound_as r e p = subst (λ (l : List ℕ). Sound l r) (sym e) p

end_sound :
    (n l i : ℕ) (u : List ℕ) → Sayable n l i → item_told n i ≡ i →
    Sound (word_of n ++ (line_part l ++ (item_part n i ++ u))) (end_of n l i u)
unfolding end_of sentence_of
end_sound n l i u p q = go (same_text (text_of ".\n") u) refl
  where
    go :
        (t : Bool) → same_text (text_of ".\n") u ≡ t →
        Sound (word_of n ++ (line_part l ++ (item_part n i ++ u))) (cond t (saying n l i) None)
    go true e =
        (p, q, ap (λ (r : List ℕ). word_of n ++ (line_part l ++ (item_part n i ++ r))) (sym (same_true (text_of ".\n") u e)))
    go false e = tt

rest_sound : (n l : ℕ) (u : List ℕ) → in_table n ≡ true → l ≤ big → Sound (word_of n ++ (line_part l ++ u)) (rest_of big n l u)
unfolding rest_of
rest_sound n l u t h = go (names_item n) refl
  where
    whole : List ℕ → List ℕ
    whole r = word_of n ++ (line_part l ++ r)

    named : (p : Option Part) → part_of (text_of ", sail ") big u ≡ p → names_item n ≡ true → Sound (whole u) (item_behind n l u p)
    named None e k = tt
    named (Some x) e k =
        let i = x.value in
        let bytes = x.bytes in
        let q = part_is (text_of ", sail ") big u i bytes e in
        let split : u ≡ item_part n i ++ drop bytes u = q.0 ∙ ap (λ (r : List ℕ). r ++ drop bytes u) (sym (item_told_lem n i k)) in
        sound_as (end_of n l i (drop bytes u)) (ap whole split)
        (end_sound n l i (drop bytes u) (record { row = t; line_fits = h; item_fits = q.1 }) (rw k))

    go : (b : Bool) → names_item n ≡ b → Sound (whole u) (cond b (item_behind n l u (part_of (text_of ", sail ") big u)) (end_of n l 0 u))
    go true k = named (part_of (text_of ", sail ") big u) refl k
    go false k =
        sound_as (end_of n l 0 u) (ap (λ (r : List ℕ). whole (r ++ u)) (sym (item_none n 0 k)))
        (end_sound n l 0 u (record { row = t; line_fits = h; item_fits = omega arith }) (rw k))

behind_sound : (n : ℕ) (w u : List ℕ) → (in_table n ≡ true → w ≡ word_of n) → Sound (w ++ u) (behind_word big n u)
unfolding behind_word
behind_sound n w u f = go (in_table n) refl
  where
    lined :
        (l bytes : ℕ) → in_table n ≡ true → part_of (text_of ", line ") big u ≡ told l bytes → (b : Bool) → eqb l 0 ≡ b →
        Sound (w ++ u) (cond b None (rest_of big n l (drop bytes u)))
    lined l bytes t e true z = tt
    lined l bytes t e false z =
        let q = part_is (text_of ", line ") big u l bytes e in
        let split : u ≡ line_part l ++ drop bytes u = q.0 ∙ ap (λ (r : List ℕ). r ++ drop bytes u) (sym (line_told l (eqb-false l 0 z))) in
        let all : w ++ u ≡ word_of n ++ (line_part l ++ drop bytes u) = ap (λ (r : List ℕ). r ++ u) (f t) ∙ ap (λ (r : List ℕ). word_of n ++ r) split in
        sound_as (rest_of big n l (drop bytes u)) all (rest_sound n l (drop bytes u) t q.1)

    line : (p : Option Part) → part_of (text_of ", line ") big u ≡ p → in_table n ≡ true → Sound (w ++ u) (line_behind big n u p)
    line None e t =
        let none : word_of n ++ u ≡ word_of n ++ (line_part 0 ++ u) = ap (λ (r : List ℕ). word_of n ++ (r ++ u)) (sym (line_none 0 refl)) in
        sound_as (rest_of big n 0 u) (ap (λ (r : List ℕ). r ++ u) (f t) ∙ none) (rest_sound n 0 u t (omega arith))
    line (Some x) e t = lined x.value x.bytes t e (eqb x.value 0) refl

    go : (b : Bool) → in_table n ≡ b → Sound (w ++ u) (cond b (line_behind big n u (part_of (text_of ", line ") big u)) None)
    go true t = line (part_of (text_of ", line ") big u) refl t
    go false t = tt

reading_sound : (s : List ℕ) → Sound s (read_back big s)
unfolding read_back
reading_sound s =
    let rest = drop (length (piece_of s)) s in
    let n = place_of words (piece_of s) in
    sound_as (behind_word big n rest) (piece_front s) (behind_sound n (piece_of s) rest (place_found (piece_of s)))

-- what a text is read as is what it says
reading_right : (s : List ℕ) → SaysThat s (read_back 4294967295 s)
reading_right s = go (read_back big s) refl (reading_sound s)
  where
    go : (r : Option Sentence) → read_back big s ≡ r → Sound s r → SaysThat s r
    go None e p =
        λ n l i y q.
        let b = reading_back big n l i y.row y.line_fits y.item_fits in
        let a = ap (read_back big) q in
        cc
    go (Some x) e p = p

-- and it says nothing else
pub reading_only : (s : List ℕ) (r : Option Sentence) → SaysThat s r → r ≡ read_back 4294967295 s
reading_only s (Some x) p =
    let y = p.0 in
    sym
    (ap (read_back big) p.2 ∙ reading_back big x.number x.line x.item y.row y.line_fits y.item_fits ∙ ap (saying x.number x.line) p.1)
reading_only s None p = go (read_back big s) (reading_right s)
  where
    go : (r : Option Sentence) → SaysThat s r → None ≡ r
    go None q = refl
    go (Some x) q = absurd (p x.number x.line x.item q.0 q.2)

-- ## What each function of the reader finds

-- the rest of a text, as it is lent
pub lent_rest : (k : ℕ) (s : List ℕ) → take (length s - k) (drop k s) ≡ drop k s
lent_rest k s = take_all (length s - k) (drop k s) (omega (arith, length-drop k s))

-- the library's test of what a text begins with
pub begins_with : (t s : List ℕ) → pointwise eqb s t ≡ same_text t s
begins_with t s = same_pointwise s t ∙ same_comm s t

-- a number that is read is within the limit
pub read_small : (s : List ℕ) (limit v : ℕ) (r : Result ℕ NumberError) → r ≡ read_of s limit → result_ok r ≡ Some v → v ≤ limit
read_small s limit v (Ok x) e f = let g : x ≡ v = some_one f in omega (arith, (read_value s limit x (sym e)).1)
read_small s limit v (Err why) e f = absurd (cc)

-- what one needs of a part
pub ruleset parting = (begins_with, take_piece)

-- a text that begins with no word says nothing
pub reading_stray : (s : List ℕ) {n : ℕ} → n ≡ length (piece_of s) → (place_of words (take n s) < 28 → ⊥) → SaysThat s None
unfolding read_back behind_word
reading_stray s {n} e h =
    let word : take n s ≡ piece_of s = ap (λ (j : ℕ). take j s) e ∙ take_piece s in
    let far : place_of words (piece_of s) < 28 → ⊥ = rw word at h in
    let none : read_back 4294967295 s ≡ None = rw (no_row (place_of words (piece_of s)) (omega (arith, far))) in
    subst (SaysThat s) none (reading_right s)

-- the whole text: a word, the number whose word it is, and what is read behind it
pub reading_done :
    (s : List ℕ) {n k : ℕ} {r : Option Sentence} →
    n ≡ length (piece_of s) →
    k ≡ place_of words (take n s) →
    r ≡ behind_word 4294967295 k (take (length s - n) (drop n s)) →
    SaysThat s r
unfolding read_back
reading_done s {n} {k} {r} e f g =
    let word : take n s ≡ piece_of s = ap (λ (j : ℕ). take j s) e ∙ take_piece s in
    let number : k ≡ place_of words (piece_of s) = f ∙ ap (place_of words) word in
    let all : r ≡ read_back 4294967295 s = g ∙ ap (behind_word 4294967295 k) (lent_rest n s) ∙ rw (number, e) in
    subst (SaysThat s) (sym all) (reading_right s)
