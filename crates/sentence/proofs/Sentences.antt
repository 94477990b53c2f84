-- The laws of sentences: refusals that differ have sentences that differ, what is written reads back, what reads is what would be written,
-- a text says one thing, and 47 bytes are enough for every sentence. Assumes nothing.
use mathlib.Core.Path.{◌≡◌, sym, ap, ◌∙◌}
use mathlib.Core.Bool.{true}
use mathlib.Core.List.{List}
use Prim.Native.Nat.{ℕ, ◌+◌, ◌≤◌}
use native.Mathlib.Omega.{arith}
use lib.ListN.{length}
use Rattle.types.specs.Types.{item_told}
use Rattle.std.proofs.Common.{Option}
use Rattle.sentence.specs.declared.Sentence.{Sentence}
use Rattle.sentence.specs.Sentences.{in_table, sentence_of, Sayable, SaysThat, longest_sentence}
use Rattle.sentence.specs.InnerSentences.{saying, read_back}
use Rattle.sentence.proofs.Laws.{sentence_count, parts_size}
use Rattle.sentence.proofs.Readings.{some_one, reading_back, reading_only}

-- Two refusals that differ in number, in line, or in a sail so named never give equal sentences; of any size, not only of 32 bits.
pub sentence_one :
    (n m l k i j : ℕ) →
    in_table n ≡ true →
    in_table m ≡ true →
    sentence_of n l i ≡ sentence_of m k j →
    (n ≡ m) × (l ≡ k) × (item_told n i ≡ item_told m j)
sentence_one n m l k i j t u e =
    let limit = l + k + i + j in
    let a : read_back limit (sentence_of n l i) ≡ saying n l (item_told n i) = reading_back limit n l i t (omega arith) (omega arith) in
    let b : read_back limit (sentence_of m k j) ≡ saying m k (item_told m j) = reading_back limit m k j u (omega arith) (omega arith) in
    let same : saying n l (item_told n i) ≡ saying m k (item_told m j) = sym a ∙ ap (read_back limit) e ∙ b in
    let one = some_one same in
    (ap (λ (x : Sentence). x.number) one, ap (λ (x : Sentence). x.line) one, ap (λ (x : Sentence). x.item) one)

-- What is written reads back: number, line, and the sail that the number names.
pub written_reads : (n l i : ℕ) → Sayable n l i → (r : Option Sentence) → SaysThat (sentence_of n l i) r → r ≡ saying n l (item_told n i)
written_reads n l i y r p =
    reading_only (sentence_of n l i) r p ∙ reading_back 4294967295 n l i y.row y.line_fits y.item_fits

-- What reads is what would be written.
pub reads_written : (s : List ℕ) (n l i : ℕ) → SaysThat s (saying n l i) → s ≡ sentence_of n l i
reads_written s n l i p = p.2

-- The contract of reading leaves no choice.
pub reading_one : (s : List ℕ) (r q : Option Sentence) → SaysThat s r → SaysThat s q → r ≡ q
reading_one s r q x y = reading_only s r x ∙ sym (reading_only s q y)

-- A page of 47 bytes has room for every sentence, whether its number has a row or not.
pub sentence_fits : (n l i : ℕ) → l ≤ 4294967295 → i ≤ 4294967295 → length (sentence_of n l i) ≤ longest_sentence
sentence_fits n l i h k = rw (sentence_count n l i) (parts_size n l i h k)

-- and none is empty
pub sentence_some : (n l i : ℕ) → 2 ≤ length (sentence_of n l i)
sentence_some n l i = omega (arith, sentence_count n l i)
