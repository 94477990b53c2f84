-- A refusal in words: one sentence on a line of its own, from which number, line and item can be read back. Paper 02, 'One'.
-- Assumes nothing.
use mathlib.Core.{Path.◌≡◌, Bool.{Bool, true, cond, not}, List.{List, [], ◌∷◌, ◌++◌}}
use Prim.Native.{Nat.{ℕ, ◌≤◌}, String.String}
use Rattle.std.specs.Prelude.{Option, Some, None}
use lib.{ListN.{length, get_or}, Dec.eqb}
use Rattle.decimal.specs.Decimal.{text_of, digits_of}
use Rattle.types.specs.Types.{names_item, item_told}
use Rattle.sentence.specs.declared.Sentence.{Sentence}

-- The words of the refusals, each at the place of its number: 1 to 17 from paper 01's table, the others from paper 02. There is no
-- refusal 0 and none of number 23.
abbrev pub words : List String
words =
    "" ∷ "torn" ∷ "heading" ∷ "off the tape" ∷ "miscounted" ∷ "outsized rival" ∷ "stranger" ∷ "too bulky" ∷ "log full" ∷ "closed"
    ∷ "out of turn" ∷ "not aboard" ∷ "aboard" ∷ "overstowed" ∷ "missing" ∷ "short page" ∷ "long roll" ∷ "foul locker" ∷ "odd rule"
    ∷ "misnumbered" ∷ "gone" ∷ "idle" ∷ "unpaired" ∷ "" ∷ "given up" ∷ "many sails" ∷ "long passage" ∷ "no plan" ∷ []

-- the word of a number; nothing for one that is in no row of the table
unfoldable pub word_of : ℕ → List ℕ
word_of number = text_of (get_or words number "")

-- whether a number has a row: 1 to 22 and 24 to 27
unfoldable pub in_table : ℕ → Bool
in_table number = not (eqb (length (word_of number)) 0)

-- "the line if there is one"
unfoldable pub line_part : ℕ → List ℕ
line_part line = cond (eqb line 0) [] (text_of ", line " ++ digits_of line)

-- "for 6, 7, 11, 12 and 14 the sail", 19 and 20 too
unfoldable pub item_part : ℕ → ℕ → List ℕ
item_part number item = cond (names_item number) (text_of ", sail " ++ digits_of item) []

-- the sentence, with its line feed: as `stranger, line 7, sail 3.`
unfoldable pub sentence_of : ℕ → ℕ → ℕ → List ℕ
sentence_of number line item = word_of number ++ (line_part line ++ (item_part number item ++ text_of ".\n"))

-- numbers that a sentence is made of: a number of the table, and 32 bits each for line and item
pub record Sayable (number line item : ℕ) : Type 0 where
  pub row : in_table number ≡ true
  pub line_fits : line ≤ 4294967295
  pub item_fits : item ≤ 4294967295

-- What reading a text answers: the numbers whose sentence it is, the item 0 where the number names none; or that it is the sentence of
-- no numbers. Two refusals that differ never have one sentence (proofs/Sentences.antt, sentence_one), so this leaves no choice.
abbrev pub SaysThat : List ℕ → Option Sentence → Type 0
SaysThat s (Some x) =
    Sayable x.number x.line x.item × (item_told x.number x.item ≡ x.item) × (s ≡ sentence_of x.number x.line x.item)
SaysThat s None = (number line item : ℕ) → Sayable number line item → s ≡ sentence_of number line item → ⊥

-- the bytes of the longest sentence: 11 of `misnumbered`, 7 before the line and 7 before the item, 10 digits each, full stop and line feed
abbrev pub longest_sentence : ℕ
longest_sentence = 47
