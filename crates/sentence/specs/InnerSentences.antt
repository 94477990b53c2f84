-- What the inner functions of `sentence` ask and give: a text put on a page, and a text taken apart from its front. Assumes nothing.
use mathlib.Core.{Path.◌≡◌, Bool.{Bool, cond, ◌||◌}, List.{List, [], ◌∷◌, ◌++◌}}
use Prim.Native.{Nat.{ℕ, suc, ◌+◌, ◌-◌, ◌≤◌}, String.String}
use lib.{Dec.eqb, ListN.{length, take, drop}}
use Rattle.std.specs.Prelude.{Option, Some, None, Result, Ok, Err}
use Rattle.decimal.specs.{declared.NumberError.NumberError, Decimal.{text_of, same_text}, InnerReads.read_of, InnerPages.text_over}
use Rattle.types.specs.Types.{names_item}
use Rattle.sentence.specs.declared.{Part.Part, Sentence.Sentence}
use Rattle.sentence.specs.Sentences.{words, word_of, in_table}

-- ## Writing

-- the letters of words, one word behind the other
unfoldable pub in_one_text : List String → List ℕ
in_one_text [] = []
in_one_text (word ∷ rest) = text_of word ++ in_one_text rest

-- where the word of a number begins among them all
unfoldable pub start_of : ℕ → ℕ
start_of number = length (in_one_text (take number words))

-- among them the word of a number stands from a to e
pub record WordAt (number a e : ℕ) : Type 0 where
  pub grows : a ≤ e
  pub within : e ≤ 224
  pub size : e - a ≡ length (word_of number)
  pub text : take (e - a) (drop a (in_one_text words)) ≡ word_of number

-- a text put at the start of a page, in so many bytes
pub record OnPage (t before : List ℕ) (bytes : ℕ) (page : List ℕ) : Type 0 where
  pub count : bytes ≡ length t
  pub text : page ≡ text_over t before

-- ## Reading

-- a comma or a full stop, one of which stands behind a word and behind a number
abbrev pub is_stop : ℕ → Bool
is_stop b = eqb b 44 || eqb b 46

-- a text up to the first of them
unfoldable pub piece_of : List ℕ → List ℕ
piece_of [] = []
piece_of (b ∷ s) = cond (is_stop b) [] (b ∷ piece_of s)

-- the place of a word in a table; the table's length if it has no such word
unfoldable pub place_of : List String → List ℕ → ℕ
place_of [] w = 0
place_of (word ∷ rest) w = cond (same_text (text_of word) w) 0 (suc (place_of rest w))

-- what a sentence of these three says
abbrev pub saying : ℕ → ℕ → ℕ → Option Sentence
saying number line item = Some (record { number = number; line = line; item = item })

-- a number read, and the bytes of it and its label
abbrev pub told : ℕ → ℕ → Option Part
told value bytes = Some (record { value = value; bytes = bytes })

-- a number that was read, and the bytes up to the end of it
abbrev pub part_from : ℕ → Result ℕ NumberError → Option Part
part_from bytes (Err e) = None
part_from bytes (Ok v) = told v bytes

-- a number behind its label, at the front of a text
unfoldable pub part_of : List ℕ → ℕ → List ℕ → Option Part
part_of label limit s =
    let digits = piece_of (drop (length label) s) in
    cond (same_text label (take (length label) s)) (part_from (length label + length digits) (read_of digits limit)) None

-- behind number, line and item there is a full stop and a line feed, and nothing else
unfoldable pub end_of : ℕ → ℕ → ℕ → List ℕ → Option Sentence
end_of number line item s = cond (same_text (text_of ".\n") s) (saying number line item) None

-- behind number and line the sail is read
abbrev pub item_behind : ℕ → ℕ → List ℕ → Option Part → Option Sentence
item_behind number line s None = None
item_behind number line s (Some item) = end_of number line item.value (drop item.bytes s)

-- which is there exactly if the number names one
unfoldable pub rest_of : ℕ → ℕ → ℕ → List ℕ → Option Sentence
rest_of limit number line s =
    cond (names_item number) (item_behind number line s (part_of (text_of ", sail ") limit s)) (end_of number line 0 s)

-- behind the number a line is read, if there is one; none is line 0
abbrev pub line_behind : ℕ → ℕ → List ℕ → Option Part → Option Sentence
line_behind limit number s None = rest_of limit number 0 s
line_behind limit number s (Some line) = cond (eqb line.value 0) None (rest_of limit number line.value (drop line.bytes s))

-- what a text says of the number whose word stands in front of it
unfoldable pub behind_word : ℕ → ℕ → List ℕ → Option Sentence
behind_word limit number s = cond (in_table number) (line_behind limit number s (part_of (text_of ", line ") limit s)) None

-- a whole text; the limit is that of line and item
unfoldable pub read_back : ℕ → List ℕ → Option Sentence
read_back limit s = behind_word limit (place_of words (piece_of s)) (drop (length (piece_of s)) s)
