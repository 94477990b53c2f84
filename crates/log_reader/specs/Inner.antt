-- What the inner functions of `log_reader` ask and give. Assumes nothing.
use mathlib.Core.{Path.◌≡◌, Bool.{true, cond}, List.{List, ◌++◌}}
use Rattle.std.specs.Prelude.{ℕ, ◌+◌, ◌*◌, ◌-◌, ◌≤◌, ◌<◌, Option, None, Some, Result, Ok, Err}
use lib.{ListN.{length, take, drop}, Dec.ltb}
use Rattle.decimal.specs.{Decimal.{all_digits, value_of, digits_of}, InnerPages.text_over}
use Rattle.fields.specs.LittleEndian.{to_bytes}
use Rattle.types.specs.declared.{Step.Step, Refusal.{Refusal, TheVariants.Malformed}}
use Rattle.types.specs.Types.{numbers_of}
use Rattle.line_fields.specs.{Fields.{split, fields_of}, Inner.before}
use Rattle.season_lines.specs.declared.Line.{Line, TheVariants.{Step as StepLine}}
use Rattle.season_lines.specs.Lines.{range_under, line_in}
use Rattle.season_log.specs.Log.{Logged, steps, fault, no_values, step_text, list_of, line_ahead, read_lines}
use Rattle.season_log.specs.Inner.{onward}
use Rattle.log_reader.specs.declared.{Digits.Digits, FirstStep.FirstStep, Steps.Steps}

-- a part of a text
abbrev pub part : ℕ → ℕ → List ℕ → List ℕ
part from end text = take (end - from) (drop from text)

-- digits from a place on, and their value
pub record DigitsAt (text : List ℕ) (from value end : ℕ) : Type 0 where
  pub onward : from ≤ end
  pub within : end ≤ length text
  pub few : end ≤ from + 4
  pub digits : all_digits (part from end text) ≡ true
  pub worth : value ≡ value_of (part from end text)

-- a number from a place on
pub record NumberAt (text : List ℕ) (from value end : ℕ) : Type 0 where
  pub some : from < end
  pub within : end ≤ length text
  pub number : part from end text ≡ digits_of value

-- if one was found
abbrev pub NumberFound : List ℕ → ℕ → Option Digits → Type 0
NumberFound text from None = Unit {0}
NumberFound text from (Some n) = NumberAt text from n.value n.end

-- the text t stands at a place
abbrev pub TextAt : List ℕ → ℕ → List ℕ → Type 0
TextAt text at t = take (length t) (drop at text) ≡ t

-- the end of a line that has none of the three last values, up to a place, if it was found
abbrev pub EndAt : ℕ → List ℕ → ℕ → Option ℕ → Type 0
EndAt heading text at None = Unit {0}
EndAt heading text at (Some end) = (end ≡ at + length (no_values heading)) × TextAt text at (no_values heading)

-- a text begins with the line that the writer writes of a step in range
pub record Begins (heading : ℕ) (text : List ℕ) (s : Step) (bytes : ℕ) : Type 0 where
  pub count : bytes ≡ length (step_text heading s)
  pub line : take bytes text ≡ step_text heading s
  pub ranged : range_under heading (numbers_of s) ≡ 0

-- if a step was found, the text begins with it
abbrev pub FoundIn : ℕ → List ℕ → Option FirstStep → Type 0
FoundIn heading text None = Unit {0}
FoundIn heading text (Some f) = Begins heading text f.step f.bytes

-- what the first line of a text says on line n
unfoldable pub first_line : ℕ → ℕ → List ℕ → Result Line Refusal
first_line heading n s =
    cond (ltb (length (before 10 s)) (length s)) (line_in 2 heading (fields_of (before 10 s)) n) (Err (Malformed n))

-- a step and the bytes of its line, or the refusal that follows
abbrev pub FirstIs : Result Line Refusal → List ℕ → Result FirstStep Refusal → Type 0
FirstIs line s (Ok f) = (line ≡ Ok (StepLine f.step)) × (f.bytes ≡ length (before 10 s) + 1)
FirstIs line s (Err r) = (rest : Logged) → line_ahead line rest ≡ fault r

-- three numbers as bytes
abbrev pub three_numbers : ℕ → ℕ → ℕ → List ℕ
three_numbers a b c = to_bytes 4 a ++ (to_bytes 4 b ++ to_bytes 4 c)

-- Where a line begins: so many steps that were read stand at the start of the list, which was `old`, and what is left of the text follows
-- them. A step took at least six bytes.
pub record ReadSoFar (heading : ℕ) (text old : List ℕ) (at count : ℕ) (list : List ℕ) : Type 0 where
  pub read : List Step
  pub left : onward read (read_lines heading (count + 2) (split 10 (drop at text))) ≡ read_lines heading 2 (split 10 text)
  pub stored : list ≡ text_over (list_of read) old
  pub long : length list ≡ length old
  pub counted : count ≡ length read
  pub spent : 6 * count ≤ at
  pub within : at ≤ length text

-- a text that is not too long, a place in it, and a list that has room for the steps of any such text
abbrev pub Roomy : List ℕ → ℕ → ℕ → List ℕ → Type 0
Roomy text at count list = (length text ≤ 65536) × (262128 ≤ length list) × (6 * count ≤ at) × (at ≤ length text)

-- whoever has read so far has then read further
abbrev pub ReadsOn : ℕ → List ℕ → ℕ → ℕ → List ℕ → ℕ → ℕ → List ℕ → Type 0
ReadsOn heading text at count list later more after =
    (old : List ℕ) → ReadSoFar heading text old at count list → ReadSoFar heading text old later more after

-- the steps that were read stand at the start of a list that has room for them
pub record StepsIn (ss : List Step) (before : List ℕ) (n : ℕ) (after : List ℕ) : Type 0 where
  pub count : n ≡ length ss
  pub few : n ≤ 10922
  pub list : after ≡ text_over (list_of ss) before

abbrev pub ReadInto : Logged → List ℕ → Result Steps Refusal → List ℕ → Type 0
ReadInto (steps heading ss) before (Ok log) after = (log.heading ≡ heading) × StepsIn ss before log.count after
ReadInto (steps heading ss) before (Err r) after = ⊥
ReadInto (fault r) before (Ok log) after = ⊥
ReadInto (fault r) before (Err q) after = q ≡ r
