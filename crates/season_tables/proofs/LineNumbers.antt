-- The line that a refusal of a text names, and the lines that an accepted text has, against the text's bytes. Before line n fewer than
-- n lines have been read (lines_read); the line leads on, and adds at most one, or stops the reading and is the line named. Assumes
-- nothing.
use mathlib.Core.Path.{◌≡◌, refl, ap, subst}
use mathlib.Core.Bool.{Bool, true, false, cond, ◌&&◌, false≢true}
use mathlib.Core.List.{List, [], ◌∷◌}
use Prim.Native.Nat.{ℕ, zero, suc, ◌+◌, ◌*◌, ◌-◌, ◌≤◌, ◌<◌}
use native.Mathlib.Omega.{arith}
use lib.ListN.{length, take, length-append}
use lib.Dec.{leb, eqb}
use borrow.Author.Tests.{eqb-true}
use Rattle.types.specs.declared.Refusal.{Refusal}
use Rattle.types.specs.Types.{step_item, act_item, telling, refusal_line}
use Rattle.types.proofs.Refusals.{refusal_line_lem}
use Rattle.landlord.specs.Catalog.{listed, catalog_after}
use Rattle.landlord.specs.Steps.{if_known, item_refusal}
use Rattle.landlord.proofs.Folds.{either}
use Rattle.std.specs.Prelude.{Option, Some, None, Result, Ok, Err, is_some}
use Rattle.season_lines.specs.declared.Line.{Line}
use Rattle.season_lines.specs.declared.Line.TheVariants.{Sizes, Item as ItemLine, Step as StepLine, Act as ActLine}
use Rattle.line_fields.specs.Fields.{split, fields_of}
use Rattle.line_fields.proofs.Laws.{and_parts}
use Rattle.season_lines.specs.Lines.{heading_of, line_in}
use Rattle.season_lines.proofs.Pieces.{Says, line_says}
use Rattle.season_tables.specs.Tables.{Placed, Tables, Sofar, goes_on, at_start, in_turn, unless_refused, takes, may_end, must_end, named_by, read_under, read_line, at_end, read_from, reading_to, reading_of}
use Rattle.season_tables.specs.Inner.{is_blank, is_sized}
use Rattle.season_tables.proofs.Sound.{split_few}

-- one line, if the test says so
abbrev one_if : Bool → ℕ
one_if t = cond t 1 0

-- the lines above a table's names: in each table before it the names and the blank line, and in the first of them the sizes. In the
-- first table the line of sizes is counted once it is read.
abbrev lines_above : ℕ → ℕ → ℕ
lines_above zero k = one_if (is_sized k)
lines_above (suc t) k = 3 + 2 * t

-- the lines of the values but the sizes
abbrev value_lines : Tables → ℕ
value_lines v = length v.catalog + length v.steps + length v.acts

-- the lines that it takes, at least, to have read this much
abbrev lines_read : Sofar → ℕ
lines_read v = lines_above v.stage.table v.read.k + one_if (is_some v.stage.heading) + value_lines v.read

-- other sizes are one line more at most
above_sizes : (t k j : ℕ) → lines_above t j ≤ lines_above t k + 1
above_sizes zero k j = either (λ b. b ≤ one_if (is_sized k) + 1) (is_sized j) 1 0 (λ e. omega arith) (λ e. omega arith)
above_sizes (suc t) k j = omega arith

-- a blank line that may stand here
above_next : (blank : Bool) (upto t k : ℕ) → (blank && may_end upto t k) ≡ true → lines_above (suc t) k ≤ lines_above t k + 2
above_next false upto t k e = absurd (false≢true e)
above_next true upto zero k e = let z : is_sized k ≡ true = e in rw z (omega arith)
above_next true upto (suc t) k e = omega arith

-- ## One line

-- line n leads on to no more than n lines read, or it stops the reading, and is the line that is named
abbrev ByLine : {A : Type 0} → (A → ℕ) → ℕ → Result A Refusal → Type 0
ByLine count n (Ok w) = count w ≤ n
ByLine count n (Err r) = refusal_line r ≡ n

-- a line that is refused by its item names itself
unless_by : (count : Tables → ℕ) (n number item : ℕ) (w : Tables) → count w ≤ n → ByLine count n (unless_refused number n item w)
unless_by count n number item w l = either (ByLine count n) (eqb number 0) _ _ (λ e. l) (λ e. refusal_line_lem (telling number n item))

-- any value line, and any line
module _ (n : ℕ) (v : Sofar) (few : lines_read v < n) where
  abbrev still : Tables → ℕ
  still w = lines_read (record { stage = v.stage; read = w })

  takes_by : (table fields : ℕ) (x : Line) → Says table fields n (Ok x) → ByLine still n (takes v.read x n)
  unfolding takes
  takes_by table fields (Sizes k h r) o =
      either (ByLine still n) (leb h k) _ _ (λ e. omega (arith, above_sizes v.stage.table v.read.k k)) (λ e. refl)
  takes_by table fields (ItemLine i b c w) o =
      either (ByLine still n) (eqb i (length v.read.catalog)) _ _
      (λ e. omega (arith, length-append v.read.catalog (listed b c w ∷ []))) (λ e. refl)
  takes_by table fields (StepLine s) o =
      unless_by still n (item_refusal v.read.k (catalog_after v.read.catalog v.read.steps) s) (step_item s) _ (omega (arith, length-append v.read.steps (s ∷ [])))
  takes_by table fields (ActLine place act) o =
      let a : Placed = record { place = place; act = act } in
      let number = if_known (catalog_after v.read.catalog (take place v.read.steps)) (act_item act) 0 in
      either (ByLine still n) (in_turn v.read place) _ _
      (λ e. unless_by still n number (act_item act) _ (omega (arith, length-append v.read.acts (a ∷ [])))) (λ e. refl)

  line_by : (upto : ℕ) (l : List ℕ) → ByLine lines_read n (read_line upto v l n)
  unfolding read_line read_under
  line_by upto l = behind v.stage.heading refl
    where
      Q : Result Sofar Refusal → Type 0
      Q = ByLine lines_read n

      names : (x : Option ℕ) → Q (goes_on (named_by v.stage x n) (λ p. Ok (record { stage = p; read = v.read })))
      names (Some f) = omega arith
      names None = refl

      taken : (x : Result Tables Refusal) → ByLine still n x → Q (goes_on x (λ w. Ok (record { stage = v.stage; read = w })))
      taken (Ok w) h = h
      taken (Err r) h = h

      values :
          (fields : ℕ) (x : Result Line Refusal) →
          Says v.stage.table fields n x →
          Q (goes_on x (λ line. goes_on (takes v.read line n) (λ w. Ok (record { stage = v.stage; read = w }))))
      values fields (Ok line) s = taken (takes v.read line n) (takes_by v.stage.table fields line s)
      values fields (Err r) s = s

      behind : (heading : Option ℕ) → v.stage.heading ≡ heading → Q (read_under heading upto v l n)
      behind None e = names (heading_of v.stage.table l)
      behind (Some f) e =
          either Q (is_blank l && may_end upto v.stage.table v.read.k) _ _
          (λ b. omega (arith, above_next (is_blank l) upto v.stage.table v.read.k b, ap (λ (o : Option ℕ). one_if (is_some o)) e))
          (λ b. either Q (must_end v.stage.table v.read.k) _ _ (λ m. refl)
          (λ m. values (length (fields_of l)) (line_in v.stage.table f (fields_of l) n) (line_says v.stage.table f (fields_of l) n)))

-- ## The whole text

-- the answer to a text up to the table numbered `upto` that has at most b lines, each with its line feed: all is read, in no more lines;
-- or the line named is one of these, or what stands behind them
abbrev Within : ℕ → ℕ → Result Tables Refusal → Type 0
Within upto b (Ok w) = lines_above upto w.k + 1 + value_lines w ≤ b
Within upto b (Err r) = refusal_line r ≤ b + 1

end_within : (upto b n : ℕ) (v : Sofar) → lines_read v < n → n ≤ b + 1 → Within upto b (at_end upto v n)
end_within upto b n v few l =
    either (Within upto b) (is_some v.stage.heading && eqb v.stage.table upto) _ _
    (λ e. let ends = and_parts (is_some v.stage.heading) (eqb v.stage.table upto) e in
    omega (arith, ap one_if ends.0, ap (λ t. lines_above t v.read.k) (eqb-true v.stage.table upto ends.1))) (λ e. l)

then_within :
    (upto b n : ℕ) (x : Result Sofar Refusal) (next : Sofar → Result Tables Refusal) →
    ByLine lines_read n x →
    n ≤ b + 1 →
    ((w : Sofar) → lines_read w ≤ n → Within upto b (next w)) →
    Within upto b (goes_on x next)
then_within upto b n (Ok w) next p l f = f w p
then_within upto b n (Err r) next p l f = omega (arith, p)

read_within : (upto b n : ℕ) (ls : List (List ℕ)) (v : Sofar) → lines_read v < n → n + (length ls - 1) ≤ b + 1 → Within upto b (read_from upto n ls v)
unfolding read_from
read_within upto b n [] v few l = end_within upto b n v few (omega arith)
read_within upto b n (x ∷ []) v few l = either (Within upto b) (is_blank x) _ _ (λ e. end_within upto b n v few (omega arith)) (λ e. omega arith)
read_within upto b n (x ∷ y ∷ rest) v few l =
    then_within upto b n (read_line upto v x n) (read_from upto (suc n) (y ∷ rest)) (line_by n v few upto x) (omega arith)
    (λ w p. read_within upto b (suc n) (y ∷ rest) w (omega (arith, p)) (omega arith))

text_within : (upto : ℕ) (s : List ℕ) → Within upto (length s) (reading_to upto s)
text_within upto s = read_within upto (length s) 1 (split 10 s) at_start (omega arith) (omega (arith, split_few 10 s))

-- a refused text's line is at most one more than its bytes
pub stop_line : (s : List ℕ) (r : Refusal) → reading_of s ≡ Err r → refusal_line r ≤ length s + 1
stop_line s r e = subst (Within 3 (length s)) e (text_within 3 s)

-- an accepted text has the lines of its items, steps and acts, and eight more: four lines of names, the sizes, three blank lines
pub accepted_lines : (s : List ℕ) (v : Tables) → reading_of s ≡ Ok v → 8 + length v.catalog + length v.steps + length v.acts ≤ length s
accepted_lines s v e = let all = subst (Within 3 (length s)) e (text_within 3 s) in omega (arith, all)
