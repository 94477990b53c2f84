-- What is known of the items after some steps, the items as bytes, acts as numbers, and what the functions of this crate ask
-- and give. Assumes nothing.
use mathlib.Core.{Path.◌≡◌, Bool.{true, cond}, List.{List, [], ◌∷◌, ◌++◌}}
use Rattle.std.specs.Prelude.{ℕ, ◌+◌, ◌*◌, ◌≤◌, ◌<◌, Result}
use lib.{ListN.{length, take, drop, replicate, set}, Seq.sets, Dec.{ltb, eqb}}
use Rattle.types.specs.{declared.{Step.{Step, TheVariants.{Read, Write, Flush, Arrive, Retire}}, Act.Act, Refusal.Refusal}, Types.{step_item, act_kind, act_item, Told, telling, nothing_told, answer_told}}
use Rattle.landlord.specs.{Catalog.{Catalog, item_at, listed, catalog_next, catalog_after}, Steps.{if_known, item_refusal}, CallNumbers.call_numbers}
use Rattle.marks.specs.{Marks.marked, Inner.marks}
use Rattle.catalog_bytes.specs.{Catalogs.item_in, Inner.item_bytes}
use Rattle.season_items.specs.declared.Present.{Present}

-- ## Room

-- the numbers of a step, noted as a call
abbrev pub call_width : ℕ
call_width = 7

-- and of an act
abbrev pub act_width : ℕ
act_width = 3

-- the most steps, and the most acts, that a text of 65,536 bytes has: each has a line of six bytes or more
abbrev pub most_noted : ℕ
most_noted = 10922

-- the numbers of so many steps, and of one call more
abbrev pub call_room : ℕ
call_room = call_width * (most_noted + 1)

-- of so many acts, and one more
abbrev pub act_room : ℕ
act_room = act_width * (most_noted + 1)

-- and the bytes of 256 items
abbrev pub item_room : ℕ
item_room = 5 * 256

-- ## What is noted, and what is known of the items

-- an act as it is noted: its place, kind and item
abbrev pub act_noted : ℕ → Act → List ℕ
act_noted place act = place ∷ act_kind act ∷ act_item act ∷ []

-- the list with xs in it from place i on
unfoldable pub put_at : List ℕ → ℕ → List ℕ → List ℕ
put_at l i xs = take i l ++ (xs ++ drop (i + length xs) l)

-- the bytes have every item of a catalog; whether one has left is not among them
abbrev pub HasItems : Catalog → List ℕ → Type 0
HasItems cat bytes =
    (i : ℕ) → i < length cat → item_in bytes i ≡ listed (item_at cat i).blocks (item_at cat i).load (item_at cat i).write

-- how many items a catalog has, and which of them have left
pub record Tells (cat : Catalog) (p : Present) : Type 0 where
  pub count : p.n ≡ length cat
  pub marks : (i : ℕ) → i < 256 → marked p.left i ≡ (item_at cat i).left

-- the bytes with the item of an arrival at its number
abbrev pub with_arrival : Step → List ℕ → List ℕ
with_arrival (Read i) bytes = bytes
with_arrival (Write i minutes) bytes = bytes
with_arrival Flush bytes = bytes
with_arrival (Arrive i b l w) bytes = sets bytes (5 * i) (item_bytes (listed b l w))
with_arrival (Retire i) bytes = bytes

-- no item, and none that has left
abbrev pub none_present : Present
none_present = record { n = 0; left = replicate 4 0 }

-- what an answer tells: nothing where the number is 0, else the refusal of that number, on a line and about an item
abbrev pub told_as : ℕ → ℕ → ℕ → Told
told_as number line item = cond (eqb number 0) nothing_told (telling number line item)

-- 6, 20 or 0 for an item, by the count and the marks
abbrev pub known_number : Present → ℕ → ℕ
known_number p i = cond (ltb i p.n) (cond (marked p.left i) 20 0) 6

-- which is the number for whatever catalog that is known of
abbrev pub TellsKnown : Present → ℕ → ℕ → Type 0
TellsKnown p i r = (cat : Catalog) → length cat ≤ 256 → Tells cat p → r ≡ if_known cat i 0

-- what the table of refusals says to a step on a line, by what is known of the items, and by their bytes
abbrev pub TellsRefusal : ℕ → Present → List ℕ → Step → ℕ → Result (Unit {0}) Refusal → Type 0
TellsRefusal k p catalog s line r =
    (cat : Catalog) → Tells cat p → HasItems cat catalog → answer_told r ≡ told_as (item_refusal k cat s) line (step_item s)

-- one more step, by the count and the marks: an arrival is counted, and an item that is there and leaves is marked
abbrev pub Advanced : Present → Step → Present → Type 0
Advanced p (Arrive i b l w) r = (r.n ≡ p.n + 1) × (r.left ≡ p.left)
Advanced p (Retire i) r = (r.n ≡ p.n) × (marks r.left ≡ cond (ltb i p.n) (set (marks p.left) i true) (marks p.left))
Advanced p (Read i) r = r ≡ p
Advanced p (Write i minutes) r = r ≡ p
Advanced p Flush r = r ≡ p

-- which is what is known after the step of whatever catalog that is known of
abbrev pub Advances : Present → Step → Present → Type 0
Advances p s r = (cat : Catalog) → length cat ≤ 256 → Tells cat p → Tells (catalog_next cat s) r

-- a catalog and steps that are noted, after the first `from` of which this is known of the items
pub record Walks (p : Present) (calls : List ℕ) (from to : ℕ) (cat : Catalog) (steps : List Step) : Type 0 where
  pub few : length (catalog_after cat steps) ≤ 256
  pub noted : take (call_width * length steps) calls ≡ call_numbers steps
  pub reach : to ≤ length steps
  pub tells : Tells (catalog_after cat (take from steps)) p

-- what is known after the first `to` of them
abbrev pub CatchesUp : Present → List ℕ → ℕ → ℕ → Present → Type 0
CatchesUp p calls from to r =
    (cat : Catalog) (steps : List Step) → Walks p calls from to cat steps → Tells (catalog_after cat (take to steps)) r

-- what is asked where an item is looked up: some catalog of which this is known, and its bytes
pub record Lookable (p : Present) (catalog : List ℕ) : Type 0 where
  pub items : Catalog
  pub few : length items ≤ 256
  pub tells : Tells items p
  pub stored : HasItems items catalog
  pub room : item_room ≤ length catalog

-- and where steps are walked over
pub record Walkable (p : Present) (calls : List ℕ) (from to : ℕ) : Type 0 where
  pub items : Catalog
  pub steps : List Step
  pub walks : Walks p calls from to items steps
  pub order : from ≤ to
  pub short : to ≤ most_noted
  pub for_steps : call_room ≤ length calls
