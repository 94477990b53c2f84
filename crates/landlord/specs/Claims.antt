-- The claims that are made of the rule: what a log that the table lets through is, what a split must be, and the wear
-- bound. They are proved in proofs/ (docs/CONTRACTS.md names each). Assumes nothing.
use mathlib.Core.{Path.◌≡◌, Bool.{true, false}, List.List}
use Rattle.std.specs.Prelude.{ℕ, ◌+◌, ◌*◌, ◌-◌, ◌≤◌, ◌<◌, length, get_or, take}
use Rattle.std.specs.Int.{◌∣◌}
use Rattle.types.specs.{declared.Step.{Step, TheVariants.Flush}, Types.numbers_of}
use Rattle.landlord.specs.{Fold.sum_to, Catalog.{Catalog, Item, item_at, catalog_after, CatalogOk, full, unit}, Slot.{Split, Slot, held, load_credit, write_credit}, Rule.{State, size, slot_at, used, precedence}, Figures.{Start, season, total_cost, left_side, right_side}, Plan.{Plan, price, costs}, Steps.step_refusal}

-- a list of steps that the table of refusals lets through, each at its place in an open log and by the catalog as the steps before it
-- have left it
pub record AllowedLog (k : ℕ) (cat : Catalog) (steps : List Step) : Type 0 where
  pub each : (i : ℕ) → i < length steps → step_refusal k (catalog_after cat (take i steps)) i (numbers_of (get_or steps i Flush)) ≡ 0

-- What a split "in multiples of the item's blocks" lets the write credit bear, t, of a loss: a multiple of the blocks, no
-- more than the loss and no more than the write credit, and no more than the load credit is left to the load credit.
pub record Bears (s loss a b t : ℕ) : Type 0 where
  pub whole : s ∣ t
  pub part : t ≤ loss
  pub within : t ≤ b
  pub rest : loss ≤ t + a

-- a split that does so wherever the two credits together can bear the loss, and all three are multiples of the blocks
pub record SplitOk (split : Split) : Type 0 where
  pub each :
      (s loss a b : ℕ) → 1 ≤ s → s ∣ loss → s ∣ a → s ∣ b → loss ≤ a + b → Bears s loss a b (split s loss a b)

-- "both credits of a sail are always multiples of its blocks", and at most cost × 720,720. That an item not held has no
-- credit, and a clean one no write credit, is in what a slot is (specs/Slot.antt).
pub record SlotKept (x : Item) (s : Slot) : Type 0 where
  pub whole_load : x.blocks ∣ load_credit s
  pub whole_write : x.blocks ∣ write_credit s
  pub load_top : load_credit s ≤ full x.load
  pub write_top : write_credit s ≤ full x.write

-- what the rule keeps: a slot for each item, each slot as above, and at most k blocks held
pub record Kept (k : ℕ) (x : State) : Type 0 where
  pub catalog : CatalogOk x.catalog
  pub slots : length x.slots ≡ size x
  pub slot : (i : ℕ) → i < size x → SlotKept (item_at x.catalog i) (slot_at x i)
  pub room : used x ≤ k
  -- "left sails, none held"
  pub left : (i : ℕ) → i < size x → (item_at x.catalog i).left ≡ true → held (slot_at x i) ≡ false

-- what the victim is: held, of least precedence, and of these the lowest number; so no held item has a lesser rank (proofs/Keeps.antt,
-- least_rank)
pub record Least (x : State) (v : ℕ) : Type 0 where
  pub below : v < size x
  pub is_held : held (slot_at x v) ≡ true
  pub least : (i : ℕ) → i < size x → held (slot_at x i) ≡ true → precedence x v ≤ precedence x i
  pub first : (i : ℕ) → i < v → held (slot_at x i) ≡ true → precedence x v < precedence x i

-- What is claimed of a total over a log: for every h from 1 to k and every plan that is legal over its steps with h blocks, at
-- cost c, total × (k - h + 1) ≤ k × c.
abbrev pub WithinBound : ℕ → Catalog → List Step → ℕ → Type 0
WithinBound k cat steps total =
    (h : ℕ) → 1 ≤ h → h ≤ k → (plan : Plan) (c : ℕ) → price cat h plan steps ≡ costs c → left_side k h total ≤ right_side k c

-- the wear bound of one log: the rule's total over the steps and the closing is within it
abbrev pub CompetitiveBound : Start → List Step → Type 0
CompetitiveBound o steps = WithinBound o.k o.catalog steps (total_cost (season o steps).figures)

-- the load credits held, in shares
abbrev pub load_credits : State → ℕ
load_credits x = sum_to (size x) (λ i. load_credit (slot_at x i))

-- The sharper line: (h - 1) times the load credits held at the close is added on the left. All is in shares, that is,
-- multiplied by 720,720.
abbrev pub SharpBound : Start → List Step → Type 0
SharpBound o steps =
    (h : ℕ) → 1 ≤ h → h ≤ o.k → (plan : Plan) (c : ℕ) → price o.catalog h plan steps ≡ costs c →
    left_side o.k h (total_cost (season o steps).figures) * unit + (h - 1) * load_credits (season o steps).state
    ≤ right_side o.k c * unit
