-- The lines of a report: a line of numbers, the items' lines, and the last two. Paper 01, 'The text input', and paper 02, 'Four'. What they
-- make together is in crates/report/specs/Report.antt. Assumes nothing.
use Rattle.std.specs.Prelude.{List, [], ◌∷◌, ◌++◌, ℕ, suc, Option, None, Some}
use Rattle.decimal.specs.Decimal.{text_of, digits_of}
use Rattle.landlord.specs.Figures.{Use, Standing, tenths_of, total_cost, left_side, right_side}
use Rattle.report_lines.specs.declared.Rival.{Rival}

-- the byte behind a number: a space before the next one, a line feed behind the last
abbrev pub separator : List ℕ → ℕ
separator [] = 10
separator (x ∷ rest) = 32

-- a line of numbers
unfoldable pub line_of : List ℕ → List ℕ
line_of [] = []
line_of (x ∷ rest) = digits_of x ++ (separator rest ∷ line_of rest)

-- the numbers of an item's line: its own, and what was counted for it, the minutes as tenths of an hour
abbrev pub item_numbers : ℕ → Use → List ℕ
item_numbers i u = i ∷ tenths_of u.minutes ∷ u.loads ∷ u.writebacks ∷ []

-- one line an item, from number i on
unfoldable pub item_lines : ℕ → List Use → List ℕ
item_lines i [] = []
item_lines i (u ∷ uses) = line_of (item_numbers i u) ++ item_lines (suc i) uses

-- a rival plan: its cost, and both sides of the bound
abbrev pub rival_numbers : Standing → Option Rival → List ℕ
rival_numbers v None = []
rival_numbers v (Some plan) = plan.cost ∷ left_side v.k plan.blocks (total_cost v.figures) ∷ right_side v.k plan.cost ∷ []

-- "A report called on a state alone ends its last two lines at `total`"; with a rival's figures they go on
abbrev pub total_names : Option Rival → List ℕ
total_names None = text_of "hits loads loadcost drops dirtydrops writebacks writecost total\n"
total_names (Some plan) = text_of "hits loads loadcost drops dirtydrops writebacks writecost total rival left right\n"

-- the eight totals, with these numbers behind them
abbrev pub totals_then : Standing → List ℕ → List ℕ
totals_then v more =
    let t = v.figures.totals in
    t.hits ∷ t.loads ∷ t.load_cost ∷ t.evictions ∷ t.dirty_evictions ∷ t.writebacks ∷ t.write_cost ∷ total_cost v.figures ∷ more

-- the numbers of the last line: the totals, and those of a rival
abbrev pub total_numbers : Standing → Option Rival → List ℕ
total_numbers v rival = totals_then v (rival_numbers v rival)

-- the totals: a line of names and a line of numbers
unfoldable pub total_lines : Standing → Option Rival → List ℕ
total_lines v rival = total_names rival ++ line_of (total_numbers v rival)
