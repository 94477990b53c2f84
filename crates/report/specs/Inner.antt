-- The names of a report and of a refusal. Assumes nothing.
use Rattle.std.specs.Prelude.{List, ℕ}
use Rattle.decimal.specs.Decimal.{text_of}

-- the names above the items' lines
abbrev pub item_names : List ℕ
item_names = text_of "sail tenths loads writebacks\n"

-- the names above a refusal's two numbers
abbrev pub refusal_names : List ℕ
refusal_names = text_of "refusal line\n"
