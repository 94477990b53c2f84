-- `cache_serve::shares_per_block` meets its contract: each entry of its table is the quotient, by one test of all of them, which is
-- computed. Assumes nothing.
use mathlib.Core.Path.{◌≡◌, refl}
use mathlib.Core.List.{List, [], ◌∷◌}
use Prim.Native.Nat.{ℕ, ◌-◌, ◌*◌, ◌/◌}
use lib.ListN.{get_or}
use Rattle.landlord.specs.Catalog.{unit}
use Rattle.cache_serve.proofs.Shares.{quotient_at}
use Rattle.cache_serve.proofs.shares_per_block.Goals as goal

-- the table, as the code has it
abbrev quotients : List ℕ
quotients =
    720720 ∷ 360360 ∷ 240240 ∷ 180180 ∷ 144144 ∷ 120120 ∷ 102960 ∷ 90090 ∷ 80080 ∷ 72072 ∷ 65520 ∷ 60060 ∷ 55440 ∷ 51480 ∷ 48048 ∷ 45045 ∷ []

pub returns : goal.returns
returns c =
    let read : get_or quotients (c.args.blocks - 1) 0 ≡ unit / c.args.blocks = quotient_at quotients refl c.args.blocks c.requires.0 c.requires.1 in
    λ z. c.cost.ensures.0 z * read z
