-- A cost's shares a block: they fit a word, and so many for each of the blocks are the whole cost again. Assumes nothing.
use mathlib.Core.Path.{◌≡◌, sym, ap, subst, ◌∙◌}
use mathlib.Core.Bool.{true}
use mathlib.Core.List.{List}
use Prim.Native.Nat.{ℕ, zero, suc, ◌-◌, ◌*◌, ◌/◌, ◌≤◌}
use native.Mathlib.Nat.{mul-le-mul, div-le_self}
use native.Mathlib.Omega.{arith}
use lib.ListN.{get_or}
use Rattle.landlord.specs.Catalog.{full, unit, shares_per_block}
use Rattle.basis.proofs.Tables.{tabulates, entry_is}
use Rattle.landlord.proofs.Slots.{share_fact, sixteen_divide}

-- a cost times a quotient of the unit, whatever the blocks
pub shares_small : (price s : ℕ) → price ≤ 65535 → shares_per_block price s ≤ 65535 * unit
shares_small price s l = mul-le-mul l (div-le_self unit s)

-- a table that has the quotients of 1 to 16 blocks has that of s blocks at s - 1
pub quotient_at :
    (quotients : List ℕ) →
    tabulates quotients (λ i. unit / suc i) 16 ≡ true →
    (s : ℕ) →
    1 ≤ s →
    s ≤ 16 →
    get_or quotients (s - 1) 0 ≡ unit / s
quotient_at quotients t zero low high = absurd (let z : 1 ≤ 0 = low in omega arith)
quotient_at quotients t (suc i) low high =
    let place : suc i - 1 ≡ i = omega arith in
    rw place (entry_is quotients (λ i. unit / suc i) 16 t i (omega arith))

pub whole_again : (price s : ℕ) {r : ℕ} → 1 ≤ s → s ≤ 16 → r ≡ shares_per_block price s → r * s ≡ full price
whole_again price s low high e = ap (λ (z : ℕ). z * s) e ∙ share_fact price s (sixteen_divide s low high)

-- what is read as an item's blocks is 1 to 16
pub blocks_read : {x r : ℕ} → 1 ≤ x → x ≤ 16 → r ≡ x → (1 ≤ r) × (r ≤ 16)
blocks_read low high e = subst (λ (s : ℕ). (1 ≤ s) × (s ≤ 16)) (sym e) (low, high)
