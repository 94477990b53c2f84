-- Rows that lie end to end: each is found at its place, and a store inside one of them leaves the others. Assumes nothing.
use mathlib.Core.Path.{◌≡◌, ap, ◌∙◌}
use mathlib.Core.List.{List, [], ◌∷◌, ◌++◌}
use mathlib.Core.Bool.{Bool}
use Prim.Native.Nat.{ℕ, zero, suc, ◌+◌, ◌*◌, ◌-◌, ◌≤◌, ◌<◌}
use native.Mathlib.Omega.{arith}
use lib.ListN.{length, drop, get_or, length-append}
use lib.Seq.{sets}
use Rattle.fields.specs.LittleEndian.{to_bytes}
use Rattle.fields.specs.Inner.{run_of, flags}
use Rattle.fields.proofs.Laws.{length_to, length_run, length_flags, past, sets_past, sets_within}
use Rattle.layout.specs.InnerRows.{FieldRow, row_bytes}

-- rows of bytes that lie end to end, from one place to another
pub data Packed : ℕ → List FieldRow → ℕ → Type 0 where
  end : {to : ℕ} → Packed to [] to
  row : {at to : ℕ} {x : List ℕ} {rs : List FieldRow} (w : ℕ) → length x ≡ w → Packed (at + w) rs to → Packed at ((at, x) ∷ rs) to

-- a number of `w` bytes, `n` numbers of `w` bytes each, and `n` flags
pub number_row : {at to : ℕ} {rs : List FieldRow} (w v : ℕ) → Packed (at + w) rs to → Packed at ((at, to_bytes w v) ∷ rs) to
number_row w v p = row w (length_to w v) p

pub numbers_row : {at to : ℕ} {rs : List FieldRow} (w n : ℕ) (vs : List ℕ) → length vs ≡ n → Packed (at + n * w) rs to → Packed at ((at, run_of w vs) ∷ rs) to
numbers_row w n vs e p = row {x = run_of w vs} (n * w) (rw (length_run, e)) p

pub flags_row : {at to : ℕ} {rs : List FieldRow} (n : ℕ) (fs : List Bool) → length fs ≡ n → Packed (at + n) rs to → Packed at ((at, flags fs) ∷ rs) to
flags_row n fs e p = row {x = flags fs} n (length_flags fs ∙ e) p

-- their bytes reach from the one place to the other
pub packed_length : {at to : ℕ} {rs : List FieldRow} → Packed at rs to → at + length (row_bytes rs) ≡ to
packed_length end = omega arith
packed_length (row {x = x} {rs = rs} w e p) = omega (arith, length-append x (row_bytes rs), packed_length p)

-- no row stands before the first
after : {at to : ℕ} {rs : List FieldRow} → Packed at rs to → (n : ℕ) → n < length rs → at ≤ (get_or rs n (0, [])).0
after end n h = absurd (omega arith)
after (row w e p) zero l = omega arith
after (row {at = at} {rs = rs} w e p) (suc n) l = omega (arith, after p n (omega arith))

-- what stands at the place of row `n`, `q` bytes into the rows, is that row and those that follow it
pub reach : {at to : ℕ} {rs : List FieldRow} → Packed at rs to → (n q : ℕ) → n < length rs → (get_or rs n (0, [])).0 ≡ at + q → drop q (row_bytes rs) ≡ (get_or rs n (0, [])).1 ++ row_bytes (drop (suc n) rs)
reach end n q l z = absurd (omega arith)
reach (row w e p) zero q l z =
    let f : q ≡ 0 = omega arith in
    rw f
reach (row {at = at} {x = x} {rs = rs} w e p) (suc n) q l z =
    let a : at + w ≤ (get_or rs n (0, [])).0 = after p n (omega arith) in
    past x (row_bytes rs) q (q - w) (omega arith) ∙ reach p n (q - w) (omega arith) (omega arith)

-- rows of which row `n` has other bytes
abbrev pub replaced : List FieldRow → ℕ → List ℕ → List FieldRow
replaced [] n y = []
replaced (r ∷ rs) zero y = (r.0, y) ∷ rs
replaced (r ∷ rs) (suc n) y = r ∷ replaced rs n y

-- a store inside row `n`, `q` bytes into the rows and `off` bytes into the row
pub sets_row :
    {at to : ℕ} {rs : List FieldRow} →
    Packed at rs to →
    (n q off : ℕ) (x : List ℕ) →
    n < length rs →
    (get_or rs n (0, [])).0 ≡ at + q →
    off + length x ≤ length (get_or rs n (0, [])).1 →
    sets (row_bytes rs) (q + off) x ≡ row_bytes (replaced rs n (sets (get_or rs n (0, [])).1 off x))
sets_row end n q off x l z k = absurd (omega arith)
sets_row (row {x = y} {rs = rs} w e p) zero q off x l z k =
    let f : q + off ≡ off = omega arith in
    rw f (sets_within y (row_bytes rs) x off k)
sets_row (row {at = at} {x = y} {rs = rs} w e p) (suc n) q off x l z k =
    let a : at + w ≤ (get_or rs n (0, [])).0 = after p n (omega arith) in
    sets_past y (row_bytes rs) x (q + off) (q - w + off) (omega arith)
    ∙ ap (λ (t : List ℕ). y ++ t) (sets_row p n (q - w) off x (omega arith) (omega arith) k)
