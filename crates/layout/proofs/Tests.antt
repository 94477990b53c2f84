-- What the tests of bytes need: bits joined by |, and the bytes of a part. Assumes nothing.
use Rattle.std.proofs.Common.{◌≡◌, ℕ, ◌+◌, ◌^◌, ◌≤◌, ◌<◌, ◌↔◌, List, length, take, drop, get_or, bit_or, nat_lt, EachIndex, ◌∙◌, arith}
use Rattle.std.proofs.lemmas.List.{get_or-take, get_or-drop, length-take-le, length-drop}
use borrow.Author.Tests.{ltb-true, lt-ltb}
use lib.Bits.{or_lt, or_add_and, and_le_l, and_le_r}
use Rattle.fields.specs.LittleEndian.{number_at}
use Rattle.cache_state.specs.InnerBecomes.{Decided}
use Rattle.layout.specs.Layout.{state_bytes, format, AllowedBytes}
use Rattle.layout.specs.InnerRows.{at_format, at_closed, at_held, at_rule}

-- two numbers joined by | have room in k bits exactly if both have
pub or_below : (k a x : ℕ) → (bit_or a x < 2 ^ k) ↔ ((a < 2 ^ k) × (x < 2 ^ k))
or_below k a x =
    (λ h. (omega (arith, or_add_and a x, and_le_r a x), omega (arith, or_add_and a x, and_le_l a x)), λ h. or_lt k a x h.0 h.1)

-- each byte of a part is below m exactly if each byte at its place is
pub part_below :
    (b : List ℕ) (from w m : ℕ) →
    from + w ≤ length b →
    EachIndex (take w (drop from b)) (λ i. get_or (take w (drop from b)) i 0 < m) ↔ ((i : ℕ) → i < w → get_or b (from + i) 0 < m)
part_below b from w m l = (λ h i k. rw (same i k) at (h i (rw long k)), λ h i k. let j : i < w = rw long at k in rw (same i j) (h i j))
  where
    long : length (take w (drop from b)) ≡ w
    long = length-take-le w (drop from b) (omega (arith, length-drop from b))

    same : (i : ℕ) → i < w → get_or (take w (drop from b)) i 0 ≡ get_or b (from + i) 0
    same i k = get_or-take w (drop from b) i 0 k ∙ get_or-drop from b i 0

-- with the number of the layout, the cache's own flag and the rule's number right, the items' flags decide
pub allowed_so :
    (b : List ℕ) (bits : ℕ) →
    length b ≡ state_bytes →
    ((k : ℕ) → (bits < 2 ^ k) ↔ EachIndex (take 256 (drop at_held b)) (λ i. get_or (take 256 (drop at_held b)) i 0 < 2 ^ k)) →
    number_at b at_format 4 ≡ format →
    number_at b at_closed 2 < 2 →
    number_at b at_rule 4 < 2 →
    Decided (AllowedBytes b) (nat_lt bits 2)
allowed_so b bits size each e h g =
    let part = part_below b at_held 256 2 (omega (arith, size)) in
    record {
      yes = λ t. record { format = e; closed = h; rule = g; held = part.0 ((each 1).0 (ltb-true bits 2 t)) };
      only = λ a. lt-ltb bits 2 ((each 1).1 (part.1 a.held));
    }
