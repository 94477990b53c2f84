-- The laws by which the writers of lines are proved. A text is written in parts, each into the rest of the page (`TextGoing` of `decimal`),
-- and what is left of it is known by one law for each definition of specs/Lines.antt: the next part, and its length. Assumes nothing.
use mathlib.Core.Path.{◌≡◌, refl, ap, ◌∙◌}
use mathlib.Core.List.{List, [], ◌∷◌, ◌++◌}
use Rattle.std.specs.Prelude.{Option, None, Some, sum_by}
use Rattle.std.proofs.lemmas.List.Sums.{sum_by-cons, sum_by-le}
use Rattle.std.proofs.lemmas.List.Elements.{All-from_get_or}
use Prim.Native.Nat.{ℕ, suc, ◌+◌, ◌*◌, ◌-◌, ◌^◌, ◌≤◌, ◌<◌}
use native.Mathlib.Numerals.{add-one}
use native.Mathlib.Omega.{arith}
use lib.ListN.{length, get_or, drop, length-append, drop_of_length-le}
use lib.Seq.{drop-cons}
use Rattle.decimal.specs.Decimal.{digits_of, wrote_of, page_of}
use Rattle.decimal.proofs.Laws.{digits_twenty}
use Rattle.decimal.proofs.Pages.{TextGoing, go_as, go_number}
use borrow.Rule.Slice.PartMut.{mid_of, put_mid}
use Rattle.landlord.specs.Figures.{Use, no_use, Standing}
use Rattle.cache_state.specs.Cache.{Cache, uses_of}
use Rattle.cache_state.specs.InnerView.{usage_of}
use Rattle.cache_state.proofs.Views.{uses_length, use_is}
use Rattle.report_lines.specs.declared.Rival.{Rival}
use Rattle.report_lines.specs.Lines.{separator, line_of, item_numbers, item_lines, total_names, total_numbers, total_lines}

-- ## What is left of a line of numbers

pub line_next :
    (ns : List ℕ) (i : ℕ) → i < length ns →
    line_of (drop i ns) ≡ digits_of (get_or ns i 0) ++ (separator (drop (i + 1) ns) ∷ line_of (drop (i + 1) ns))
unfolding line_of
line_next ns i h = rw (drop-cons ns i 0 h, add-one)

pub line_end : (ns : List ℕ) (i : ℕ) → length ns ≤ i → line_of (drop i ns) ≡ []
unfolding line_of
line_end ns i h = rw (drop_of_length-le ns {i = i} h)

-- a space before the next number, a line feed behind the last
pub space_next : (ns : List ℕ) (i : ℕ) → i < length ns → separator (drop i ns) ≡ 32
space_next ns i h = rw (drop-cons ns i 0 h)

pub feed_last : (ns : List ℕ) (i : ℕ) → length ns ≤ i → separator (drop i ns) ≡ 10
feed_last ns i h = rw (drop_of_length-le ns {i = i} h)

-- the number of the line that is next is written, by a writer that would leave the page as it was if there were no room
pub number_written :
    (ns : List ℕ) {before : List ℕ} → length (line_of ns) ≤ length before →
    (i : ℕ) → i < length ns →
    {at w : ℕ} {page ys : List ℕ} → TextGoing (line_of ns) before at (line_of (drop i ns)) page →
    w ≡ wrote_of (digits_of (get_or ns i 0)) (mid_of at (length page - at) page) →
    ys ≡ page_of (digits_of (get_or ns i 0)) (mid_of at (length page - at) page) →
    TextGoing (line_of ns) before (at + w) (separator (drop (i + 1) ns) ∷ line_of (drop (i + 1) ns)) (put_mid at (length page - at) page ys)
number_written ns room i h g value after = go_number room (get_or ns i 0) _ (go_as (line_next ns i h) g) (value, after)

-- the whole of it: its numbers, each with the byte behind it
pub line_sum : (ns : List ℕ) → length (line_of ns) ≡ sum_by (λ x. length (digits_of x) + 1) ns
unfolding line_of
line_sum [] = refl
line_sum (x ∷ rest) =
    omega (arith, length-append (digits_of x) (separator rest ∷ line_of rest), line_sum rest, sum_by-cons (λ y. length (digits_of y) + 1) x rest)

-- and no number of a u64 has more than 20 digits
pub line_most : (ns : List ℕ) → ((i : ℕ) → i < length ns → get_or ns i 0 < 2 ^ 64) → length (line_of ns) ≤ length ns * 21
line_most ns f =
    let few = All-from_get_or (λ x. length (digits_of x) + 1 ≤ 21) ns 0 (λ i h. omega (arith, digits_twenty (get_or ns i 0) (f i h))) in
    omega (arith, line_sum ns, sum_by-le (λ x. length (digits_of x) + 1) 21 ns few)

-- ## What is left of the items' lines

-- ns are the numbers of item i's line
pub items_next :
    (c : Cache) (i : ℕ) (ns : List ℕ) → i < c.n → ns ≡ item_numbers i (usage_of c i) →
    item_lines i (drop i (uses_of c)) ≡ line_of ns ++ item_lines (i + 1) (drop (i + 1) (uses_of c))
unfolding item_lines
items_next c i ns h e =
    let u : i < length (uses_of c) = omega (arith, uses_length c) in
    rw (e, drop-cons (uses_of c) i no_use u, add-one)
    (ap (λ (x : Use). line_of (item_numbers i x) ++ item_lines (suc i) (drop (suc i) (uses_of c))) (use_is c i h))

pub items_end : (c : Cache) (i : ℕ) → c.n ≤ i → item_lines i (drop i (uses_of c)) ≡ []
unfolding item_lines
items_end c i h = rw (drop_of_length-le (uses_of c) {i = i} (omega (arith, uses_length c)))

-- what is left of the items' lines begins with that of item i
pub items_as :
    {before : List ℕ} (c : Cache) (i : ℕ) (ns : List ℕ) → i < c.n → ns ≡ item_numbers i (usage_of c i) →
    {at : ℕ} {page : List ℕ} → TextGoing (item_lines 0 (uses_of c)) before at (item_lines i (drop i (uses_of c))) page →
    TextGoing (item_lines 0 (uses_of c)) before at (line_of ns ++ item_lines (i + 1) (drop (i + 1) (uses_of c))) page
items_as c i ns h e g = go_as (items_next c i ns h e) g

-- the items' lines, an item at a time
pub items_count :
    (c : Cache) (i : ℕ) (ns : List ℕ) → i < c.n → ns ≡ item_numbers i (usage_of c i) →
    length (item_lines i (drop i (uses_of c))) ≡ length (line_of ns) + length (item_lines (i + 1) (drop (i + 1) (uses_of c)))
items_count c i ns h e = ap length (items_next c i ns h e) ∙ length-append (line_of ns) (item_lines (i + 1) (drop (i + 1) (uses_of c)))

-- ## The last two lines

-- the last two lines, from the numbers of the last
pub totals_as :
    (v : Standing) (rival known : Option Rival) (ns : List ℕ) →
    rival ≡ known → ns ≡ total_numbers v known → total_lines v rival ≡ total_names known ++ line_of ns
unfolding total_lines
totals_as v rival known ns e f = rw (e, f)

-- ## Lengths

pub names_alone_count : length (total_names None) ≡ 64
names_alone_count = refl

pub names_priced_count : (plan : Rival) → length (total_names (Some plan)) ≡ 81
names_priced_count plan = refl

pub totals_count :
    (v : Standing) (rival : Option Rival) → length (total_lines v rival) ≡ length (total_names rival) + length (line_of (total_numbers v rival))
unfolding total_lines
totals_count v rival = length-append (total_names rival) (line_of (total_numbers v rival))
