-- Laws of a text's steps as the numbers of calls, with the closing stored behind them: they stand for the text's calls, so the state
-- that they lead to is that of the closed season. Assumes nothing.
use mathlib.Core.Path.{◌≡◌, sym, ap, ◌∙◌}
use mathlib.Core.List.{List, ◌∷◌, ◌++◌}
use Prim.Native.Nat.{ℕ, suc, ◌+◌, ◌*◌, ◌≤◌}
use native.Mathlib.Omega.{arith}
use lib.ListN.{length, take, drop, set, length-drop}
use lib.Seq.{length-take-le, take-append-add, set_split}
use Rattle.types.specs.Types.{deduction_number}
use Rattle.landlord.specs.Calls.{opening}
use Rattle.landlord.specs.CallNumbers.{calls_of}
use Rattle.landlord.proofs.CallNumbers.{numbers_close}
use Rattle.catalog_bytes.specs.Catalogs.{catalog_in}
use Rattle.cache_open.specs.Opening.{opening_number}
use Rattle.cache_open.proofs.Openings.{asks}
use Rattle.cache.specs.Contract.{lent}
use Rattle.cache_run.specs.Season.{Season, SeasonLent, RanLent}
use Rattle.season_tables.specs.declared.Seen.{Seen}
use Rattle.season_text.specs.Answer.{calls_in, opening_for}
use Rattle.season_text.specs.Inner.{Closable, Closes}
use Rattle.season_text.proofs.Season.{text_stands, text_opens}

-- what stands at the start of a list after a store: what stood before its place, the number stored, and six numbers more
store_closes : (l : List ℕ) (n : ℕ) → n + 7 ≤ length l → take (n + 7) (set l n 1) ≡ take n l ++ (1 ∷ take 6 (drop (suc n) l))
store_closes l n b =
    let rest : List ℕ = 1 ∷ drop (suc n) l in
    ap (take (n + 7)) (set_split l n 1 (omega arith))
    ∙ ap (λ (m : ℕ). take (m + 7) (take n l ++ rest)) (sym (length-take-le n l (omega arith)))
    ∙ take-append-add (take n l) rest 7

-- whatever accepted text the slices hold, the run of it and of the closing behind it is that of the text's calls
pub season_closes :
    (x : Seen) (xs calls state before after : List ℕ) (rule number : ℕ) (last : List ℕ) →
    Closable x xs calls state →
    rule ≡ deduction_number x.rule →
    RanLent state (opening x.k rule (take (5 * x.n) xs)) (calls_of (take (7 * x.steps + 7) (set calls (7 * x.steps) 1))) before after number last →
    Closes x xs calls last
season_closes x xs calls state before after rule number last c is ran acts v h ok =
    let end : ℕ = 7 * x.steps in
    let room : end + 7 ≤ length calls = omega (arith, c.few.steps, c.roomy.for_steps) in
    let more : List ℕ = take 6 (drop (suc end) calls) in
    let six : length more ≡ 6 = length-take-le 6 (drop (suc end) calls) (omega (arith, length-drop (suc end) calls)) in
    let first : List ℕ = take (5 * x.n) xs in
    let size : length first ≡ 5 * x.n = length-take-le (5 * x.n) xs (omega (arith, c.roomy.for_items, c.few_items)) in
    let same : calls_of (take (end + 7) (set calls end 1)) ≡ calls_in v =
    ap calls_of (store_closes calls end room ∙ ap (λ (z : List ℕ). z ++ (1 ∷ more)) h.steps_noted) ∙ numbers_close v.steps more six
    in
    let own : rule ≡ deduction_number v.rule = is ∙ ap deduction_number h.rule in
    let opens : opening_number (length state) (opening x.k rule first) ≡ 0 =
    asks (length state) (opening x.k rule first) (record { state = c.room; whole = omega (arith, size); few = omega (arith, size, c.few_items) })
    ∙ rw (h.k, own, h.items) (text_opens v ok)
    in
    let run : SeasonLent (opening x.k rule (catalog_in first)) (calls_of (take (end + 7) (set calls end 1))) ran.numbers last = (ran.season (ran.answer ∙ opens)).0 in
    let so : Season lent (opening_for v v.catalog) (calls_in v) ran.numbers last = rw (h.k, own, h.items, same) at run.season in
    record { valid = so.valid; stands = text_stands v ok ran.numbers last so }
