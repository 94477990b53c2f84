-- The number of an answer by value: it is at most 20, and an opening's answer tells it alone. Assumes nothing.
use mathlib.Core.Path.{◌≡◌, sym, ap, ◌∙◌}
use mathlib.Core.Bool.{Bool, true, false, cond, ◌&&◌}
use Prim.Native.Nat.{ℕ, ◌≤◌, ◌<◌}
use native.Mathlib.Omega.{arith}
use lib.ListN.{length}
use lib.Dec.{leb, ltb, eqb}
use Rattle.types.specs.declared.Step.{Step}
use Rattle.types.specs.declared.Step.TheVariants.{Read, Write, Flush, Arrive, Retire}
use Rattle.types.specs.Types.{Told, telling, answer_told, answer_number, step_of, is_deduction}
use Rattle.landlord.specs.Catalog.{Catalog, item_at, capacity_in_range, catalog_in_range, none_left}
use Rattle.landlord.specs.Figures.{Standing}
use Rattle.landlord.specs.Steps.{range_refusal, if_known, item_refusal, step_refusal}
use Rattle.landlord.specs.Calls.{Call, step_call, close, refusal_at, refusal_now, Opening, opening_refusal}
use Rattle.landlord.proofs.Steps.{range_few}
use Rattle.cache.specs.Contract.{Called}
use Rattle.cache_value.specs.declared.Cache.{Cache}
use Rattle.cache_value.specs.declared.Answered.{Answered}
use Rattle.cache_value.specs.Contract.{by_value, OpenedBy}
use Rattle.cache_value.specs.Inner.{Opened}
use Rattle.cache_value.proofs.Openings.{at_opening, lazy_opened}

-- ---- the number is at most 20

chosen : (t : Bool) {a b : ℕ} → a ≤ 20 → b ≤ 20 → cond t a b ≤ 20
chosen true p q = p
chosen false p q = q

-- each number of the table is, whatever its tests say: a law of the rule's table alone
table_number : (v : Standing) (call : Call) → refusal_now v call ≤ 20
unfolding refusal_at step_refusal
table_number v close = chosen v.closed (omega arith) (omega arith)
table_number v (step_call n) =
    chosen v.closed (omega arith)
    (chosen (leb 1000000 v.figures.totals.steps) (omega arith) (chosen (eqb (range_refusal n) 0) (asks (step_of n)) (range_few n)))
  where
    cat : Catalog
    cat = v.state.catalog

    known : (j : ℕ) {next : ℕ} → next ≤ 20 → if_known cat j next ≤ 20
    known j l = chosen (ltb j (length cat)) (chosen (item_at cat j).left (omega arith) l) (omega arith)

    room : (j : ℕ) → cond (leb (item_at cat j).blocks v.k) 0 7 ≤ 20
    room j = chosen (leb (item_at cat j).blocks v.k) (omega arith) (omega arith)

    asks : (s : Step) → item_refusal v.k cat s ≤ 20
    asks (Read j) = known j (room j)
    asks (Write j minutes) = known j (room j)
    asks Flush = omega arith
    asks (Arrive j b l w) = chosen (eqb j (length cat)) (omega arith) (omega arith)
    asks (Retire j) = known j (omega arith)

-- so a call's is: on a valid cache it is the table's, else 17
pub call_number : {c d : Cache} {call : Call} {n : ℕ} → Called by_value c call n d → n ≤ 20
call_number {c = c} {call = call} {n = n} h = omega (arith, above)
  where
    above : 20 < n → ⊥
    above l =
        let seventeen = (h.invalid (λ ok. omega (arith, (h.fine ok).answer, table_number (by_value.view c) call))).0 in
        omega (arith, seventeen)

pub opening_number_lem : {o : Opening Catalog} {n : ℕ} {c : Cache} → Opened o n c → n ≤ 20
unfolding opening_refusal
opening_number_lem {o = o} h =
    let most : opening_refusal o ≤ 20 = chosen (capacity_in_range o.k && catalog_in_range o.catalog && none_left o.catalog) (chosen (is_deduction o.rule) (omega arith) (omega arith)) (omega arith) in
    omega (arith, h.answer, most)

-- ---- the answer tells it

pub number_told : {t : Told} {n : ℕ} (item : ℕ) → t ≡ telling n 0 item → t.number ≡ n
number_told item e = ap (λ (t : Told). t.number) e

pub opened_as : (o : Opening Catalog) (n : ℕ) (r : Answered) → Opened o n r.cache → answer_told r.answer ≡ telling n 0 0 → OpenedBy o r
opened_as o n r h t =
    record {
      tells = t ∙ ap (λ (m : ℕ). telling m 0 0) h.answer;
      valid = h.valid;
      stands = h.stands ∙ ap (at_opening o) h.answer;
      lazy = h.lazy ∙ ap (lazy_opened o) h.answer;
      empty = h.empty;
    }

pub opened_by : (o : Opening Catalog) (r : Answered) → OpenedBy o r → Opened o (answer_number r.answer) r.cache
opened_by o r h =
    let n = number_told 0 h.tells in
    record {
      answer = n;
      valid = h.valid;
      stands = h.stands ∙ ap (at_opening o) (sym n);
      lazy = h.lazy ∙ ap (lazy_opened o) (sym n);
      empty = h.empty;
    }
