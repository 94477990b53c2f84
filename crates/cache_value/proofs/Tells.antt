-- The contracts of the methods leave no choice but how the heap is arranged: for each arrangement there is exactly one valid struct where
-- the lazy form stands; and there is one answer that tells so much. At an opening the heap is empty, and nothing is free. And a report's
-- text is within its page. Assumes nothing.
use mathlib.Core.Path.{◌≡◌, refl, sym, ap, ◌∙◌}
use mathlib.Core.Logic.{⊎_elim}
use mathlib.Core.List.{List}
use Prim.Native.Nat.{ℕ, ◌≤◌, ◌<◌}
use native.Mathlib.Omega.{arith}
use lib.ListN.{length}
use Rattle.types.specs.Types.{Told, telling, answer_told}
use Rattle.landlord.specs.Catalog.{Catalog}
use Rattle.landlord.specs.Calls.{Call, call_item, Opening}
use Rattle.types.proofs.Refusals.{refusal_one, refused_some}
use Rattle.cache_state.proofs.Tells.{Sizes}
use Rattle.cache_state.proofs.Tells as records
use Rattle.decimal.proofs.Laws.{less_or_not, wrote_fits, page_length}
use Rattle.report.specs.Report.{report_of}
use Rattle.cache.specs.Contract.{Answers}
use Rattle.cache_value.specs.declared.Cache.{Cache}
use Rattle.std.specs.Prelude.{Ok, Err, None}
use Rattle.cache_value.specs.declared.Answered.{Answered}
use Rattle.cache_value.specs.Contract.{record_of, by_value, Answer, CalledBy, OpenedBy, ReportedBy}

-- structs that are one record are one struct
pub record_one : (c d : Cache) → record_of c ≡ record_of d → c ≡ d
record_one c d e = λ j.
    record {
      k = (e j).k;
      n = (e j).n;
      blocks = (e j).blocks;
      load = (e j).load;
      write = (e j).write;
      held = (e j).held;
      loadcredit = (e j).loadcredit;
      writecredit = (e j).writecredit;
      dirty = (e j).dirty;
      minutes = (e j).minutes;
      itemloads = (e j).itemloads;
      itemwritebacks = (e j).itemwritebacks;
      steps = (e j).steps;
      hits = (e j).hits;
      loads = (e j).loads;
      loadcost = (e j).loadcost;
      evictions = (e j).evictions;
      dirtyevictions = (e j).dirtyevictions;
      writebacks = (e j).writebacks;
      writecost = (e j).writecost;
      flushes = (e j).flushes;
      closed = (e j).closed;
      rule = (e j).rule;
      left = (e j).left;
      arrivals = (e j).arrivals;
      retirements = (e j).retirements;
      level = (e j).level;
      keys = (e j).keys;
      heap = (e j).heap;
      places = (e j).places;
      used = (e j).used;
    }

pub valid_one : (c d : Cache) → Sizes (record_of c) → Sizes (record_of d) → by_value.Valid c → by_value.Valid d → by_value.lazy c ≡ by_value.lazy d → c.heap ≡ d.heap → c ≡ d
valid_one c d sc sd ok so e arranged = record_one c d (records.valid_one (record_of c) (record_of d) sc sd ok so e arranged)

-- so of a call: one answer, and one struct handed back for each arrangement of the heap
pub answers_one :
    (c d e : Cache) (call : Call) (n m : ℕ) →
    Sizes (record_of d) →
    Sizes (record_of e) →
    Answers by_value c call n d →
    Answers by_value c call m e →
    (n ≡ m) × (d.heap ≡ e.heap → d ≡ e)
answers_one c d e call n m sd se p q =
    (p.answer ∙ sym q.answer, λ arranged. valid_one d e sd se p.valid q.valid (p.lazy ∙ sym q.lazy) arranged)

-- ---- answers

pub answer_one : (a b : Answer) → answer_told a ≡ answer_told b → a ≡ b
answer_one (Ok _) (Ok _) e = refl
answer_one (Ok _) (Err r) e = absurd (refused_some r (λ j. (sym e j).number))
answer_one (Err r) (Ok _) e = absurd (refused_some r (λ j. (e j).number))
answer_one (Err r) (Err z) e = ap Err (refusal_one r z e)

-- so of a method on a valid struct: one answer, and one struct handed back for each arrangement of the heap
pub method_one :
    (c : Cache) (call : Call) (r s : Answered) →
    by_value.Valid c →
    Sizes (record_of r.cache) →
    Sizes (record_of s.cache) →
    CalledBy c call r →
    CalledBy c call s →
    (r.answer ≡ s.answer) × (r.cache.heap ≡ s.cache.heap → r.cache ≡ s.cache)
method_one c call r s ok sr ss p q =
    let one = answers_one c r.cache s.cache call _ _ sr ss (p.called.fine ok) (q.called.fine ok) in
    (answer_one r.answer s.answer (p.tells ∙ ap (λ (n : ℕ). telling n 0 (call_item call)) one.0 ∙ sym q.tells), one.1)

-- ---- the opening

-- nothing is held, so the heap has one arrangement
pub opening_one :
    (o : Opening Catalog) (r s : Answered) →
    Sizes (record_of r.cache) →
    Sizes (record_of s.cache) →
    length r.cache.heap ≡ 256 →
    length s.cache.heap ≡ 256 →
    OpenedBy o r →
    OpenedBy o s →
    (r.answer ≡ s.answer) × (r.cache ≡ s.cache)
opening_one o r s sr ss lr ls p q = (
  answer_one r.answer s.answer (p.tells ∙ sym q.tells),
  valid_one r.cache s.cache sr ss p.valid q.valid (p.lazy ∙ sym q.lazy)
      (records.empty_heap (record_of r.cache) p.valid.fields (λ i u. (p.empty i u).held) lr
      ∙ sym (records.empty_heap (record_of s.cache) q.valid.fields (λ i u. (q.empty i u).held) ls)),
)

-- ---- the report

-- a text that was written is within the page as it is then: of a struct that is not valid none is
pub report_within : (c : Cache) (page after : List ℕ) (n : ℕ) → ReportedBy c page (Ok n) after → n ≤ length after
report_within c page after n h = ⊎_elim (λ long. absurd (none long)) (λ few. few) (less_or_not (length after) n)
  where
    t : List ℕ
    t = report_of (by_value.view c) None

    none : length after < n → ⊥
    none long =
        let bad = h.invalid (λ ok. let put = h.fine ok in omega (arith, long, put.size, wrote_fits t page, ap length put.page, page_length t page)) in
        let z : ◌≡◌ {A = ℕ} 0 17 = ap (λ (x : Told). x.number) bad.0 in
        omega (arith, z)
