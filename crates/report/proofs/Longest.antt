-- No report is longer than `longest`, and no output of a refused input. Assumes nothing.
use mathlib.Core.Path.{◌≡◌, refl, ap}
use mathlib.Core.List.{List, [], ◌∷◌}
use Prim.Native.Nat.{ℕ, zero, suc, ◌+◌, ◌*◌, ◌-◌, ◌^◌, ◌≤◌, ◌<◌}
use native.Mathlib.Nat.{le_refl}
use native.Mathlib.Omega.{arith}
use lib.ListN.{length, drop, length-append}
use Rattle.std.specs.Prelude.{Option, None, Some}
use Rattle.decimal.specs.Decimal.{digits_of}
use Rattle.decimal.proofs.Laws.{digits_length}
use Rattle.types.specs.declared.Refusal.{Refusal}
use Rattle.sentence.proofs.Sentences.{sentence_fits}
use Rattle.types.specs.Types.{refusal_number, refusal_line, refusal_item}
use Rattle.landlord.specs.Rule.{size}
use Rattle.landlord.specs.Figures.{Use, use_at, tenths_of, total_cost, left_side, right_side}
use Rattle.landlord.proofs.Sums.{sum_term}
use Rattle.cache_state.specs.Cache.{Cache, uses_of, view, Valid}
use Rattle.cache_state.specs.InnerView.{usage_of, state_of, figures_of}
use Rattle.cache_state.proofs.Views.{size_is, use_is}
use Rattle.report_lines.specs.declared.Rival.{Rival}
use Rattle.report_lines.specs.Lines.{separator, line_of, item_numbers, item_lines, rival_numbers, total_names, total_numbers}
use Rattle.report_lines.specs.Inner.{RivalOk}
use Rattle.report_lines.proofs.Sides.{few_blocks, left_fits, right_fits}
use Rattle.report_lines.proofs.Laws.{items_count, items_end, names_alone_count, names_priced_count, totals_count}
use Rattle.report.specs.Report.{report_of, refusal_text, longest}
use Rattle.types.proofs.Refusals.{refusal_range}
use Rattle.report.proofs.Laws.{report_count, refused_count}

-- a number of at most w digits in front of a line makes it longer by at most w + 1
cons_longest :
    (x w m : ℕ) (ns : List ℕ) {k : ℕ} →
    x < 10 ^ w →
    (1 ≤ w) × (w + 1 + m ≤ k) →
    length (line_of ns) ≤ m →
    length (line_of (x ∷ ns)) ≤ k
unfolding line_of
cons_longest x w m ns h k l =
    omega (arith, digits_length x w h k.0, length-append (digits_of x) (separator ns ∷ line_of ns))

none_longest : length (line_of []) ≤ 0
unfolding line_of
none_longest = omega arith

-- ## The items

-- what a valid cache has counted for item i
module _ (c : Cache) (v : Valid c) (i : ℕ) (l : i < c.n) where
  here : i < size (state_of c)
  here = rw (size_is c) l

  few_tenths : tenths_of (usage_of c i).minutes ≤ 240000000
  few_tenths =
      let e : (use_at (figures_of c) i).minutes ≡ (usage_of c i).minutes = ap (λ (u : Use). u.minutes) (use_is c i l) in
      omega (arith, v.standing.minutes i here, v.standing.taken)

  few_loads : (usage_of c i).loads ≤ 1000000
  few_loads =
      let e : (use_at (figures_of c) i).loads ≡ (usage_of c i).loads = ap (λ (u : Use). u.loads) (use_is c i l) in
      omega (arith, sum_term (size (state_of c)) i (λ j. (use_at (figures_of c) j).loads) here, v.standing.loads_add, v.standing.steps, v.standing.taken)

  few_writebacks : (usage_of c i).writebacks ≤ 1000000
  few_writebacks =
      let e : (use_at (figures_of c) i).writebacks ≡ (usage_of c i).writebacks = ap (λ (u : Use). u.writebacks) (use_is c i l) in
      omega (arith, sum_term (size (state_of c)) i (λ j. (use_at (figures_of c) j).writebacks) here, v.standing.writebacks_add, v.standing.writebacks, v.standing.taken)

  item_longest : length (line_of (item_numbers i (usage_of c i))) ≤ 30
  item_longest =
      cons_longest i 3 26 _ (omega (arith, v.fields.few)) (omega arith)
      (cons_longest (tenths_of (usage_of c i).minutes) 9 16 _ (omega (arith, few_tenths)) (omega arith)
      (cons_longest (usage_of c i).loads 7 8 _ (omega (arith, few_loads)) (omega arith)
      (cons_longest (usage_of c i).writebacks 7 0 _ (omega (arith, few_writebacks)) (omega arith) none_longest)))

rest_longest : (c : Cache) → Valid c → (k i : ℕ) → i + k ≡ c.n → length (item_lines i (drop i (uses_of c))) ≤ 30 * k
rest_longest c v zero i e = omega (arith, ap length (items_end c i (omega arith)))
rest_longest c v (suc k) i e =
    omega (
      arith,
      items_count c i (item_numbers i (usage_of c i)) (omega arith) refl,
      item_longest c v i (omega arith),
      rest_longest c v k (i + 1) (omega arith),
    )

pub items_longest : (c : Cache) → Valid c → length (item_lines 0 (uses_of c)) ≤ 7680
items_longest c v = omega (arith, rest_longest c v c.n 0 (omega arith), v.fields.few)

-- ## The totals

rival_longest :
    (c : Cache) (rival : Option Rival) → Valid c → RivalOk (view c) rival →
    length (total_names rival) + length (line_of (rival_numbers (view c) rival)) ≤ 144
rival_longest c None v f = omega (arith, names_alone_count, none_longest)
rival_longest c (Some plan) v f =
    let line : length (line_of (rival_numbers (view c) (Some plan))) ≤ 63 =
    cons_longest plan.cost 20 42 _ (omega (arith, f.2)) (omega arith)
    (cons_longest (left_side c.k plan.blocks (total_cost (figures_of c))) 20 21 _ (omega (arith, left_fits c v (c.k - plan.blocks + 1) (omega (arith, few_blocks c v, f.0, f.1)))) (omega arith)
    (cons_longest (right_side c.k plan.cost) 20 0 _ (omega (arith, right_fits c v plan.cost f.2)) (omega arith) none_longest)) in
    omega (arith, names_priced_count plan)

-- the eight totals and the bytes behind them, in front of a rival's numbers
totals_longest :
    (c : Cache) (rival : Option Rival) → Valid c → length (line_of (total_numbers (view c) rival)) ≤ 77 + length (line_of (rival_numbers (view c) rival))
totals_longest c rival v =
    let r = v.standing in
    let m = length (line_of (rival_numbers (view c) rival)) in
    cons_longest c.hits 7 (69 + m) _ (omega arith) (omega arith)
    (cons_longest c.loads 7 (61 + m) _ (omega arith) (omega arith)
    (cons_longest c.loadcost 11 (49 + m) _ (omega arith) (omega arith)
    (cons_longest c.evictions 7 (41 + m) _ (omega arith) (omega arith)
    (cons_longest c.dirtyevictions 7 (33 + m) _ (omega arith) (omega arith)
    (cons_longest c.writebacks 7 (25 + m) _ (omega arith) (omega arith)
    (cons_longest c.writecost 11 (13 + m) _ (omega arith) (omega arith)
    (cons_longest (c.loadcost + c.writecost) 12 m (rival_numbers (view c) rival) (omega arith) (omega arith) (le_refl m))))))))

pub no_longer : (c : Cache) (rival : Option Rival) → Valid c → RivalOk (view c) rival → length (report_of (view c) rival) ≤ longest
no_longer c rival v f =
    omega (arith, report_count (view c) rival, totals_count (view c) rival, items_longest c v, rival_longest c rival v f, totals_longest c rival v)

-- ## A refusal

pub refusal_no_longer : (r : Refusal) → refusal_line r < 2 ^ 32 → refusal_item r < 2 ^ 32 → length (refusal_text r) ≤ longest
refusal_no_longer r h k =
    let line : length (line_of (refusal_number r ∷ refusal_line r ∷ [])) ≤ 14 =
    cons_longest (refusal_number r) 2 11 _ (omega (arith, (refusal_range r).1)) (omega arith)
    (cons_longest (refusal_line r) 10 0 _ (omega arith) (omega arith) none_longest) in
    omega (arith, refused_count r refl refl refl, sentence_fits (refusal_number r) (refusal_line r) (refusal_item r) (omega arith) (omega arith))
