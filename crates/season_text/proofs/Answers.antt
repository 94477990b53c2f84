-- Laws of `answer`: what each way through it says of the text. Assumes nothing.
use mathlib.Core.Path.{◌≡◌, refl, sym, ap, subst, ◌∙◌}
use mathlib.Core.List.{List}
use Prim.Native.Nat.{ℕ, ◌≤◌, ◌<◌}
use lib.ListN.{length}
use native.Mathlib.Omega.{arith}
use borrow.Author.Tests.{le-leb, lt-leb}
use Rattle.std.specs.Prelude.{Some, Result, Ok, Err}
use Rattle.types.specs.declared.Refusal.{Refusal}
use Rattle.types.specs.declared.Refusal.TheVariants.{InputTooLong}
use Rattle.landlord.specs.Figures.{Standing}
use Rattle.landlord.specs.Plan.{Priced, costs, fault}
use Rattle.landlord.proofs.Ranges.{catalog_facts}
use Rattle.cache_state.specs.Cache.{view}
use Rattle.layout.specs.Layout.{cache_of}
use Rattle.report.specs.Report.{report_of, Put, longest}
use Rattle.report_lines.specs.Inner.{RivalOk}
use Rattle.season_tables.specs.declared.Seen.{Seen}
use Rattle.season_tables.specs.Tables.{Tables, reading_of}
use Rattle.season_tables.specs.Inner.{Holds, Leads, Roomy, FewRead}
use Rattle.season_tables.specs.InnerSound.{Sound}
use Rattle.season_plan.specs.Plans.{price_of, PricedBy}
use Rattle.season_plan.specs.Inner.{Priceable, PricedAs}
use Rattle.printed.specs.Printed.{Outcome, refused, prints}
use Rattle.season_text.specs.Answer.{closed_season, report_against, priced, reading_outcome, outcome_of}
use Rattle.season_text.specs.Inner.{ClosedAt, Closes, Reportable}
use Rattle.season_tables.proofs.Sound.{accepted_sound}
use Rattle.report.proofs.Longest.{no_longer}
use Rattle.season_text.proofs.Season.{season_capacity}

-- an accepted text in the slices
pub record Reads (s : List ℕ) (x : Seen) (xs calls acts : List ℕ) : Type 0 where
  pub text : Tables
  pub reads : reading_of s ≡ Ok text
  pub holds : Holds x xs calls acts text
  pub sound : Sound text
  pub few_items : x.n ≤ 256
  pub few : FewRead x
  pub roomy : Roomy xs calls acts

-- the scan took every line
pub taken_reads :
    (s : List ℕ) (x : Seen) (xs calls acts : List ℕ) →
    length s ≤ 65536 →
    Leads (reading_of s) (Ok tt) x xs calls acts →
    FewRead x →
    Roomy xs calls acts →
    Reads s x xs calls acts
taken_reads s x xs calls acts short leads few roomy = go (reading_of s) refl leads
  where
    go : (led : Result Tables Refusal) → reading_of s ≡ led → Leads led (Ok tt) x xs calls acts → Reads s x xs calls acts
    go (Ok v) is l =
        let sound = accepted_sound s v short is in
        record {
          text = v;
          reads = is;
          holds = l.1;
          sound = sound;
          few_items = omega (arith, l.1.item_count, (catalog_facts v.catalog sound.catalog).few);
          few = few;
          roomy = roomy;
        }
    go (Err r) is l = absurd (cc)

pub priceable : {s : List ℕ} {x : Seen} {xs calls acts : List ℕ} → Reads s x xs calls acts → Priceable x xs calls acts
priceable r =
    record { text = r.text; holds = r.holds; sound = r.sound; few = r.few; roomy = r.roomy }

pub reportable : {s : List ℕ} {x : Seen} {xs calls acts : List ℕ} {cost : ℕ} → Reads s x xs calls acts → cost ≤ 1000000000000 → Reportable x xs calls cost
reportable {acts = acts} r small =
    record { text = r.text; acts = acts; holds = r.holds; sound = r.sound; few_items = r.few_items; few = r.few; roomy = r.roomy; small = small }

-- ## The outcome

-- "16 first"
pub too_long : (s : List ℕ) → 65536 < length s → outcome_of s ≡ refused (InputTooLong 0)
unfolding outcome_of
too_long s l = rw (lt-leb (length s) 65536 l)

read_outcome : (s : List ℕ) (led : Result Tables Refusal) → length s ≤ 65536 → reading_of s ≡ led → outcome_of s ≡ reading_outcome led
unfolding outcome_of
read_outcome s led l e = rw (le-leb (length s) 65536 l) (ap reading_outcome e)

-- the first faulty line decides
pub line_refused :
    (s : List ℕ) (r : Refusal) (x : Seen) (xs calls acts : List ℕ) →
    length s ≤ 65536 →
    Leads (reading_of s) (Err r) x xs calls acts →
    outcome_of s ≡ refused r
line_refused s r x xs calls acts short leads = read_outcome s (reading_of s) short refl ∙ go (reading_of s) leads
  where
    go : (led : Result Tables Refusal) → Leads led (Err r) x xs calls acts → reading_outcome led ≡ refused r
    go (Ok v) l = absurd (let e = l.0 in cc)
    go (Err y) l = cc

-- then the plan's first fault
pub plan_refused :
    {s : List ℕ} {x : Seen} {xs calls acts : List ℕ} (r : Refusal) →
    length s ≤ 65536 →
    Reads s x xs calls acts →
    PricedAs x xs calls acts (Err r) →
    outcome_of s ≡ refused r
plan_refused {s = s} r short t h = read_outcome s (Ok t.text) short t.reads ∙ go (price_of t.text) (h t.text t.holds t.sound)
  where
    go : (p : Priced) → PricedBy t.text p (Err r) → priced t.text p ≡ refused r
    go (costs c) by = absurd (cc)
    go (fault f) by = cc

-- else the report
pub season_reported :
    {s : List ℕ} {x : Seen} {xs calls acts : List ℕ} (cost : ℕ) →
    length s ≤ 65536 →
    (t : Reads s x xs calls acts) →
    PricedAs x xs calls acts (Ok cost) →
    outcome_of s ≡ prints (report_against t.text cost)
season_reported {s = s} cost short t h = read_outcome s (Ok t.text) short t.reads ∙ go (price_of t.text) (h t.text t.holds t.sound)
  where
    go : (p : Priced) → PricedBy t.text p (Ok cost) → priced t.text p ≡ prints (report_against t.text cost)
    go (costs c) by = cc
    go (fault f) by = absurd (cc)

-- ## The report

-- the text's plan is in range for its closed season
rival_ok : (v : Tables) (cost : ℕ) → Sound v → cost ≤ 1000000000000 → RivalOk (closed_season v) (Some (record { blocks = v.h; cost = cost }))
rival_ok v cost ok small = (ok.rival_low, subst (λ (k : ℕ). v.h ≤ k) (sym (season_capacity v ok)) ok.rival_high, small)

-- and so for a state where that stands
pub rival_fits :
    {x : Seen} {xs calls : List ℕ} {cost : ℕ} {state : List ℕ} →
    Reportable x xs calls cost →
    Closes x xs calls state →
    RivalOk (view (cache_of state)) (Some (record { blocks = x.h; cost = cost }))
rival_fits {x = x} {cost = cost} r closes =
    subst (λ (z : Standing). RivalOk z (Some (record { blocks = x.h; cost = cost }))) (sym (closes r.acts r.text r.holds r.sound).stands)
    (subst (λ (h : ℕ). RivalOk (closed_season r.text) (Some (record { blocks = h; cost = cost }))) (sym r.holds.h) (rival_ok r.text cost r.sound r.small))

-- the report of such a state is the text's
pub reports_season :
    {x : Seen} {xs calls acts : List ℕ} {v : Tables} {cost : ℕ} {state before : List ℕ} {w : Result ℕ Refusal} {after : List ℕ} →
    Holds x xs calls acts v →
    ClosedAt (closed_season v) state →
    RivalOk (view (cache_of state)) (Some (record { blocks = x.h; cost = cost })) →
    Put (report_of (view (cache_of state)) (Some (record { blocks = x.h; cost = cost }))) before w after →
    Put (report_against v cost) before w after × (length (report_against v cost) ≤ longest)
reports_season {x = x} {v = v} {cost = cost} {state = state} {before = before} {w = w} {after = after} holds closed fair put =
    let same : report_of (view (cache_of state)) (Some (record { blocks = x.h; cost = cost })) ≡ report_against v cost =
    ap (λ (z : Standing). report_of z (Some (record { blocks = x.h; cost = cost }))) closed.stands
    ∙ ap (λ (h : ℕ). report_of (closed_season v) (Some (record { blocks = h; cost = cost }))) holds.h in (
      subst (λ (t : List ℕ). Put t before w after) same put,
      subst (λ (t : List ℕ). length t ≤ longest) same (no_longer (cache_of state) (Some (record { blocks = x.h; cost = cost })) closed.valid.cache fair),
    )
