-- An answer, printed, is what is due for the input. Assumes nothing.
use mathlib.Core.Path.{◌≡◌, refl, sym, ap, subst, ◌∙◌}
use mathlib.Core.Bool.{Bool, true, false, cond}
use mathlib.Core.List.{List, ◌++◌}
use Prim.Native.Nat.{ℕ, ◌≤◌}
use native.Mathlib.Omega.{arith}
use lib.ListN.{length, drop}
use borrow.Author.Tests.{le-leb}
use Rattle.std.specs.Prelude.{Result, Ok, Err}
use Rattle.types.specs.declared.Refusal.{Refusal}
use Rattle.types.specs.declared.Refusal.TheVariants.{ShortBuffer}
use Rattle.types.specs.Types.{Told, telling, nothing_told, told}
use Rattle.types.proofs.Refusals.{refusal_one, refused_some}
use Rattle.decimal.specs.Decimal.{fits, wrote_of, page_of}
use Rattle.decimal.proofs.Laws.{wrote_all, wrote_fits, page_all, page_length}
use Rattle.report.specs.Report.{refusal_text, longest}
use Rattle.printed.specs.Printed.{Outcome, refused, prints, Yields, printed_on, output_of, Printed, printed_bytes, printed_page}
use Rattle.printed.specs.Inner.{OutcomeFits, RefusalFits}

-- the text was put on the page
text_fits : (b : Bool) → nothing_told ≡ telling (cond b 0 15) 0 0 → b ≡ true
text_fits true e = refl
text_fits false e = absurd (let n : ◌≡◌ {A = ℕ} 0 15 = ap (λ (t : Told). t.number) e in omega (arith, n))

-- or there was no room for it: 15
text_short : (b : Bool) (x : Refusal) → told x ≡ telling (cond b 0 15) 0 0 → (b ≡ false) × (x ≡ ShortBuffer 0)
text_short true x e = absurd (refused_some x (ap (λ (t : Told). t.number) e))
text_short false x e = (refl, refusal_one x (ShortBuffer 0) e)

-- on a page of so many bytes nothing is told to be short
whole_on : (most : ℕ) (o : Outcome) (page : List ℕ) → OutcomeFits most o → most ≤ length page → printed_on o page ≡ output_of o
whole_on most (refused r) page f l = refl
whole_on most (prints t) page f l = rw (le-leb (length t) (length page) (omega (arith, f)))

-- what stands on a page of which so much was written
on_page :
    (most : ℕ) (o : Outcome) (before after t : List ℕ) (n : ℕ) →
    OutcomeFits most o →
    length (output_of o) ≤ most →
    printed_on o before ≡ t →
    n ≡ wrote_of t before →
    after ≡ page_of t before →
    Printed most o before n after × (n ≤ length after)
on_page most o before after t n f short is e p = (
  record {
    count = e ∙ ap (λ (z : List ℕ). wrote_of z before) (sym is);
    page = p ∙ ap (λ (z : List ℕ). page_of z before) (sym is);
    whole = λ room.
        let out : List ℕ = output_of o in
        let same : t ≡ out = sym is ∙ whole_on most o before f room in
        let few : length out ≤ length before = omega (arith, short) in (
          e ∙ ap (λ (z : List ℕ). wrote_of z before) same ∙ wrote_all out before few,
          p ∙ ap (λ (z : List ℕ). page_of z before) same ∙ page_all out before few,
        );
  },
  subst (λ (z : ℕ). n ≤ z) (sym (ap length p ∙ page_length t before)) (subst (λ (z : ℕ). z ≤ length before) (sym e) (wrote_fits t before)),
)

-- an answer that is printed on its page
pub answer_printed :
    (most : ℕ) (o : Outcome) (before : List ℕ) (w : Result ℕ Refusal) (middle : List ℕ) (n : ℕ) (after : List ℕ) →
    longest ≤ most →
    OutcomeFits most o →
    Yields o before w middle →
    RefusalFits w →
    n ≡ printed_bytes w middle →
    after ≡ printed_page w middle →
    Printed most o before n after × (n ≤ length after)
answer_printed most (refused x) before (Ok m) middle n after room f a s e p =
    absurd (refused_some x (ap (λ (t : Told). t.number) (sym a.0)))
answer_printed most (refused x) before (Err y) middle n after room f a s e p =
    let same : refusal_text x ≡ refusal_text y = ap refusal_text (sym (refusal_one y x a.0)) in
    on_page most (refused x) before after (refusal_text y) n f (omega (arith, ap length same, s)) same
    (e ∙ ap (wrote_of (refusal_text y)) a.1)
    (p ∙ ap (page_of (refusal_text y)) a.1)
answer_printed most (prints t) before (Ok m) middle n after room f a s e p =
    on_page most (prints t) before after t n f f
    (ap (λ (b : Bool). cond b t (refusal_text (ShortBuffer 0))) (text_fits (fits t before) a.tells))
    (e ∙ a.size)
    (p ∙ a.page)
answer_printed most (prints t) before (Err y) middle n after room f a s e p =
    let short = text_short (fits t before) y a.tells in
    let same : middle ≡ before = a.page ∙ unfold page_of in ap (λ (b : Bool). cond b (t ++ drop (length t) before) before) short.0 in
    on_page most (prints t) before after (refusal_text y) n f f
    (ap (λ (b : Bool). cond b t (refusal_text (ShortBuffer 0))) short.0 ∙ ap refusal_text (sym short.1))
    (e ∙ ap (wrote_of (refusal_text y)) same)
    (p ∙ ap (page_of (refusal_text y)) same)
