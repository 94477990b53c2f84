-- Laws of the answers to a step and to the closing: refused, and the state stays; or taken, and it moves on. Assumes nothing.
use mathlib.Core.Path.{◌≡◌, refl, sym, ap, subst, ◌∙◌}
use mathlib.Core.Logic.{◌≢◌}
use mathlib.Core.Bool.{true, false}
use mathlib.Core.List.{List}
use Prim.Native.Nat.{ℕ}
use native.Mathlib.Omega.{arith}
use borrow.Author.Tests.{ne_eqb}
use Rattle.types.specs.declared.Numbers.{Numbers}
use Rattle.types.specs.Types.{step_of}
use Rattle.landlord.specs.Slot.{split_of}
use Rattle.landlord.specs.Figures.{Standing}
use Rattle.landlord.specs.Claims.{SplitOk}
use Rattle.landlord.specs.Calls.{Call, step_call, close, refusal_at, refusal_now, after}
use Rattle.landlord.specs.Valid.{StandingOk}
use Rattle.landlord.proofs.Slots.{deduction_ok}
use Rattle.landlord.proofs.Valid.{ok_after}
use Rattle.queue.specs.Queue.{SplitAdds}
use Rattle.queue.specs.Machine.{LazyStanding, LazyOk, standing, flush_in, moved_in, took_in, closes_in, accepted_in, after_in}
use Rattle.queue.proofs.Losses.{deduction_adds}
use Rattle.queue.proofs.Calls.{after_agrees, after_ok}
use Rattle.cache_state.specs.Cache.{Cache, catalog_of, slots_of, keys_of, uses_of, lazy, view, Normal}
use Rattle.cache_state.specs.InnerView.{queue_of, counts_of}
use Rattle.cache_state.specs.InnerBecomes.{Becomes}
use Rattle.cache_state.specs.InnerWith.{with_closed}
use Rattle.cache_state.proofs.Normals.{figures_normal}
use Rattle.layout.specs.Layout.{cache_of, ValidBytes}
use Rattle.layout.specs.Inner.{Stands, BecomesAt}
use Rattle.layout.proofs.Places.{stands_become, becomes_valid}
use Rattle.cache.specs.Contract.{Kind, lent, Answers, Called}

-- ---- a state of any kind

-- an invalid one: 17, and it stays
pub invalid_called : {C : Type 0} (kind : Kind C) (c : C) (call : Call) → (kind.Valid c → ⊥) → Called kind c call 17 c
invalid_called kind c call bad = record { fine = λ ok. absurd (bad ok); invalid = λ none. (refl, refl) }

-- an answer on a valid one is all that is asked
pub answers_called : {C : Type 0} (kind : Kind C) (c d : C) (call : Call) (n : ℕ) → kind.Valid c → Answers kind c call n d → Called kind c call n d
answers_called kind c d call n ok a = record { fine = λ again. a; invalid = λ none. absurd (none ok) }

-- a refused call changes nothing
pub refused_answers :
    {C : Type 0} (kind : Kind C) (c : C) (call : Call) (n : ℕ) →
    kind.Valid c →
    n ≡ refusal_now (kind.view c) call →
    n ≢ 0 →
    Answers kind c call n c
unfolding after after_in
refused_answers kind c call n ok e d = record { answer = e; valid = ok; stands = sym stays; lazy = sym keeps; refused = λ z. refl }
  where
    stays : after (kind.view c) call ≡ kind.view c
    stays = rw (sym e, ne_eqb n 0 d)

    asked : refusal_now (standing (kind.lazy c)) call ≡ n
    asked = ap (λ (v : Standing). refusal_now v call) (sym (kind.same c)) ∙ sym e

    keeps : after_in (kind.lazy c) call ≡ kind.lazy c
    keeps = rw (asked, ne_eqb n 0 d)

-- ---- lent bytes

-- a call that is not refused moves the lazy form on, and the rule with it
taken_answers :
    (b next : List ℕ) (call : Call) →
    ValidBytes b →
    0 ≡ refusal_now (view (cache_of b)) call →
    BecomesAt (accepted_in (lazy (cache_of b)) call) next →
    Answers lent b call 0 next
unfolding after_in
taken_answers b next call ok e h =
    record {
      answer = e;
      valid = becomes_valid (subst LazyOk goes (after_ok v fit adds ok.cache.lazy call)) (subst (λ (w : LazyStanding). StandingOk (standing w)) goes sound) h;
      stands = ap standing moved ∙ agrees;
      lazy = moved;
      refused = λ z. absurd (z refl);
    }
  where
    v : LazyStanding
    v = lazy (cache_of b)

    fit : SplitOk v.split
    fit = deduction_ok (cache_of b).rule

    adds : SplitAdds v.split
    adds = deduction_adds (cache_of b).rule

    goes : after_in v call ≡ accepted_in v call
    goes = rw (sym e)

    moved : lazy (cache_of next) ≡ after_in v call
    moved = h.cache.stands ∙ sym goes

    agrees : standing (after_in v call) ≡ after (view (cache_of b)) call
    agrees = after_agrees v fit adds ok.cache.lazy call

    sound : StandingOk (standing (after_in v call))
    sound = subst StandingOk (sym agrees) (ok_after (view (cache_of b)) call fit ok.cache.standing)

pub step_answers :
    (b next : List ℕ) (n : Numbers) →
    ValidBytes b →
    0 ≡ refusal_now (view (cache_of b)) (step_call n) →
    BecomesAt (took_in (lazy (cache_of b)) (step_of n)) next →
    Answers lent b (step_call n) 0 next
step_answers b next n ok e h = taken_answers b next (step_call n) ok e h

-- the closing: closed already, or open
pub closed_answers : (b : List ℕ) → ValidBytes b → (cache_of b).closed ≡ true → Answers lent b close 9 b
closed_answers b ok e = refused_answers lent b close 9 ok (unfold refusal_at in rw e) (λ z. let y : ◌≡◌ {A = ℕ} 9 0 = z in omega arith)

closed_normal : (q : Cache) → Normal q → Normal (with_closed q true)
closed_normal q n = figures_normal q q.itemwritebacks (counts_of q) true n (λ i l m. (n.past i l m).place.writebacks)

-- the closing flushes, counts no step, and closes
closed_becomes :
    (c q : Cache) →
    Becomes (moved_in (lazy c) (flush_in (split_of c.rule) (queue_of c)) c.closed) q →
    Becomes (closes_in (lazy c)) (with_closed q true)
closed_becomes c q h = record { stands = ended ∙ ap shut h.stands ∙ same; fields = closed_normal q h.fields }
  where
    shut : LazyStanding → LazyStanding
    shut v = record { k = v.k; queue = v.queue; figures = v.figures; closed = true; split = v.split }

    same : shut (moved_in (lazy c) (flush_in (split_of c.rule) (queue_of c)) c.closed) ≡ closes_in (lazy c)
    same = unfold closes_in in refl

    ended : lazy (with_closed q true) ≡ shut (lazy q)
    ended = unfold catalog_of slots_of keys_of uses_of in refl

pub closing_answers :
    (b flushed next : List ℕ) →
    ValidBytes b →
    (cache_of b).closed ≡ false →
    BecomesAt (moved_in (lazy (cache_of b)) (flush_in (split_of (cache_of b).rule) (queue_of (cache_of b))) (cache_of b).closed) flushed →
    Stands next (with_closed (cache_of flushed) true) →
    Answers lent b close 0 next
closing_answers b flushed next ok e h s =
    taken_answers b next close ok (unfold refusal_at in rw e) (stands_become s (closed_becomes (cache_of b) (cache_of flushed) h.cache))
