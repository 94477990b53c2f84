-- A call in place on the bytes of a struct, as the call by value. Assumes nothing.
use mathlib.Core.Path.{◌≡◌, refl, sym, ap, subst, ◌∙◌}
use mathlib.Core.List.{List}
use Prim.Native.Nat.{ℕ, ◌<◌}
use native.Mathlib.Omega.{arith}
use Rattle.std.specs.Prelude.{Result, Ok, Err, None}
use Rattle.types.specs.declared.Refusal.{Refusal}
use Rattle.types.specs.Types.{refusal_number}
use Rattle.types.proofs.Refusals.{refused_some}
use Rattle.landlord.specs.Figures.{Standing}
use Rattle.landlord.specs.Calls.{Call, refusal_now, after}
use Rattle.queue.specs.Machine.{LazyStanding, after_in}
use Rattle.cache_state.specs.Cache.{lazy, view, Valid}
use Rattle.layout.specs.Layout.{cache_of, ValidBytes}
use Rattle.layout.specs.Inner.{Stands}
use Rattle.types.specs.declared.Refusal.TheVariants.{InvalidState}
use Rattle.report.specs.Report.{report_of, Put, Reported}
use Rattle.cache.specs.Contract.{Called}
use Rattle.cache.proofs.Calls.{refused_answers}
use Rattle.cache_value.specs.declared.Cache.{Cache}
use Rattle.cache_value.specs.Contract.{record_of, by_value, CalledBy, ReportedBy}
use Rattle.cache_value.specs.Inner.{MadeAt}

module _ {b : List ℕ} (c : Cache) (s : Stands b (record_of c)) where
  -- the bytes are valid exactly if the struct is
  pub valid_there : Valid (record_of c) → ValidBytes b
  valid_there ok = record { size = s.size; allowed = s.allowed; cache = subst Valid (sym s.cache) ok }

  valid_here : ValidBytes b → Valid (record_of c)
  valid_here ok = subst Valid s.cache ok.cache

  pub same_view : view (cache_of b) ≡ view (record_of c)
  same_view = ap view s.cache

  pub same_lazy : lazy (cache_of b) ≡ lazy (record_of c)
  same_lazy = ap lazy s.cache

  -- refused in place, the struct is handed back as it was
  pub made_refused : {next : List ℕ} (call : Call) (r : Refusal) → MadeAt call b (Err r) next → CalledBy c call (record { answer = Err r; cache = c })
  made_refused call r m = record { called = called; tells = m.tells }
    where
      called : Called by_value c call (refusal_number r) c
      called =
          record {
            fine = λ ok. refused_answers by_value c call (refusal_number r) ok ((m.called.fine (valid_there ok)).answer ∙ ap (λ (v : Standing). refusal_now v call) same_view) (refused_some r);
            invalid = λ bad. ((m.called.invalid (λ ok. bad (valid_here ok))).0, refl);
          }

  -- taken in place, the struct that the bytes stand for then is where the rule stands
  pub made_taken : {next : List ℕ} (call : Call) (d : Cache) → MadeAt call b (Ok tt) next → record_of d ≡ cache_of next → CalledBy c call (record { answer = Ok tt; cache = d })
  made_taken call d m e = record { called = called; tells = refl }
    where
      called : Called by_value c call 0 d
      called =
          record {
            fine = λ ok.
                let a = m.called.fine (valid_there ok) in
                record {
                  answer = a.answer ∙ ap (λ (v : Standing). refusal_now v call) same_view;
                  valid = subst Valid (sym e) a.valid.cache;
                  stands = ap view e ∙ a.stands ∙ ap (λ (v : Standing). after v call) same_view;
                  lazy = ap lazy e ∙ a.lazy ∙ ap (λ (v : LazyStanding). after_in v call) same_lazy;
                  refused = λ w. absurd (w refl);
                };
            invalid = λ bad. absurd (let y : ◌≡◌ {A = ℕ} 0 17 = (m.called.invalid (λ ok. bad (valid_here ok))).0 in omega arith);
          }

  -- the report of the bytes is that of the struct
  pub reported_by : {page after : List ℕ} (r : Result ℕ Refusal) → Reported b None page r after → ReportedBy c page r after
  reported_by {page} {after} r h =
      record {
        fine = λ ok. subst (λ (v : Standing). Put (report_of v None) page r after) same_view (h.fine (valid_there ok));
        invalid = λ bad. h.invalid (λ ok. bad (valid_here ok));
      }

-- a cache of more items than there are places has no report
pub many_reported : (c : Cache) (page : List ℕ) → 256 < c.n → ReportedBy c page (Err (InvalidState 0)) page
many_reported c page many = record { fine = λ ok. absurd (omega (arith, ok.fields.few)); invalid = λ bad. (refl, refl) }
