-- `cache::step_valid` meets its contract: refused, the bytes stay; else the step is served. Assumes nothing.
use Rattle.std.proofs.Common.{◌≡◌, sym, ◌∙◌, rules}
use Rattle.types.specs.Types.{answer_number, refusal_number}
use Rattle.landlord.specs.Calls.{step_call}
use Rattle.cache_state.specs.Cache.{view}
use Rattle.layout.specs.Layout.{cache_of}
use Rattle.cache.specs.Contract.{lent}
use Rattle.cache.proofs.Table.{number_told, number_refused}
use Rattle.cache.proofs.Calls.{refused_answers, step_answers}
use Rattle.cache.proofs.Steps.{meant}
use Rattle.cache.proofs.step_valid.Goals as goal

pub returns-in_err-step-clause-answers : goal.returns-in_err-step-clause-answers
returns-in_err-step-clause-answers c =
    let a = c.args in
    let r = c.in_err-step.field-0.0 in
    let e = c.in_err-step.ensures.tells in
    let same : answer_number c.from_residual.result ≡ refusal_number r = search rules in
    rw same (refused_answers lent a.b.now (step_call a.n) (refusal_number r) c.requires (number_told a.n.item e) (λ z. number_refused a.n.item r e (sym (number_told a.n.item e) ∙ z)))

pub serve-requires : goal.serve-requires
serve-requires c =
    let h = c.in_ok-step.ensures in
    record { valid = c.requires; free = rw h.step (meant (view (cache_of c.args.b.now)) c.args.n (sym (number_told c.args.n.item h.tells))) }

pub returns-clause-answers : goal.returns-clause-answers
returns-clause-answers c =
    let a = c.args in
    let h = c.in_ok-step.ensures in
    step_answers a.b.now _ a.n c.requires (number_told a.n.item h.tells) (rw h.step at c.serve.ensures)
