-- `Seen::take_act` meets its contract: the act is refused, or noted. Assumes nothing.
use Rattle.std.proofs.lemmas.Result.{err_from_is_err_and}
use Rattle.season_tables.proofs.Held.{act_early, act_late, act_few, act_refuses, act_noted_lem, act_past}
use Rattle.season_tables.proofs.Seen.take_act.Goals.{then-place-self-via-then-place-self, then-place-self-via-else-place-self+then-self-place}
use Rattle.season_tables.proofs.Seen.take_act.Goals as goal

pub returns-then-place-self-clause-notes_act : goal.returns-then-place-self-clause-notes_act
returns-then-place-self-clause-notes_act c =
    let a = c.args in
    elim c.then-place-self.branch [
      | then-place-self-via-then-place-self w ↦ act_early a.self.now a.calls.now a.acts.now a.place a.act a.line w.if-place-self.true
      | then-place-self-via-else-place-self+then-self-place w ↦ act_late a.self.now a.calls.now a.acts.now a.place a.act a.line w.if-place-self.false w.if-self-place.true
    ]

pub known-requires : goal.known-requires
known-requires c =
    let a = c.args in act_few a.self.now a.calls.now a.acts.now a.place a.act a.line c.if-place-self.false c.if-self-place.false _ c.catch_up.ensures c.requires

pub returns-in_err-known-clause-notes_act : goal.returns-in_err-known-clause-notes_act
returns-in_err-known-clause-notes_act c =
    let a = c.args in
    let p = err_from_is_err_and c.from_residual.result c.from_residual.ensures.1 in
    rw (p.1, p.2) (act_refuses a.self.now a.calls.now a.acts.now a.place a.act a.line c.if-place-self.false c.if-self-place.false _ c.catch_up.ensures _ (rw (← c.item.ensures) c.in_err-known.ensures))

pub returns-clause-notes_act : goal.returns-clause-notes_act
returns-clause-notes_act c =
    let a = c.args in
    act_noted_lem a.self.now a.calls.now a.acts.now a.place a.act a.line c.if-place-self.false c.if-self-place.false _ c.catch_up.ensures c.requires _ (rw (← c.item.ensures) c.in_ok-known.ensures) c.put_act.ensures

pub returns-clause-keeps_past : goal.returns-clause-keeps_past
returns-clause-keeps_past c =
    let a = c.args in
    (act_past a.self.now a.calls.now a.acts.now a.place a.act a.line c.if-place-self.false c.if-self-place.false _ c.catch_up.ensures c.requires _ c.put_act.ensures, tt)
