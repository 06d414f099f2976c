use Rattle.std.proofs.Common.{true, false, sym, ◌∙◌}
use Rattle.nbd_session.proofs.TurnLaws.{request-exchanged, request-stopped, request-unsent, turn-stops}
use Rattle.nbd_session.proofs.requests.answer_request.Goals as goal

pub returns-in_err-answer_rest : goal.returns-in_err-answer_rest
returns-in_err-answer_rest g c =
    let head = rw c.if-not-branch.false at c.in_ok-fill.ensures.fills in
    turn-stops _ _ c.from_residual-in_err-answer_rest.result c.in_err-answer_rest.field-0.0 _ c.from_residual-in_err-answer_rest.ensures.1
    (request-stopped _ _ (g.R.Read.remaining c.fill.new.reader) _ _ _ (g.S.Store.view c.args.store.now) (g.S.Store.view c.answer_rest.new.store) c.in-Some.request c.fill.new.buffer head c.in-Some.ensures.some (sym c.is_disconnect.ensures ∙ c.if-is_disconnect.false) c.in_err-answer_rest.ensures.err)

pub returns : goal.returns
returns g c =
    let head = rw c.if-not-branch.false at c.in_ok-fill.ensures.fills in
    request-exchanged true _ (g.R.Read.remaining c.fill.new.reader) _ _ _ _ (g.S.Store.view c.args.store.now) (g.S.Store.view c.answer_rest.new.store) (g.S.Store.view c.pass_on.new.store) c.in-Some.request c.fill.new.buffer head c.in-Some.ensures.some (sym c.is_disconnect.ensures ∙ c.if-is_disconnect.false)
    c.in_ok-pass_on.ensures.rests c.pass_on.ensures.written c.in_ok-answer_rest.ensures.ok

pub returns-in_err-pass_on : goal.returns-in_err-pass_on
returns-in_err-pass_on g c =
    let head = rw c.if-not-branch.false at c.in_ok-fill.ensures.fills in
    let view = g.S.Store.view in
    turn-stops _ _ c.from_residual-in_err-pass_on.result c.in_err-pass_on.field-0.0 _ c.from_residual-in_err-pass_on.ensures.1
    (request-unsent c.in_err-pass_on.field-0.0 _ (view c.args.store.now) (view c.pass_on.new.store) c.in_err-pass_on.ensures.err.0
    (request-exchanged false _ (g.R.Read.remaining c.fill.new.reader) _ _ _ _ (view c.args.store.now) (view c.answer_rest.new.store) (view c.pass_on.new.store) c.in-Some.request c.fill.new.buffer head c.in-Some.ensures.some (sym c.is_disconnect.ensures ∙ c.if-is_disconnect.false)
    c.in_err-pass_on.ensures.err.1 c.in_err-pass_on.ensures.written c.in_ok-answer_rest.ensures.ok))
