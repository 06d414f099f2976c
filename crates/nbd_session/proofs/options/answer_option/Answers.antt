use Rattle.nbd_session.proofs.TurnLaws.{option-exchanged, option-stopped, turn-stops}
use Rattle.nbd_session.proofs.options.answer_option.Goals as goal

pub returns-in_err-answer_rest : goal.returns-in_err-answer_rest
returns-in_err-answer_rest g c =
    let head = rw c.if-not-branch.false at c.in_ok-fill.ensures.fills in
    let rest = rw (c.export_of.ensures, c.to.ensures) at c.in_err-answer_rest.ensures.err in
    turn-stops _ _ c.from_residual-in_err-answer_rest.result c.in_err-answer_rest.field-0.0 _ c.from_residual-in_err-answer_rest.ensures.1
    (option-stopped _ _ (g.R.Read.remaining c.fill.new.reader) _ _ _ (g.S.Store.view c.args.store.now) c.args.no_zeroes c.in-Some.head c.from_code-kind.result c.fill.new.buffer head c.from_code-kind.ensures c.in-Some.ensures.some rest)

pub returns : goal.returns
returns g c =
    let head = rw c.if-not-branch.false at c.in_ok-fill.ensures.fills in
    let rest = rw (c.export_of.ensures, c.to.ensures) at c.in_ok-answer_rest.ensures.ok in
    rw c.after.ensures
    (option-exchanged _ (g.R.Read.remaining c.fill.new.reader) _ _ _ (g.S.Store.view c.args.store.now) c.args.no_zeroes c.in-Some.head c.from_code-kind.result c.fill.new.buffer head c.from_code-kind.ensures c.in-Some.ensures.some rest)
