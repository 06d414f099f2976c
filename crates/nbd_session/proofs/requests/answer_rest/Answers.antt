use Rattle.std.proofs.Common.{sym, ◌∙◌}
use Rattle.nbd_session.proofs.TurnLaws.{refused-err, refused-ok}
use Rattle.nbd_session.proofs.requests.answer_rest.Goals as goal

pub returns-in-Err-clause-ok : goal.returns-in-Err-clause-ok
returns-in-Err-clause-ok g c =
    refused-ok c.refuse.result _ _ (g.S.Store.view c.args.store.now) c.args.request.now _ c.in-Err.error (sym c.asked_of_store.ensures.value ∙ c.in-Err.is) c.refuse.ensures.ok

pub returns-in-Err-clause-err : goal.returns-in-Err-clause-err
returns-in-Err-clause-err g c =
    refused-err c.refuse.result _ _ (g.S.Store.view c.args.store.now) c.args.request.now _ c.in-Err.error (sym c.asked_of_store.ensures.value ∙ c.in-Err.is) c.refuse.ensures.err
