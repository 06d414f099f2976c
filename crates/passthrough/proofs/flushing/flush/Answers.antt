use Rattle.std.proofs.Common.{refl, rules, ◌≡◌, true}
use Rattle.drive_port.proofs.ClosingLaws.{IsClosing-refl, IsClosing-trans}
use Rattle.passthrough.proofs.FlushLaws.{flush-looked, ready-settled}
use Rattle.passthrough.proofs.ReadyLaws.{effect-closes, ready-closing}
use Rattle.passthrough.proofs.flushing.flush.Goals as goal

pub returns-clause-ok : goal.returns-clause-ok
returns-clause-ok g c =
    let done : c.send_flush.result ≡ true = search rules in
    (refl, effect-closes _ _ _ _ _ _ _ _ (c.send_flush.ensures.done done) c.look_at_due.ensures.closes)

pub returns-clause-looked : goal.returns-clause-looked
returns-clause-looked g c = flush-looked _ _ _ _ _ _ _ c.send_flush.ensures.closes c.in_ok-look_at_due.ensures.seen c.settle.ensures

pub returns-clause-ready : goal.returns-clause-ready
returns-clause-ready g c = λ going. ready-settled _ _ _ _ _ (c.in_ok-look_at_due.ensures.ready (λ e. cc)) c.settle.ensures

pub returns-in_default-clause-err : goal.returns-in_default-clause-err
returns-in_default-clause-err g c = (λ memory. refl, IsClosing-refl _)

pub look_at_due-requires-clause-ready : goal.look_at_due-requires-clause-ready
look_at_due-requires-clause-ready g c = ready-closing _ _ _ _ _ _ c.requires.ready c.send_flush.ensures.leads c.send_flush.ensures.closes

pub returns-in_err-look_at_due-clause-err : goal.returns-in_err-look_at_due-clause-err
returns-in_err-look_at_due-clause-err g c =
    let closing = IsClosing-trans _ _ _ c.send_flush.ensures.closes c.look_at_due.ensures.closes in
    search (rules, closing)
