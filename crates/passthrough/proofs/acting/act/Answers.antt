use Rattle.std.proofs.Common.{rules, ◌≡◌, true, inl}
use Rattle.drive_port.proofs.ClosingLaws.{IsClosing-refl, IsClosing-trans}
use Rattle.passthrough.proofs.FailingLaws.{action-undone, halts-so, ready-unless}
use Rattle.passthrough.proofs.ReadyLaws.{acted-nothing, effect-later, left-later, ready-action, ready-closing}
use Rattle.passthrough.proofs.acting.act.Goals as goal

pub returns-then-not-may_act-clause-asks : goal.returns-then-not-may_act-clause-asks
returns-then-not-may_act-clause-asks g c = inl (IsClosing-refl _)

pub submit-status-requires-clause-sent : goal.submit-status-requires-clause-sent
submit-status-requires-clause-sent g c =
    let may : c.may_act.result ≡ true = search rules in
    let ready = ready-closing _ _ _ _ _ _ c.requires.ready c.flush_before.ensures.leads c.flush_before.ensures.closes in
    rw ready.leads.shape_is (c.may_act.ensures may _ ready.leads.lawful.count ready.are)

pub zone_of-number-requires : goal.zone_of-number-requires
zone_of-number-requires g c =
    let may : c.may_act.result ≡ true = search rules in
    let ready = ready-closing _ _ _ _ _ _ c.requires.ready c.flush_before.ensures.leads c.flush_before.ensures.closes in
    (c.may_act.ensures may _ ready.leads.lawful.count ready.are).in_range

pub returns-then-status-ne0-clause-asks : goal.returns-then-status-ne0-clause-asks
returns-then-status-ne0-clause-asks g c =
    let may : c.may_act.result ≡ true = search rules in
    let closes = c.flush_before.ensures.closes in
    let ready = ready-closing _ _ _ _ _ _ c.requires.ready c.flush_before.ensures.leads closes in
    let sent = c.may_act.ensures may _ ready.leads.lawful.count ready.are in
    let left = rw ready.leads.shape_is at c.submit-status.ensures.answers.left in
    halts-so c.failure.result _ _ _ _ _ _ c.failure.ensures.halt
    (λ failed. IsClosing-trans _ _ _ closes (action-undone _ _ _ _ c.args.seen.now _ _ ready.leads.lawful ready.are sent left
    (rw c.zone_of-number.ensures.value at (c.failure.ensures.seen failed _ c.submit-status.ensures.recalls ready.leads.lawful.count ready.are))))
    (left-later _ _ _ _ _ _ _ closes left) c.failure.ensures.closes

pub returns-then-status-ne0-clause-ready : goal.returns-then-status-ne0-clause-ready
returns-then-status-ne0-clause-ready g c =
    let may : c.may_act.result ≡ true = search rules in
    let ready = ready-closing _ _ _ _ _ _ c.requires.ready c.flush_before.ensures.leads c.flush_before.ensures.closes in
    let sent = c.may_act.ensures may _ ready.leads.lawful.count ready.are in
    let left = rw ready.leads.shape_is at c.submit-status.ensures.answers.left in
    ready-unless c.failure.result _ _ _ _ c.failure.ensures.halt
    (λ failed. ready-closing _ _ _ _ _ _ ready c.failure.ensures.leads (action-undone _ _ _ _ c.args.seen.now _ _ ready.leads.lawful ready.are sent left
    (rw c.zone_of-number.ensures.value at (c.failure.ensures.seen failed _ c.submit-status.ensures.recalls ready.leads.lawful.count ready.are))))

pub returns-clause-asks : goal.returns-clause-asks
returns-clause-asks g c =
    let leads = c.flush_before.ensures.leads in
    let done : c.submit-status.result ≡ 0 = search rules in
    let sent = rw leads.shape_is at (c.submit-status.ensures.answers.believed done tt) in
    effect-later _ _ _ _ _ _ _ _ _ c.flush_before.ensures.closes (acted-nothing _ _ _ _ _ _ _ _ sent)

pub returns-clause-ready : goal.returns-clause-ready
returns-clause-ready g c = λ going.
    let may : c.may_act.result ≡ true = search rules in
    let done : c.submit-status.result ≡ 0 = search rules in
    let ready = ready-closing _ _ _ _ _ _ c.requires.ready c.flush_before.ensures.leads c.flush_before.ensures.closes in
    rw (c.set_zone.ensures, c.from-index.ensures, c.zone_of-number.ensures.value) (ready-action _ _ _ _ _ c.args.seen.now c.args.slba c.args.action _ _ _ ready
    (c.may_act.ensures may _ ready.leads.lawful.count ready.are) (c.submit-status.ensures.answers.believed done tt)
    c.submit-status.ensures.shape c.submit-status.ensures.lawful (rw (c.zone_at.ensures, c.from-index.ensures, c.zone_of-number.ensures.value) at c.acted-zone.ensures.seen))
