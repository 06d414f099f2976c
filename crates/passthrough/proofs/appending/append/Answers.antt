use Rattle.std.proofs.Common.{rules, ◌≡◌, inl}
use Rattle.drive_port.proofs.ClosingLaws.{IsClosing-refl}
use Rattle.passthrough.proofs.FailingLaws.{append-undone, halts-so, ready-unless}
use Rattle.passthrough.proofs.ReadyLaws.{appended-nothing, believed-append, ready-append, ready-closing}
use Rattle.passthrough.proofs.appending.append.Goals as goal

pub returns-in_default-clause-asks : goal.returns-in_default-clause-asks
returns-in_default-clause-asks g c = inl (IsClosing-refl _)

pub zone_of-number-requires : goal.zone_of-number-requires
zone_of-number-requires g c = (c.in-Some.ensures _ c.requires.ready.leads.lawful.count c.requires.ready.are).0.in_range

pub returns-then-status-ne0-clause-asks : goal.returns-then-status-ne0-clause-asks
returns-then-status-ne0-clause-asks g c =
    let leads = c.requires.ready.leads in
    let waits = c.in-Some.ensures _ leads.lawful.count c.requires.ready.are in
    let left = rw leads.shape_is at c.submit-status.ensures.answers.left in
    halts-so c.failure.result _ _ _ _ _ _ c.failure.ensures.halt
    (λ failed. append-undone _ _ _ _ c.args.seen.now _ _ _ leads.lawful c.requires.ready.are waits.0 c.requires.admitted.1 left
    (rw c.zone_of-number.ensures.value at (c.failure.ensures.seen failed _ c.submit-status.ensures.recalls leads.lawful.count c.requires.ready.are)))
    left c.failure.ensures.closes

pub returns-then-status-ne0-clause-ready : goal.returns-then-status-ne0-clause-ready
returns-then-status-ne0-clause-ready g c =
    let leads = c.requires.ready.leads in
    let waits = c.in-Some.ensures _ leads.lawful.count c.requires.ready.are in
    let left = rw leads.shape_is at c.submit-status.ensures.answers.left in
    ready-unless c.failure.result _ _ _ _ c.failure.ensures.halt
    (λ failed. ready-closing _ _ _ _ _ _ c.requires.ready c.failure.ensures.leads (append-undone _ _ _ _ c.args.seen.now _ _ _ leads.lawful c.requires.ready.are waits.0 c.requires.admitted.1 left
    (rw c.zone_of-number.ensures.value at (c.failure.ensures.seen failed _ c.submit-status.ensures.recalls leads.lawful.count c.requires.ready.are))))

pub returns-clause-asks : goal.returns-clause-asks
returns-clause-asks g c =
    let done : c.submit-status.result ≡ 0 = search rules in
    let same : c.submit-status.new.value ≡ c.in-Some.next = search rules in
    let waits = c.in-Some.ensures _ c.requires.ready.leads.lawful.count c.requires.ready.are in
    appended-nothing _ _ _ _ _ _ _ _ (believed-append _ _ _ _ _ _ _ _ _ _ c.requires.ready.leads.shape_is c.submit-status.ensures.answers done same waits.1)

pub returns-clause-ready : goal.returns-clause-ready
returns-clause-ready g c = λ going.
    let done : c.submit-status.result ≡ 0 = search rules in
    let same : c.submit-status.new.value ≡ c.in-Some.next = search rules in
    let waits = c.in-Some.ensures _ c.requires.ready.leads.lawful.count c.requires.ready.are in
    rw (c.set_zone.ensures, c.from-index.ensures, c.zone_of-number.ensures.value) (ready-append _ _ _ _ _ c.args.seen.now c.args.zslba c.args.blocks _ c.args.bytes.now _ _ c.requires.ready waits.0
    (believed-append _ _ _ _ _ _ _ _ _ _ c.requires.ready.leads.shape_is c.submit-status.ensures.answers done same waits.1)
    c.submit-status.ensures.shape c.submit-status.ensures.lawful (rw (c.zone_at.ensures, c.from-index.ensures, c.zone_of-number.ensures.value) at c.appended-zone.ensures.seen))
