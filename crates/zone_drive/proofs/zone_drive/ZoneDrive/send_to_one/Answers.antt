use Rattle.std.proofs.Common.{None, Some, ℕ, ap, subst}
use Rattle.zone_drive.specs.Held.{HeldDrive}
use Rattle.zone_drive.specs.Sending.{Opens}
use Rattle.zone_drive.proofs.OutcomeLaws.{open-ended, send-done, send-refused}
use Rattle.zone_drive.proofs.zone_drive.ZoneDrive.send_to_one.Goals as goal

pub returns-in-Some-clause-ok : goal.returns-in-Some-clause-ok
returns-in-Some-clause-ok g c = λ bytes. rw c.refused.ensures (send-refused c.args.self.now.drive c.args.slba c.args.action bytes c.in-Some.status c.in-Some.ensures)

pub returns-in-Some-2-clause-ok : goal.returns-in-Some-2-clause-ok
returns-in-Some-2-clause-ok g c = λ bytes.
    let geometry = ap (λ (d : HeldDrive _). d.drive.state.geometry) c.self.view_is in
    let number = rw geometry at c.zone_of-number.ensures.value in
    let opens = rw (c.in-Some-2.is, number) at c.in_ok-status-in-Open.ensures.opens in
    rw (c.refused-in-Some-2.ensures, c.in-Open.is)
    (open-ended c.args.self.now.drive c.open.new.self.drive c.args.slba bytes (Some c.in-Some-2.status) (rw c.in-Open.is at c.in_default.ensures) c.open.ensures.limit opens)

pub returns-in-None-clause-ok : goal.returns-in-None-clause-ok
returns-in-None-clause-ok g c = λ bytes.
    let geometry = ap (λ (d : HeldDrive _). d.drive.state.geometry) c.self.view_is in
    let number = rw geometry at c.zone_of-number.ensures.value in
    let opens = subst (λ (n : ℕ). Opens c.args.self.now.drive n None c.open.new.self.drive) number (rw c.in-None.is at c.in_ok-status-in-Open.ensures.opens) in
    rw (c.done.ensures, c.in-Open.is)
    (open-ended c.args.self.now.drive c.open.new.self.drive c.args.slba bytes None (rw c.in-Open.is at c.in_default.ensures) c.open.ensures.limit opens)

pub returns-in_ok-apply-in_default-action-clause-ok : goal.returns-in_ok-apply-in_default-action-clause-ok
returns-in_ok-apply-in_default-action-clause-ok g c = λ bytes.
    let geometry = ap (λ (d : HeldDrive _). d.drive.state.geometry) c.self.view_is in
    let number = rw geometry at c.zone_of-number.ensures.value in
    rw c.done-in_default-action.ensures
    (send-done c.args.self.now.drive c.apply.new.self.drive c.args.slba c.args.action bytes c.in_default-action.not-Open c.in_default.ensures (rw number at c.in_ok-apply-in_default-action.ensures.ok))
