use Rattle.std.proofs.Common.{None, Some, ℕ, ap, subst}
use Rattle.zone_drive.specs.Held.{HeldDrive}
use Rattle.zone_drive.specs.Writing.{WritesAfter}
use Rattle.zone_drive.proofs.OutcomeLaws.{append-ended, append-refused}
use Rattle.zone_drive.proofs.zone_drive.ZoneDrive.append.Goals as goal

pub returns-in-Some-clause-ok : goal.returns-in-Some-clause-ok
returns-in-Some-clause-ok g c = rw c.refused.ensures (append-refused c.args.self.now.drive c.args.zslba c.args.blocks c.args.bytes.now c.in-Some.status c.in-Some.ensures.checks)

pub returns-in-Some-2-clause-ok : goal.returns-in-Some-2-clause-ok
returns-in-Some-2-clause-ok g c =
    let geometry = ap (λ (d : HeldDrive _). d.drive.state.geometry) c.self.view_is in
    let number = rw geometry at c.zone_of-number.ensures.value in
    let after = rw (c.in-Some-2.is, number) at c.in_ok-status.ensures.ok in
    rw c.refused-in-Some-2.ensures
    (append-ended c.args.self.now.drive c.write_after.new.self.drive c.args.zslba c.args.blocks c.args.bytes.now (Some c.in-Some-2.status) c.in_default.ensures.checks c.in_default.ensures.count c.write_after.ensures.limit after)

pub returns-in-None-clause-ok : goal.returns-in-None-clause-ok
returns-in-None-clause-ok g c =
    let geometry = ap (λ (d : HeldDrive _). d.drive.state.geometry) c.self.view_is in
    let number = rw geometry at c.zone_of-number.ensures.value in
    let after = subst (λ (n : ℕ). WritesAfter c.args.self.now.drive n c.args.bytes.now None c.write_after.new.self.drive) number (rw c.in-None.is at c.in_ok-status.ensures.ok) in
    rw (c.done.ensures, c.written_in.ensures.value, number)
    (append-ended c.args.self.now.drive c.write_after.new.self.drive c.args.zslba c.args.blocks c.args.bytes.now None c.in_default.ensures.checks c.in_default.ensures.count c.write_after.ensures.limit after)
