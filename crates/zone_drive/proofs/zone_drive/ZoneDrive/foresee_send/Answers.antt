use Rattle.std.proofs.Common.{Ok, false, [], ap, refl}
use Rattle.nvme_wire.specs.declared.command.Command.TheVariants.{Send}
use Rattle.zone_drive.specs.Held.{HeldDrive}
use Rattle.zone_drive.specs.Habits.{with_zones}
use Rattle.zone_drive.specs.Sending.{sent_to}
use Rattle.zone_drive.proofs.ForeseeLaws.{could-send, foresees-by, lawful-now, open-foreseen}
use Rattle.zone_drive.proofs.OutcomeLaws.{send-done, send-refused}
use Rattle.zone_drive.proofs.zone_drive.ZoneDrive.foresee_send.Goals as goal

pub returns-in-Some : goal.returns-in-Some
returns-in-Some g c = λ bytes.
    foresees-by c.args.self.now.drive c.args.self.now.drive (Ok (Send c.args.slba c.args.action false)) bytes [] (record { status = c.in-Some.status; value = 0 })
    (send-refused c.args.self.now.drive c.args.slba c.args.action bytes c.in-Some.status c.in-Some.ensures)
    (lawful-now c.self.inside.geometry (g.Z.HeldZones.stored c.self.inside.zones) _ c.self.inside.completed c.self.inside.refused c.self.inside.appended c.self.inside.habit c.self.inside.halted c.self.inside.failed c.self.invariant.0 c.self.invariant.1 c.self.invariant.4 c.args.self.now.drive (ap (λ (d : HeldDrive _). d.drive) c.self.view_is))

pub returns-in-Open : goal.returns-in-Open
returns-in-Open g c = λ bytes.
    let number = rw (ap (λ (d : HeldDrive _). d.drive.state.geometry) c.self.view_is) at c.zone_of-number.ensures.value in
    rw (c.unwrap_or.ensures, c.in-Open.is)
    (open-foreseen c.args.self.now.drive c.args.slba bytes c.open_room_refusal.result (rw c.in-Open.is at c.in_default.ensures) c.open_room_refusal.ensures.limit (rw number at c.open_room_refusal.ensures.could))

pub returns-in_default-action : goal.returns-in_default-action
returns-in_default-action g c = λ bytes.
    let number = rw (ap (λ (d : HeldDrive _). d.drive.state.geometry) c.self.view_is) at c.zone_of-number.ensures.value in
    let next = with_zones c.args.self.now.drive (sent_to c.args.self.now.drive.state.zones c.zone_of-number.result c.args.action) in
    foresees-by c.args.self.now.drive next (Ok (Send c.args.slba c.args.action false)) bytes [] _
    (send-done c.args.self.now.drive next c.args.slba c.args.action bytes c.in_default-action.not-Open c.in_default.ensures (rw number refl))
    (rw (← c.self.view_is) (could-send c.self.inside.geometry (g.Z.HeldZones.stored c.self.inside.zones) _ c.self.inside.completed c.self.inside.refused c.self.inside.appended c.self.inside.habit c.self.inside.halted c.self.inside.failed c.self.invariant.0 c.self.invariant.1 c.self.invariant.4 c.zone_of-number.result c.args.action c.in_default-action.not-Open c.zone_of-number.ensures.in_range))
