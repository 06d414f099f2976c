use Rattle.zonedisk_program.specs.Ends.{Ways}
use Rattle.zonedisk_program.proofs.EndLaws.{ends-in-place, none-reached}
use Rattle.zonedisk_program.proofs.do_asked.Goals as goal

pub returns-in-Ok : goal.returns-in-Ok
returns-in-Ok g c =
    let ways : Ways = record { devices = g.D.Devices.has_way c.args.devices.now; files = g.F.Devices.has_way c.args.files.now } in
    rw c.if-not-begins.false (ends-in-place ways c.args.task c.in-Ok.job c.do_device.result c.in-Ok.ensures.ok
    (λ none. c.do_device.ensures (none-reached ways.files c.in-Ok.job none)))
