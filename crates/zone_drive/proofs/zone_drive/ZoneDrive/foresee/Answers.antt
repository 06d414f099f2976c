use Rattle.std.proofs.Common.{Err, [], ap}
use Rattle.zone_drive.specs.Held.{HeldDrive}
use Rattle.zone_drive.proofs.ForeseeLaws.{foresees-by, lawful-now}
use Rattle.zone_drive.proofs.OutcomeLaws.{gives-fault}
use Rattle.zone_drive.proofs.zone_drive.ZoneDrive.foresee.Goals as goal

pub returns-in-Err : goal.returns-in-Err
returns-in-Err g c =
    rw (c.fault_status.ensures, ← c.in-Err.ensures.value) (foresees-by c.args.self.now.drive c.args.self.now.drive (Err c.in-Err.fault) c.args.bytes.now [] _ (gives-fault c.args.self.now.drive c.in-Err.fault c.args.bytes.now) (lawful-now c.self.inside.geometry (g.Z.HeldZones.stored c.self.inside.zones) _ c.self.inside.completed c.self.inside.refused c.self.inside.appended c.self.inside.habit c.self.inside.halted c.self.inside.failed c.self.invariant.0 c.self.invariant.1 c.self.invariant.4 c.args.self.now.drive (ap (λ (d : HeldDrive _). d.drive) c.self.view_is)))
