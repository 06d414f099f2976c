use Rattle.std.proofs.Common.{refl}
use Rattle.zone_drive.proofs.device.ZoneDriveHonest.vouch.Goals as goal

pub returns : goal.returns
returns g c = rw (← c.self.view_is) refl
