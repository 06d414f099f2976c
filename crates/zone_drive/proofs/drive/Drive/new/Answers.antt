use Rattle.std.proofs.Common.{refl}
use Rattle.zone_drive.proofs.StoredLaws.{are-fresh, zones_of-empty}
use Rattle.zone_drive.proofs.drive.Drive.new.Goals as goal

pub unused-requires-clause-zones : goal.unused-requires-clause-zones
unused-requires-clause-zones c = rw (c.new.ensures, c.in_ok-zones.ensures) (are-fresh c.args.geometry c.in_default.ensures.ok)

pub returns-clause-ok : goal.returns-clause-ok
returns-clause-ok c = rw (c.unused.ensures, c.new.ensures, c.in_ok-zones.ensures, zones_of-empty c.args.geometry.block c.args.geometry.zones) refl
