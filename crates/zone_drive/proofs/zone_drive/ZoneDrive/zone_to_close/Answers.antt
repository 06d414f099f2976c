use Rattle.zone_drive.proofs.RoomLaws.{lowest-gives, lowest-lacks}
use Rattle.zone_drive.proofs.zone_drive.ZoneDrive.zone_to_close.Goals as goal

pub returns-clause-lowest : goal.returns-clause-lowest
returns-clause-lowest g c = rw (← c.self.view_is) (lowest-gives c.self.inside.geometry.block (g.Z.HeldZones.stored c.self.inside.zones) c.lowest_implicit.result c.lowest_implicit.ensures)

pub returns-clause-none : goal.returns-clause-none
returns-clause-none g c = λ makes. rw (← c.self.view_is) (lowest-lacks c.self.inside.geometry.block (g.Z.HeldZones.stored c.self.inside.zones) c.lowest_implicit.result c.lowest_implicit.ensures)
