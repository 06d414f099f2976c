use Rattle.std.proofs.Common.{◌∙◌}
use Rattle.nvme_wire.specs.declared.command.Action.TheVariants.{Close}
use Rattle.zone_drive.specs.Stored.{zones_of}
use Rattle.zone_drive.proofs.SendLaws.{zones_of-sent}
use Rattle.drive_journal.proofs.RestLaws.{closed-all}
use Rattle.drive_journal.proofs.StoredLaws.{whole-sent}
use Rattle.drive_journal.proofs.replaying.close_zones.Goals as goal

pub returns-clause-zones : goal.returns-clause-zones
returns-clause-zones c = rw c.apply_to_each.ensures (zones_of-sent c.args.block Close c.args.zones.now ∙ closed-all (zones_of c.args.block c.args.zones.now))

pub returns-clause-whole : goal.returns-clause-whole
returns-clause-whole c whole = rw c.apply_to_each.ensures (whole-sent c.args.block Close c.args.zones.now whole)
