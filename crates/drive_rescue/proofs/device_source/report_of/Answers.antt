use Rattle.drive_rescue.proofs.DeviceLaws.{tells-all}
use Rattle.drive_rescue.proofs.device_source.report_of.Goals as goal

pub returns-in-Ok-clause-ok : goal.returns-in-Ok-clause-ok
returns-in-Ok-clause-ok g c = tells-all _ _ c.in-Ok.zones.items c.requires.lawful c.in-Ok.ensures.ok
