use Rattle.job_drives.proofs.MountLaws.{given-served}
use Rattle.job_drives.proofs.mounted.mount_given.Goals as goal

pub returns-in-Ok-clause-disk : goal.returns-in-Ok-clause-disk
returns-in-Ok-clause-disk g c clean = given-served (g.D.Device.drive c.args.device) c.args.blocks c.in-Ok.disk (c.in-Ok.ensures.disk clean)
