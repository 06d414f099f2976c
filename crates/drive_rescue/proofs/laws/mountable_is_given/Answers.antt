use Rattle.drive_rescue.proofs.MountLaws.{mountable_is_given}
use Rattle.drive_rescue.proofs.laws.mountable_is_given.Goals as goal

pub returns : goal.returns
returns c = mountable_is_given
