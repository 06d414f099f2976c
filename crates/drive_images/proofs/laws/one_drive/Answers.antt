use Rattle.drive_images.proofs.MeaningLaws.{one-drive}
use Rattle.drive_images.proofs.laws.one_drive.Goals as goal

pub returns : goal.returns
returns c = one-drive
