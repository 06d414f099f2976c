use Rattle.drive_images.proofs.FrontLaws.{one-image}
use Rattle.drive_images.proofs.laws.one_image.Goals as goal

pub returns : goal.returns
returns c = one-image
