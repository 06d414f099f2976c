use Rattle.drive_array.proofs.SizeLaws.{empty_spare}
use Rattle.drive_array.proofs.laws.empty_spare.Goals as goal

pub returns : goal.returns
returns c = empty_spare
