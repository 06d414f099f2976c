use Rattle.drive_array.proofs.SizeLaws.{greatest_is}
use Rattle.drive_array.proofs.laws.greatest_is.Goals as goal

pub returns : goal.returns
returns c = greatest_is
