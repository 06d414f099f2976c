use Rattle.drive_array.proofs.NewestLaws.{newest-is}
use Rattle.drive_array.proofs.laws.newest_is_live.Goals as goal

pub returns : goal.returns
returns c = newest-is
