use Rattle.disk_files.proofs.DigitLaws.{joined-from}
use Rattle.disk_files.proofs.digits.joined.Goals as goal

pub returns : goal.returns
returns c = joined-from 32 0 c.args.values c.args.values c.fits-values.0 c.requires
