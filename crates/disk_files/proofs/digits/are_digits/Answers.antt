use Rattle.disk_files.proofs.DigitLaws.{are_digits-is}
use Rattle.disk_files.proofs.digits.are_digits.Goals as goal

pub returns : goal.returns
returns c = are_digits-is c.args.values c.fits-values.0
