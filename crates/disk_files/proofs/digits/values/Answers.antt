use Rattle.std.proofs.Common.{refl}
use Rattle.disk_files.proofs.DigitLaws.{values-are}
use Rattle.disk_files.proofs.digits.values.Goals as goal

pub returns : goal.returns
returns c = values-are c.args.digits c.fits-digits.0 c.fits-digits.1 _ _ _ _ _ refl refl refl refl refl
