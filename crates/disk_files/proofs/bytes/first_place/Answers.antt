use Rattle.disk_files.proofs.PlaceLaws.{position-IsFirstByte}
use Rattle.disk_files.proofs.bytes.first_place.Goals as goal

pub returns : goal.returns
returns c = position-IsFirstByte c.args.byte c.args.bytes.now c.memchr.result c.memchr.ensures
