-- What a repair and a look after it keep.
use Rattle.std.specs.Prelude.{IsTrue}
use Rattle.drive_port.specs.Drive.{DriveState}
use Rattle.drive_survey.specs.Reported.{KeepsZones}
use Rattle.tail_repair.specs.Repair.{KeepsBatches, KeepsDrive}
use Rattle.tail_repair.proofs.KeepLaws.{drive-then}
use Rattle.tail_repair.proofs.TailLaws.{look-keeps}

-- a look at the drive after a repair loses no batch
pub looks-keep : (old drive new : DriveState) → KeepsDrive old drive → KeepsZones drive new → IsTrue new.clean → KeepsBatches old new
looks-keep old drive new keeps looks clean = (drive-then old drive new keeps (look-keeps drive new looks)).batches clean
