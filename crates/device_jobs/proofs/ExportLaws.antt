-- A drive that was mounted, and its blocks written out.
use Rattle.drive_port.specs.Drive.{DriveState}
use Rattle.zone_choice.specs.Sane.{KeepsShape}
use Rattle.zone_translator.specs.View.{DiskView, StaysAlike}
use Rattle.job_drives.proofs.MountLaws.{shape-join}

-- it has the same shape
pub kept-shape : (old : DriveState) (first last : DiskView) → KeepsShape old first.drive → StaysAlike first last → KeepsShape old last.drive
kept-shape old first last mounted alike = shape-join old first.drive last.drive mounted alike.shape
