-- What a mount makes of a drive, and what it gives back where it is refused.
use Rattle.std.specs.Prelude.{◌≡◌, ◌≢◌, ◌⊎◌, ℕ, ◌+◌, max, length, None}
use Rattle.drive_port.specs.Contents.{contents}
use Rattle.drive_port.specs.Drive.{DriveState}
use Rattle.drive_array.specs.ZoneLogs.{drive_logs, sequences, encoded}
use Rattle.drive_survey.specs.declared.fault.MountFault.{MountFault}
use Rattle.drive_survey.specs.declared.fault.MountFault.TheVariants.{Halted, OutOfMemory, Failed}
use Rattle.drive_survey.specs.Heads.{greatest_sequence}
use Rattle.remount.specs.Kept.{KeepsMountable}
use Rattle.remount.specs.Mount.{AreMountedRoles, IsToMount, LeavesMounted, MountFails}
use Rattle.drive_survey.specs.Reported.{KeepsZones}
use Rattle.drive_survey.specs.Scan.{FailsBy}
use Rattle.zone_translator.specs.declared.status.DiskStatus.TheVariants.{Serving}
use Rattle.zone_translator.specs.View.{DiskView, disk_array, disk_size, given_size, next_sequence}

-- A drive that can be mounted is mounted, with n logical blocks if no header says how many: the disk serves the
-- array that the drive encoded, and has its size. The drive was cleared and repaired. Zones that are partly written
-- are filled on, no clean runs, and the next sequence is one more than the greatest that any batch had.
pub record MountsDisk (old : DriveState) (n : ℕ) (disk : DiskView) : Type 0 where
  pub can : IsToMount old n
  pub leaves : LeavesMounted old disk.drive n
  pub array : disk_array disk ≡ encoded old n
  pub size : disk_size disk ≡ length (disk_array disk)
  pub given : given_size disk ≡ n
  pub next : next_sequence disk ≡ 1 + max (greatest_sequence (sequences (drive_logs old))) (greatest_sequence (sequences (drive_logs disk.drive)))
  pub roles : AreMountedRoles disk.drive.geometry.capacity (contents disk.drive.zones) disk.tables.roles
  pub clean : disk.clean ≡ None
  pub status : disk.status ≡ Serving

-- A drive is not mounted, but given back. A drive that is refused for what it holds is unchanged, and so is one that
-- cannot be mounted: only a stop and a failed allocation may come once repairs have begun, and what they leave can be
-- mounted as before, with the same array.
pub record GivesBack (old : DriveState) (n : ℕ) (fault : MountFault) (back : DriveState) : Type 0 where
  pub why : FailsBy (MountFails old n) back fault
  pub refused : fault ≢ Halted → fault ≢ OutOfMemory → fault ≢ Failed → KeepsZones old back
  pub early : KeepsZones old back ⊎ IsToMount old n
  pub kept : KeepsMountable n old back
