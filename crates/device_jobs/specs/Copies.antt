-- Blocks that are copied out of the drive behind a device.
use Rattle.std.specs.Prelude.{◌≡◌, None, Result, Ok, Err, ⊤}
use Rattle.zone_states.specs.declared.geometry.Geometry.{Geometry}
use Rattle.drive_port.specs.Drive.{DriveState}
use Rattle.zone_translator.specs.View.{DiskView, KeepsDisk, disk_array, disk_size}
use Rattle.disk_runs.specs.Run.{Known}
use Rattle.job_drives.specs.Mounted.{IsNotServed, IsServed, TellsRoom}
use Rattle.disk_copies.specs.Copies.{Exports}
use Rattle.disk_copies.specs.declared.stream_fault.ExportFault.{ExportFault}
use Rattle.disk_copies.specs.DriveCopies.{blocks_asked}
use Rattle.disk_copies.specs.declared.copy_fault.CopyFault.{CopyFault}
use Rattle.disk_copies.specs.declared.copy_fault.CopyFault.TheVariants as copies
use Rattle.disk_copies.specs.declared.job.ExportJob.{ExportJob}

-- a drive is mounted, and its blocks are exported; what is left can be mounted again, with the same array
pub record ExportsDisk (job : ExportJob) (old : DriveState) (written contents : Known) (result : Result (Unit {0}) ExportFault)
    (new : DriveState) : Type 0 where
  pub disk : DiskView
  pub served : IsServed old None disk
  pub last : DiskView
  pub exports : Exports disk job.first (blocks_asked job.count job.first (disk_size disk)) written contents result last
  pub array : disk_array last ≡ disk_array disk
  pub keeps : KeepsDisk disk last
  pub drive : new ≡ last.drive

-- what an export does to a drive; nothing is written of one that is not mounted
abbrev pub ExportsDevice : ExportJob → DriveState → Known → Known → Result (Unit {0}) CopyFault → DriveState → Type 0
ExportsDevice job old written contents (Ok done) new = ExportsDisk job old written contents (Ok tt) new
ExportsDevice job old written contents (Err (copies.Export fault)) new = ExportsDisk job old written contents (Err fault) new
ExportsDevice job old written contents (Err (copies.Mount fault)) new = IsNotServed old None fault new × (contents ≡ written)
ExportsDevice job old written contents (Err fault) new = ⊥

-- The same whatever the Reads of the drive returned: nothing is written of one that is not mounted, and the room that is
-- told is that of its geometry.
abbrev pub ExportsAnyway : Geometry → Known → Known → Result (Unit {0}) CopyFault → Type 0
ExportsAnyway geometry written contents (Ok done) = ⊤
ExportsAnyway geometry written contents (Err (copies.Export fault)) = ⊤
ExportsAnyway geometry written contents (Err (copies.Mount fault)) = TellsRoom geometry fault × (contents ≡ written)
ExportsAnyway geometry written contents (Err fault) = ⊥
