-- Copies of the drive in a file: what is written of its blocks, and what an import leaves in the file.
use Rattle.std.specs.Prelude.{◌≡◌, ℕ, ◌-◌, max, Bool, Option, Some, None, Result, Ok, Err, ⊤}
use Rattle.zone_states.specs.declared.geometry.Geometry.{Geometry}
use Rattle.disk_files.specs.Input.{Known}
use Rattle.drive_port.specs.Drive.{DriveState}
use Rattle.job_drives.specs.Kept.{IsRestarted}
use Rattle.job_drives.specs.Left.{IsUnread, LeavesFile}
use Rattle.job_drives.specs.declared.kept_drive.Begun.{Begun}
use Rattle.job_drives.specs.declared.left.Left.{Left}
use Rattle.zone_drive.specs.declared.habit.Habit.TheVariants.{Lazy}
use Rattle.zone_translator.specs.View.{DiskView, KeepsDisk, disk_size}
use Rattle.job_drives.specs.Mounted.{IsNotServed, IsServed, TellsRoom}
use Rattle.job_drives.specs.declared.mount_fault.NoDiskFault.{NoDiskFault}
use Rattle.disk_copies.specs.Copies.{AllComes, Exports, Imports}
use Rattle.disk_copies.specs.declared.stream_fault.ExportFault.{ExportFault}
use Rattle.disk_copies.specs.declared.stream_fault.ImportFault.{ImportFault}
use Rattle.disk_copies.specs.declared.copy_fault.CopyFault.{CopyFault}
use Rattle.disk_copies.specs.declared.copy_fault.CopyFault.TheVariants as copies
use Rattle.disk_copies.specs.declared.job.ExportJob.{ExportJob}
use Rattle.disk_copies.specs.declared.job.ImportJob.{ImportJob}

-- ---- an export

-- how many blocks are asked for: all from the first one on if no number was given, but one at least, so that a first
-- one past the end is refused
abbrev pub blocks_asked : Option ℕ → ℕ → ℕ → ℕ
blocks_asked (Some count) first size = count
blocks_asked None first size = max 1 (size - first)

-- the drive in the file is restarted and mounted, and its blocks are exported
pub record ExportsDrive (job : ExportJob) (file written contents : Known)
    (result : Result (Unit {0}) ExportFault) : Type 0 where
  pub begun : Begun
  pub begins : IsRestarted file Lazy begun
  pub disk : DiskView
  pub served : IsServed begun.drive.state None disk
  pub last : DiskView
  pub exports : Exports disk job.first (blocks_asked job.count job.first (disk_size disk)) written contents result last

-- the drive in the file is restarted, and not mounted
pub record MountsNone (file : Known) (fault : NoDiskFault) : Type 0 where
  pub begun : Begun
  pub begins : IsRestarted file Lazy begun
  pub back : DriveState
  pub refused : IsNotServed begun.drive.state None fault back

-- what an export of the drive in a file does; before another fault than the export's own nothing is written
abbrev pub ExportsFile : ExportJob → Known → Known → Known → Result (Unit {0}) CopyFault → Type 0
ExportsFile job file written contents (Ok done) = ExportsDrive job file written contents (Ok tt)
ExportsFile job file written contents (Err (copies.Export fault)) = ExportsDrive job file written contents (Err fault)
ExportsFile job file written contents (Err (copies.Mount fault)) = MountsNone file fault × (contents ≡ written)
ExportsFile job file written contents (Err (copies.File fault)) = IsUnread file fault × (contents ≡ written)
ExportsFile job file written contents (Err fault) = ⊥

-- ---- an import

-- a drive is mounted, and blocks are imported; what is left can be mounted again
pub record ImportsDisk (job : ImportJob) (input rest : Known) (old : DriveState) (taken : Result ℕ ImportFault)
    (written : ℕ) (new : DriveState) : Type 0 where
  pub disk : DiskView
  pub served : IsServed old job.blocks disk
  pub last : DiskView
  pub imports : Imports disk job.first input rest taken written last
  pub keeps : KeepsDisk disk last
  pub drive : new ≡ last.drive

-- what an import does to a drive; nothing is read or written for one that is not mounted
abbrev pub ImportsDrive : ImportJob → Known → Known → DriveState → Result ℕ CopyFault → ℕ → DriveState → Type 0
ImportsDrive job input rest old (Ok count) written new = ImportsDisk job input rest old (Ok count) written new
ImportsDrive job input rest old (Err (copies.Import fault)) written new =
    ImportsDisk job input rest old (Err fault) written new
ImportsDrive job input rest old (Err (copies.Mount fault)) written new =
    IsNotServed old job.blocks fault new × (rest ≡ input) × (written ≡ 0)
ImportsDrive job input rest old (Err fault) written new = ⊥

-- The same whatever the Reads of the drive returned: done, the reader gave so many whole blocks, and is at its end. For
-- a drive that is not mounted nothing is read, and the room that is told is that of its geometry.
abbrev pub ImportsAnyway : Geometry → Known → Known → Result ℕ CopyFault → Type 0
ImportsAnyway geometry input rest (Ok count) = AllComes geometry.block input rest count
ImportsAnyway geometry input rest (Err (copies.Import fault)) = ⊤
ImportsAnyway geometry input rest (Err (copies.Mount fault)) = TellsRoom geometry fault × (rest ≡ input)
ImportsAnyway geometry input rest (Err fault) = ⊥

-- how an import ended, as it is told
abbrev pub import_end : Result ℕ ImportFault → Result ℕ CopyFault
import_end (Ok count) = Ok count
import_end (Err fault) = Err (copies.Import fault)

-- what an import leaves of the drive that the bytes of a file hold, whatever ended it
abbrev pub ImportsFile : ImportJob → Known → Known → Known → Result ℕ CopyFault → ℕ → Left → Known → Bool → Type 0
ImportsFile job file input rest taken written left held failed =
    LeavesFile (λ (old new : DriveState). ImportsDrive job input rest old taken written new) file Lazy left held failed

-- the file holds no drive, and nothing is read or written
abbrev pub ImportsNothing : Known → Known → Known → Result ℕ CopyFault → ℕ → Type 0
ImportsNothing file input rest (Err (copies.File fault)) written =
    IsUnread file fault × (rest ≡ input) × (written ≡ 0)
ImportsNothing file input rest taken written = ⊥
