-- A copy of the drive in a file, whatever ended it.
use Rattle.std.proofs.Common.{ℕ, Option, List, Result, Ok, Err}
use Rattle.std.specs.Prelude.{IfOk}
use Rattle.zone_states.specs.declared.geometry.Geometry.{Geometry}
use Rattle.drive_port.specs.Drive.{DriveState}
use Rattle.disk_copies.specs.declared.stream_fault.ImportFault.{ImportFault}
use Rattle.disk_copies.specs.Copies.{AllComes}
use Rattle.disk_copies.specs.DriveCopies.{ImportsAnyway, ImportsDisk, ImportsDrive, import_end}
use Rattle.disk_copies.specs.declared.job.ImportJob.{ImportJob}

-- an import into the disk of a drive is an import into the drive, whatever ended it
pub drive-imported : (job : ImportJob) (input rest : Option (List ℕ)) (old : DriveState) (taken : Result ℕ ImportFault) (written : ℕ) (new : DriveState)
    → ImportsDisk job input rest old taken written new → ImportsDrive job input rest old (import_end taken) written new
drive-imported job input rest old (Ok count) written new i = i
drive-imported job input rest old (Err fault) written new i = i

-- and so whatever the Reads returned
pub drive_imported-anyway : (geometry : Geometry) (input rest : Option (List ℕ)) (taken : Result ℕ ImportFault) → IfOk taken (AllComes geometry.block input rest)
    → ImportsAnyway geometry input rest (import_end taken)
drive_imported-anyway geometry input rest (Ok count) comes = comes
drive_imported-anyway geometry input rest (Err fault) comes = tt
