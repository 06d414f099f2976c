-- A format of the file of an image.
use Rattle.std.specs.Prelude.{◌≡◌, ◌⊎◌, Bool, true, false, [], ◌∷◌, Some, None, Result, Ok, Err, IfSome, ⊤}
use Rattle.std.specs.Io.KnownBytes.{Appends}
use Rattle.drive_images.specs.declared.fault.ImageFault.TheVariants.{Magic, OutOfMemory}
use Rattle.drive_inspection.specs.Written.{AreAllEmpty, IsWritten}
use Rattle.drive_inspection.specs.declared.written.Written.{Written}
use Rattle.drive_journal.specs.FileFaults.{IsFileFault}
use Rattle.drive_journal.specs.declared.fault.ReadFault.{ReadFault}
use Rattle.drive_journal.specs.declared.fault.ReadFault.TheVariants.{Image}
use Rattle.drive_port.specs.Drive.{DriveState}
use Rattle.drive_port.specs.Run.{restarted}
use Rattle.disk_files.specs.Output.{AppendsFront}
use Rattle.disk_files.specs.Reply.{ok_text}
use Rattle.disk_runs.specs.Run.{Known}
use Rattle.disk_runs.specs.declared.fault.RunFault.TheVariants as runs
use Rattle.job_drives.specs.Backing.{FileState, HoldsImage}
use Rattle.job_drives.specs.Kept.{IsReadIn}
use Rattle.job_drives.specs.declared.file_fault.FileFault.TheVariants.{NotImage}
use Rattle.job_drives.specs.declared.new_file.Saved.{Saved}
use Rattle.disk_jobs.specs.declared.fault.ProgramFault.{ProgramFault}
use Rattle.disk_jobs.specs.declared.fault.ProgramFault.TheVariants as program
use Rattle.disk_jobs.specs.declared.holding.FileHolding.TheVariants as holdings

-- A drive is read in these bytes. Once it is restarted, each of its zones is Empty.
pub record HoldsEmptyDrive (bytes : Known) : Type 0 where
  pub drive : DriveState
  pub is_read : IsReadIn bytes drive
  pub empty : AreAllEmpty (restarted drive)

-- A file holds nothing that a format would destroy: no byte, or a drive in which nothing is written.
abbrev pub HoldsNothing : Known → Type 0
HoldsNothing None = ⊤
HoldsNothing (Some []) = ⊤
HoldsNothing (Some (byte ∷ bytes)) = HoldsEmptyDrive (Some (byte ∷ bytes))

-- a file may be replaced: by force, or if it holds nothing
abbrev pub MayReplace : Bool → Known → Type 0
MayReplace true held = ⊤
MayReplace false held = HoldsNothing held

-- a drive is read in these bytes, and this is told of what is written in it
pub record HoldsDrive (bytes : Known) (written : Written) : Type 0 where
  pub drive : DriveState
  pub is_read : IsReadIn bytes drive
  pub last : DriveState
  pub is_written : IsWritten (restarted drive) last written

-- Why a file is not replaced without force: its drive has zones that are not Empty, or no drive is read in it. It may be that it was not looked at.
abbrev pub IsHeld : Known → ProgramFault → Type 0
IsHeld bytes (program.Holds (holdings.Drive written)) = HoldsDrive bytes written
IsHeld bytes (program.Holds (holdings.Unread fault)) = IfSome bytes (λ bytes. IsFileFault bytes fault)
IsHeld bytes (program.File NotImage) = IfSome bytes (λ bytes. IsFileFault bytes (Image Magic))
IsHeld bytes (program.Run runs.Memory) = ⊤
IsHeld bytes (program.Run (runs.Mount fault)) = ⊤
IsHeld bytes fault = ⊥

-- what the fault of the bytes of a file is to a format of it
abbrev pub unread : ReadFault → ProgramFault
unread (Image Magic) = program.File NotImage
unread (Image OutOfMemory) = program.Run runs.Memory
unread fault = program.Holds (holdings.Unread fault)

-- How a format ends. `ok` is written once the file holds the fresh drive, by its name. A file that holds something is as it was. After
-- any other fault it is as it was, or only its name is not sure.
abbrev pub EndsFormat : Bool → DriveState → FileState → Known → Result Saved ProgramFault → FileState → Known → Type 0
EndsFormat force drive old written (Ok saved) new contents = HoldsImage drive true old new × Appends written contents ok_text
EndsFormat force drive old written (Err (program.Run runs.Output)) new contents = HoldsImage drive true old new × AppendsFront written contents ok_text
EndsFormat force drive old written (Err (program.Holds holding)) new contents =
    (force ≡ false) × IsHeld old.bytes (program.Holds holding) × (new ≡ old) × (contents ≡ written)
EndsFormat force drive old written (Err fault) new contents = ((new ≡ old) ⊎ HoldsImage drive false old new) × (contents ≡ written)
