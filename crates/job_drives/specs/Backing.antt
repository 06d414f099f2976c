-- A file to which changes are appended: its bytes, those that were synced, and what its calls do to them.
use Rattle.std.specs.Prelude.{◌≡◌, ◌⊎◌, ℕ, ◌+◌, ◌*◌, ◌^◌, ◌-◌, ◌<◌, ◌≤◌, min, Bool, true, false, List, length, take, Option, Some, None, Result, Ok, Err}
use Rattle.std.specs.Prelude.{IfSome, is_ok, is_some, ⊤}
use Rattle.std.specs.Option.{option_or}
use Rattle.zone_drive.specs.Habits.{MemoryDrive}
use Rattle.std.specs.Io.{StartsWith}
use Rattle.std.specs.Io.KnownBytes.{append_known}
use Rattle.disk_files.specs.Input.{Known}
use Rattle.drive_port.specs.Drive.{DriveState}
use Rattle.drive_journal.specs.Change.{start}
use Rattle.drive_journal.specs.Cut.{front_of}
use Rattle.drive_journal.specs.File.{IsStoredWhole}
use Rattle.job_drives.specs.declared.backing.Renewed.{Renewed}
use Rattle.job_drives.specs.declared.file_end.FileEnd.{FileEnd}
use Rattle.job_drives.specs.declared.file_fault.FileFault.{FileFault}
use Rattle.job_drives.specs.declared.file_fault.SystemError.{SystemError}
use Rattle.job_drives.specs.declared.new_file.Saved.{Saved}

-- A file: its bytes, those that it had at the last sync that was done, and whether its name is on the disk.
pub record FileState : Type 0 where
  pub bytes : Known
  pub synced : Known
  pub is_named : Bool

-- bytes begin with these, where both are known
abbrev pub IsFrontOf : Known → Known → Type 0
IsFrontOf None bytes = ⊤
IsFrontOf (Some front) None = ⊤
IsFrontOf (Some front) (Some bytes) = StartsWith bytes front

-- ---- the calls

-- All bytes after the first `whole` are dropped. After a fault these are there, and perhaps others.
abbrev pub CutsFile : ℕ → FileState → Result (Unit {0}) SystemError → FileState → Type 0
CutsFile whole old (Ok done) new = new ≡ record old { bytes = front_of whole old.bytes }
CutsFile whole old (Err fault) new = (front_of whole new.bytes ≡ front_of whole old.bytes) × (new.synced ≡ old.synced)

-- Bytes are written at the end; after a fault a beginning of them.
abbrev pub AppendsToFile : List ℕ → FileState → Result (Unit {0}) SystemError → FileState → Type 0
AppendsToFile bytes old (Ok done) new = new ≡ record old { bytes = append_known old.bytes bytes }
AppendsToFile bytes old (Err fault) new = (count : ℕ) × (new ≡ record old { bytes = append_known old.bytes (take count bytes) })

-- All bytes are synced, or none more.
abbrev pub SyncsFile : FileState → Result (Unit {0}) SystemError → FileState → Type 0
SyncsFile old (Ok done) new = new ≡ record old { synced = old.bytes }
SyncsFile old (Err fault) new = new ≡ old

-- The name is brought to the disk, or not.
abbrev pub NamesFile : FileState → Result (Unit {0}) SystemError → FileState → Type 0
NamesFile old (Ok done) new = new ≡ record old { is_named = true }
NamesFile old (Err fault) new = new ≡ old

-- The image of a drive takes the place of all bytes, once it is synced.
pub record HoldsImage (drive : DriveState) (is_named : Bool) (old new : FileState) : Type 0 where
  pub image : IfSome new.bytes (λ bytes. IsStoredWhole bytes drive start)
  pub synced : new.synced ≡ new.bytes
  pub is_named_is : new.is_named ≡ is_named
  pub known : is_some new.bytes ≡ is_some old.bytes

abbrev pub RenewsFile : DriveState → FileState → Result Renewed FileFault → FileState → Type 0
RenewsFile drive old (Ok renewed) new = HoldsImage drive (is_ok renewed.name) old new
RenewsFile drive old (Err fault) new = new ≡ old

-- ---- a file of which the first bytes are whole

-- There are that many bytes; and all are synced, if that is said.
pub record IsWhole (file : FileState) (whole : ℕ) (is_synced : Bool) : Type 0 where
  pub within : IfSome file.bytes (λ bytes. whole ≤ length bytes)
  pub synced : is_synced ≡ true → file.synced ≡ file.bytes

-- Bytes may be appended: none was synced that is not there any more, so that no loss of power brings it back; and where the end of
-- the file is said to be the end of what is whole, it is.
pub record IsReady (file : FileState) (whole : ℕ) (is_at_end : Bool) : Type 0 where
  pub front : IsFrontOf file.synced file.bytes
  pub at_end : is_at_end ≡ true → IfSome file.bytes (λ bytes. whole ≡ length bytes)

-- What a file and the bytes that are gathered for it hold together: those that are whole, and after them these.
abbrev pub held_by : FileState → ℕ → List ℕ → Known
held_by file whole gathered = append_known (front_of whole file.bytes) gathered

-- ---- a file whose changes are gathered

-- What it holds, the file that it has so far, why it takes no more changes, why those that it has may not be on the disk, and what is
-- known of it when its job ends.
pub record Gathered : Type 0 where
  pub held : Known
  pub file : FileState
  pub change_fault : Option FileFault
  pub sync_fault : Option FileFault
  pub end : FileEnd

-- the fault that is told
abbrev pub fault_of : Gathered → Option FileFault
fault_of gathered = option_or gathered.change_fault gathered.sync_fault

-- A drive is saved, if there is one: its image takes the place of all bytes, and has its name, also after a loss of power. After a fault
-- the bytes are as before, or only that name is not sure.
abbrev pub SavesDrive : Option MemoryDrive → FileState → Result Saved FileFault → FileState → Type 0
SavesDrive None old result new = new ≡ old
SavesDrive (Some drive) old (Ok saved) new = HoldsImage drive.state true old new
SavesDrive (Some drive) old (Err fault) new = (new ≡ old) ⊎ HoldsImage drive.state false old new

-- ---- how long a file may be

-- a file is too long that is more than 1 MiB longer than twice the image of its drive
abbrev pub IsTooLong : ℕ → ℕ → Type 0
IsTooLong length image = min (2 * image + 2 ^ 20) (2 ^ 64 - 1) < length

-- its drive is counted again when it is as long as a file may be whose image is 1 MiB longer, and 1 MiB less
abbrev pub limit_of : ℕ → ℕ
limit_of image = min (2 * (image + 2 ^ 20)) (2 ^ 64 - 1)
