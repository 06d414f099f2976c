-- Why bytes are not a file of a drive: the first fault, from the first byte on.
use Rattle.std.specs.Prelude.{◌≡◌, ◌⊎◌, ℕ, ◌+◌, Bool, true, List, ◌++◌, length, ⊤}
use Rattle.std.specs.List.{AllByRecursion}
use Rattle.zone_states.specs.declared.geometry.Geometry.{Geometry}
use Rattle.drive_port.specs.Drive.{DriveState, IsLawful}
use Rattle.drive_images.specs.Image.{IsImage}
use Rattle.drive_images.specs.Meaning.{is_of_bytes}
use Rattle.drive_images.specs.Reading.{IsFrontFault}
use Rattle.drive_images.specs.declared.fault.ImageFault.TheVariants.{Input, OutOfMemory}
use Rattle.drive_journal.specs.Change.{Change, HasNoChange, IsChange, journal_bytes, last_sum, start}
use Rattle.drive_journal.specs.File.{HasParts, Parts, drive_read}
use Rattle.drive_journal.specs.Tail.{IsTailFault}
use Rattle.drive_journal.specs.declared.fault.ReadFault.{ReadFault}
use Rattle.drive_journal.specs.declared.fault.ReadFault.TheVariants.{Damaged, Earlier, Image, Long, Zones}

-- Some changes are whole, no whole one follows, and what follows has this fault. The changes begin at this place of the
-- file.
pub record FailsBehindChanges (geometry : Geometry) (from : ℕ) (bytes : List ℕ) (fault : ReadFault) : Type 0 where
  pub changes : List Change
  pub rest : List ℕ
  pub text : bytes ≡ journal_bytes start changes ++ rest
  pub each : AllByRecursion (IsChange geometry) changes
  pub none : HasNoChange geometry (last_sum start changes) rest
  pub told : IsTailFault geometry (last_sum start changes) from (from + length (journal_bytes start changes)) rest fault

-- why changes are not read to their end; the reader may also fail, or memory run out
abbrev pub IsJournalFault : Geometry → ℕ → List ℕ → ReadFault → Type 0
IsJournalFault geometry from bytes (Image Input) = ⊤
IsJournalFault geometry from bytes (Image OutOfMemory) = ⊤
IsJournalFault geometry from bytes fault = FailsBehindChanges geometry from bytes fault

-- an image is whole, and what is after it has this fault
pub record FailsBehindImage (bytes : List ℕ) (fault : ReadFault) : Type 0 where
  pub image : List ℕ
  pub saved : DriveState
  pub rest : List ℕ
  pub text : bytes ≡ image ++ rest
  pub is_image : IsImage image saved
  pub fails : IsJournalFault saved.geometry (length image) rest fault

-- image and changes are whole, and no drive has the zones that they make
pub record MakesNoDrive (bytes : List ℕ) : Type 0 where
  pub parts : Parts
  pub has : HasParts bytes parts
  pub none : IsLawful (drive_read parts) → ⊥

abbrev pub IsFileFault : List ℕ → ReadFault → Type 0
IsFileFault bytes (Image fault) = IsFrontFault bytes fault ⊎ FailsBehindImage bytes (Image fault)
IsFileFault bytes (Long at) = FailsBehindImage bytes (Long at)
IsFileFault bytes (Earlier at) = FailsBehindImage bytes (Earlier at)
IsFileFault bytes (Damaged at) = FailsBehindImage bytes (Damaged at)
IsFileFault bytes Zones = MakesNoDrive bytes

-- whether it is a fault of the bytes: the reader may fail, and memory run out, whatever they are
abbrev pub is_of_file : ReadFault → Bool
is_of_file (Image fault) = is_of_bytes fault
is_of_file fault = true
