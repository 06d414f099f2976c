-- What a job on a broken drive gives: flat bytes, or a new drive.
use Rattle.std.specs.Prelude.{◌≡◌, ℕ, ◌^◌, ◌-◌, min, Bool, ◌==◌, ◌&&◌, List, [], length, Option, Some, None}
use Rattle.std.specs.Io.KnownBytes.{Keeps}
use Rattle.drive_port.specs.Drive.{DriveState}
use Rattle.drive_port.specs.Durable.{IsDurable}
use Rattle.drive_array.specs.Mountable.{IsMountable}
use Rattle.drive_array.specs.Sizes.{size_or}
use Rattle.drive_rescue.specs.declared.giving.Rescued.{Rescued}
use Rattle.drive_rescue.specs.Findings.{FindFails}
use Rattle.drive_rescue.specs.Rescue.{Finds, RescueFails, Rescues, SourceView}
use Rattle.drive_rescue.specs.Searching.{Finding, found_size}
use Rattle.disk_copies.specs.Written.{Written, written_bytes}
use Rattle.zone_translator.specs.View.{DiskView, disk_array, given_size}
use Rattle.rescue_jobs.specs.declared.fault.RescueJobFault.{RescueJobFault}
use Rattle.rescue_jobs.specs.declared.fault.RescueJobFault.TheVariants as faults

-- how many blocks a disk has if no header says how many; a number that no disk has stays one
abbrev pub given_blocks : Option ℕ → ℕ
given_blocks (Some blocks) = min blocks (2 ^ 32 - 1)
given_blocks None = 0

-- whether nothing of a disk is missing
abbrev pub is_whole : Rescued → Bool
is_whole rescued = length rescued.lost.items == 0 && length rescued.older.items == 0

-- Why there is no disk: the search failed, or no header says a size and no number above 0 was given.
abbrev pub FindsNoDisk : SourceView → ℕ → RescueJobFault → Type 0
FindsNoDisk source given (faults.Rescue fault) = FindFails source given fault
FindsNoDisk source given faults.NoSize = (finding : Finding) × Finds source finding × (size_or given (found_size finding.found) ≡ 0)
FindsNoDisk source given fault = ⊥

-- What is written until a fault: nothing where there is no disk, or else a beginning of what a rescue gives.
abbrev pub RescuesNot : SourceView → ℕ → Option (List ℕ) → Option (List ℕ) → RescueJobFault → Type 0
RescuesNot source given written contents (faults.Rescue fault) = RescueFails source given written contents fault
RescuesNot source given written contents fault = FindsNoDisk source given fault × Keeps written contents

-- A disk is flushed, and its drive given. The drive can be mounted again.
pub record IsFlushed (disk : DiskView) (drive : DriveState) : Type 0 where
  pub last : DiskView
  pub array : disk_array last ≡ disk_array disk
  pub mountable : IsMountable last.drive (given_size last)
  pub durable : IsDurable last.drive
  pub drive_is : drive ≡ last.drive

-- The first blocks of a disk on a new drive are what a rescue gives, and durable.
pub record RescuesInto (source : SourceView) (given : ℕ) (rescued : Rescued) (new : DriveState) : Type 0 where
  pub written : Written
  pub gives : Rescues source given (Some []) (Some (written_bytes written)) rescued
  pub flushed : IsFlushed written.disk new
