-- What a part of a call leaves of the clean that ran before it.
use Rattle.std.specs.Prelude.{◌≡◌, ◌⊎◌, ℕ, ◌≤◌, List, ◌++◌, IsTrue, Option, Some, None, OnOk, Result, Err}
use Rattle.std.specs.List.{AllByRecursion}
use Rattle.drive_port.specs.Drive.{DriveState}
use Rattle.batch_log.specs.Log.{Batch}
use Rattle.zone_choice.specs.Agreement.{MountedView}
use Rattle.drive_array.specs.ZoneLogs.{drive_logs, log_at}
use Rattle.zone_cleaner.specs.Clean.{CleanView}
use Rattle.zone_translator.specs.Changes.{NoMoreTurns}
use Rattle.zone_translator.specs.declared.fault.DiskFault.{DiskFault}
use Rattle.zone_translator.specs.declared.fault.DiskFault.TheVariants.{Stopped}

-- the batches in a zone of a drive
abbrev pub log_in_zone : DriveState → ℕ → List Batch
log_in_zone drive zone = log_at (drive_logs drive) zone

-- each of these batches has this sequence, or a greater one
abbrev pub AreNewer : ℕ → List Batch → Type 0
AreNewer sequence log = AllByRecursion (λ (batch : Batch). sequence ≤ batch.heading.sequence) log

-- In each zone only batches from this sequence on are new. They follow the batches that were there, or the zone was
-- emptied before.
abbrev pub OnlyNewer : ℕ → List (List Batch) → List (List Batch) → Type 0
OnlyNewer sequence old new =
    (zone : ℕ) → (more : List Batch) × AreNewer sequence more × ((log_at new zone ≡ more) ⊎ (log_at new zone ≡ log_at old zone ++ more))

-- what became of the clean that ran: it continues, with as many turns left or fewer; or it has ended, and its victim was
-- emptied, in which only newer batches are
abbrev pub GoesOnOrEnds : MountedView → Option CleanView → MountedView → Option CleanView → Type 0
GoesOnOrEnds before None after new = Unit {0}
GoesOnOrEnds before (Some clean) after None = AreNewer before.tables.next (log_in_zone after.drive clean.victim)
GoesOnOrEnds before (Some clean) after (Some same) = (same.victim ≡ clean.victim) × NoMoreTurns before (Some clean) after (Some same)

-- which batches are new; where the drive stopped inside a step, nothing is said of them
abbrev pub AddsNewer : {V : Type 0} → MountedView → Result V DiskFault → MountedView → Type 0
AddsNewer before (Err Stopped) after = Unit {0}
AddsNewer before result after = OnlyNewer before.tables.next (drive_logs before.drive) (drive_logs after.drive)

-- While no command fails, the clean that ran continues, or ends. Once the call is done, no more turns are left than before, also if none ran;
-- a call that was refused may leave a clean that it started.
pub record KeepsCleaning {V : Type 0} (before : MountedView) (old : Option CleanView) (result : Result V DiskFault) (after : MountedView)
    (new : Option CleanView) : Type 0 where
  pub clean : IsTrue after.drive.unfailing → GoesOnOrEnds before old after new
  pub unfailing : IsTrue after.drive.unfailing → IsTrue before.drive.unfailing
  pub turns : OnOk result (NoMoreTurns before old after new)
  pub newer : AddsNewer before result after
