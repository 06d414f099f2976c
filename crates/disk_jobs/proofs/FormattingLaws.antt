-- What a file holds that a format would destroy.
use Rattle.std.proofs.Common.{inl, refl, subst}
use Rattle.std.specs.Prelude.{◌≡◌, Bool, false, List, ℕ, Some, None, Err, IfSome}
use Rattle.drive_images.specs.declared.fault.ImageFault.TheVariants as images
use Rattle.drive_inspection.specs.Written.{AreAllEmpty, IsWritten}
use Rattle.drive_inspection.specs.declared.written.Written.{Written}
use Rattle.drive_port.specs.Drive.{DriveState}
use Rattle.drive_journal.specs.FileFaults.{IsFileFault}
use Rattle.drive_journal.specs.declared.fault.ReadFault.{ReadFault}
use Rattle.drive_journal.specs.declared.fault.ReadFault.TheVariants as files
use Rattle.disk_runs.specs.Run.{Known}
use Rattle.disk_runs.specs.declared.fault.RunFault.TheVariants as runs
use Rattle.zone_drive.specs.Habits.{MemoryDrive}
use Rattle.zone_drive.specs.declared.habit.Habit.{Habit}
use Rattle.job_drives.specs.Backing.{FileState}
use Rattle.job_drives.specs.Kept.{HoldsFile, IsRestarted}
use Rattle.job_drives.specs.declared.kept_drive.Begun.{Begun}
use Rattle.disk_jobs.specs.Formatting.{EndsFormat, HoldsDrive, HoldsEmptyDrive, IsHeld, unread}
use Rattle.disk_jobs.specs.declared.fault.ProgramFault.{ProgramFault}
use Rattle.disk_jobs.specs.declared.fault.ProgramFault.TheVariants as program
use Rattle.disk_jobs.specs.declared.holding.FileHolding.{FileHolding}
use Rattle.disk_jobs.specs.declared.holding.FileHolding.TheVariants as holdings

-- why no drive is read in a file
pub unread-held : (bytes : Known) (fault : ReadFault) → IfSome bytes (λ (held : List ℕ). IsFileFault held fault) → IsHeld bytes (unread fault)
unread-held bytes (files.Image images.Magic) is = is
unread-held bytes (files.Image images.Geometry) is = is
unread-held bytes (files.Image images.State) is = is
unread-held bytes (files.Image images.Written) is = is
unread-held bytes (files.Image images.RestNotZero) is = is
unread-held bytes (files.Image images.Limits) is = is
unread-held bytes (files.Image images.Short) is = is
unread-held bytes (files.Image images.Long) is = is
unread-held bytes (files.Image images.Input) is = is
unread-held bytes (files.Image images.OutOfMemory) is = tt
unread-held bytes (files.Long at) is = is
unread-held bytes (files.Earlier at) is = is
unread-held bytes (files.Damaged at) is = is
unread-held bytes files.Zones is = is

-- the drive in a file, once it is restarted
pub holds-empty : (bytes : Known) (habit : Habit) (begun : Begun) → IsRestarted bytes habit begun → AreAllEmpty begun.drive.state → HoldsEmptyDrive bytes
holds-empty bytes habit begun is empty = record {
  drive = is.opened;
  is_read = record { whole = begun.whole; sum = begun.sum; is_file = is.is_file };
  empty = subst (λ (drive : MemoryDrive). AreAllEmpty drive.state) is.drive_is empty;
}

pub holds-drive : (bytes : Known) (habit : Habit) (begun : Begun) (last : DriveState) (written : Written) → IsRestarted bytes habit begun → IsWritten begun.drive.state last written → HoldsDrive bytes written
holds-drive bytes habit begun last written is so = record {
  drive = is.opened;
  is_read = record { whole = begun.whole; sum = begun.sum; is_file = is.is_file };
  last = last;
  is_written = subst (λ (drive : MemoryDrive). IsWritten drive.state last written) is.drive_is so;
}

-- what a file is read to hold, it holds
held_of : (held read : Known) → HoldsFile held read → (holding : FileHolding) → IsHeld read (program.Holds holding)
    → IsHeld held (program.Holds holding)
held_of (Some bytes) read same holding is = subst (λ (known : Known). IsHeld known (program.Holds holding)) same is
held_of None read same (holdings.Drive written) is = record {
  drive = is.drive;
  is_read = record { whole = is.is_read.whole; sum = is.is_read.sum; is_file = tt };
  last = is.last;
  is_written = is.is_written;
}
held_of None read same (holdings.Unread fault) is = tt

-- a file that may not be replaced is as it was, and nothing is said
pub ends_held : (force : Bool) (drive : DriveState) (old : FileState) (read written : Known) (fault : ProgramFault)
    → force ≡ false → HoldsFile old.bytes read → IsHeld read fault
    → EndsFormat force drive old written (Err fault) old written
ends_held force drive old read written (program.Holds holding) unforced same held =
    (unforced, held_of old.bytes read same holding held, refl, refl)
ends_held force drive old read written (program.Run runs.Output) unforced same held = absurd held
ends_held force drive old read written (program.Run (runs.Line number)) unforced same held = (inl refl, refl)
ends_held force drive old read written (program.Run (runs.Long number)) unforced same held = (inl refl, refl)
ends_held force drive old read written (program.Run (runs.Disk fault)) unforced same held = (inl refl, refl)
ends_held force drive old read written (program.Run (runs.Mount fault)) unforced same held = (inl refl, refl)
ends_held force drive old read written (program.Run (runs.Geometry fault)) unforced same held = (inl refl, refl)
ends_held force drive old read written (program.Run runs.Input) unforced same held = (inl refl, refl)
ends_held force drive old read written (program.Run runs.Memory) unforced same held = (inl refl, refl)
ends_held force drive old read written (program.Reserve most) unforced same held = (inl refl, refl)
ends_held force drive old read written (program.Image fault) unforced same held = (inl refl, refl)
ends_held force drive old read written (program.File fault) unforced same held = (inl refl, refl)
