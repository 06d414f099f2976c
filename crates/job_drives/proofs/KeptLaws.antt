-- What the store of a file holds once it is cut to what is whole, and once a job has left its drive.
use Rattle.std.proofs.Common.{◌≡◌, ℕ, List, Option, Some, None, subst, ◌∙◌}
use Rattle.std.specs.Prelude.{Bool, IfSome}
use Rattle.drive_port.specs.Drive.{DriveState}
use Rattle.drive_port.specs.Run.{restarted}
use Rattle.drive_journal.specs.Change.{Sum}
use Rattle.drive_journal.specs.Cut.{front_of}
use Rattle.drive_journal.specs.File.{IsDriveFile, IsStoredWhole}
use Rattle.drive_journal.proofs.MeaningLaws.{opened-stored}
use Rattle.drive_journal.proofs.RestLaws.{rest-rest}
use Rattle.job_drives.specs.Kept.{HoldsFile, IsRestarted}
use Rattle.job_drives.specs.Left.{IsLeft, LeavesFile, StartsStored}
use Rattle.job_drives.specs.declared.kept_drive.Begun.{Begun}
use Rattle.job_drives.specs.declared.left.Left.{Left}
use Rattle.zone_drive.specs.declared.habit.Habit.{Habit}

-- a store that holds a file, and is cut to what is whole of it, stores the drive that was read, restarted
cut-stored : (held file : Option (List ℕ)) (opened : DriveState) (whole : ℕ) (sum : Sum) → HoldsFile held file → IfSome file (λ bytes. IsDriveFile bytes opened whole sum)
    → IfSome (front_of whole held) (λ bytes. IsStoredWhole bytes (restarted opened) sum)
cut-stored None file opened whole sum same read = tt
cut-stored (Some held) file opened whole sum same read =
    let whole_read : IsDriveFile held opened whole sum = rw same at read in
    let whole_stored = opened-stored held opened whole sum whole_read in
    let stored = whole_stored.stored in
    record {
      stored = record { parts = stored.parts; has = stored.has; geometry = stored.geometry; zones = rest-rest opened.zones ∙ stored.zones };
      none = whole_stored.none;
      sum_is = whole_stored.sum_is;
    }

-- so does the store of a file whose drive was restarted
pub restarted-stored : (held file : Option (List ℕ)) (habit : Habit) (begun : Begun) → HoldsFile held file → IsRestarted file habit begun
    → IfSome (front_of begun.whole held) (λ bytes. IsStoredWhole bytes begun.drive.state begun.sum)
restarted-stored held file habit begun same begins = rw begins.drive_is (cut-stored held file begins.opened begun.whole begun.sum same begins.is_file)

-- what a job does to a drive with which it begins is done to the drive in the file
pub left-file : (Does : DriveState → DriveState → Type 0) (file : Option (List ℕ)) (habit : Habit) (old drive : DriveState) (was_image : Bool) (left : Left) (held : Option (List ℕ)) (failed : Bool)
    → StartsStored file habit old was_image → Does old drive → left.was_image ≡ was_image → IsLeft drive left held failed → LeavesFile Does file habit left held failed
left-file Does file habit old drive was_image left held failed starts does image leaves = record {
  first = starts.first;
  begins = starts.begins;
  was_image = image ∙ starts.image_is;
  drive = drive;
  does = subst (λ (d : DriveState). Does d drive) starts.drive_is does;
  leaves = leaves;
}
