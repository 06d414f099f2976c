-- A repair of the drive in a file keeps the batches of the drive that was opened.
use Rattle.std.proofs.Common.{◌≡◌, ap, refl, subst, Bool, Result, Ok, Err, ◌∙◌}
use Rattle.std.specs.Prelude.{IfOk}
use Rattle.std.proofs.lemmas.List.{length-map}
use Rattle.drive_port.specs.Drive.{DriveState}
use Rattle.drive_port.specs.Run.{restarted, restarted_zone}
use Rattle.drive_port.proofs.ClosingLaws.{contents-restarted}
use Rattle.job_drives.specs.Kept.{IsReadIn, IsRestarted}
use Rattle.job_drives.specs.Left.{IsLeft, StartsStored}
use Rattle.job_drives.specs.declared.kept_drive.Begun.{Begun}
use Rattle.job_drives.specs.declared.left.Left.{Left}
use Rattle.tail_repair.specs.Repair.{KeepsBatches}
use Rattle.tail_repair.proofs.KeepLaws.{keeps-same, keeps-then}
use Rattle.tool_jobs.specs.Asked.{any_text}
use Rattle.tool_jobs.specs.Telling.{Bytes, TellsFound}
use Rattle.zone_drive.specs.Habits.{MemoryDrive}
use Rattle.zone_drive.specs.declared.habit.Habit.{Habit}
use Rattle.repair_jobs.specs.Jobs.{AreTailsOf, KeepsFile, TailsInFile}
use Rattle.repair_jobs.specs.declared.fault.RepairJobFault.{RepairJobFault}

-- a restart changes no batch
pub opened-keeps : (opened new : DriveState) → KeepsBatches (restarted opened) new → KeepsBatches opened new
opened-keeps opened new keeps =
    keeps-then opened (restarted opened) new (keeps-same opened (restarted opened) refl (contents-restarted opened.zones) (length-map opened.zones restarted_zone)) keeps

module _ (file : Bytes) (habit : Habit) (begun : Begun) (begins : IsRestarted file habit begun) where
  pub read-in : IsReadIn file begins.opened
  read-in = record { whole = begun.whole; sum = begun.sum; is_file = begins.is_file }

  pub begun-is : begun.drive.state ≡ restarted begins.opened
  begun-is = ap (λ (drive : MemoryDrive). drive.state) begins.drive_is

-- the zones that are told of the restarted drive are those of the file
pub tails-told : (file : Bytes) (habit : Habit) (begun : Begun) → IsRestarted file habit begun → (old new : Bytes) (told : Result Bool RepairJobFault)
    → IfOk told (λ none. TellsFound (AreTailsOf begun.drive.state none) any_text old new) → IfOk told (λ none. TellsFound (TailsInFile file none) any_text old new)
tails-told file habit begun begins old new (Err fault) tells = tt
tails-told file habit begun begins old new (Ok none) tells = record {
  found = tells.found;
  is_it = record {
    saved = begins.opened;
    is_read = read-in file habit begun begins;
    are = subst (λ (drive : DriveState). AreTailsOf drive none tells.found) (begun-is file habit begun begins) tells.is_it;
  };
  tells = tells.tells;
}

-- what is left of the drive in a file keeps its batches
pub keeps-file : (file : Bytes) (habit : Habit) (old drive : DriveState) (was_image : Bool) (left : Left) (held : Bytes) (failed : Bool)
    → StartsStored file habit old was_image → KeepsBatches old drive → IsLeft drive left held failed → KeepsFile file left held failed
keeps-file file habit old drive was_image left held failed starts keeps leaves = record {
  opened = starts.begins.opened;
  is_read = read-in file habit starts.first starts.begins;
  drive = drive;
  keeps = opened-keeps starts.begins.opened drive
      (subst (λ (d : DriveState). KeepsBatches d drive) (starts.drive_is ∙ begun-is file habit starts.first starts.begins) keeps);
  leaves = leaves;
}
