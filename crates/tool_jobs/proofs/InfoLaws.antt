-- What the drive in a file holds.
use Rattle.std.proofs.Common.{◌≡◌, ℕ, subst}
use Rattle.zone_states.specs.declared.geometry.Geometry.{Geometry}
use Rattle.zone_states.specs.Geometry.{IsInRange}
use Rattle.zone_drive.specs.Habits.{MemoryDrive}
use Rattle.zone_drive.specs.declared.habit.Habit.{Habit}
use Rattle.drive_array.specs.Reserve.{most_size}
use Rattle.drive_inspection.specs.Info.{IsInspected}
use Rattle.drive_inspection.specs.declared.info.InspectedDrive.{InspectedDrive}
use Rattle.job_drives.specs.Kept.{IsRestarted}
use Rattle.job_drives.specs.declared.kept_drive.Begun.{Begun}
use Rattle.tool_jobs.specs.Telling.{Bytes}
use Rattle.tool_jobs.specs.Infos.{FindsInfo}

-- it is that of the restarted drive
pub info-found : (file : Bytes) (habit : Habit) (begun : Begun) → IsRestarted file habit begun → (blocks : ℕ) (geometry : Geometry) (found : InspectedDrive) → geometry ≡ begun.drive.state.geometry
    → (IsInRange geometry → blocks ≡ most_size geometry) → IsInspected begun.drive.state blocks found → FindsInfo file found
info-found file habit begun begins blocks geometry found same most is = record {
  saved = begins.opened;
  is_read = record { whole = begun.whole; sum = begun.sum; is_file = begins.is_file };
  blocks = blocks;
  most = subst (λ (drive : MemoryDrive). IsInRange drive.state.geometry → blocks ≡ most_size drive.state.geometry) begins.drive_is (subst (λ (g : Geometry). IsInRange g → blocks ≡ most_size g) same most);
  inspected = subst (λ (drive : MemoryDrive). IsInspected drive.state blocks found) begins.drive_is is;
}
