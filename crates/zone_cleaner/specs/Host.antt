-- What a batch of the host leaves, of a drive that is cleaned in turns.
use Rattle.std.specs.Prelude.{◌≡◌, ℕ, ◌≤◌, IsFalse, Option, Result, Ok, Err}
use Rattle.std.specs.Option.{option_map}
use Rattle.drive_port.specs.declared.device.Halt.{Halt}
use Rattle.drive_port.specs.declared.device.Halt.TheVariants as halt
use Rattle.batch_log.specs.Log.{Batch}
use Rattle.zone_choice.specs.Agreement.{MountedView}
use Rattle.zone_choice.specs.Changes.{KeepsArray, Places, StopsInside}
use Rattle.drive_array.specs.Mountable.{IsMountable}
use Rattle.drive_array.specs.Reserve.{batch_most}
use Rattle.zone_cleaner.specs.Clean.{CleanView, forgotten, turns_left}
use Rattle.zone_cleaner.specs.Start.{AgreesWithClean}
use Rattle.zone_cleaner.specs.Turns.{MayClose}

-- a clean that runs continues, and as many turns are left of it as before, or fewer
pub record GoesOnBeside (before : MountedView) (old : Option CleanView) (after : MountedView) (new : Option CleanView) : Type 0 where
  pub cleaned : AgreesWithClean after new
  pub turns : turns_left (batch_most before.drive.geometry) after.tables new ≤ turns_left (batch_most before.drive.geometry) before.tables old

-- What the Append of a batch leaves, by its answer: once it is done, the clean has forgotten the blocks that it names.
-- Out of memory, or where the command failed, the array is the same; and after a stop the drive can be mounted.
abbrev pub HostLeaves : MountedView → Option CleanView → ℕ → Batch → Result (Unit {0}) Halt → MountedView → Option CleanView → Type 0
HostLeaves before old zone batch (Ok done) after new =
    Places before after zone batch × (new ≡ option_map (forgotten batch.heading.entries) old) × GoesOnBeside before old after new
HostLeaves before old zone batch (Err halt.Memory) after new =
    KeepsArray before after × (new ≡ old) × GoesOnBeside before old after new × MayClose before after.tables
HostLeaves before old zone batch (Err halt.Failed) after new =
    KeepsArray before after × (new ≡ old) × GoesOnBeside before old after new × MayClose before after.tables × IsFalse after.drive.unfailing
HostLeaves before old zone batch (Err halt.Stopped) after new = StopsInside before after zone batch × (new ≡ old) × IsMountable after.drive after.tables.given
