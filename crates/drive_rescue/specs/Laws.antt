-- What a rescue gives of a drive that can be mounted.
use Rattle.std.specs.Prelude.{◌≡◌, ℕ, List, [], Option}
use Rattle.std.specs.Io.KnownBytes.{Appends}
use Rattle.std.specs.List.{concat}
use Rattle.drive_port.specs.Drive.{DriveState}
use Rattle.drive_array.specs.Mountable.{IsMountable}
use Rattle.drive_array.specs.Sizes.{encoded_size}
use Rattle.drive_array.specs.ZoneLogs.{drive_logs, encoded}
use Rattle.drive_rescue.specs.declared.giving.Rescued.{Rescued}
use Rattle.drive_rescue.specs.Ranges.{blocks_in}
use Rattle.drive_rescue.specs.Rescue.{Rescues, SourceView}
use Rattle.drive_rescue.specs.Zones.{IsUndamaged}

-- Exactly the disk is given, nothing of it is lost, and nothing may be older.
pub record GivesDisk (drive : DriveState) (n : ℕ) (written contents : Option (List ℕ)) (rescued : Rescued) : Type 0 where
  pub blocks : rescued.blocks ≡ encoded_size n (drive_logs drive)
  pub appends : Appends written contents (concat (encoded drive n))
  pub lost : blocks_in rescued.lost.items ≡ []
  pub older : blocks_in rescued.older.items ≡ []

-- So it is of a drive that can be mounted, if each block of it can be read.
abbrev pub MountableIsGiven : Type 0
MountableIsGiven =
    (source : SourceView) (n : ℕ) (written contents : Option (List ℕ)) (rescued : Rescued) → IsUndamaged source.damaged
    → IsMountable source.drive n → Rescues source n written contents rescued → GivesDisk source.drive n written contents rescued
