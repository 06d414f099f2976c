-- The drives that a source shows.
use Rattle.std.specs.Prelude.{ℕ, ◌==◌, ◌&&◌, ◌||◌, not, Bool, true, false, List}
use Rattle.std.specs.List.{list_any}
use Rattle.drive_port.specs.Drive.{DriveState}
use Rattle.drive_rescue.specs.declared.with_damage.DamagedBlock.{DamagedBlock}
use Rattle.drive_rescue.specs.Rescue.{SourceView}

-- each block of it can be read
abbrev pub undamaged : DriveState → SourceView
undamaged drive = record { drive = drive; damaged = λ (number offset : ℕ). false }

-- each block of it can be read, as long as no command of it failed
abbrev pub damaged_once_failed : DriveState → SourceView
damaged_once_failed drive = record { drive = drive; damaged = λ (number offset : ℕ). not drive.unfailing }

-- any block of it may be unreadable
abbrev pub damaged_anywhere : DriveState → SourceView
damaged_anywhere drive = record { drive = drive; damaged = λ (number offset : ℕ). true }

-- this block of a zone
abbrev pub is_block : ℕ → ℕ → DamagedBlock → Bool
is_block number offset block = block.zone == number && block.offset == offset

-- of another source these blocks may be unreadable, too
abbrev pub with_damage : SourceView → List DamagedBlock → SourceView
with_damage source blocks = record {
  drive = source.drive;
  damaged = λ (number offset : ℕ). list_any (is_block number offset) blocks || source.damaged number offset;
}
