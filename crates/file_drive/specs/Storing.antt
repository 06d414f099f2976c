-- A drive in memory that is stored in a file.
use Rattle.std.specs.Prelude.{◌≡◌, ◌≢◌, ℕ, ◌/◌, false, List, length, map}
use Rattle.zone_states.specs.declared.geometry.Geometry.{Geometry}
use Rattle.zone_states.specs.Stored.{StoredZone}
use Rattle.drive_port.specs.Drive.{DriveState}
use Rattle.drive_port.specs.Run.{restarted}
use Rattle.zone_drive.specs.Stored.{zones_of}
use Rattle.file_bytes.specs.Changes.{SameBeside}
use Rattle.file_drive.specs.Finds.{Finds}
use Rattle.file_drive.specs.Head.{magic, shape_words}
use Rattle.file_drive.specs.Layout.{word_in}
use Rattle.file_drive.specs.Tables.{words_in}
use Rattle.file_drive.specs.declared.boot.Boot.{Boot}
use Rattle.file_drive.specs.declared.entry.Entry.{Entry}

-- what a table says of a zone that is stored: it is in its first place
abbrev pub stored_entry : Geometry → StoredZone → Entry
stored_entry geometry zone = record { state = zone.state; written = length zone.bytes / geometry.block; second = false; sum = 0 }

abbrev pub stored_entries : Geometry → List StoredZone → List Entry
stored_entries geometry zones = map (stored_entry geometry) zones

-- Only the head changed, and it says this shape of a drive.
pub record HasHead (geometry : Geometry) (old new : List ℕ) : Type 0 where
  pub beside : SameBeside 0 64 old new
  pub words : words_in new 0 8 ≡ shape_words geometry

-- nothing that may be left begins as a drive in a file does
abbrev pub AreUnnamed : (List ℕ → Type 0) → Type 0
AreUnnamed may_be_left = (bytes : List ℕ) → may_be_left bytes → word_in bytes 0 ≢ magic

-- All that may be left, and begins as a drive in a file does, is the whole drive: each system finds these zones.
abbrev pub AreWhole : Geometry → List StoredZone → (List ℕ → Type 0) → Type 0
AreWhole geometry zones may_be_left =
    (bytes : List ℕ) → may_be_left bytes → word_in bytes 0 ≡ magic → (boot : Boot) → Finds geometry boot bytes zones

-- Each system finds the zones of a drive, as a restart leaves them.
pub record HoldsDrive (drive : DriveState) (file : List ℕ) : Type 0 where
  pub zones : List StoredZone
  pub are : zones_of drive.geometry.block zones ≡ (restarted drive).zones
  pub finds : (boot : Boot) → Finds drive.geometry boot file zones
