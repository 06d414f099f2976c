-- What a file holds: the image of a drive, and after it the changes made since.
use Rattle.std.specs.Prelude.{◌≡◌, ℕ, ◌+◌, List, [], ◌∷◌, ◌++◌, length}
use Rattle.std.specs.List.{AllByRecursion}
use Rattle.zone_states.specs.Zone.{Zone}
use Rattle.zone_states.specs.declared.geometry.Geometry.{Geometry}
use Rattle.drive_port.specs.Drive.{DriveState}
use Rattle.zone_drive.specs.Stored.{unused}
use Rattle.drive_images.specs.Image.{IsImage}
use Rattle.drive_journal.specs.Change.{Change, IsChange, Sum, journal_bytes, last_sum, start}
use Rattle.drive_journal.specs.Replay.{at_rest, replayed}
use Rattle.drive_journal.specs.Tail.{IsCutOff}

-- the image, the drive in it, the changes since, and a change that was cut off, or nothing
pub record Parts : Type 0 where
  pub image : List ℕ
  pub saved : DriveState
  pub changes : List Change
  pub cut : List ℕ

-- the sum after the changes
abbrev pub whole_sum : Parts → Sum
whole_sum parts = last_sum start parts.changes

pub record HasParts (bytes : List ℕ) (parts : Parts) : Type 0 where
  pub text : bytes ≡ parts.image ++ (journal_bytes start parts.changes ++ parts.cut)
  pub is_image : IsImage parts.image parts.saved
  pub each : AllByRecursion (IsChange parts.saved.geometry) parts.changes
  pub cut_off : IsCutOff parts.saved.geometry (whole_sum parts) parts.cut

-- how many bytes are not cut off
abbrev pub whole_length : Parts → ℕ
whole_length parts = length parts.image + length (journal_bytes start parts.changes)

-- the zones that the changes make of the saved ones
abbrev pub remade : Parts → List Zone
remade parts = replayed parts.saved.geometry parts.saved.zones parts.changes

-- ---- reading a file

-- the zones that are read: the image's, where there is no change; else the remade ones, none of them open
abbrev pub zones_read : Geometry → List Zone → List Change → List Zone
zones_read geometry zones [] = zones
zones_read geometry zones (change ∷ changes) = at_rest (replayed geometry zones (change ∷ changes))

abbrev pub drive_read : Parts → DriveState
drive_read parts = unused parts.saved.geometry (zones_read parts.saved.geometry parts.saved.zones parts.changes)

-- The bytes of a file in which this drive is read, that many of them are whole, and these end with this sum.
pub record IsDriveFile (bytes : List ℕ) (drive : DriveState) (whole : ℕ) (sum : Sum) : Type 0 where
  pub parts : Parts
  pub has : HasParts bytes parts
  pub drive_is : drive ≡ drive_read parts
  pub whole_is : whole ≡ whole_length parts
  pub sum_is : sum ≡ whole_sum parts

-- ---- a file that stores a drive

-- These bytes store this drive: the changes make its zones of those in the image, up to which of them are open, and a
-- restart closes these.
pub record IsStored (bytes : List ℕ) (drive : DriveState) : Type 0 where
  pub parts : Parts
  pub has : HasParts bytes parts
  pub geometry : drive.geometry ≡ parts.saved.geometry
  pub zones : at_rest drive.zones ≡ at_rest (remade parts)

-- and no change in them is cut off, and they end with this sum: a change that goes on from it may follow
pub record IsStoredWhole (bytes : List ℕ) (drive : DriveState) (sum : Sum) : Type 0 where
  pub stored : IsStored bytes drive
  pub none : stored.parts.cut ≡ []
  pub sum_is : sum ≡ whole_sum stored.parts
