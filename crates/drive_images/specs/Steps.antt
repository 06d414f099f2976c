-- What reading one part of an image does to the bytes that a reader has left, where those are known.
use Rattle.std.specs.Prelude.{◌≡◌, ℕ, ◌++◌, false, List, length, Option}
use Rattle.std.specs.Io.KnownBytes.{Consumes}
use Rattle.std.specs.List.{AllByRecursion}
use Rattle.zone_states.specs.Stored.{AreWholeBlocks, StoredZone, zone_stored}
use Rattle.zone_states.specs.Zone.{IsLawfulZone}
use Rattle.zone_states.specs.declared.geometry.Geometry.{Geometry}
use Rattle.zone_states.specs.Geometry.{IsInRange}
use Rattle.zone_drive.specs.Stored.{AreZones, zones_of}
use Rattle.drive_images.specs.Image.{MayBegin, image_bytes, zone_bytes, zones_bytes}
use Rattle.drive_images.specs.Reading.{counts_with, is_over_limit}
use Rattle.drive_images.specs.declared.counts.ZoneCounts.{ZoneCounts}

-- that many bytes are read to the end of others
pub record ReadsMore (old new : Option (List ℕ)) (before after : List ℕ) (count : ℕ) : Type 0 where
  pub bytes : List ℕ
  pub count_is : length bytes ≡ count
  pub after_is : after ≡ before ++ bytes
  pub text : Consumes old new bytes

-- a zone is read, which a drive may have after zones of these counts
pub record ReadsStoredZone (geometry : Geometry) (old new : Option (List ℕ)) (before : ZoneCounts) (zone : StoredZone) (after : ZoneCounts) : Type 0 where
  pub text : Consumes old new (zone_bytes (zone_stored geometry.block zone))
  pub whole : AreWholeBlocks geometry.block zone.bytes
  pub lawful : IsLawfulZone geometry (zone_stored geometry.block zone)
  pub counts : after ≡ counts_with before zone.state
  pub within : is_over_limit geometry after ≡ false

-- zones are read with which a drive may begin
pub record ReadsStoredZones (geometry : Geometry) (old new : Option (List ℕ)) (zones : List StoredZone) : Type 0 where
  pub text : Consumes old new (zones_bytes (zones_of geometry.block zones))
  pub whole : AllByRecursion (λ zone. AreWholeBlocks geometry.block zone.bytes) zones
  pub begins : MayBegin geometry (zones_of geometry.block zones)

-- the image of a drive with these zones is read
pub record ReadsImage (geometry : Geometry) (old new : Option (List ℕ)) (zones : List StoredZone) : Type 0 where
  pub text : Consumes old new (image_bytes geometry (zones_of geometry.block zones))
  pub in_range : IsInRange geometry
  pub are_zones : AreZones geometry zones
