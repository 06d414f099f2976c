-- A file that was opened: it is ready to be served.
use Rattle.std.specs.Prelude.{◌≡◌, ℕ, Bool, List, [], ◌∷◌, length, IsTrue}
use Rattle.zone_states.specs.Geometry.{IsInRange}
use Rattle.zone_drive.specs.Stored.{AreZones}
use Rattle.file_drive.specs.InFile.{AreApart, AreWithin, AreWords, FiledZones, IsServed, KeepsPromise, promised_zones}
use Rattle.file_drive.specs.Tables.{flushed_zones, zones_in}
use Rattle.file_drive.specs.declared.boot.Boot.{Boot}
use Rattle.file_drive.specs.declared.found.Found.{Found}

-- The file shows the zones that were found, as of this boot, and whatever a loss of power leaves has the last flush.
pub record IsOpened {F : Type 0} (seen : F → List ℕ) (may_leave : F → List ℕ → Type 0) (is_usable : F → Bool) (boot : Boot) (file : F) (found : Found) : Type 0 where
  pub in_range : IsInRange found.head.geometry
  pub count : length found.entries.items ≡ found.head.geometry.zones
  pub within : AreWithin found.head.geometry found.entries.items
  pub served : IsServed found.head.geometry boot (seen file) found.entries.items found.tables.live found.tables.flushed
      (record { spare = found.tables.spare.items; safe = found.tables.safe.items; other = found.tables.other.items })
  pub safe : AreWords found.head.geometry found.tables.safe.items
  pub apart : AreApart found.tables.safe.items found.entries.items
  pub usable : IsTrue (is_usable file)
  pub promise : KeepsPromise seen may_leave found.head.geometry file found.tables.flushed found.tables.safe.items
  pub zones : AreZones found.head.geometry (zones_in found.head.geometry (seen file) 0 found.entries.items)
  pub left : (bytes : List ℕ) → may_leave file bytes → AreZones found.head.geometry (flushed_zones found.head.geometry bytes)

-- The zones of such a file, when no command was done yet. After a loss of power just those of the last flush are found.
abbrev pub served_zones : {F : Type 0} → (F → List ℕ) → F → Found → FiledZones F
served_zones seen file found = record {
  shape = found.head.geometry;
  file = file;
  entries = found.entries.items;
  safe = found.tables.safe.items;
  durable = promised_zones found.head.geometry (seen file) found.tables.safe.items ∷ [];
}
