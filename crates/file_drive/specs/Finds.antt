-- What a system finds that opens a file.
use Rattle.std.specs.Prelude.{◌≡◌, ℕ, List, [], replicate}
use Rattle.nvme_wire.specs.declared.zone_state.ZoneState.TheVariants.{Empty}
use Rattle.zone_states.specs.declared.geometry.Geometry.{Geometry}
use Rattle.zone_states.specs.Stored.{StoredZone}
use Rattle.file_drive.specs.Faults.{IsOpenFault, IsReadFault}
use Rattle.file_drive.specs.Head.{shape_words}
use Rattle.file_drive.specs.Opening.{opened_zones}
use Rattle.file_drive.specs.Tables.{words_in}
use Rattle.file_drive.specs.declared.boot.Boot.{Boot}
use Rattle.file_drive.specs.declared.fault.OpenFault.{OpenFault}

-- A system in this boot opens the file, unless a read or a sync fails or memory is missing, and finds these zones of a drive of this shape.
pub record Finds (geometry : Geometry) (boot : Boot) (file : List ℕ) (zones : List StoredZone) : Type 0 where
  pub opens : (fault : OpenFault) → IsOpenFault file fault → IsReadFault fault
  pub shape : words_in file 0 8 ≡ shape_words geometry
  pub zones_are : opened_zones geometry boot file ≡ zones

-- the zones of a drive on which nothing was ever written
abbrev pub empty_zones : Geometry → List StoredZone
empty_zones geometry = replicate geometry.zones (record { state = Empty; bytes = [] })
