-- What a mount finds of torn zones.
use Rattle.std.specs.Prelude.{◌≡◌, ℕ, ◌<◌, ◌≤◌, ◌==◌, ◌&&◌, not, Bool, true, false, List, length, slice_get, Option, Some, None, count_by}
use Rattle.zone_states.specs.declared.geometry.Geometry.{Geometry}
use Rattle.drive_port.specs.Drive.{DriveState}
use Rattle.batch_log.specs.Log.{Batch}
use Rattle.logical_map.specs.Live.{lies_in}
use Rattle.logical_map.specs.declared.place.Place.{Place}
use Rattle.logical_map.specs.declared.place.Place.TheVariants as places
use Rattle.drive_survey.specs.declared.scan.ScannedZone.{ScannedZone}
use Rattle.drive_survey.specs.declared.survey.Survey.{Survey}
use Rattle.drive_survey.specs.Known.{Knows}

-- some drive with this geometry was surveyed, and these of its logs
pub record WasSurveyed (geometry : Geometry) (n : ℕ) (survey : Survey) : Type 0 where
  pub drive : DriveState
  pub logs : List (List Batch)
  pub geometry_is : drive.geometry ≡ geometry
  pub knows : Knows drive n logs survey

-- a zone has a batch, and a torn tail
abbrev pub is_torn_zone : ScannedZone → Bool
is_torn_zone zone = zone.is_torn && not (zone.heads.blocks == 0)

abbrev pub is_torn : Option ScannedZone → Bool
is_torn None = false
is_torn (Some zone) = is_torn_zone zone

abbrev pub is_torn_in : List ScannedZone → ℕ → Bool
is_torn_in scanned zone = is_torn (slice_get scanned zone)

-- the lowest torn zone from one on
pub record IsNextTorn (scanned : List ScannedZone) (from zone : ℕ) : Type 0 where
  pub after : from ≤ zone
  pub in_range : zone < length scanned
  pub torn : is_torn_in scanned zone ≡ true
  pub lowest : (other : ℕ) → from ≤ other → other < zone → is_torn_in scanned other ≡ false

-- whether a record there has data
abbrev pub is_data_place : Place → Bool
is_data_place places.None = false
is_data_place (places.Trimmed address) = false
is_data_place (places.At address) = true

-- how many data blocks it has
abbrev pub data_count_at : Place → ℕ
data_count_at places.None = 0
data_count_at (places.Trimmed address) = 0
data_count_at (places.At address) = 1

-- how many of these places are in a zone, and have data
abbrev pub data_in : ℕ → ℕ → List Place → ℕ
data_in zone_size zone all = count_by (λ place. lies_in zone_size zone place && is_data_place place) all
