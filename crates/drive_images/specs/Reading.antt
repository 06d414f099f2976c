-- What is wrong with bytes that are no image: the first fault, from the first byte on.
use Rattle.std.specs.Prelude.{◌≡◌, ◌⊎◌, ℕ, ◌+◌, ◌*◌, ◌<◌, ◌≤◌, nat_lt, nat_eq, Bool, not, ◌||◌, if◌then◌else◌, List, [], ◌∷◌}
use Rattle.std.specs.Prelude.{◌++◌, length, take, drop, slice_index, Option, Some, None, is_some, Result, Ok, Err, ⊤}
use Rattle.std.specs.List.{starts_with}
use Rattle.byteorder.specs.Endian.{little_from}
use Rattle.nvme_wire.specs.Descriptor.{state_of}
use Rattle.nvme_wire.specs.declared.zone_state.ZoneState.{ZoneState}
use Rattle.zone_states.specs.Checks.{first_failing}
use Rattle.zone_states.specs.Geometry.{IsInRange, geometry_checks}
use Rattle.zone_states.specs.Transition.{is_active, is_open}
use Rattle.zone_states.specs.Zone.{Zone}
use Rattle.zone_states.specs.declared.geometry.Geometry.{Geometry}
use Rattle.drive_port.specs.Drive.{active_count, open_count}
use Rattle.drive_port.specs.Step.{one_if}
use Rattle.zone_drive.specs.Stored.{may_hold}
use Rattle.drive_images.specs.Image.{head_bytes, image_magic, MayBegin, zone_head_bytes, zones_bytes}
use Rattle.drive_images.specs.declared.counts.ZoneCounts.{ZoneCounts}
use Rattle.drive_images.specs.declared.fault.ImageFault.{ImageFault}
use Rattle.drive_images.specs.declared.fault.ImageFault.TheVariants as faults
use Rattle.drive_images.specs.declared.zone_head.ZoneHead.{ZoneHead}

unfoldable pub begins_with : List ℕ → List ℕ → Bool
begins_with bytes front = starts_with nat_eq bytes front

-- ---- the head

-- the geometry that a head tells
unfoldable pub geometry_in : List ℕ → Geometry
geometry_in head = record {
  block = little_from 8 4 head;
  zones = little_from 12 4 head;
  size = little_from 16 4 head;
  capacity = little_from 20 4 head;
  transfer = little_from 24 4 head;
  active = little_from 28 4 head;
  «open» = little_from 32 4 head;
}

-- whether a part of it is out of range
unfoldable pub is_out_of_range : Geometry → Bool
is_out_of_range geometry = is_some (first_failing (geometry_checks geometry))

-- Once the magic and the geometry are right, only the zeros after them can differ from the head of that geometry.
abbrev pub head_checks : List ℕ → List (Bool × ImageFault)
head_checks head =
    (not (begins_with head image_magic), faults.Magic)
    ∷ (is_out_of_range (geometry_in head), faults.Geometry)
    ∷ (not (begins_with head (head_bytes (geometry_in head))), faults.RestNotZero)
    ∷ []

abbrev pub head_fault : List ℕ → Option ImageFault
head_fault bytes = if nat_lt (length bytes) 64 then Some faults.Short else first_failing (head_checks (take 64 bytes))

-- ---- the zones

-- how many of these zones are active, and open
abbrev pub counts_of : List Zone → ZoneCounts
counts_of zones = record { active_zones = active_count zones; open_zones = open_count zones }

-- these counts, and one zone more
abbrev pub counts_with : ZoneCounts → ZoneState → ZoneCounts
counts_with counts state = record { active_zones = counts.active_zones + one_if (is_active state); open_zones = counts.open_zones + one_if (is_open state) }

abbrev pub is_over_limit : Geometry → ZoneCounts → Bool
is_over_limit geometry counts = nat_lt geometry.active counts.active_zones || nat_lt geometry.open counts.open_zones

-- what the head of a zone tells, whose first byte tells a state, or none
abbrev pub head_in_state : List ℕ → Option ZoneState → Result ZoneHead ImageFault
head_in_state head None = Err faults.State
head_in_state head (Some state) =
    let written = little_from 4 4 head in
    if begins_with head (zone_head_bytes state written) then Ok (record { state = state; written = written }) else Err faults.RestNotZero

unfoldable pub told_head : List ℕ → Result ZoneHead ImageFault
told_head head = head_in_state head (state_of (slice_index head 0))

-- The checks of a zone with this head, after zones of these counts, and with that many bytes left.
abbrev pub zone_checks : Geometry → ZoneCounts → ℕ → ZoneHead → List (Bool × ImageFault)
zone_checks geometry counts left head =
    (not (may_hold head.state geometry.capacity head.written), faults.Written)
    ∷ (is_over_limit geometry (counts_with counts head.state), faults.Limits)
    ∷ (nat_lt left (head.written * geometry.block), faults.Short)
    ∷ []

abbrev pub fault_with : Geometry → ZoneCounts → ℕ → Result ZoneHead ImageFault → Option ImageFault
fault_with geometry counts left (Ok head) = first_failing (zone_checks geometry counts left head)
fault_with geometry counts left (Err fault) = Some fault

abbrev pub zone_fault : Geometry → ZoneCounts → List ℕ → Option ImageFault
zone_fault geometry counts bytes =
    if nat_lt (length bytes) 8 then Some faults.Short
    else fault_with geometry counts (length (drop 8 bytes)) (told_head (take 8 bytes))

-- bytes after the last zone are too many
abbrev pub end_fault : List ℕ → Option ImageFault
end_fault [] = None
end_fault (byte ∷ bytes) = Some faults.Long

-- what is wrong with the bytes after these zones, whether one more follows or they are all
abbrev pub fault_after : Geometry → List Zone → List ℕ → Option ImageFault
fault_after geometry before bytes = if nat_lt (length before) geometry.zones then zone_fault geometry (counts_of before) bytes else end_fault bytes

-- ---- what is told

-- The first fault is told. Before it is met the reader may fail, or memory run out.
abbrev pub TellsFirst : Option ImageFault → ImageFault → Type 0
TellsFirst first faults.Input = ⊤
TellsFirst first faults.OutOfMemory = ⊤
TellsFirst first fault = first ≡ Some fault

-- that many bytes are wanted, and there are fewer
abbrev pub short_of : ℕ → List ℕ → Option ImageFault
short_of count bytes = if nat_lt (length bytes) count then Some faults.Short else None

-- Bytes after a head that begin with some zones of a drive, and then have a fault.
pub record FailsInZones (geometry : Geometry) (bytes : List ℕ) (fault : ImageFault) : Type 0 where
  pub before : List Zone
  pub rest : List ℕ
  pub text : bytes ≡ zones_bytes before ++ rest
  pub zones : MayBegin geometry before
  pub count : length before ≤ geometry.zones
  pub told : TellsFirst (fault_after geometry before rest) fault

-- Bytes that begin with a head, and then have a fault.
pub record FailsAfterHead (bytes : List ℕ) (fault : ImageFault) : Type 0 where
  pub geometry : Geometry
  pub rest : List ℕ
  pub text : bytes ≡ head_bytes geometry ++ rest
  pub in_range : IsInRange geometry
  pub fails : FailsInZones geometry rest fault

abbrev pub IsImageFault : List ℕ → ImageFault → Type 0
IsImageFault bytes fault = TellsFirst (head_fault bytes) fault ⊎ FailsAfterHead bytes fault

-- ---- bytes that do not begin with an image

-- Bytes after a head that begin with some zones of a drive, and have a fault in the next one.
pub record FailsInZone (geometry : Geometry) (bytes : List ℕ) (fault : ImageFault) : Type 0 where
  pub before : List Zone
  pub rest : List ℕ
  pub text : bytes ≡ zones_bytes before ++ rest
  pub zones : MayBegin geometry before
  pub count : length before < geometry.zones
  pub told : TellsFirst (zone_fault geometry (counts_of before) rest) fault

-- Bytes that begin with a head, and have a fault before its last zone ends.
pub record FailsInFront (bytes : List ℕ) (fault : ImageFault) : Type 0 where
  pub geometry : Geometry
  pub rest : List ℕ
  pub text : bytes ≡ head_bytes geometry ++ rest
  pub in_range : IsInRange geometry
  pub fails : FailsInZone geometry rest fault

-- what is wrong with bytes that do not begin with an image, whatever may follow
abbrev pub IsFrontFault : List ℕ → ImageFault → Type 0
IsFrontFault bytes fault = TellsFirst (head_fault bytes) fault ⊎ FailsInFront bytes fault
