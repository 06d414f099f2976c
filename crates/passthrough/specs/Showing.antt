-- What reports show of the zones that were seen.
use Rattle.std.specs.Prelude.{◌≡◌, ◌⊎◌, ℕ, ◌+◌, ◌*◌, ◌<◌, ◌≤◌, true, false, List, [], length, replicate, unwrap_or}
use Rattle.std.specs.Prelude.{Option, Some, None}
use Rattle.nvme_wire.specs.Descriptor.{state_code, state_of}
use Rattle.nvme_wire.specs.declared.zone_state.ZoneState.{ZoneState}
use Rattle.zone_states.specs.declared.geometry.Geometry.{Geometry}
use Rattle.zone_states.specs.Zone.{Zone}
use Rattle.zone_report.specs.declared.status.ZoneStatus.{ZoneStatus}
use Rattle.zone_report.specs.Report.{descriptor_of, pointer_of, zone_status}
use Rattle.drive_port.specs.Drive.{ClosesOne, IsClosing}
use Rattle.drive_port.specs.Step.{zone_at}
use Rattle.passthrough.specs.Premise.{capacity_in, descriptor_in, pointer_in, start_in, state_in, type_in}
use Rattle.passthrough.specs.Seen.{IsState, has_pointer, is_due, seen_at}
use Rattle.passthrough.specs.declared.seen_zone.SeenZone.{SeenZone}

-- a descriptor shows this state of a zone that was seen, and its pointer
pub record IsShown (geometry : Geometry) (number : ℕ) (seen : SeenZone) (bytes : List ℕ)
    (state : ZoneState) : Type 0 where
  pub sequential : type_in bytes ≡ 2
  pub code : state_in bytes ≡ state_code state
  pub capacity : capacity_in bytes ≡ geometry.capacity
  pub start : start_in bytes ≡ number * geometry.size
  pub same : IsState seen.state state
  pub pointer : (next : ℕ) → pointer_of state (number * geometry.size + unwrap_or seen.written 0) ≡ Some next
      → pointer_in bytes ≡ next

-- the first descriptors of a report show the zones that were seen, from a first one on
abbrev pub AreShown : Geometry → ℕ → List SeenZone → List ℕ → ℕ → Type 0
AreShown geometry first seen report count =
    (i : ℕ) → i < count
    → (state : ZoneState) × IsShown geometry (first + i) (seen_at seen (first + i)) (descriptor_in report i) state

-- what is seen of a zone when a report shows its state
abbrev pub now_seen : SeenZone → Option ZoneState → SeenZone
now_seen seen (Some state) = record seen { state = state }
now_seen seen None = seen

-- the states that the first descriptors of a report show are seen, and nothing else
pub record SeesStates (first count : ℕ) (report : List ℕ) (old new : List SeenZone) : Type 0 where
  pub length_is : length new ≡ length old
  pub others : (number : ℕ) → (number < first) ⊎ (first + count ≤ number) → seen_at new number ≡ seen_at old number
  pub states : (i : ℕ) → i < count
      → seen_at new (first + i) ≡ now_seen (seen_at old (first + i)) (state_of (state_in (descriptor_in report i)))

-- what a report says of a zone that was seen
abbrev pub status_of : SeenZone → ZoneStatus
status_of seen = record { state = seen.state; written = unwrap_or seen.written 0 }

-- a zone of which it says so: its blocks are not known
abbrev pub zone_like : SeenZone → Zone
zone_like seen = record { state = seen.state; blocks = replicate (unwrap_or seen.written 0) [] }

-- a report says of a zone what it says of one that was seen
abbrev pub LooksLike : Geometry → ℕ → Zone → SeenZone → Type 0
LooksLike geometry number zone seen =
    descriptor_of geometry number (zone_status zone) ≡ descriptor_of geometry number (status_of seen)

-- it did so at some moment between two others
pub record LookedLike (geometry : Geometry) (number : ℕ) (old : Zone) (seen : SeenZone) (new : Zone) : Type 0 where
  pub zone : Zone
  pub before : ClosesOne old zone
  pub like : LooksLike geometry number zone seen
  pub after : ClosesOne zone new

-- the zones from a first one on, that many, were seen since, and of the others what was seen is the same
pub record WereSeen (first count : ℕ) (geometry : Geometry) (old : List Zone) (before after : List SeenZone)
    (new : List Zone) : Type 0 where
  pub length_is : length after ≡ length before
  pub others : (number : ℕ) → (number < first) ⊎ (first + count ≤ number) → seen_at after number ≡ seen_at before number
  pub looked : (number : ℕ) → first ≤ number → number < first + count
      → LookedLike geometry number (zone_at old number) (seen_at after number) (zone_at new number)

-- a stretch of zones has all those from a first one on, that many, that are due
pub record CoversDue (seen : List SeenZone) (first count from some : ℕ) : Type 0 where
  pub low : first ≤ from
  pub high : from + some ≤ first + count
  pub due : (number : ℕ) → first ≤ number → number < first + count → is_due (seen_at seen number) ≡ true
      → (from ≤ number) × (number < from + some)

-- of the zones from a first one on, that many, those that were due were seen since
pub record DueWereSeen (first count : ℕ) (geometry : Geometry) (old : List Zone) (before after : List SeenZone)
    (new : List Zone) : Type 0 where
  pub length_is : length after ≡ length before
  pub others : (number : ℕ) → (number < first) ⊎ (first + count ≤ number) → seen_at after number ≡ seen_at before number
  pub looked : (number : ℕ) → first ≤ number → number < first + count → is_due (seen_at before number) ≡ true
      → LookedLike geometry number (zone_at old number) (seen_at after number) (zone_at new number)

-- a Flush looked at each zone that was due, and then no zone counts as changed
pub record FlushLooked (geometry : Geometry) (old : List Zone) (before after : List SeenZone)
    (new : List Zone) : Type 0 where
  pub looked : (number : ℕ) → number < geometry.zones → is_due (seen_at before number) ≡ true
      → LookedLike geometry number (zone_at old number) (seen_at after number) (zone_at new number)
  pub unchanged : (number : ℕ) → (seen_at after number).changed ≡ false

-- ---- after a command that failed

-- a zone is in a state that was seen, and written as far, if it has a pointer there
pub record IsAsSeen (zone : Zone) (seen : SeenZone) : Type 0 where
  pub state : IsState seen.state zone.state
  pub written : has_pointer zone.state ≡ true → length zone.blocks ≡ unwrap_or seen.written 0

-- it was so at some moment between two others
pub record WasAsSeen (number : ℕ) (old : List Zone) (seen : SeenZone) (new : List Zone) : Type 0 where
  pub middle : List Zone
  pub before : IsClosing old middle
  pub like : IsAsSeen (zone_at middle number) seen
  pub after : IsClosing middle new
