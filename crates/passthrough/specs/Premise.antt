-- The premise: what is sent to a drive, and what its answers say of its zones.
--
-- In words: what a Read returns is believed. A Success was done, if the address of an Append is the zone's pointer, and
-- a report shows the zones that are there. Any other answer, or none, says only that the zones are left as by a stop
-- inside the command. But if an Append or an action is answered by an error, and the next report shows the zones as
-- they were before it, that report is believed, too.
use Rattle.std.specs.Prelude.{◌≡◌, ◌⊎◌, ℕ, ◌+◌, ◌*◌, ◌/◌, ◌%◌, ◌^◌, ◌<◌, ◌≤◌, Bool, true, false, List, [], length, take}
use Rattle.std.specs.Prelude.{drop, slice_index, Option, None, Some, Ok}
use Rattle.std.specs.List.{AllByRecursion}
use Rattle.byteorder.specs.Endian.{little_from}
use Rattle.nvme_wire.specs.Descriptor.{state_code}
use Rattle.nvme_wire.specs.declared.command.Action.{Action}
use Rattle.nvme_wire.specs.declared.command.Action.TheVariants as actions
use Rattle.nvme_wire.specs.declared.command.Command.{Command}
use Rattle.nvme_wire.specs.declared.command.Command.TheVariants.{Flush, Read, Write, Append, Send, Receive}
use Rattle.nvme_wire.specs.declared.command.ReportingOptions.TheVariants.{AnyState}
use Rattle.nvme_wire.specs.declared.status.Status.TheVariants.{Success}
use Rattle.nvme_wire.specs.declared.zone_state.ZoneState.{ZoneState}
use Rattle.nvme_wire.specs.declared.zone_state.ZoneState.TheVariants.{Closed, ImplicitlyOpened, Offline}
use Rattle.zone_states.specs.declared.geometry.Geometry.{Geometry}
use Rattle.zone_states.specs.Transition.{is_state, state_after}
use Rattle.zone_states.specs.Zone.{Zone, IsLawfulZone}
use Rattle.zone_report.specs.Report.{pointer_of}
use Rattle.drive_port.specs.Drive.{IsClosing, active_count, open_count}
use Rattle.drive_port.specs.Halting.{LeftBy}
use Rattle.drive_port.specs.Step.{Effect, end_of, is_refusal, zone_at}

-- ---- the drive

-- the zones are those of a lawful drive of this geometry
pub record AreLawful (geometry : Geometry) (zones : List Zone) : Type 0 where
  pub count : length zones ≡ geometry.zones
  pub each : AllByRecursion (IsLawfulZone geometry) zones
  pub active : active_count zones ≤ geometry.active
  pub open_zones : open_count zones ≤ geometry.open

-- the zone that holds an address
abbrev pub zone_of : Geometry → List Zone → ℕ → Zone
zone_of geometry zones address = zone_at zones (address / geometry.size)

-- the address at which the zone with a number is written next, if its state has one
abbrev pub pointer : Geometry → ℕ → Zone → Option ℕ
pointer geometry number zone = pointer_of zone.state (number * geometry.size + length zone.blocks)

-- the same of the zone that holds an address
abbrev pub pointer_at : Geometry → List Zone → ℕ → Option ℕ
pointer_at geometry zones address = pointer geometry (address / geometry.size) (zone_of geometry zones address)

-- ---- what is sent

-- a Read ends at or before an address up to which its zone can be read: that is at or below its pointer
pub record IsSentRead (geometry : Geometry) (zones : List Zone) (address blocks end room : ℕ) : Type 0 where
  pub few : blocks ≤ geometry.transfer
  pub in_range : address < end_of geometry
  pub readable : is_state Offline (zone_of geometry zones address).state ≡ false
  pub reaches : address + blocks ≤ end
  pub within : end ≤ address / geometry.size * geometry.size + geometry.capacity
  pub below : (next : ℕ) → pointer_at geometry zones address ≡ Some next → end ≤ next
  pub returned : room ≡ blocks * geometry.block

-- an Append is of whole blocks, to a zone that has room for them
pub record IsSentAppend (geometry : Geometry) (zones : List Zone) (address blocks : ℕ) (bytes : List ℕ)
    (room : ℕ) : Type 0 where
  pub few : blocks ≤ geometry.transfer
  pub whole : length bytes ≡ blocks * geometry.block
  pub aligned : address % geometry.size ≡ 0
  pub in_range : address < end_of geometry
  pub next : ℕ
  pub writable : pointer_at geometry zones address ≡ Some next
  pub fits : next + blocks ≤ address + geometry.capacity
  pub returned : room ≡ 0

-- the actions that are sent: Close, Finish and Reset
abbrev pub is_sent : Action → Bool
is_sent actions.Open = false
is_sent actions.Offline = false
is_sent action = true

-- an action goes to a zone in whose state it is admitted
pub record IsSentAction (geometry : Geometry) (zones : List Zone) (address : ℕ) (action : Action) (bytes : List ℕ)
    (room : ℕ) : Type 0 where
  pub kind : is_sent action ≡ true
  pub aligned : address % geometry.size ≡ 0
  pub in_range : address < end_of geometry
  pub admitted : is_refusal (state_after (zone_of geometry zones address).state action) ≡ false
  pub none : bytes ≡ []
  pub returned : room ≡ 0

-- a report names `count` zones from `first` on, and fits one transfer
pub record IsSentReport (geometry : Geometry) (address dwords room : ℕ) : Type 0 where
  pub first : ℕ
  pub count : ℕ
  pub starts : address ≡ first * geometry.size
  pub some : 1 ≤ count
  pub in_range : first + count ≤ geometry.zones
  pub whole : room ≡ 64 + 64 * count
  pub returned : room ≡ 4 * dwords
  pub few : room ≤ geometry.transfer * geometry.block

-- what is sent to a drive, with these bytes, the address up to which its zone can be read, and room for that many bytes
abbrev pub IsSent : Geometry → List Zone → Command → List ℕ → ℕ → ℕ → Type 0
IsSent geometry zones Flush bytes end room = (bytes ≡ []) × (room ≡ 0)
IsSent geometry zones (Read slba blocks) bytes end room = (bytes ≡ []) × IsSentRead geometry zones slba blocks end room
IsSent geometry zones (Append zslba blocks) bytes end room = IsSentAppend geometry zones zslba blocks bytes room
IsSent geometry zones (Send slba action false) bytes end room = IsSentAction geometry zones slba action bytes room
IsSent geometry zones (Receive slba dwords AnyState true) bytes end room =
    (bytes ≡ []) × IsSentReport geometry slba dwords room
IsSent geometry zones command bytes end room = ⊥

-- ---- what is durable

-- a Reset is sent only while all that was appended is flushed: else blocks that were moved out of the zone could be
-- lost with the power
abbrev pub IsSafe : Command → Bool → Type 0
IsSafe (Send slba actions.Reset all) flushed = flushed ≡ true
IsSafe command flushed = Unit {0}

-- by a Flush that succeeds all that was appended is flushed, and only an Append adds what is not
abbrev pub KeepsFlushed : Command → ℕ → Bool → Bool → Type 0
KeepsFlushed Flush status old new = (status ≡ 0 → new ≡ true) × (old ≡ true → new ≡ true)
KeepsFlushed (Write slba blocks) status old new = Unit {0}
KeepsFlushed (Append zslba blocks) status old new = Unit {0}
KeepsFlushed command status old new = old ≡ true → new ≡ true

-- ---- what a report shows

-- the descriptor with a number in a report
abbrev pub descriptor_in : List ℕ → ℕ → List ℕ
descriptor_in report i = take 64 (drop (64 + 64 * i) report)

-- the fields of a descriptor (Zoned Namespace Command Set 1.1, section 3.4.2)
abbrev pub type_in : List ℕ → ℕ
type_in bytes = slice_index bytes 0 % 16

abbrev pub state_in : List ℕ → ℕ
state_in bytes = slice_index bytes 1 / 16

abbrev pub capacity_in : List ℕ → ℕ
capacity_in bytes = little_from 8 8 bytes

abbrev pub start_in : List ℕ → ℕ
start_in bytes = little_from 16 8 bytes

abbrev pub pointer_in : List ℕ → ℕ
pointer_in bytes = little_from 24 8 bytes

-- a descriptor shows a zone; if its state has no pointer, that field says nothing
pub record Shows (geometry : Geometry) (number : ℕ) (zone : Zone) (bytes : List ℕ) : Type 0 where
  pub sequential : type_in bytes ≡ 2
  pub state : state_in bytes ≡ state_code zone.state
  pub capacity : capacity_in bytes ≡ geometry.capacity
  pub start : start_in bytes ≡ number * geometry.size
  pub pointer : (next : ℕ) → pointer geometry number zone ≡ Some next → pointer_in bytes ≡ next

-- a descriptor is one of the zone with a number
pub record IsOfZone (geometry : Geometry) (number : ℕ) (bytes : List ℕ) : Type 0 where
  pub sequential : type_in bytes ≡ 2
  pub capacity : capacity_in bytes ≡ geometry.capacity
  pub start : start_in bytes ≡ number * geometry.size

-- a report of the zones from an address on shows these
abbrev pub ShowsZones : Geometry → List Zone → ℕ → List ℕ → Type 0
ShowsZones geometry zones address report =
    (i : ℕ) → 64 + 64 * i < length report
    → Shows geometry (address / geometry.size + i) (zone_at zones (address / geometry.size + i))
    (descriptor_in report i)

-- a controller closes a zone in the first of these states by itself, which leaves it in the second
abbrev pub is_closable : ZoneState → Bool
is_closable ImplicitlyOpened = true
is_closable Closed = true
is_closable state = false

-- the same zone, but for whether it is implicitly opened or Closed
pub record IsSameZone (old new : Zone) : Type 0 where
  pub blocks : new.blocks ≡ old.blocks
  pub state : (new.state ≡ old.state) ⊎ ((is_closable old.state ≡ true) × (is_closable new.state ≡ true))

-- a report shows the zones that are there, but for which of them are implicitly opened and which Closed: it is believed
-- about that
abbrev pub MayShow : Geometry → List Zone → ℕ → List ℕ → Type 0
MayShow geometry zones address report =
    (i : ℕ) → 64 + 64 * i < length report
    → (zone : Zone) × IsSameZone (zone_at zones (address / geometry.size + i)) zone
    × Shows geometry (address / geometry.size + i) zone (descriptor_in report i)

-- it shows the zones of one moment
pub record Reports (geometry : Geometry) (old : List Zone) (address : ℕ) (report : List ℕ)
    (new : List Zone) : Type 0 where
  pub middle : List Zone
  pub before : IsClosing old middle
  pub shows : ShowsZones geometry middle address report
  pub after : IsClosing middle new

-- ---- what an answer says

-- what came with a Success fits the zones: an Append went to the pointer, and a report shows what is there
abbrev pub Agrees : Geometry → List Zone → Command → ℕ → List ℕ → Type 0
Agrees geometry zones (Append zslba blocks) value room = pointer_at geometry zones zslba ≡ Some value
Agrees geometry zones (Receive slba dwords options partial) value room = MayShow geometry zones slba room
Agrees geometry zones command value room = Unit {0}

-- the result of a command that was completed
abbrev pub value_of : Command → ℕ → ℕ
value_of (Append zslba blocks) value = value
value_of command value = 0

-- the command was completed, with this value and with what it returned in the room
abbrev pub IsDone : Geometry → List Zone → Command → List ℕ → ℕ → List ℕ → List Zone → Type 0
IsDone geometry old (Receive slba dwords options partial) bytes value room new = Reports geometry old slba room new
IsDone geometry old command bytes value room new =
    Effect geometry old (Ok command) bytes Success (value_of command value) room new

-- what the answer to a command says of the zones; the status 0 is Success
pub record Answers (geometry : Geometry) (old : List Zone) (command : Command) (bytes : List ℕ) (status value : ℕ)
    (room : List ℕ)
    (new : List Zone) : Type 0 where
  pub believed : status ≡ 0 → Agrees geometry old command value room → IsDone geometry old command bytes value room new
  pub left : LeftBy geometry old (Ok command) bytes new

-- ---- a command that failed

-- the drive answered by an error: a status has 11 bits, and what stands for no answer is no status
pub record IsError (status : ℕ) : Type 0 where
  pub some : 1 ≤ status
  pub told : status < 2 ^ 11

-- zones count as those before the command: where none are said, any do
abbrev pub WereBefore : Option (List Zone) → List Zone → Type 0
WereBefore None zones = Unit {0}
WereBefore (Some before) zones = zones ≡ before

-- a report shows the zones as they were before the command
abbrev pub ShowsBefore : Geometry → Option (List Zone) → ℕ → List ℕ → Type 0
ShowsBefore geometry before address report =
    (zones : List Zone) × WereBefore before zones × MayShow geometry zones address report

-- After an Append or an action that is answered by an error the zones before it count as such. A report that comes
-- next, and succeeds, is believed if it shows these.
abbrev pub Recalls : Geometry → List Zone → Option (List Zone) → Command → ℕ → List ℕ → List Zone → Option (List Zone)
    → Type 0
Recalls geometry old before (Append zslba blocks) status room new next = IsError status → WereBefore next old
Recalls geometry old before (Send slba action all) status room new next = IsError status → WereBefore next old
Recalls geometry old before (Receive slba dwords options partial) status room new next =
    status ≡ 0 → ShowsBefore geometry before slba room → Reports geometry old slba room new
Recalls geometry old before command status room new next = Unit {0}
