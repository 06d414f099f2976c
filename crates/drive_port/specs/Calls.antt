-- What the typed calls answer: each is one submit of its command.
use Rattle.std.specs.Prelude.{◌≡◌, ◌≢◌, ◌⊎◌, ℕ, ◌+◌, ◌-◌, ◌/◌, ◌*◌, ◌%◌, ◌≤◌, ◌<◌, Bool, true, false, IsTrue, IsFalse, if◌then◌else◌}
use Rattle.std.specs.Prelude.{List, [], ◌++◌, length, take, count_by, slice_set, Result, Ok, Err}
use Rattle.std.specs.List.{remove}
use Rattle.nvme_wire.specs.Completion.{IsEncodable, completion_bytes}
use Rattle.nvme_wire.specs.declared.command.Action.{Action}
use Rattle.nvme_wire.specs.declared.command.Action.TheVariants.{Close, Finish, Reset}
use Rattle.nvme_wire.specs.declared.command.ReportingOptions.{ReportingOptions}
use Rattle.nvme_wire.specs.declared.command.Command.{Command}
use Rattle.nvme_wire.specs.declared.command.Command.TheVariants.{Append, Flush, Read, Receive, Send}
use Rattle.nvme_wire.specs.declared.completion.Completion.{Completion}
use Rattle.nvme_wire.specs.declared.status.Status.TheVariants.{Success}
use Rattle.nvme_wire.specs.declared.zone_state.ZoneState.TheVariants.{Closed, Empty, Full, Offline}
use Rattle.zone_states.specs.declared.geometry.Geometry.{Geometry}
use Rattle.zone_states.specs.Transition.{is_active}
use Rattle.zone_states.specs.Zone.{Zone, cut_blocks, written_zone}
use Rattle.zone_report.specs.Report.{is_chosen, report}
use Rattle.drive_port.specs.declared.calls.PortFault.{PortFault}
use Rattle.drive_port.specs.declared.calls.PortFault.TheVariants.{Refused, Memory, Failed, Stopped}
use Rattle.drive_port.specs.declared.device.Halt.{Halt}
use Rattle.drive_port.specs.declared.device.Halt.TheVariants as halts
use Rattle.drive_port.specs.Drive.{DriveState, IsClosing, IsLawful, active_count, open_count}
use Rattle.drive_port.specs.Durable.{IsDurable, MayBeDurable}
use Rattle.drive_port.specs.Step.{Performs, end_of, is_state, is_success, zone_at}
use Rattle.drive_port.specs.Halting.{Halts}
use Rattle.drive_port.specs.Contents.{Appends, Counts, Finishes, Resets, SameContents, SameCounts, bytes_at}
use Rattle.drive_port.specs.Contents.{content_at, contents, is_usable, is_writable, usage_of}

-- One submit of this command: it succeeded, or was refused with a status, or the device halted and returned no bytes.
abbrev pub CallGives : DriveState → Command → List ℕ → Result ℕ PortFault → List ℕ → DriveState → Type 0
CallGives old command bytes (Ok value) returned new = (old.stopped ≡ false) × Performs old (Ok command) bytes Success value returned new
CallGives old command bytes (Err (Refused status)) returned new =
    (old.stopped ≡ false) × (status ≢ Success) × (value : ℕ) × Performs old (Ok command) bytes status value returned new
CallGives old command bytes (Err Memory) returned new = (returned ≡ []) × Halts old (Ok command) bytes halts.Memory new
CallGives old command bytes (Err Failed) returned new = (returned ≡ []) × Halts old (Ok command) bytes halts.Failed new
CallGives old command bytes (Err Stopped) returned new = (returned ≡ []) × Halts old (Ok command) bytes halts.Stopped new

-- the bytes of a completion
pub record IsCompletion (bytes : List ℕ) : Type 0 where
  pub completion : Completion
  pub fits : IsEncodable completion
  pub encoded : bytes ≡ completion_bytes completion

-- what a call answers to a completion
abbrev pub answer_of : Completion → Result ℕ PortFault
answer_of completion = if is_success completion.status then Ok completion.result else Err (Refused completion.status)

-- and what to a halt
abbrev pub fault_of : Halt → PortFault
fault_of halts.Memory = Memory
fault_of halts.Failed = Failed
fault_of halts.Stopped = Stopped

-- What each call but a Flush keeps, whatever it answers: the drive stays lawful, has its geometry, and what is durable
-- is the same; a drive that had stopped answers just that and does not change; a drive that answers `Stopped` has
-- stopped, one that answers `Failed` is not unfailing, and the counts are the same then; and no more than one command is
-- completed.
pub record Obeys {V : Type 0} (old : DriveState) (result : Result V PortFault) (new : DriveState) : Type 0 where
  pub was_lawful : IsLawful old
  pub lawful : IsLawful new
  pub geometry : new.geometry ≡ old.geometry
  pub durable : new.durable ≡ old.durable
  pub already : old.stopped ≡ true → (result ≡ Err Stopped) × (new ≡ old)
  pub stops : result ≡ Err Stopped → new.stopped ≡ true
  pub counts : result ≡ Err Stopped → SameCounts old new
  pub completed : new.completed ≤ old.completed + 1
  pub trusted : IsTrue new.clean → IsTrue old.clean
  pub unfailing : IsTrue new.unfailing → IsTrue old.unfailing
  pub fails : result ≡ Err Failed → IsFalse new.unfailing × SameCounts old new

-- the answer of a call whose command has no result: that is 0
abbrev pub with_zero : {V : Type 0} → Result V PortFault → Result ℕ PortFault
with_zero (Ok value) = Ok 0
with_zero (Err fault) = Err fault

-- 1 to 65,536 whole blocks
pub record IsWholeBlocks (block : ℕ) (bytes : List ℕ) : Type 0 where
  pub whole : length bytes ≡ length bytes / block * block
  pub some : 1 ≤ length bytes / block
  pub few : length bytes / block ≤ 65536

-- how many blocks these are
abbrev pub block_count : Geometry → List ℕ → ℕ
block_count geometry bytes = length bytes / geometry.block

-- these blocks
abbrev pub data_blocks : Geometry → List ℕ → List (List ℕ)
data_blocks geometry bytes = cut_blocks geometry.block (block_count geometry bytes) bytes

-- the zone that starts there
abbrev pub zone_from : DriveState → ℕ → Zone
zone_from drive start = zone_at drive.zones (start / drive.geometry.size)

-- ---- the calls

-- one Append of all these bytes
abbrev pub AppendGives : DriveState → ℕ → List ℕ → Result ℕ PortFault → DriveState → Type 0
AppendGives old start bytes result new =
    (returned : List ℕ) × CallGives old (Append start (block_count old.geometry bytes)) bytes result returned new

-- one Read
abbrev pub ReadGives : {V : Type 0} → DriveState → ℕ → ℕ → Result V PortFault → List ℕ → DriveState → Type 0
ReadGives old address blocks result returned new = CallGives old (Read address blocks) [] (with_zero result) returned new

-- one Zone Management Send to one zone
abbrev pub SendGives : {V : Type 0} → DriveState → ℕ → Action → Result V PortFault → DriveState → Type 0
SendGives old start action result new = (returned : List ℕ) × CallGives old (Send start action false) [] (with_zero result) returned new

-- one Finish of one zone
abbrev pub FinishGives : {V : Type 0} → DriveState → ℕ → Result V PortFault → DriveState → Type 0
FinishGives old start result new = SendGives old start Finish result new

-- one Close of one zone
abbrev pub CloseGives : {V : Type 0} → DriveState → ℕ → Result V PortFault → DriveState → Type 0
CloseGives old start result new = SendGives old start Close result new

-- one Reset of one zone
abbrev pub ResetGives : {V : Type 0} → DriveState → ℕ → Result V PortFault → DriveState → Type 0
ResetGives old start result new = SendGives old start Reset result new

-- one Flush
abbrev pub FlushGives : {V : Type 0} → DriveState → Result V PortFault → DriveState → Type 0
FlushGives old result new = (returned : List ℕ) × CallGives old Flush [] (with_zero result) returned new

-- one report
abbrev pub ReportGives : {V : Type 0} → DriveState → ℕ → ReportingOptions → Bool → ℕ → Result V PortFault → List ℕ → DriveState → Type 0
ReportGives old address options partial dwords result returned new = CallGives old (Receive address dwords options partial) [] (with_zero result) returned new

-- These bytes were appended to the zone that starts there: they are at an address just after what was written.
pub record Appended (old new : DriveState) (start : ℕ) (bytes : List ℕ) (address : ℕ) : Type 0 where
  pub geometry : new.geometry ≡ old.geometry
  pub counts : Counts old new 1
  pub address_is : address ≡ start + length (content_at (contents old.zones) (start / old.geometry.size)).blocks
  pub contents : Appends (contents old.zones) (contents new.zones) old.geometry.capacity (start / old.geometry.size) (data_blocks old.geometry bytes)

-- The zone that starts there is full.
pub record Finished (old new : DriveState) (start : ℕ) : Type 0 where
  pub geometry : new.geometry ≡ old.geometry
  pub counts : Counts old new 0
  pub contents : Finishes (contents old.zones) (contents new.zones) (start / old.geometry.size)

-- The zone that starts there was opened or Closed; a Close keeps its content.
pub record ClosedZone (old new : DriveState) (start : ℕ) : Type 0 where
  pub geometry : new.geometry ≡ old.geometry
  pub counts : Counts old new 0
  pub in_range : start / old.geometry.size < length old.zones
  pub active : is_active (zone_from old start).state ≡ true

-- The zone that starts there is Empty.
pub record ResetZone (old new : DriveState) (start : ℕ) : Type 0 where
  pub geometry : new.geometry ≡ old.geometry
  pub counts : Counts old new 0
  pub contents : Resets (contents old.zones) (contents new.zones) (start / old.geometry.size)

-- What the drive holds is durable.
pub record Flushed (old new : DriveState) : Type 0 where
  pub counts : Counts old new 0
  pub durable : IsDurable new

-- ---- what a call shows that only asks

-- A call that changes no zone. A controller may have closed zones, and no closing changes contents.
pub record OnlyCloses (old new : DriveState) : Type 0 where
  pub closing : IsClosing old.zones new.zones
  pub contents : SameContents old new

-- A Read that succeeded: a buffer holds as many bytes after what it held before, and those of these blocks while the drive is clean.
pub record ReadShows (old new : DriveState) (address blocks : ℕ) (held items : List ℕ) : Type 0 where
  pub bytes : IsTrue new.clean → items ≡ held ++ bytes_at old.geometry (contents old.zones) address blocks
  pub length_is : length items ≡ length held + blocks * old.geometry.block
  pub counts : Counts old new 0

-- These bytes are the report of the zones as they were at a moment of the call: a closing of those before it, which those after it are a closing of.
pub record Reported (old new : DriveState) (address : ℕ) (options : ReportingOptions) (partial : Bool) (dwords : ℕ) (bytes : List ℕ) : Type 0 where
  pub geometry : new.geometry ≡ old.geometry
  pub counts : Counts old new 0
  pub in_range : address < end_of old.geometry
  pub zones : List Zone
  pub before : IsClosing old.zones zones
  pub bytes_are : bytes ≡ report old.geometry zones address options partial dwords
  pub length_is : length bytes ≡ 4 * dwords
  pub after : IsClosing zones new.zones

-- how many zones a report names
abbrev pub chosen_count : ReportingOptions → List Zone → ℕ
chosen_count options zones = count_by (λ zone. is_chosen options zone.state) zones

-- This is the number of zones that are chosen, of the zones as they were at a moment of the call.
pub record Counted (old new : DriveState) (options : ReportingOptions) (number : ℕ) : Type 0 where
  pub geometry : new.geometry ≡ old.geometry
  pub counts : Counts old new 0
  pub zones : List Zone
  pub before : IsClosing old.zones zones
  pub number_is : number ≡ chosen_count options zones
  pub after : IsClosing zones new.zones

-- ---- when a drive has to take a command

-- The drive takes an Append of that many blocks there: the address is that of a zone that can be written and has room
-- for them, and among the other zones fewer are active and open than may be.
pub record CanAppend (drive : DriveState) (start blocks : ℕ) : Type 0 where
  pub aligned : start % drive.geometry.size ≡ 0
  pub in_range : start < end_of drive.geometry
  pub few : blocks ≤ drive.geometry.transfer
  pub writable : is_writable (usage_of (zone_from drive start).state) ≡ true
  pub room : length (zone_from drive start).blocks + blocks ≤ drive.geometry.capacity
  pub active : active_count (remove drive.zones (start / drive.geometry.size)) < drive.geometry.active
  pub open_zones : open_count (remove drive.zones (start / drive.geometry.size)) < drive.geometry.open

-- It takes a Read of that many blocks there: they are in one zone, which isn't Offline, and are no more than one transfer moves.
pub record CanRead (drive : DriveState) (address blocks : ℕ) : Type 0 where
  pub few : blocks ≤ drive.geometry.transfer
  pub in_range : address + blocks ≤ end_of drive.geometry
  pub one_zone : address / drive.geometry.size ≡ (address + blocks - 1) / drive.geometry.size
  pub readable : is_state Offline (zone_at drive.zones (address / drive.geometry.size)).state ≡ false

-- It takes a Finish of a zone that is usable.
pub record CanFinish (drive : DriveState) (start : ℕ) : Type 0 where
  pub aligned : start % drive.geometry.size ≡ 0
  pub in_range : start < end_of drive.geometry
  pub usable : is_usable (usage_of (zone_from drive start).state) ≡ true

-- It takes a Close of a zone that is opened or Closed.
pub record CanClose (drive : DriveState) (start : ℕ) : Type 0 where
  pub aligned : start % drive.geometry.size ≡ 0
  pub in_range : start < end_of drive.geometry
  pub active : is_active (zone_from drive start).state ≡ true

-- It takes a Reset of a zone that is usable.
pub record CanReset (drive : DriveState) (start : ℕ) : Type 0 where
  pub aligned : start % drive.geometry.size ≡ 0
  pub in_range : start < end_of drive.geometry
  pub usable : is_usable (usage_of (zone_from drive start).state) ≡ true

-- ---- the zones after a call

-- A call that changes one zone. Where it succeeded, this zone starts there, and the controller may have closed zones
-- before it and after it; where it was refused or failed, the controller may have closed zones; where the device
-- was out of memory, nothing changed; and where it stopped, either may be.
abbrev pub Leaves : {V : Type 0} → DriveState → ℕ → Zone → Result V PortFault → DriveState → Type 0
Leaves old start zone (Ok value) new = IsClosing (slice_set old.zones (start / old.geometry.size) zone) new.zones
Leaves old start zone (Err (Refused status)) new = IsClosing old.zones new.zones
Leaves old start zone (Err Memory) new = new ≡ old
Leaves old start zone (Err Failed) new = IsClosing old.zones new.zones
Leaves old start zone (Err Stopped) new = IsClosing old.zones new.zones ⊎ IsClosing (slice_set old.zones (start / old.geometry.size) zone) new.zones

-- the zone that starts there, with these blocks after its own: it is Full where they reach its capacity
abbrev pub written_from : DriveState → ℕ → List (List ℕ) → Zone
written_from old start blocks = written_zone old.geometry.capacity (zone_from old start) blocks

-- The zone that starts there has the first j of these blocks after its own, one at least.
pub record WrittenFront (old new : DriveState) (start : ℕ) (bytes : List ℕ) : Type 0 where
  pub j : ℕ
  pub some : 1 ≤ j
  pub few : j ≤ length (data_blocks old.geometry bytes)
  pub zones : IsClosing (slice_set old.zones (start / old.geometry.size) (written_from old start (take j (data_blocks old.geometry bytes)))) new.zones

-- the zone has these blocks after its own; where the device stopped, none of them, or a front
abbrev pub AppendLeaves : DriveState → ℕ → List ℕ → Result ℕ PortFault → DriveState → Type 0
AppendLeaves old start bytes (Err Stopped) new = IsClosing old.zones new.zones ⊎ WrittenFront old new start bytes
AppendLeaves old start bytes result new = Leaves old start (written_from old start (data_blocks old.geometry bytes)) result new

-- the zone has its blocks, and is Full
abbrev pub FinishLeaves : {V : Type 0} → DriveState → ℕ → Result V PortFault → DriveState → Type 0
FinishLeaves old start result new = Leaves old start (record { state = Full; blocks = (zone_from old start).blocks }) result new

-- the zone has its blocks, and is Closed
abbrev pub CloseLeaves : {V : Type 0} → DriveState → ℕ → Result V PortFault → DriveState → Type 0
CloseLeaves old start result new = Leaves old start (record { state = Closed; blocks = (zone_from old start).blocks }) result new

-- the zone is Empty
abbrev pub ResetLeaves : {V : Type 0} → DriveState → ℕ → Result V PortFault → DriveState → Type 0
ResetLeaves old start result new = Leaves old start (record { state = Empty; blocks = [] }) result new

-- ---- what a call that did not succeed leaves of the contents

-- The first j of these blocks were appended to the zone that starts there, one at least. There was room for these, if not for all.
pub record AppendedFront (old new : DriveState) (start : ℕ) (bytes : List ℕ) : Type 0 where
  pub geometry : new.geometry ≡ old.geometry
  pub j : ℕ
  pub some : 1 ≤ j
  pub few : j ≤ length (data_blocks old.geometry bytes)
  pub contents : Appends (contents old.zones) (contents new.zones) old.geometry.capacity (start / old.geometry.size) (take j (data_blocks old.geometry bytes))

-- the zone that starts there is full
pub record FinishedContents (old new : DriveState) (start : ℕ) : Type 0 where
  pub geometry : new.geometry ≡ old.geometry
  pub contents : Finishes (contents old.zones) (contents new.zones) (start / old.geometry.size)

-- the zone that starts there is empty
pub record ResetContents (old new : DriveState) (start : ℕ) : Type 0 where
  pub geometry : new.geometry ≡ old.geometry
  pub contents : Resets (contents old.zones) (contents new.zones) (start / old.geometry.size)

-- an Append that did not succeed leaves the contents; or, where the device stopped, those with a front of the blocks
abbrev pub AppendKeeps : DriveState → ℕ → List ℕ → Result ℕ PortFault → DriveState → Type 0
AppendKeeps old start bytes (Ok address) new = Unit {0}
AppendKeeps old start bytes (Err Stopped) new = SameContents old new ⊎ AppendedFront old new start bytes
AppendKeeps old start bytes (Err fault) new = SameContents old new

-- a Finish that did not succeed leaves the contents; or, where the device stopped, the zone may be full
abbrev pub FinishKeeps : {V : Type 0} → DriveState → ℕ → Result V PortFault → DriveState → Type 0
FinishKeeps old start (Ok value) new = Unit {0}
FinishKeeps old start (Err Stopped) new = SameContents old new ⊎ FinishedContents old new start
FinishKeeps old start (Err fault) new = SameContents old new

-- a Reset that did not succeed leaves the contents; or, where the device stopped, the zone may be empty
abbrev pub ResetKeeps : {V : Type 0} → DriveState → ℕ → Result V PortFault → DriveState → Type 0
ResetKeeps old start (Ok value) new = Unit {0}
ResetKeeps old start (Err Stopped) new = SameContents old new ⊎ ResetContents old new start
ResetKeeps old start (Err fault) new = SameContents old new

-- a Flush that did not succeed leaves durable what was; or, where the device stopped, it may have succeeded
abbrev pub FlushKeeps : {V : Type 0} → DriveState → Result V PortFault → DriveState → Type 0
FlushKeeps old (Ok value) new = Unit {0}
FlushKeeps old (Err Stopped) new = MayBeDurable old new
FlushKeeps old (Err fault) new = new.durable ≡ old.durable

-- ---- refusals

-- a call that was not refused: it succeeded, or the device halted
abbrev pub IsNotRefused : {V : Type 0} → Result V PortFault → Type 0
IsNotRefused (Err (Refused status)) = ⊥
IsNotRefused result = Unit {0}
