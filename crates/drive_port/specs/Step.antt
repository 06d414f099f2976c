-- What one command does: a closing, then the command, then a closing.
use Rattle.std.specs.Prelude.{◌≡◌, ℕ, zero, suc, ◌+◌, ◌-◌, ◌*◌, ◌/◌, ◌%◌, ◌==◌, ◌<◌, ◌^◌, nat_lt, nat_le, not, ◌&&◌, ◌||◌, Bool, true, false, IsTrue, if◌then◌else◌}
use Rattle.std.specs.Prelude.{List, [], ◌∷◌, ◌++◌, map, length, replicate, slice_set, slice_index_or, Option, Some, None, Result, Ok, Err}
use Rattle.nvme_wire.specs.Entry.{decode_of, id_of}
use Rattle.nvme_wire.specs.Completion.{completion_bytes}
use Rattle.nvme_wire.specs.declared.zone_state.ZoneState.{ZoneState}
use Rattle.nvme_wire.specs.declared.zone_state.ZoneState.TheVariants as states
use Rattle.nvme_wire.specs.declared.command.Action.{Action}
use Rattle.nvme_wire.specs.declared.command.Action.TheVariants as actions
use Rattle.nvme_wire.specs.declared.command.Command.{Command}
use Rattle.nvme_wire.specs.declared.command.Command.TheVariants.{Flush, Read, Write, Append, Send, Receive}
use Rattle.nvme_wire.specs.declared.command.DecodeFault.{DecodeFault}
use Rattle.nvme_wire.specs.declared.command.DecodeFault.TheVariants.{Opcode, Namespace, Field}
use Rattle.nvme_wire.specs.declared.status.Status.{Status}
use Rattle.nvme_wire.specs.declared.status.Status.TheVariants.{Success, InvalidCommandOpcode, InvalidField, InvalidNamespace, LbaOutOfRange}
use Rattle.nvme_wire.specs.declared.status.Status.TheVariants.{ZoneBoundaryError, ZoneIsOffline, ZoneInvalidWrite, TooManyActiveZones}
use Rattle.nvme_wire.specs.declared.status.Status.TheVariants.{TooManyOpenZones, InvalidZoneStateTransition}
use Rattle.zone_states.specs.declared.geometry.Geometry.{Geometry}
use Rattle.zone_states.specs.Checks.{first_failing}
use Rattle.zone_states.specs.Transition.{state_after}
use Rattle.zone_states.specs.Zone.{Zone, cut_blocks, written_zone}
pub use Rattle.zone_states.specs.Transition.{is_state}
pub use Rattle.zone_states.specs.Writing.{data_checks, state_checks}
pub use Rattle.zone_states.specs.Sending.{blocks_after, zone_after}
use Rattle.zone_report.specs.Report.{report}
use Rattle.drive_port.specs.Drive.{DriveState, IsClosing, active_count, open_count}
use Rattle.drive_port.specs.Durable.{Hardens}

-- what a command gives: its status and result, the bytes that it returns, and the zones that it leaves
pub record Outcome : Type 0 where
  pub status : Status
  pub value : ℕ
  pub returned : List ℕ
  pub zones : List Zone

abbrev pub done : List ℕ → List Zone → Outcome
done returned zones = record { status = Success; value = 0; returned = returned; zones = zones }

-- a command with a failing check is refused with the status of the first of them: it has no effect, its result is 0, and it returns no bytes
abbrev pub unless_refused : Option Status → List Zone → Outcome → Outcome
unless_refused None zones effect = effect
unless_refused (Some status) zones effect = record { status = status; value = 0; returned = []; zones = zones }

-- ---- where a command goes

-- no zone: it is never reached, since an address past the last zone is refused
abbrev pub nowhere : Zone
nowhere = record { state = states.Offline; blocks = [] }

abbrev pub zone_at : List Zone → ℕ → Zone
zone_at zones index = slice_index_or zones index nowhere

-- the addresses of a drive end here
abbrev pub end_of : Geometry → ℕ
end_of geometry = geometry.zones * geometry.size

-- ---- checks, each with its status, in order

-- an Empty zone needs an active and an open resource, a Closed one an open resource
abbrev pub resource_checks : Geometry → List Zone → Zone → List (Bool × Status)
resource_checks geometry zones zone =
    (is_state states.Empty zone.state && nat_le geometry.active (active_count zones), TooManyActiveZones)
    ∷ ((is_state states.Empty zone.state || is_state states.Closed zone.state) && nat_le geometry.open (open_count zones), TooManyOpenZones)
    ∷ []

abbrev pub read_checks : Geometry → Zone → ℕ → ℕ → List (Bool × Status)
read_checks geometry zone slba blocks =
    (nat_lt geometry.transfer blocks, InvalidField)
    ∷ (nat_lt (end_of geometry) (slba + blocks), LbaOutOfRange)
    ∷ (not (slba / geometry.size == (slba + blocks - 1) / geometry.size), ZoneBoundaryError)
    ∷ (is_state states.Offline zone.state, ZoneIsOffline)
    ∷ []

abbrev pub write_checks : Geometry → List Zone → Zone → ℕ → ℕ → List ℕ → List (Bool × Status)
write_checks geometry zones zone slba blocks bytes =
    data_checks geometry blocks bytes
    ++ (nat_lt (end_of geometry) (slba + blocks), LbaOutOfRange)
    ∷ state_checks zone
    ++ (not (slba % geometry.size == length zone.blocks), ZoneInvalidWrite)
    ∷ (nat_lt geometry.capacity (length zone.blocks + blocks), ZoneBoundaryError)
    ∷ resource_checks geometry zones zone

abbrev pub append_checks : Geometry → List Zone → Zone → ℕ → ℕ → List ℕ → List (Bool × Status)
append_checks geometry zones zone zslba blocks bytes =
    data_checks geometry blocks bytes
    ++ (not (zslba % geometry.size == 0), InvalidField)
    ∷ (nat_le (end_of geometry) zslba, LbaOutOfRange)
    ∷ state_checks zone
    ++ (nat_lt geometry.capacity (length zone.blocks + blocks), ZoneBoundaryError)
    ∷ resource_checks geometry zones zone

-- an Open needs the resources that a write does
abbrev pub opening_checks : Action → Geometry → List Zone → Zone → List (Bool × Status)
opening_checks actions.Open geometry zones zone = resource_checks geometry zones zone
opening_checks action geometry zones zone = []

abbrev pub is_refusal : Result ZoneState Status → Bool
is_refusal (Ok state) = false
is_refusal (Err status) = true

abbrev pub send_checks : Geometry → List Zone → Zone → ℕ → Action → List (Bool × Status)
send_checks geometry zones zone slba action =
    (not (slba % geometry.size == 0), InvalidField)
    ∷ (nat_le (end_of geometry) slba, LbaOutOfRange)
    ∷ (is_refusal (state_after zone.state action), InvalidZoneStateTransition)
    ∷ opening_checks action geometry zones zone

abbrev pub receive_checks : Geometry → ℕ → List (Bool × Status)
receive_checks geometry slba = (nat_le (end_of geometry) slba, LbaOutOfRange) ∷ []

-- ---- effects

-- a block of a zone, zeros where it isn't written
abbrev pub block_in : ℕ → List (List ℕ) → ℕ → List ℕ
block_in size blocks offset = slice_index_or blocks offset (replicate size 0)

-- the bytes of that many blocks from an offset on
abbrev pub bytes_from : ℕ → List (List ℕ) → ℕ → ℕ → List ℕ
bytes_from size blocks offset zero = []
bytes_from size blocks offset (suc count) = block_in size blocks offset ++ bytes_from size blocks (offset + 1) count

-- the blocks of a Write or an Append come after the zone's
abbrev pub write_effect : Geometry → List Zone → ℕ → ℕ → List ℕ → List Zone
write_effect geometry zones index blocks bytes =
    slice_set zones index (written_zone geometry.capacity (zone_at zones index) (cut_blocks geometry.block blocks bytes))

-- the states that an action on all zones acts on: the others stay
abbrev pub is_selected : Action → ZoneState → Bool
is_selected actions.Close state = is_state states.ImplicitlyOpened state || is_state states.ExplicitlyOpened state
is_selected actions.Finish state = is_state states.ImplicitlyOpened state || is_state states.ExplicitlyOpened state || is_state states.Closed state
is_selected actions.Reset state =
    is_state states.ImplicitlyOpened state || is_state states.ExplicitlyOpened state
    || is_state states.Closed state || is_state states.Full state
is_selected actions.Offline state = is_state states.ReadOnly state
is_selected actions.Open state = false

abbrev pub sent_zone : Action → Zone → Zone
sent_zone action zone = if is_selected action zone.state then zone_after action zone (state_after zone.state action) else zone

-- ---- the command

abbrev pub decode_status : DecodeFault → Status
decode_status Opcode = InvalidCommandOpcode
decode_status Namespace = InvalidNamespace
decode_status Field = InvalidField

-- what a command gives on these zones
unfoldable pub outcome : Geometry → List Zone → Result Command DecodeFault → List ℕ → Outcome
outcome geometry zones (Err fault) bytes = unless_refused (Some (decode_status fault)) zones (done [] zones)
outcome geometry zones (Ok Flush) bytes = done [] zones
outcome geometry zones (Ok (Read slba blocks)) bytes =
    let zone = zone_at zones (slba / geometry.size) in
    unless_refused (first_failing (read_checks geometry zone slba blocks)) zones
    (done (bytes_from geometry.block zone.blocks (slba % geometry.size) blocks) zones)
outcome geometry zones (Ok (Write slba blocks)) bytes =
    let index = slba / geometry.size in
    unless_refused (first_failing (write_checks geometry zones (zone_at zones index) slba blocks bytes)) zones
    (done [] (write_effect geometry zones index blocks bytes))
outcome geometry zones (Ok (Append zslba blocks)) bytes =
    let index = zslba / geometry.size in
    unless_refused (first_failing (append_checks geometry zones (zone_at zones index) zslba blocks bytes)) zones
    (record (done [] (write_effect geometry zones index blocks bytes)) { value = zslba + length (zone_at zones index).blocks })
outcome geometry zones (Ok (Send slba action true)) bytes = done [] (map (sent_zone action) zones)
outcome geometry zones (Ok (Send slba action false)) bytes =
    let index = slba / geometry.size in
    let zone = zone_at zones index in
    unless_refused (first_failing (send_checks geometry zones zone slba action)) zones
    (done [] (slice_set zones index (zone_after action zone (state_after zone.state action))))
outcome geometry zones (Ok (Receive slba dwords options partial)) bytes =
    unless_refused (first_failing (receive_checks geometry slba)) zones (done (report geometry zones slba options partial dwords) zones)

-- ---- the step

abbrev pub one_if : Bool → ℕ
one_if true = 1
one_if false = 0

abbrev pub is_success : Status → Bool
is_success Success = true
is_success status = false

abbrev pub is_append : Result Command DecodeFault → Bool
is_append (Ok (Append zslba blocks)) = true
is_append command = false

-- What a command does to the zones: with this status, this result and these bytes it leaves the old zones as the new
-- ones. The controller may close implicitly opened zones before the command and after it: by the first closing it makes
-- room where the open limit is met, or doesn't.
pub record Effect (geometry : Geometry) (old : List Zone) (command : Result Command DecodeFault) (bytes : List ℕ)
    (status : Status) (value : ℕ) (returned : List ℕ) (new : List Zone) : Type 0 where
  pub middle : List Zone
  pub before : IsClosing old middle
  pub status_is : status ≡ (outcome geometry middle command bytes).status
  pub value_is : value ≡ (outcome geometry middle command bytes).value
  pub returned_is : returned ≡ (outcome geometry middle command bytes).returned
  pub after : IsClosing (outcome geometry middle command bytes).zones new

-- only a Read asks for what was stored
abbrev pub is_read : Result Command DecodeFault → Bool
is_read (Ok (Read slba blocks)) = true
is_read command = false

-- the drive's word on the bytes that a command returned: always that of a report, and of a Read while it is clean
abbrev pub is_told : Result Command DecodeFault → Bool → Bool
is_told command clean = not (is_read command) || clean

-- A command that was completed: its effect on the zones and on what is durable, and one more in the counts. As many bytes came as the drive holds, and these while it is clean.
pub record Performs (old : DriveState) (command : Result Command DecodeFault) (bytes : List ℕ) (status : Status) (value : ℕ)
    (returned : List ℕ) (new : DriveState) : Type 0 where
  pub held : List ℕ
  pub effect : Effect old.geometry old.zones command bytes status value held new.zones
  pub told : IsTrue (is_told command new.clean) → returned ≡ held
  pub length_is : length returned ≡ length held
  pub trusted : IsTrue new.clean → IsTrue old.clean
  pub fair : IsTrue old.clean → returned ≡ held → IsTrue new.clean
  pub unfailing : new.unfailing ≡ old.unfailing
  pub geometry : new.geometry ≡ old.geometry
  pub completed : new.completed ≡ old.completed + 1
  pub refused : new.refused ≡ old.refused + one_if (not (is_success status))
  pub appended : new.appended ≡ old.appended + one_if (is_append command && is_success status)
  pub hardens : Hardens command old new

-- the step of an entry, whose completion has these bytes
pub record Completes (old : DriveState) (entry bytes completion returned : List ℕ) (new : DriveState) : Type 0 where
  pub status : Status
  pub value : ℕ
  pub fits : value < 2 ^ 64
  pub encoded : completion ≡ completion_bytes (record { result = value; id = id_of entry; status = status })
  pub performs : Performs old (decode_of entry) bytes status value returned new
