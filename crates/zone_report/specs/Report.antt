-- The report of a list of zones: a head of 64 bytes, whole descriptors of the matching zones in ascending order, and zeros up to the end of the buffer.
use Rattle.std.specs.Prelude.{ℕ, ◌+◌, ◌-◌, ◌*◌, ◌/◌, ◌<◌, ◌≤◌, ◌==◌, if◌then◌else◌, Bool, true, List}
use Rattle.std.specs.Prelude.{[], ◌∷◌, ◌++◌, length, take, drop, replicate, Option, Some, None}
use Rattle.std.specs.List.{flat_map}
use Rattle.nvme_wire.specs.declared.zone_state.ZoneState.{ZoneState}
use Rattle.nvme_wire.specs.declared.zone_state.ZoneState.TheVariants.{ReadOnly, Full, Offline}
use Rattle.nvme_wire.specs.declared.command.ReportingOptions.{ReportingOptions}
use Rattle.nvme_wire.specs.declared.command.ReportingOptions.TheVariants.{AnyState, InState}
use Rattle.nvme_wire.specs.declared.descriptor.Descriptor.{Descriptor}
use Rattle.nvme_wire.specs.Descriptor.{state_code, descriptor_bytes, report_head_bytes}
use Rattle.zone_states.specs.declared.geometry.Geometry.{Geometry}
use Rattle.zone_states.specs.Zone.{Zone}
use Rattle.zone_report.specs.declared.status.ZoneStatus.{ZoneStatus}
use Rattle.zone_report.specs.declared.fault.ReportFault.{ReportFault}
use Rattle.zone_report.specs.declared.fault.ReportFault.TheVariants.{Field, Range, OutOfMemory}

-- what a report says of a zone
abbrev pub zone_status : Zone → ZoneStatus
zone_status zone = record { state = zone.state; written = length zone.blocks }

-- whether a zone in this state is named
abbrev pub is_chosen : ReportingOptions → ZoneState → Bool
is_chosen AnyState state = true
is_chosen (InState chosen) state = state_code chosen == state_code state

-- the address that is written next, in the states that have one
abbrev pub pointer_of : ZoneState → ℕ → Option ℕ
pointer_of Full next = None
pointer_of ReadOnly next = None
pointer_of Offline next = None
pointer_of state next = Some next

-- the descriptor of the zone with a number
abbrev pub descriptor_of : Geometry → ℕ → ZoneStatus → Descriptor
descriptor_of geometry number zone = record {
  state = zone.state;
  capacity = geometry.capacity;
  start = number * geometry.size;
  pointer = pointer_of zone.state (number * geometry.size + zone.written);
}

-- the descriptors of the zones that are named, the first zone of the list with a number
abbrev pub matching : Geometry → ReportingOptions → ℕ → List Zone → List Descriptor
matching geometry options number [] = []
matching geometry options number (zone ∷ zones) =
    if is_chosen options zone.state then descriptor_of geometry number (zone_status zone) ∷ matching geometry options (number + 1) zones
    else matching geometry options (number + 1) zones

-- how many descriptors have room in a buffer after the head
abbrev pub descriptor_room : ℕ → ℕ
descriptor_room dwords = (4 * dwords - 64) / 64

-- the report of the zones from the one that holds an address on, in a buffer of that many dwords; a partial report counts the descriptors that it shows
abbrev pub report : Geometry → List Zone → ℕ → ReportingOptions → Bool → ℕ → List ℕ
report geometry zones address options partial dwords =
    let first = address / geometry.size in
    let named = matching geometry options first (drop first zones) in
    let shown = take (descriptor_room dwords) named in
    report_head_bytes (record { zones = if partial then length shown else length named })
    ++ flat_map descriptor_bytes shown
    ++ replicate (4 * dwords - 64 - 64 * length shown) 0

-- there is room for the head, and a zone holds the address
abbrev pub CanReport : Geometry → ℕ → ℕ → Type 0
CanReport geometry address dwords = (16 ≤ dwords) × (address < geometry.zones * geometry.size)

-- why there is no report: the first that holds, or an allocation failed if none does
abbrev pub CannotReport : Geometry → ℕ → ℕ → ReportFault → Type 0
CannotReport geometry address dwords Field = dwords < 16
CannotReport geometry address dwords Range = (16 ≤ dwords) × (geometry.zones * geometry.size ≤ address)
CannotReport geometry address dwords OutOfMemory = CanReport geometry address dwords
