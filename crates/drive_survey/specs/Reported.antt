-- What a report tells of the zones of a drive, and what a look at a drive keeps.
use Rattle.std.specs.Prelude.{IsTrue, ◌≡◌, ℕ, ◌<◌, ◌^◌, true, false, List, [], ◌∷◌, length}
use Rattle.std.specs.List.{AllByRecursion, flat_map}
use Rattle.nvme_wire.specs.declared.descriptor.Descriptor.{Descriptor}
use Rattle.nvme_wire.specs.declared.command.ReportingOptions.TheVariants.{AnyState}
use Rattle.nvme_wire.specs.Descriptor.{descriptor_bytes}
use Rattle.zone_report.specs.Report.{descriptor_of, matching, zone_status}
use Rattle.zone_states.specs.declared.geometry.Geometry.{Geometry}
use Rattle.zone_states.specs.Geometry.{IsInRange}
use Rattle.zone_states.specs.Transition.{is_open}
use Rattle.zone_states.specs.Zone.{IsLawfulZone, Zone}
use Rattle.drive_port.specs.Contents.{content_at, content_of, contents, is_usable, usage_of}
use Rattle.drive_port.specs.Drive.{DriveState, IsClosing, IsLawful}
use Rattle.drive_survey.specs.declared.reported.ReportedZone.{ReportedZone}
use Rattle.zone_choice.specs.Agreement.{IsShut}
use Rattle.drive_array.specs.ZoneLogs.{readable}

-- What a report and Reads keep of a drive: all but that its controller may close zones. No command was refused, and nothing was appended.
-- A drive that returned a lie, or failed at a command, has done so from then on.
pub record KeepsZones (old new : DriveState) : Type 0 where
  pub geometry : new.geometry ≡ old.geometry
  pub lawful : IsLawful new
  pub closing : IsClosing old.zones new.zones
  pub trusted : IsTrue new.clean → IsTrue old.clean
  pub unfailing : IsTrue new.unfailing → IsTrue old.unfailing
  pub refused : new.refused ≡ old.refused
  pub durable : new.durable ≡ old.durable
  pub appended : new.appended ≡ old.appended

-- A zone was reported: in its state of that moment, and with the number of its readable blocks, if it can be used.
pub record IsReported (geometry : Geometry) (zone : Zone) (reported : ReportedZone) : Type 0 where
  pub state : reported.state ≡ zone.state
  pub blocks : is_usable (usage_of zone.state) ≡ true → reported.blocks ≡ length (readable geometry (content_of zone))

abbrev pub AreReported : Geometry → List Zone → List ReportedZone → Type 0
AreReported geometry [] [] = Unit {0}
AreReported geometry (zone ∷ zones) (reported ∷ others) = IsReported geometry zone reported × AreReported geometry zones others
AreReported geometry zones others = ⊥

-- A descriptor is that of a lawful zone, which has this capacity.
pub record DescribesZone (geometry : Geometry) (capacity : ℕ) (zone : Zone) (descriptor : Descriptor) : Type 0 where
  pub capacity_is : capacity ≡ geometry.capacity
  pub small : capacity < 2 ^ 32
  pub lawful : IsLawfulZone geometry zone
  pub number : ℕ
  pub is : descriptor ≡ descriptor_of geometry number (zone_status zone)

-- These bytes are the descriptors of lawful zones, all that a drive has.
pub record TellsZones (geometry : Geometry) (capacity : ℕ) (zones : List Zone) (bytes : List ℕ) : Type 0 where
  pub in_range : IsInRange geometry
  pub capacity_is : capacity ≡ geometry.capacity
  pub count : length zones ≡ geometry.zones
  pub lawful : AllByRecursion (IsLawfulZone geometry) zones
  pub bytes_are : bytes ≡ flat_map descriptor_bytes (matching geometry AnyState 0 zones)

-- These are the zones as they were at a moment of the call: a closing of those before it, which those after it are a closing of.
pub record ReportsZones (old : DriveState) (reported : List ReportedZone) (new : DriveState) : Type 0 where
  pub zones : List Zone
  pub before : IsClosing old.zones zones
  pub after : IsClosing zones new.zones
  pub are : AreReported old.geometry zones reported

-- A zone of a lawful drive, with a geometry in range, that can be used: how far it is used, and the number of its
-- readable blocks are known. Unless it was reported open, it is not.
pub record IsKnown (drive : DriveState) (zone : ℕ) (reported : ReportedZone) : Type 0 where
  pub geometry : IsInRange drive.geometry
  pub lawful : IsLawful drive
  pub in_range : zone < length drive.zones
  pub usage : (content_at (contents drive.zones) zone).usage ≡ usage_of reported.state
  pub usable : is_usable (usage_of reported.state) ≡ true
  pub blocks : reported.blocks ≡ length (readable drive.geometry (content_at (contents drive.zones) zone))
  pub shut : is_open reported.state ≡ false → IsShut drive.zones zone
