-- Why there is no drive.
use Rattle.std.specs.Prelude.{◌≡◌, List, Some}
use Rattle.zone_states.specs.declared.geometry.Geometry.{Geometry}
use Rattle.zone_states.specs.Checks.{first_failing}
use Rattle.zone_states.specs.Geometry.{IsInRange, geometry_checks}
use Rattle.zone_states.specs.Stored.{StoredZone}
use Rattle.zone_drive.specs.Stored.{AreZones}
use Rattle.zone_drive.specs.declared.drive.DriveFault.{DriveFault}
use Rattle.zone_drive.specs.declared.drive.DriveFault.TheVariants as faults

-- The first part of the geometry that is out of range; or, if none is, zones that a drive of it can't have.
abbrev pub IsFault : Geometry → List StoredZone → DriveFault → Type 0
IsFault geometry zones (faults.Geometry fault) = first_failing (geometry_checks geometry) ≡ Some fault
IsFault geometry zones faults.Zones = IsInRange geometry × ¬ AreZones geometry zones
IsFault geometry zones faults.OutOfMemory = ⊥

-- The same of a fresh drive, for which an allocation may fail.
abbrev pub IsFreshFault : Geometry → DriveFault → Type 0
IsFreshFault geometry (faults.Geometry fault) = first_failing (geometry_checks geometry) ≡ Some fault
IsFreshFault geometry faults.OutOfMemory = IsInRange geometry
IsFreshFault geometry faults.Zones = ⊥
