-- The status word of a completion: status code and status code type in bits 31:16 of dword 3, whose bit 16, the phase
-- tag, is 0 here (Base Specification 2.0, sections 3.3.3.2 and 3.3.3.2.1).
use Rattle.std.specs.Prelude.{ℕ, ◌==◌, if◌then◌else◌, Option, Some, None}
use Rattle.nvme_wire.specs.declared.status.Status.{Status}
use Rattle.nvme_wire.specs.declared.status.Status.TheVariants.{Success, InvalidCommandOpcode, InvalidField, InvalidNamespace, LbaOutOfRange}
use Rattle.nvme_wire.specs.declared.status.Status.TheVariants.{ZoneBoundaryError, ZoneIsFull, ZoneIsReadOnly, ZoneIsOffline, ZoneInvalidWrite}
use Rattle.nvme_wire.specs.declared.status.Status.TheVariants.{TooManyActiveZones, TooManyOpenZones, InvalidZoneStateTransition}

abbrev pub status_code : Status → ℕ
status_code Success = 0
status_code InvalidCommandOpcode = 0x0002
status_code InvalidField = 0x0004
status_code InvalidNamespace = 0x0016
status_code LbaOutOfRange = 0x0100
status_code ZoneBoundaryError = 0x0370
status_code ZoneIsFull = 0x0372
status_code ZoneIsReadOnly = 0x0374
status_code ZoneIsOffline = 0x0376
status_code ZoneInvalidWrite = 0x0378
status_code TooManyActiveZones = 0x037a
status_code TooManyOpenZones = 0x037c
status_code InvalidZoneStateTransition = 0x037e

-- the status with a code
abbrev pub status_of : ℕ → Option Status
status_of code =
    if code == 0 then Some Success
    else if code == 0x0002 then Some InvalidCommandOpcode
    else if code == 0x0004 then Some InvalidField
    else if code == 0x0016 then Some InvalidNamespace
    else if code == 0x0100 then Some LbaOutOfRange
    else if code == 0x0370 then Some ZoneBoundaryError
    else if code == 0x0372 then Some ZoneIsFull
    else if code == 0x0374 then Some ZoneIsReadOnly
    else if code == 0x0376 then Some ZoneIsOffline
    else if code == 0x0378 then Some ZoneInvalidWrite
    else if code == 0x037a then Some TooManyActiveZones
    else if code == 0x037c then Some TooManyOpenZones
    else if code == 0x037e then Some InvalidZoneStateTransition
    else None
