-- Zones of a drive that are shown in another form than the lines of a report.
use Rattle.std.specs.Prelude.{◌≡◌, ◌⊎◌, ℕ, List, [], map, replicate, ⊤}
use Rattle.zone_states.specs.Geometry.{IsInRange}
use Rattle.zone_states.specs.Zone.{Zone}
use Rattle.drive_port.specs.Drive.{DriveState}
use Rattle.drive_survey.specs.Reported.{ReportsZones}
use Rattle.drive_survey.specs.declared.reported.ReportedZone.{ReportedZone}
use Rattle.tool_jobs.specs.Checks.{EndsLook, HasFailed, HasStopped}
use Rattle.tool_jobs.specs.Pictures.{FindsLive}
use Rattle.tool_jobs.specs.Zones.{ShowsForm}
use Rattle.tool_jobs.specs.declared.fault.ToolFault.{ToolFault}
use Rattle.tool_jobs.specs.declared.fault.ToolFault.TheVariants.{Memory, Failed, Stopped}
use Rattle.tool_jobs.specs.declared.showing.ZonesForm.{ZonesForm}
use Rattle.tool_jobs.specs.declared.showing.ZonesForm.TheVariants.{Svg}
use Rattle.device_jobs.specs.declared.showing.ShownDrive.{ShownDrive}

-- a zone of which a report tells this: of its blocks only the number is known
abbrev pub zone_like : ReportedZone → Zone
zone_like reported = record { state = reported.state; blocks = replicate reported.blocks [] }

-- a picture shows the live blocks of a drive, and no other form does
abbrev pub IsLiveFor : ZonesForm → DriveState → DriveState → List ℕ → Type 0
IsLiveFor Svg drive last live = FindsLive drive last live
IsLiveFor form drive last live = live ≡ []

-- whatever the Reads returned, only a picture shows any
abbrev pub IsLiveAnyway : ZonesForm → List ℕ → Type 0
IsLiveAnyway Svg live = ⊤
IsLiveAnyway form live = live ≡ []

-- The zones of a drive were reported at a moment, and their live blocks were looked for after that.
pub record IsShownDrive (form : ZonesForm) (old new : DriveState) (shown : ShownDrive) : Type 0 where
  pub middle : DriveState
  pub geometry : shown.geometry ≡ old.geometry
  pub reported : ReportsZones old shown.zones.items middle
  pub live : IsLiveFor form middle new shown.live.items

-- The same whatever the Reads returned: the zones are as a report showed them.
pub record IsShownAnyway (form : ZonesForm) (old : DriveState) (shown : ShownDrive) : Type 0 where
  pub middle : DriveState
  pub geometry : shown.geometry ≡ old.geometry
  pub reported : ReportsZones old shown.zones.items middle
  pub live : IsLiveAnyway form shown.live.items

-- the text of a form, for the zones as they were reported
abbrev pub ShowsDrive : ZonesForm → ShownDrive → List ℕ → Type 0
ShowsDrive form shown text = ShowsForm form shown.geometry (map zone_like shown.zones.items) text

-- why they are not shown: the drive has stopped, or failed at a command, or its shape is out of range, or memory ran out
abbrev pub IsUnshown : DriveState → DriveState → ToolFault → Type 0
IsUnshown old new Stopped = HasStopped new ⊎ (IsInRange old.geometry → ⊥)
IsUnshown old new Failed = HasFailed new
IsUnshown old new Memory = ⊤
IsUnshown old new fault = ⊥

-- Whatever the Reads returned, a look for live blocks ends by one of its faults. In any other form no block is read.
abbrev pub IsUnshownAnyway : ZonesForm → DriveState → DriveState → ToolFault → Type 0
IsUnshownAnyway Svg old new fault = EndsLook fault
IsUnshownAnyway form old new fault = IsUnshown old new fault
