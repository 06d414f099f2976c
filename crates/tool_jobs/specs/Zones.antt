-- Zones that are shown.
use Rattle.std.specs.Prelude.{ℕ, ◌+◌, ◌*◌, false, List, ⊤}
use Rattle.nvme_wire.specs.declared.zone_state.ZoneState.{ZoneState}
use Rattle.nvme_wire.specs.declared.command.ReportingOptions.TheVariants.{InState}
use Rattle.zone_report.specs.Report.{report}
use Rattle.zone_report.specs.ReportText.{IsTextOf}
use Rattle.zone_states.specs.Zone.{Zone}
use Rattle.zone_states.specs.declared.geometry.Geometry.{Geometry}
use Rattle.zone_drive.specs.Habits.{MemoryDrive}
use Rattle.job_drives.specs.Kept.{IsReadIn}
use Rattle.tool_jobs.specs.Telling.{Bytes}
use Rattle.tool_jobs.specs.declared.showing.ZonesForm.{ZonesForm}
use Rattle.tool_jobs.specs.declared.showing.ZonesForm.TheVariants.{Lines}

-- the lines of a report of all zones in a state
abbrev pub IsStateText : Geometry → List Zone → ZoneState → List ℕ → Type 0
IsStateText geometry zones state text = IsTextOf (report geometry zones 0 (InState state) false (16 * (geometry.zones + 1))) text

-- The text of a form, for zones of a drive of this shape. Of the other forms nothing is said.
abbrev pub ShowsForm : ZonesForm → Geometry → List Zone → List ℕ → Type 0
ShowsForm (Lines state) geometry zones text = IsStateText geometry zones state text
ShowsForm form geometry zones text = ⊤

-- the same for a drive in memory
abbrev pub ShowsZones : ZonesForm → MemoryDrive → List ℕ → Type 0
ShowsZones form drive text = ShowsForm form drive.state.geometry drive.state.zones text

-- the drive in the file, as it was saved
abbrev pub IsSavedDrive : Bytes → MemoryDrive → Type 0
IsSavedDrive file drive = IsReadIn file drive.state
