-- Zones that are shown by a report of a drive.
use Rattle.std.specs.Prelude.{◌≡◌, ◌⊎◌, ℕ, ◌+◌, ◌*◌, ◌^◌, min, true, false, List, Option, Some, None}
use Rattle.std.specs.Io.KnownBytes.{Appends}
use Rattle.nvme_wire.specs.declared.zone_state.ZoneState.{ZoneState}
use Rattle.nvme_wire.specs.declared.command.ReportingOptions.{ReportingOptions}
use Rattle.nvme_wire.specs.declared.command.ReportingOptions.TheVariants.{AnyState, InState}
use Rattle.zone_states.specs.declared.geometry.Geometry.{Geometry}
use Rattle.zone_states.specs.Zone.{Zone}
use Rattle.zone_report.specs.Report.{report}
use Rattle.zone_report.specs.ReportText.{IsTextOf}
use Rattle.drive_port.specs.Drive.{DriveState, IsClosing}
use Rattle.drive_port.specs.Step.{end_of}
use Rattle.disk_files.specs.Output.{AppendsFront}
use Rattle.disk_runs.specs.Run.{Known}
use Rattle.tool_jobs.specs.Checks.{HasFailed}
use Rattle.tool_jobs.specs.declared.fault.ToolFault.{ToolFault}
use Rattle.tool_jobs.specs.declared.fault.ToolFault.TheVariants.{Memory, Failed, Output, Stopped}

-- which zones are reported: those in a state, or all
abbrev pub options_for : Option ZoneState → ReportingOptions
options_for (Some state) = InState state
options_for None = AnyState

-- how many dwords a report of all zones has, but no more than a command can ask for
abbrev pub report_dwords : Geometry → ℕ
report_dwords geometry = min (16 * (geometry.zones + 1)) (2 ^ 32)

-- This is the text of a report of these zones, as they were at a moment of the call: a closing of those before it, which those after it are a closing of.
pub record IsReportText (old : DriveState) (options : ReportingOptions) (new : DriveState) (text : List ℕ) : Type 0 where
  pub zones : List Zone
  pub before : IsClosing old.zones zones
  pub is_text : IsTextOf (report old.geometry zones 0 options false (report_dwords old.geometry)) text
  pub after : IsClosing zones new.zones

-- such a text is written, and nothing else
abbrev pub TellsReport : DriveState → ReportingOptions → DriveState → Known → Known → Type 0
TellsReport old options new written contents = (text : List ℕ) × IsReportText old options new text × Appends written contents text

-- why a drive gives no report: it has stopped, or it has no zone
abbrev pub GivesNoReport : DriveState → DriveState → Type 0
GivesNoReport old new = (new.stopped ≡ true) ⊎ (end_of old.geometry ≡ 0)

-- Why it is not written to its end: the writer failed within it. Else nothing is written: memory ran out, or there is no report.
abbrev pub IsUnreported : DriveState → ReportingOptions → ToolFault → DriveState → Known → Known → Type 0
IsUnreported old options Output new written contents = (text : List ℕ) × IsReportText old options new text × AppendsFront written contents text
IsUnreported old options Memory new written contents = contents ≡ written
IsUnreported old options Stopped new written contents = GivesNoReport old new × (contents ≡ written)
IsUnreported old options Failed new written contents = HasFailed new × (contents ≡ written)
IsUnreported old options fault new written contents = ⊥
