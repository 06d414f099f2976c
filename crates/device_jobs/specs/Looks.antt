-- What is found of the drive behind a device that is only looked at.
use Rattle.std.specs.Prelude.{◌≡◌, ℕ, Bool, is_none, ⊤}
use Rattle.drive_port.specs.Drive.{DriveState}
use Rattle.drive_inspection.specs.Findings.{AreByReport, AreFindings}
use Rattle.drive_inspection.specs.declared.finding.Findings.{Findings}
use Rattle.tool_jobs.specs.Checks.{HasFailed, HasStopped}
use Rattle.tool_jobs.specs.declared.fault.ToolFault.{ToolFault}
use Rattle.tool_jobs.specs.declared.fault.ToolFault.TheVariants.{Memory, Failed, Stopped}

-- these are all faults of the drive, and this is whether a mount of it would be done
abbrev pub AreFindingsOf : DriveState → DriveState → ℕ → Bool → Findings → Type 0
AreFindingsOf drive last blocks mountable findings = AreFindings drive last blocks findings × (mountable ≡ is_none findings.refusal)

-- whatever the Reads returned, these agree with the reports of the drive, and this is whether they refuse nothing
abbrev pub AreReportedOf : DriveState → Bool → Findings → Type 0
AreReportedOf drive mountable findings = AreByReport drive findings × (mountable ≡ is_none findings.refusal)

-- why a drive was not asked to its end: memory ran out, or it has stopped, or failed at a command
abbrev pub IsUnasked : DriveState → ToolFault → Type 0
IsUnasked last Memory = ⊤
IsUnasked last Stopped = HasStopped last
IsUnasked last Failed = HasFailed last
IsUnasked last fault = ⊥
