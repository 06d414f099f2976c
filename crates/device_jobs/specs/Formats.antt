-- A format of the drive behind a device.
use Rattle.std.specs.Prelude.{◌≡◌, ◌⊎◌, ℕ, ◌<◌, Bool, true, false, not, List, length, count_by, slice_get, Some, ⊤}
use Rattle.zone_states.specs.Geometry.{IsInRange}
use Rattle.drive_port.specs.Contents.{content_at, contents, emptied, is_usable, unusable, usage_of}
use Rattle.drive_port.specs.Drive.{DriveState, IsLawful}
use Rattle.drive_survey.specs.Reported.{KeepsZones}
use Rattle.drive_survey.specs.declared.fault.MountFault.{MountFault}
use Rattle.drive_survey.specs.declared.fault.MountFault.TheVariants.{Failed, OutOfMemory}
use Rattle.drive_survey.specs.declared.reported.ReportedZone.{ReportedZone}
use Rattle.disk_files.specs.Output.{AppendsFront}
use Rattle.disk_files.specs.Reply.{ok_text}
use Rattle.disk_runs.specs.Run.{Known}
use Rattle.drive_inspection.specs.Written.{AreAllEmpty, AreEmptyBelow, CountsWritten, IsWritten, is_written, written_count}
use Rattle.tool_jobs.specs.Checks.{HasFailed, HasStopped}
use Rattle.tool_jobs.specs.declared.fault.ToolFault.{ToolFault}
use Rattle.tool_jobs.specs.declared.fault.ToolFault.TheVariants as tools
use Rattle.device_jobs.specs.declared.format_fault.FormatFault.{FormatFault}
use Rattle.device_jobs.specs.declared.format_fault.FormatFault.TheVariants as faults

-- ---- zones

-- whether a zone was reported Read Only or Offline
abbrev pub is_unusable : ReportedZone → Bool
is_unusable one = not (is_usable (usage_of one.state))

-- the zone of this number was
abbrev pub IsUnusable : List ReportedZone → ℕ → Type 0
IsUnusable reported zone = (one : ReportedZone) × (slice_get reported zone ≡ Some one) × (is_unusable one ≡ true)

abbrev pub NoneIsUnusable : List ReportedZone → Type 0
NoneIsUnusable reported = (zone : ℕ) (one : ReportedZone) → slice_get reported zone ≡ Some one → is_unusable one ≡ false

-- this zone is Read Only or Offline
abbrev pub IsUnusableAt : DriveState → ℕ → Type 0
IsUnusableAt drive zone = (zone < length drive.zones) × ((content_at (contents drive.zones) zone).usage ≡ unusable)

-- Each zone holds what it held, or is Empty.
pub record OnlyEmpties (old new : DriveState) : Type 0 where
  pub geometry : new.geometry ≡ old.geometry
  pub zones : (zone : ℕ) → (content_at (contents new.zones) zone ≡ content_at (contents old.zones) zone) ⊎ (content_at (contents new.zones) zone ≡ emptied)

-- a drive with a geometry in range has these zones, each used as it was reported
pub record AreUsages (drive : DriveState) (reported : List ReportedZone) : Type 0 where
  pub range : IsInRange drive.geometry
  pub lawful : IsLawful drive
  pub count : length reported ≡ drive.geometry.zones
  pub written : count_by is_written reported ≡ written_count drive
  pub used : (zone : ℕ) (one : ReportedZone) → slice_get reported zone ≡ Some one → (content_at (contents drive.zones) zone).usage ≡ usage_of one.state

-- ---- why a drive is not formatted

-- what the fault of a look is to a format, and that of a report
abbrev pub unlooked : ToolFault → FormatFault
unlooked tools.Memory = faults.Memory
unlooked tools.Failed = faults.Failed
unlooked tools.Damaged = faults.Damaged
unlooked fault = faults.Stopped

abbrev pub unreported : MountFault → FormatFault
unreported OutOfMemory = faults.Memory
unreported Failed = faults.Failed
unreported fault = faults.Stopped

-- it was not looked at to its end: memory ran out, or the drive has stopped, or failed at a command
abbrev pub IsUnlooked : DriveState → FormatFault → Type 0
IsUnlooked last faults.Memory = ⊤
IsUnlooked last faults.Stopped = HasStopped last
IsUnlooked last faults.Failed = HasFailed last
IsUnlooked last fault = ⊥

-- whatever the Reads returned, only these faults end a look
abbrev pub IsOfLook : FormatFault → Type 0
IsOfLook faults.Memory = ⊤
IsOfLook faults.Stopped = ⊤
IsOfLook faults.Failed = ⊤
IsOfLook faults.Damaged = ⊤
IsOfLook fault = ⊥

-- its zones are not known
abbrev pub IsUnlisted : DriveState → DriveState → FormatFault → Type 0
IsUnlisted old new faults.Limits = IsInRange old.geometry → ⊥
IsUnlisted old new fault = IsUnlooked new fault

-- it is this zone that was not reset
abbrev pub IsResetOf : ℕ → FormatFault → Type 0
IsResetOf number (faults.Reset zone cause) = zone ≡ number
IsResetOf number fault = ⊥

-- this zone was not reset, and those before it are Empty
abbrev pub IsUnreset : DriveState → FormatFault → Type 0
IsUnreset new (faults.Reset zone cause) = AreEmptyBelow zone new
IsUnreset new fault = ⊥

-- it was not told that all is done
abbrev pub IsUnsaid : FormatFault → Type 0
IsUnsaid faults.Memory = ⊤
IsUnsaid faults.Output = ⊤
IsUnsaid fault = ⊥

-- Without force it holds something. A zone is reset with force alone, and only after it was told what is lost.
abbrev pub IsUnformatted : Bool → DriveState → DriveState → FormatFault → Type 0
IsUnformatted force old new (faults.Written written) = (force ≡ false) × CountsWritten old written × KeepsZones old new
IsUnformatted force old new (faults.Unusable zone) = IsUnusableAt old zone × KeepsZones old new
IsUnformatted force old new faults.Untold = (force ≡ true) × KeepsZones old new
IsUnformatted force old new (faults.Reset zone cause) = (force ≡ true) × AreEmptyBelow zone new
IsUnformatted force old new faults.Output = AreAllEmpty new
IsUnformatted force old new faults.Limits = (IsInRange old.geometry → ⊥) × KeepsZones old new
IsUnformatted force old new faults.Stopped = KeepsZones old new
IsUnformatted force old new faults.Failed = KeepsZones old new
IsUnformatted force old new faults.Damaged = KeepsZones old new
IsUnformatted force old new faults.Memory = KeepsZones old new ⊎ AreAllEmpty new

-- While the drive is clean: it holds what is told, it has stopped, or it failed at a command. Then nothing is told as
-- Damaged.
abbrev pub HasFormatCause : DriveState → DriveState → FormatFault → Type 0
HasFormatCause old new (faults.Written written) = IsWritten old new written
HasFormatCause old new faults.Stopped = HasStopped new
HasFormatCause old new faults.Failed = HasFailed new
HasFormatCause old new faults.Damaged = ⊥
HasFormatCause old new fault = ⊤

-- what is written of a format that is not done: nothing, or a beginning of `ok` where the writer failed
abbrev pub SaysNoOk : FormatFault → Known → Known → Type 0
SaysNoOk faults.Output written contents = (contents ≡ written) ⊎ AppendsFront written contents ok_text
SaysNoOk fault written contents = contents ≡ written
