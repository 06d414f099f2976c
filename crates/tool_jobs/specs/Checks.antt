-- Checks of the drive in a file.
use Rattle.std.specs.Prelude.{◌≡◌, ℕ, Bool, true, is_none, IsFalse, ⊤}
use Rattle.drive_port.specs.Drive.{DriveState}
use Rattle.drive_port.specs.Run.{restarted}
use Rattle.drive_survey.specs.declared.fault.MountFault.{MountFault}
use Rattle.drive_survey.specs.declared.fault.MountFault.TheVariants as mounts
use Rattle.drive_survey.specs.Reported.{KeepsZones}
use Rattle.drive_inspection.specs.Findings.{AreFindings}
use Rattle.drive_inspection.specs.declared.finding.Findings.{Findings}
use Rattle.job_drives.specs.Kept.{IsReadIn}
use Rattle.tool_jobs.specs.Telling.{Bytes, HoldsNone}
use Rattle.tool_jobs.specs.declared.fault.ToolFault.{ToolFault}
use Rattle.tool_jobs.specs.declared.fault.ToolFault.TheVariants.{Damaged, Stopped, Failed, Memory}

-- what an interruption is to a tool
abbrev pub IsInterrupted : MountFault → ToolFault → Type 0
IsInterrupted mounts.OutOfMemory fault = fault ≡ Memory
IsInterrupted mounts.Failed fault = fault ≡ Failed
IsInterrupted mounts.Damaged fault = fault ≡ Damaged
IsInterrupted cause fault = fault ≡ Stopped

-- A fault of a look that tells nothing of what the drive holds: memory ran out, the drive has stopped, it failed at a
-- command, or what it returned does not fit together.
abbrev pub EndsLook : ToolFault → Type 0
EndsLook Memory = ⊤
EndsLook Stopped = ⊤
EndsLook Failed = ⊤
EndsLook Damaged = ⊤
EndsLook fault = ⊥

-- These are all the faults of the drive that the file holds, once it is restarted. They refuse nothing exactly where a
-- mount of that many logical blocks would be done.
pub record FindsFaults (file : Bytes) (blocks : ℕ) (findings : Findings) : Type 0 where
  pub saved : DriveState
  pub is_read : IsReadIn file saved
  pub last : DriveState
  pub keeps : KeepsZones (restarted saved) last
  pub are : AreFindings (restarted saved) last blocks findings

-- these are the faults, and this is whether a mount would be done
abbrev pub FindsMountable : Bytes → ℕ → Bool → Findings → Type 0
FindsMountable file blocks mountable findings = FindsFaults file blocks findings × (mountable ≡ is_none findings.refusal)

-- a drive has stopped; or it failed at a command
abbrev pub HasStopped : DriveState → Type 0
HasStopped drive = drive.stopped ≡ true

abbrev pub HasFailed : DriveState → Type 0
HasFailed drive = IsFalse drive.unfailing

-- the drive in the file, restarted, came to this once it was asked
pub record HaltsInFile (Halts : DriveState → Type 0) (file : Bytes) : Type 0 where
  pub saved : DriveState
  pub is_read : IsReadIn file saved
  pub last : DriveState
  pub keeps : KeepsZones (restarted saved) last
  pub halts : Halts last

-- Why a drive is not asked to its end: the bytes hold none, by their first fault; or it has stopped, or failed at a
-- command, or memory ran out.
abbrev pub AsksNone : Bytes → ToolFault → Type 0
AsksNone file Stopped = HaltsInFile HasStopped file
AsksNone file Failed = HaltsInFile HasFailed file
AsksNone file Memory = ⊤
AsksNone file fault = HoldsNone file fault
