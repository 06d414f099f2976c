-- A drive that is asked, and what interrupts that.
use Rattle.std.proofs.Common.{◌≡◌, inl, inr, ℕ, subst, Bool, true, false, Option, Some, None, refl}
use Rattle.std.specs.Prelude.{is_none, is_some, not}
use Rattle.zone_drive.specs.Habits.{MemoryDrive}
use Rattle.zone_drive.specs.declared.habit.Habit.{Habit}
use Rattle.drive_port.specs.Drive.{DriveState}
use Rattle.drive_survey.specs.declared.fault.MountFault.{MountFault}
use Rattle.drive_survey.specs.Reported.{KeepsZones}
use Rattle.drive_survey.specs.Scan.{IsInterruption}
use Rattle.drive_inspection.specs.Findings.{AreFindings}
use Rattle.drive_inspection.specs.declared.finding.Findings.{Findings}
use Rattle.job_drives.specs.Kept.{IsReadIn, IsRestarted}
use Rattle.job_drives.specs.declared.kept_drive.Begun.{Begun}
use Rattle.tool_jobs.specs.Telling.{Bytes}
use Rattle.tool_jobs.specs.Checks.{AsksNone, FindsFaults, HaltsInFile, HasFailed, HasStopped, IsInterrupted}
use Rattle.tool_jobs.specs.declared.fault.ToolFault.{ToolFault}

module _ (file : Bytes) (habit : Habit) (begun : Begun) (begins : IsRestarted file habit begun) where
  read-in : IsReadIn file begins.opened
  read-in = record { whole = begun.whole; sum = begun.sum; is_file = begins.is_file }

  -- all of its faults are found
  pub faults-found : (last : DriveState) (blocks : ℕ) (findings : Findings) → KeepsZones begun.drive.state last → AreFindings begun.drive.state last blocks findings → FindsFaults file blocks findings
  faults-found last blocks findings keeps are = record {
    saved = begins.opened;
    is_read = read-in;
    last = last;
    keeps = subst (λ (drive : MemoryDrive). KeepsZones drive.state last) begins.drive_is keeps;
    are = subst (λ (drive : MemoryDrive). AreFindings drive.state last blocks findings) begins.drive_is are;
  }

  halts-in : (Halts : DriveState → Type 0) (last : DriveState) → KeepsZones begun.drive.state last → Halts last → HaltsInFile Halts file
  halts-in Halts last keeps halts = record {
    saved = begins.opened;
    is_read = read-in;
    last = last;
    keeps = subst (λ (drive : MemoryDrive). KeepsZones drive.state last) begins.drive_is keeps;
    halts = halts;
  }

  -- it was not asked to its end
  pub not-asked : (last : DriveState) (cause : MountFault) (fault : ToolFault) → KeepsZones begun.drive.state last → IsInterrupted cause fault → IsInterruption last cause → AsksNone file fault
  not-asked last cause fault keeps told (inl memory) = rw (rw memory at told) tt
  not-asked last cause fault keeps told (inr (inl (inl stopped))) = rw (rw stopped.0 at told) (halts-in HasStopped last keeps stopped.1)
  not-asked last cause fault keeps told (inr (inl (inr failed))) = rw (rw failed.0 at told) (halts-in HasFailed last keeps failed.1)
  not-asked last cause fault keeps told (inr (inr none)) = absurd none

-- nothing refuses it
pub none-refuses : (refusal : Option MountFault) (mountable : Bool) → is_some refusal ≡ not mountable → mountable ≡ is_none refusal
none-refuses None true is = refl
none-refuses None false is = absurd (cc is)
none-refuses (Some fault) true is = absurd (cc is)
none-refuses (Some fault) false is = refl
