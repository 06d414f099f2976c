-- How the program ends.
use Rattle.std.specs.Prelude.{◌≡◌, ◌⊎◌, ◌&&◌, Bool, true, false, Option, Some, None, Result, Ok, Err, codes, is_none, is_some, ⊤}
use Rattle.std.specs.Io.KnownBytes.{Appends}
use Rattle.std.specs.Process.{exit_status}
use Rattle.asked_tasks.specs.declared.task.Task.{Task}
use Rattle.asked_tasks.specs.declared.task.Task.TheVariants.{Convert, Device}
use Rattle.disk_files.specs.Output.{AppendsFront}
use Rattle.disk_runs.specs.Run.{Known}
use Rattle.nbd_jobs.specs.declared.fault.NbdFault.{NbdFault}
use Rattle.job_drives.specs.declared.new_file.Saved.{Saved}
use Rattle.device_jobs.specs.declared.hardening.HardenFault.{HardenFault}
use Rattle.device_jobs.specs.declared.job.DeviceJob.{DeviceJob}
use Rattle.device_jobs.specs.declared.job.DeviceJob.TheVariants.{Create, Rescue}
use Rattle.drive_rescue.specs.declared.giving.Rescued.{Rescued}
use Rattle.drive_inspection.specs.declared.finding.Findings.{Findings}
use Rattle.tail_repair.specs.declared.fault.RepairFault.{RepairFault}
use Rattle.repair_jobs.specs.declared.fault.RepairJobFault.{RepairJobFault}
use Rattle.repair_jobs.specs.declared.mending.Mended.{Mended}
use Rattle.rescue_jobs.specs.Jobs.{is_whole}
use Rattle.rescue_jobs.specs.declared.fault.RescueJobFault.{RescueJobFault}
use Rattle.std.specs.declared.process.ExitCode.{ExitCode}
use Rattle.zonedisk_program.specs.InPlace.{counterpart}
use Rattle.zonedisk_program.specs.declared.repairing.Unkept.{Unkept}

-- what a program has: a way to the drives behind devices, and one to those that stay in their files
pub record Ways : Type 0 where
  pub devices : Bool
  pub files : Bool

-- whether a task is a job on a device
abbrev pub is_device : Task → Bool
is_device (Device job) = true
is_device task = false

-- whether a job on a device makes a new drive that stays in its file
abbrev pub is_new : DeviceJob → Bool
is_new (Create path geometry) = true
is_new job = false

-- whether there is a way to the drive of a job: a new one is in a file, and any other behind a device
abbrev pub way_of : Bool → Ways → Bool
way_of true ways = ways.files
way_of false ways = ways.devices

-- the same of a rescue: it opens a device, and if it makes a new drive, that one is in a file
abbrev pub way_of_rescue : Bool → Ways → Bool
way_of_rescue true ways = ways.devices && ways.files
way_of_rescue false ways = ways.devices

abbrev pub reaches : Ways → DeviceJob → Bool
reaches ways (Rescue job) = way_of_rescue (is_some job.to) ways
reaches ways job = way_of (is_new job) ways

-- what needs a way ends with the status 1 if there is none
abbrev pub EndsBy : Bool → ExitCode → Type 0
EndsBy has_way ended = has_way ≡ false → exit_status ended ≡ 1

-- A job on a device, or on a new drive in a file, needs a way to it. A drive that is put into another file needs a way
-- to such files.
abbrev pub EndsTask : Ways → Task → ExitCode → Type 0
EndsTask ways (Device job) ended = EndsBy (reaches ways job) ended
EndsTask ways (Convert job) ended = EndsBy ways.files ended
EndsTask ways task ended = ⊤

-- The same of a job on a drive that stays in its file. Where there is no such job, it ends with the status 1.
abbrev pub EndsJob : Ways → Option DeviceJob → ExitCode → Type 0
EndsJob ways (Some job) ended = EndsBy ways.files ended
EndsJob ways None ended = exit_status ended ≡ 1

-- A task whose file begins as such a drive does is done in place. That drive may be put into an image.
abbrev pub EndsInPlace : Ways → Task → ExitCode → Type 0
EndsInPlace ways (Convert job) ended = EndsBy ways.files ended
EndsInPlace ways task ended = EndsJob ways (counterpart task) ended

-- any other task is done as it is
abbrev pub EndsAsked : Bool → Ways → Task → ExitCode → Type 0
EndsAsked true ways task ended = EndsInPlace ways task ended
EndsAsked false ways task ended = EndsTask ways task ended

-- ---- how a job on a device ends

-- A job that shows its faults by lines: one that is not done has shown its own. Where only the sync at its end failed, the line of a device is shown.
abbrev pub EndsLines : Bool → Bool → Known → ExitCode → Known → Type 0
EndsLines true true written ended contents = (exit_status ended ≡ 0) × (contents ≡ written)
EndsLines true false written ended contents =
    (exit_status ended ≡ 1) × (Appends written contents (codes "fault device\n") ⊎ AppendsFront written contents (codes "fault device\n"))
EndsLines false synced written ended contents = (exit_status ended ≡ 1) × (contents ≡ written)

-- A session that ended by a fault, or whose drive had stopped by itself, or after which something may not be durable, ends with the status 1.
abbrev pub EndsServed : Result (Unit {0}) NbdFault → Bool → Result (Unit {0}) HardenFault → ExitCode → Type 0
EndsServed (Ok done) false (Ok hardened) ended = ⊤
EndsServed told stopped hardened ended = exit_status ended ≡ 1

-- The same of one that ended by a fault, or whose drive is not saved in its image.
abbrev pub EndsSaved : Result (Unit {0}) NbdFault → Result Saved NbdFault → ExitCode → Type 0
EndsSaved (Ok done) (Ok saved) ended = ⊤
EndsSaved told saved ended = exit_status ended ≡ 1

-- A rescue ends with the status 1 if it ended by a fault, or if something of the disk is missing.
abbrev pub EndsRescue : Result Rescued RescueJobFault → ExitCode → Type 0
EndsRescue (Ok rescued) ended = is_whole rescued ≡ false → exit_status ended ≡ 1
EndsRescue (Err fault) ended = exit_status ended ≡ 1

-- What a repair finds ends with the status 0 if all of it was sent, and all is well: nothing is to be repaired, or the
-- drive can be mounted. Else it ends with 1.
abbrev pub EndsTold : Result Bool RepairJobFault → ExitCode → Type 0
EndsTold (Ok true) ended = exit_status ended ≡ 0
EndsTold sent ended = exit_status ended ≡ 1

-- a repair ends with the status 1 if a check finds then that the drive cannot be mounted
abbrev pub EndsFound : Result Findings RepairFault → ExitCode → Type 0
EndsFound (Ok findings) ended = is_none findings.refusal ≡ false → exit_status ended ≡ 1
EndsFound (Err fault) ended = exit_status ended ≡ 1

-- A repair ends with the status 1 if it ended by a fault, if what it did may be lost, or if the drive cannot be mounted then.
abbrev pub EndsMended : Result Mended RepairJobFault → Result (Unit {0}) Unkept → ExitCode → Type 0
EndsMended (Ok mended) (Ok kept) ended = EndsFound mended.found ended
EndsMended mended kept ended = exit_status ended ≡ 1
