-- What the words of a job ask for, beside its drive.
use Rattle.std.specs.Prelude.{ℕ, ◌-◌, ◌^◌, ◌==◌, ◌&&◌, if◌then◌else◌, not, Bool, false, List, Option, Some, None, string_bytes}
use Rattle.disk_jobs.specs.declared.job.Job.{Job}
use Rattle.disk_jobs.specs.declared.job.Job.TheVariants as jobs
use Rattle.job_drives.specs.declared.stop.Stop.{Stop}
use Rattle.disk_jobs.specs.declared.saving.Access.{Access}
use Rattle.disk_jobs.specs.declared.saving.Access.TheVariants as access
use Rattle.job_drives.specs.declared.changes_output.SentAfter.{SentAfter}
use Rattle.job_drives.specs.declared.changes_output.SentAfter.TheVariants as sent

-- whether replies wait until the changes before them are on the disk; a run that only reads makes none
abbrev pub syncs : Job → Bool
syncs (jobs.Run path blocks zones statistics stop habit sync read_only progress) = sync && not read_only
syncs (jobs.Nvme path explain habit sync) = sync
syncs job = false

-- what the replies of a job wait for
abbrev pub sent_after : Job → SentAfter
sent_after job = if syncs job then sent.Sync else sent.Write

-- whether people are told how many lines were read
abbrev pub shows_progress : Job → Bool
shows_progress (jobs.Run path blocks zones statistics stop habit sync read_only progress) = progress
shows_progress job = false

-- whether people are told what each status means
abbrev pub explains : Job → Bool
explains (jobs.Nvme path explain habit sync) = explain
explains job = false

-- the number of logical blocks that is asked for of the drive in a file
abbrev pub blocks_asked : Job → Option ℕ
blocks_asked (jobs.Run path blocks zones statistics stop habit sync read_only progress) = Some blocks
blocks_asked job = None

-- after how many commands the drive stops; the greatest number, with no block of the next Append, stands for never
abbrev pub commands_of : Stop → Option ℕ
commands_of stop = if (stop.commands == 2 ^ 64 - 1) && (stop.tear == 0) then None else Some stop.commands

abbrev pub stop_asked : Job → Option ℕ
stop_asked (jobs.Run path blocks zones statistics stop habit sync read_only progress) = commands_of stop
stop_asked (jobs.Fresh geometry blocks shown statistics stop habit) = commands_of stop
stop_asked job = None

-- the path of the file that has the drive, or is going to have it
abbrev pub image_asked : Job → Option (List ℕ)
image_asked (jobs.Format path geometry force) = Some (string_bytes path)
image_asked (jobs.Run path blocks zones statistics stop habit sync read_only progress) = Some (string_bytes path)
image_asked (jobs.Report path) = Some (string_bytes path)
image_asked (jobs.Nvme path explain habit sync) = Some (string_bytes path)
image_asked job = None

-- how a file is opened whose drive is read: a report and a run that only reads share it, and all others save a drive in it
abbrev pub file_access : Job → Access
file_access (jobs.Run path blocks zones statistics stop habit sync read_only progress) = if read_only then access.ToRead else access.ToSave
file_access (jobs.Report path) = access.ToRead
file_access job = access.ToSave
