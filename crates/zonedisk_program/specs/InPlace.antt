-- The job on a drive that stays in its file which a task on the image in that file stands for.
use Rattle.std.specs.Prelude.{Bool, true, false, Option, Some, None}
use Rattle.disk_runs.specs.declared.taking.Taking.{Taking}
use Rattle.disk_runs.specs.declared.taking.Taking.TheVariants.{All, Reads, Synced}
use Rattle.disk_jobs.specs.declared.job.Job.{Job}
use Rattle.disk_jobs.specs.declared.job.Job.TheVariants as lines
use Rattle.tool_jobs.specs.declared.job.ToolJob.{ToolJob}
use Rattle.tool_jobs.specs.declared.job.ToolJob.TheVariants as tools
use Rattle.tool_jobs.specs.declared.job.PlanJob.{PlanJob}
use Rattle.tool_jobs.specs.declared.job.PlannedDrive.{PlannedDrive}
use Rattle.tool_jobs.specs.declared.job.PlannedDrive.TheVariants as planned
use Rattle.tool_jobs.specs.declared.job.ZonesJob.{ZonesJob}
use Rattle.tool_jobs.specs.declared.showing.ZonesForm.{ZonesForm}
use Rattle.tool_jobs.specs.declared.showing.ZonesForm.TheVariants as forms
use Rattle.device_jobs.specs.declared.job.DeviceJob.{DeviceJob}
use Rattle.device_jobs.specs.declared.job.DeviceJob.TheVariants as jobs
use Rattle.asked_tasks.specs.declared.task.Task.{Task}
use Rattle.asked_tasks.specs.declared.task.Task.TheVariants as tasks

-- Which lines of a trace are taken, by whether it only reads, and whether it is synced. One that only reads is never synced.
abbrev pub taking_of : Bool → Bool → Taking
taking_of true sync = Reads
taking_of false true = Synced
taking_of false false = All

-- A trace, all lines of a report, and raw lines. No other job of lines.
abbrev pub lines_counterpart : Job → Option DeviceJob
lines_counterpart (lines.Run path blocks zones statistics stop habit sync read_only progress) = Some (jobs.Run (record {
  device = path;
  blocks = blocks;
  zones = zones;
  statistics = statistics;
  stop = stop;
  habit = habit;
  takes = taking_of read_only sync;
  progress = progress;
}))
lines_counterpart (lines.Report path) = Some (jobs.Report path None)
lines_counterpart (lines.Nvme path explain habit sync) = Some (jobs.Nvme path explain habit sync)
lines_counterpart job = None

-- the lines of the zones in a state are those of a report
abbrev pub zones_in : ZonesForm → ZonesJob → DeviceJob
zones_in (forms.Lines state) job = jobs.Report job.image (Some state)
zones_in form job = jobs.Zones job

-- a plan of the drive in a file
abbrev pub plan_on : PlannedDrive → PlanJob → Option DeviceJob
plan_on (planned.Image path) job = Some (jobs.Plan path job.aim job.form)
plan_on drive job = None

abbrev pub plan_counterpart : PlanJob → Option DeviceJob
plan_counterpart job = plan_on job.drive job

-- a check, what a drive holds, a plan of it, and its zones
abbrev pub tool_counterpart : ToolJob → Option DeviceJob
tool_counterpart (tools.Check job) = Some (jobs.Check job)
tool_counterpart (tools.Info job) = Some (jobs.Info job)
tool_counterpart (tools.Plan job) = plan_counterpart job
tool_counterpart (tools.Zones job) = Some (zones_in job.form job)
tool_counterpart job = None

-- Each session, each copy of blocks, each rescue and each repair has one. A job on a device has none.
abbrev pub counterpart : Task → Option DeviceJob
counterpart (tasks.Lines job) = lines_counterpart job
counterpart (tasks.Nbd job) = Some (jobs.Nbd job)
counterpart (tasks.Copy job) = Some (jobs.Copy job)
counterpart (tasks.Tool job) = tool_counterpart job
counterpart (tasks.Rescue job) = Some (jobs.Rescue job)
counterpart (tasks.Repair job) = Some (jobs.Repair job)
counterpart (tasks.Convert job) = None
counterpart (tasks.Device job) = None
