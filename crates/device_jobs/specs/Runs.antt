-- A trace over the drive behind a device.
use Rattle.std.specs.Prelude.{◌≡◌, ℕ, Bool, true, false, IsTrue, Result, Ok, Err}
use Rattle.nvme_wire.specs.declared.command.ReportingOptions.TheVariants.{AnyState}
use Rattle.drive_port.specs.Calls.{OnlyCloses}
use Rattle.drive_port.specs.Drive.{DriveState}
use Rattle.drive_port.specs.Stop.{Stopping}
use Rattle.disk_runs.specs.Run.{Exchange, Known}
use Rattle.disk_runs.specs.declared.fault.RunFault.{RunFault}
use Rattle.disk_runs.specs.declared.fault.RunFault.TheVariants as runs
use Rattle.disk_runs.specs.declared.taking.Taking.{Taking}
use Rattle.zone_translator.specs.declared.fault.DiskFault.TheVariants.{Damaged, Failed, Stopped}
use Rattle.job_drives.specs.Stop.{stopping}
use Rattle.disk_jobs.specs.AnyDevice.{RunsAnyCounted, RunsAnyTrace}
use Rattle.disk_jobs.specs.Mounted.{TellsMount, TellsMountAnyway}
use Rattle.disk_jobs.specs.declared.mounting.Mounting.{Mounting}
use Rattle.tool_jobs.specs.declared.fault.ToolFault.{ToolFault}
use Rattle.tool_jobs.specs.declared.fault.ToolFault.TheVariants as tools
use Rattle.device_jobs.specs.declared.job.DeviceRun.{DeviceRun}
use Rattle.device_jobs.specs.Reports.{IsUnreported, TellsReport}

-- The lines of a trace are taken as it is asked. Then it is told what was counted if that is asked for.
abbrev pub RunsAsked : Bool → Taking → ℕ → Stopping → Exchange → Result (Unit {0}) RunFault → DriveState → Type 0
RunsAsked true takes blocks device bytes ended new = RunsAnyCounted takes blocks device bytes ended new
RunsAsked false takes blocks device bytes ended new = RunsAnyTrace takes blocks device bytes ended new

-- what a fault of a report is to a run
abbrev pub run_fault : ToolFault → RunFault
run_fault tools.Output = runs.Output
run_fault tools.Memory = runs.Memory
run_fault tools.Failed = runs.Disk Failed
run_fault tools.Damaged = runs.Disk Damaged
run_fault fault = runs.Disk Stopped

-- A report of all zones was asked for. Why it was not shown is told as the fault of a run.
abbrev pub ShowsAll : DriveState → Known → Result (Unit {0}) RunFault → DriveState → Known → Type 0
ShowsAll old written (Ok done) new contents = TellsReport old AnyState new written contents
ShowsAll old written (Err told) new contents = (fault : ToolFault) × (told ≡ run_fault fault) × IsUnreported old AnyState fault new written contents

-- A run that was done is followed by the zones, if they are asked for. No zone is changed by that.
abbrev pub ThenReports : Bool → DriveState → Result (Unit {0}) RunFault → Known → Result (Unit {0}) RunFault → DriveState → Known → Type 0
ThenReports true old (Ok done) written ended new contents = OnlyCloses old new × ShowsAll old written ended new contents
ThenReports zones old ran written ended new contents = (ended ≡ ran) × (new ≡ old) × (contents ≡ written)

-- The lines are answered by the disk of this drive as long as the drive is clean, and it is told which disk was mounted.
-- The zones of the drive are shown then, if they are asked for. No report makes a drive clean again.
pub record AnswersTrace (job : DeviceRun) (bytes : Exchange) (old : DriveState) (told : Mounting) (ended : Result (Unit {0}) RunFault)
    (new : DriveState) : Type 0 where
  pub ran : Result (Unit {0}) RunFault
  pub middle : Known
  pub left : DriveState
  pub runs : RunsAsked job.statistics job.takes job.blocks (stopping job.stop old) (record bytes { contents = middle }) ran left
  pub tells : IsTrue left.clean → TellsMount job.blocks old ran told
  pub anyway : TellsMountAnyway old.geometry ran told
  pub shows : ThenReports job.zones left ran middle ended new bytes.contents
  pub trusted : IsTrue new.clean → IsTrue left.clean
