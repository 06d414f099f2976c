-- What is written before the program ends, and how it ends.
use Rattle.std.proofs.Common.{◌≡◌, ◌∙◌, ◌⊎◌, ℕ, Bool, true, false, List, inl, inr, refl, sym}
use Rattle.std.proofs.KnownBytes.{Appends-kept}
use Rattle.std.specs.Prelude.{IfOk, OnErr, OnOk, Option, Some, None, Result, Ok, Err, is_some}
use Rattle.std.specs.Io.KnownBytes.{Appends, Keeps}
use Rattle.std.specs.Process.{exit_status}
use Rattle.std.specs.declared.process.ExitCode.{ExitCode}
use Rattle.asked_tasks.specs.declared.task.Task.{Task}
use Rattle.asked_tasks.specs.declared.task.Task.TheVariants as tasks
use Rattle.device_jobs.specs.declared.job.DeviceJob.{DeviceJob}
use Rattle.device_jobs.specs.declared.job.DeviceJob.TheVariants as jobs
use Rattle.disk_files.specs.Output.{AppendsFront}
use Rattle.drive_inspection.specs.declared.finding.Findings.{Findings}
use Rattle.tail_repair.specs.declared.fault.RepairFault.{RepairFault}
use Rattle.repair_jobs.specs.Jobs.{TellsMended}
use Rattle.repair_jobs.specs.declared.fault.RepairJobFault.{RepairJobFault}
use Rattle.zonedisk_program.specs.Ends.{EndsAsked, EndsFound, EndsInPlace, EndsJob, EndsTask, EndsTold, Ways, is_device, reaches, way_of_rescue}
use Rattle.zonedisk_program.specs.InPlace.{counterpart}

-- a text is written, or a beginning of it; a flush changes no bytes
pub told : {T E : Type 0} (result : Result T E) (old middle new : Option (List ℕ)) (text : List ℕ)
    → OnOk result (Appends old middle text) → OnErr result (AppendsFront old middle text) → Keeps middle new
    → Appends old new text ⊎ AppendsFront old new text
told (Ok value) old middle new text ok err keeps = inl (Appends-kept old middle new text ok keeps)
told (Err fault) old middle new text ok err keeps = inr (record { count = err.count; short = err.short; appends = Appends-kept old middle new _ err.appends keeps })

-- what a check finds after a repair is told and sent, and ends as that says
pub ends-found : (found : Result Findings RepairFault) (told sent : Result Bool RepairJobFault) (old new : Option (List ℕ)) (ended : ExitCode)
    → IfOk told (λ mountable. TellsMended found mountable old new) → IfOk sent (λ well. told ≡ Ok well) → EndsTold sent ended → EndsFound found ended
ends-found (Ok findings) told (Err fault) old new ended tells sends ends = λ refused. ends
ends-found (Err cause) told (Err fault) old new ended tells sends ends = ends
ends-found found (Err fault) (Ok well) old new ended tells sends ends = absurd (cc)
ends-found (Err cause) (Ok mountable) (Ok well) old new ended tells sends ends = absurd tells
ends-found (Ok findings) (Ok mountable) (Ok well) old new ended tells sends ends = λ refused.
    let same : mountable ≡ well = cc in
    let is : well ≡ false = sym same ∙ tells.0 ∙ refused in
    rw is at ends

-- a job on a device is done as it is, and of any other task nothing is said here
pub ends-task : (begins : Bool) (ways : Ways) (task : Task) (ended : ExitCode) → (is_device task ≡ true → begins ≡ false)
    → EndsAsked begins ways task ended → EndsTask ways task ended
ends-task false ways task ended apart ends = ends
ends-task true ways (tasks.Device job) ended apart ends = absurd (cc (apart refl))
ends-task true ways (tasks.Lines job) ended apart ends = tt
ends-task true ways (tasks.Nbd job) ended apart ends = tt
ends-task true ways (tasks.Copy job) ended apart ends = tt
ends-task true ways (tasks.Tool job) ended apart ends = tt
ends-task true ways (tasks.Convert job) ended apart ends = ends
ends-task true ways (tasks.Rescue job) ended apart ends = tt
ends-task true ways (tasks.Repair job) ended apart ends = tt

rescue-none : (new : Bool) → way_of_rescue new (record { devices = false; files = false }) ≡ false
rescue-none true = refl
rescue-none false = refl

-- where one way serves for devices and for new drives, and there is none, no job is reached
pub none-reached : (has : Bool) (job : DeviceJob) → has ≡ false → reaches (record { devices = has; files = has }) job ≡ false
none-reached true job none = absurd (cc)
none-reached false (jobs.Format device force) none = refl
none-reached false (jobs.Create image geometry) none = refl
none-reached false (jobs.Run job) none = refl
none-reached false (jobs.Report device state) none = refl
none-reached false (jobs.Zones job) none = refl
none-reached false (jobs.Nvme device explain habit sync) none = refl
none-reached false (jobs.Nbd job) none = refl
none-reached false (jobs.Check job) none = refl
none-reached false (jobs.Info job) none = refl
none-reached false (jobs.Plan device aim form) none = refl
none-reached false (jobs.Copy job) none = refl
none-reached false (jobs.Rescue job) none = rescue-none (is_some job.to)
none-reached false (jobs.Repair job) none = refl

-- a job that there is ends as it needs a way to such files
ends-job : (ways : Ways) (made : Option DeviceJob) (job : DeviceJob) (ended : ExitCode) → made ≡ Some job → (ways.files ≡ false → exit_status ended ≡ 1) → EndsJob ways made ended
ends-job ways (Some other) job ended is ends = ends
ends-job ways None job ended is ends = absurd (cc)

-- a task that is done in place ends as its job does
pub ends-in-place : (ways : Ways) (task : Task) (job : DeviceJob) (ended : ExitCode) → counterpart task ≡ Some job → (ways.files ≡ false → exit_status ended ≡ 1) → EndsInPlace ways task ended
ends-in-place ways (tasks.Convert other) job ended is ends = ends
ends-in-place ways (tasks.Device other) job ended is ends = ends-job ways (counterpart (tasks.Device other)) job ended is ends
ends-in-place ways (tasks.Lines other) job ended is ends = ends-job ways (counterpart (tasks.Lines other)) job ended is ends
ends-in-place ways (tasks.Nbd other) job ended is ends = ends-job ways (counterpart (tasks.Nbd other)) job ended is ends
ends-in-place ways (tasks.Copy other) job ended is ends = ends-job ways (counterpart (tasks.Copy other)) job ended is ends
ends-in-place ways (tasks.Tool other) job ended is ends = ends-job ways (counterpart (tasks.Tool other)) job ended is ends
ends-in-place ways (tasks.Rescue other) job ended is ends = ends-job ways (counterpart (tasks.Rescue other)) job ended is ends
ends-in-place ways (tasks.Repair other) job ended is ends = ends-job ways (counterpart (tasks.Repair other)) job ended is ends
