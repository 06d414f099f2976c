-- Words that name no device.
use Rattle.std.proofs.Common.{◌≡◌, ◌∙◌, ◌⊎◌, inl, inr, false, List, Option, Some, None, Result, Ok, Err, codes, refl, sym}
use Rattle.std.specs.Prelude.{is_some}
use Rattle.clap.specs.Words.{Row, Text, first_of}
use Rattle.disk_copies.specs.declared.job.CopyJob.TheVariants as copies
use Rattle.device_jobs.specs.declared.job.DeviceJob.{DeviceJob}
use Rattle.device_jobs.specs.declared.job.DeviceJob.TheVariants as jobs
use Rattle.asked_tasks.specs.declared.task.Task.{Task}
use Rattle.asked_tasks.specs.declared.task.Task.TheVariants as tasks
use Rattle.asked_tasks.specs.declared.words.WordFault.{WordFault}
use Rattle.asked_tasks.specs.declared.words.WordFault.TheVariants.{Memory}
use Rattle.asked_tasks.specs.DeviceWords.{AsksForDevice}
use Rattle.asked_tasks.specs.Values.{Finds, HasDevice}
use Rattle.asked_tasks.specs.Words.{AsksFor, AsksForFile}

-- a job on a device has the path of one
has-device : (name : Text) (rows : List Row) (job : DeviceJob) → AsksForDevice name rows job → (path : Text) × HasDevice rows path
has-device name rows (jobs.Format path force) asks = (_, asks.1)
has-device name rows (jobs.Create path geometry) asks = absurd asks
has-device name rows (jobs.Run job) asks = (_, asks.1.device)
has-device name rows (jobs.Report path state) asks = (_, asks.1)
has-device name rows (jobs.Nvme path explain habit sync) asks = (_, asks.1)
has-device name rows (jobs.Nbd job) asks = (_, asks.1.path)
has-device name rows (jobs.Check job) asks = (_, asks.1.path)
has-device name rows (jobs.Info job) asks = (_, asks.1.path)
has-device name rows (jobs.Zones job) asks = absurd asks
has-device name rows (jobs.Plan path aim form) asks = absurd asks
has-device name rows (jobs.Copy (copies.Export job)) asks = (_, asks.1)
has-device name rows (jobs.Copy (copies.Import job)) asks = (_, asks.1)
has-device name rows (jobs.Rescue job) asks = (_, asks.1.path)
has-device name rows (jobs.Repair job) asks = (_, asks.1.path)

-- where none is named, each task is one without a device
module _ (name : Text) (rows : List Row) (none : first_of (codes "device") rows ≡ None) where
  asked : (task : Task) → AsksForFile name rows task → AsksFor name rows task
  asked (tasks.Lines job) asks = (none, asks)
  asked (tasks.Nbd job) asks = (none, asks)
  asked (tasks.Copy job) asks = (none, asks)
  asked (tasks.Tool job) asks = (none, asks)
  asked (tasks.Convert job) asks = (none, asks)
  asked (tasks.Rescue job) asks = (none, asks)
  asked (tasks.Repair job) asks = (none, asks)
  asked (tasks.Device job) asks = inr (none, asks)

  without : (task : Task) → AsksFor name rows task → AsksForFile name rows task
  without (tasks.Lines job) asks = asks.1
  without (tasks.Nbd job) asks = asks.1
  without (tasks.Copy job) asks = asks.1
  without (tasks.Tool job) asks = asks.1
  without (tasks.Convert job) asks = asks.1
  without (tasks.Rescue job) asks = asks.1
  without (tasks.Repair job) asks = asks.1
  without (tasks.Device job) (inl asks) =
      let named = has-device name rows job asks in
      let is : None ≡ Some named.0 = sym none ∙ named.1.path_is in
      absurd (cc is)
  without (tasks.Device job) (inr asks) = asks.1

  pub file-task : (answer : Result Task WordFault) → Finds (AsksForFile name rows) answer → Finds (AsksFor name rows) answer
  file-task (Ok task) found = record { value = asked task found.value; fault = tt }
  file-task (Err fault) found = record { value = tt; fault = by found.fault }
    where
      by : (fault ≡ Memory) ⊎ ((task : Task) → AsksForFile name rows task → ⊥) → (fault ≡ Memory) ⊎ ((task : Task) → AsksFor name rows task → ⊥)
      by (inl memory) = inl memory
      by (inr refuted) = inr (λ task asks. refuted task (without task asks))

-- a value that is not there
pub not-there : {A : Type 0} (value : Option A) → is_some value ≡ false → value ≡ None
not-there None is = refl
not-there (Some x) is = absurd (cc is)
