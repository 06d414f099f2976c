-- The task that words ask for.
use Rattle.std.specs.Prelude.{◌≡◌, ◌⊎◌, false, List, [], None, IfErr, IfOk, IsSomeAnd, Some, Result, codes, string_bytes}
use Rattle.std.specs.Borrow.{Bor}
use Rattle.clap.specs.Words.{Row, Text, fault_of, first_of, kind_of, subcommand_of}
use Rattle.clap.specs.Walk.{texts}
use Rattle.clap.specs.declared.error.Error.{Error}
use Rattle.clap.specs.declared.error.kind.ErrorKind.TheVariants.{OutOfMemory}
use Rattle.disk_jobs.specs.declared.job.Job.{Job}
use Rattle.disk_jobs.specs.declared.job.Job.TheVariants.{Format, Run, Report, Nvme, Fresh, FreshRaw}
use Rattle.tool_jobs.specs.declared.job.ToolJob.{ToolJob}
use Rattle.tool_jobs.specs.declared.job.ToolJob.TheVariants as tools
use Rattle.asked_tasks.specs.declared.task.Task.{Task}
use Rattle.asked_tasks.specs.declared.place.Place.TheVariants as places
use Rattle.asked_tasks.specs.declared.task.Task.TheVariants.{Lines, Nbd, Copy, Tool, Convert, Rescue, Repair}
use Rattle.asked_tasks.specs.declared.task.Task.TheVariants as tasks
use Rattle.command_line.specs.Program.{habit_names, program}
use Rattle.asked_tasks.specs.DeviceWords.{AsksForDevice, AsksForNew}
use Rattle.asked_tasks.specs.DriveWords.{AsksForConvert, AsksForCopy, AsksForNbd, AsksForRepair, AsksForRescue}
use Rattle.asked_tasks.specs.EntryWords.{AsksForEntry}
use Rattle.asked_tasks.specs.ToolWords.{AsksForCheck, AsksForFormat, AsksForInfo, AsksForPlan, HasZonesForm}
use Rattle.asked_tasks.specs.Values.{HasFlag, HasGeometry, HasHabit, HasImage, HasNumber, HasStop, is_set}

-- What the job of a subcommand holds is what its options were given. The drive of a format is in an image, which is saved.
abbrev pub AsksForJob : Text → List Row → Job → Type 0
AsksForJob name rows (Format path geometry force) =
    (name ≡ codes "format") × (is_set rows (codes "in-place") ≡ false) × HasImage rows (string_bytes path) × HasGeometry rows geometry
    × HasFlag rows (codes "force") force
AsksForJob name rows (Run path blocks zones statistics stop habit sync read_only progress) =
    (name ≡ codes "run") × HasImage rows (string_bytes path) × HasNumber 64 rows (codes "blocks") blocks
    × HasFlag rows (codes "zones") zones × HasFlag rows (codes "statistics") statistics × HasStop rows stop × HasHabit rows habit
    × HasFlag rows (codes "sync") sync × HasFlag rows (codes "read-only") read_only
    × HasFlag rows (codes "progress") progress
AsksForJob name rows (Report path) = (name ≡ codes "report") × HasImage rows (string_bytes path) × HasZonesForm rows None
AsksForJob name rows (Nvme path explain habit sync) =
    (name ≡ codes "nvme") × HasImage rows (string_bytes path) × HasFlag rows (codes "explain") explain × HasHabit rows habit × HasFlag rows (codes "sync") sync
AsksForJob name rows (Fresh geometry blocks report statistics stop habit) =
    (name ≡ codes "fresh") × HasGeometry rows geometry × HasNumber 64 rows (codes "blocks") blocks
    × HasFlag rows (codes "report") report × HasFlag rows (codes "statistics") statistics
    × HasStop rows stop × HasHabit rows habit
AsksForJob name rows (FreshRaw geometry habit) = (name ≡ codes "fresh-raw") × HasGeometry rows geometry × HasHabit rows habit

-- a report asks for a tool if it is asked for in another form
abbrev pub AsksForTool : Text → List Row → ToolJob → Type 0
AsksForTool name rows (tools.Check job) = (name ≡ codes "check") × AsksForCheck places.File rows job
AsksForTool name rows (tools.Info job) = (name ≡ codes "info") × AsksForInfo places.File rows job
AsksForTool name rows (tools.Plan job) = (name ≡ codes "plan") × AsksForPlan rows job
AsksForTool name rows (tools.Format bytes) = (name ≡ codes "plan") × AsksForFormat rows bytes
AsksForTool name rows (tools.Zones job) = (name ≡ codes "report") × HasImage rows (string_bytes job.image) × HasZonesForm rows (Some job.form)
AsksForTool name rows (tools.Entry words) = (name ≡ codes "entry") × AsksForEntry rows words

-- What the task of a subcommand holds that names no device is what its options were given. A format may make a drive that stays in its file.
abbrev pub AsksForFile : Text → List Row → Task → Type 0
AsksForFile name rows (Lines job) = AsksForJob name rows job
AsksForFile name rows (Nbd job) = (name ≡ codes "nbd") × AsksForNbd places.File rows job
AsksForFile name rows (Copy job) = AsksForCopy places.File name rows job
AsksForFile name rows (Tool job) = AsksForTool name rows job
AsksForFile name rows (Convert job) = (name ≡ codes "convert") × AsksForConvert rows job
AsksForFile name rows (Rescue job) = (name ≡ codes "rescue") × AsksForRescue places.File rows job
AsksForFile name rows (Repair job) = (name ≡ codes "repair") × AsksForRepair places.File rows job
AsksForFile name rows (tasks.Device job) = (name ≡ codes "format") × AsksForNew rows job

-- The same of each task. A job on a device is asked for exactly if one is named; a new drive in a file only if none is.
abbrev pub AsksFor : Text → List Row → Task → Type 0
AsksFor name rows (tasks.Device job) =
    AsksForDevice name rows job ⊎ ((first_of (codes "device") rows ≡ None) × AsksForFile name rows (tasks.Device job))
AsksFor name rows task = (first_of (codes "device") rows ≡ None) × AsksForFile name rows task

-- clap refuses none of these words, which name a subcommand of the program, and this is its task
pub record WordsAskFor (names : Bor (List (Bor Text))) (words : List Text) (task : Task) : Type 0 where
  pub taken : fault_of (program names) words ≡ []
  pub asks : IsSomeAnd (subcommand_of (program names) words) (λ met. AsksFor met.0 met.1 task)

-- a task that the words ask for; or they are refused, since they ask for none, or memory ran out
pub record IsAnswerTo (words : List Text) (answer : Result Task Error) : Type 0 where
  pub names : Bor (List (Bor Text))
  pub are_habits : texts names.now ≡ habit_names
  pub task : IfOk answer (WordsAskFor names words)
  pub refusal : IfErr answer (λ error. (kind_of error ≡ OutOfMemory) ⊎ ((task : Task) → WordsAskFor names words task → ⊥))
