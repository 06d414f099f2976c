-- What a job does: the drive that it leaves to be saved, what it ends with, and what is written.
use Rattle.std.specs.Prelude.{◌≡◌, ℕ, ◌+◌, ◌*◌, Bool, true, false, if◌then◌else◌, not, List, Option, Some, None, Result, Ok, Err, IfSome, ⊤}
use Rattle.std.specs.Io.KnownBytes.{Appends}
use Rattle.nvme_wire.specs.declared.command.ReportingOptions.TheVariants.{AnyState}
use Rattle.zone_states.specs.Checks.{first_failing}
use Rattle.zone_states.specs.Geometry.{geometry_checks}
use Rattle.zone_states.specs.declared.geometry.Geometry.{Geometry}
use Rattle.zone_report.specs.Report.{report}
use Rattle.zone_report.specs.ReportText.{IsTextOf}
use Rattle.drive_port.specs.Drive.{DriveState}
use Rattle.drive_port.specs.Stop.{Stopping, drive_of}
use Rattle.zone_drive.specs.Habits.{MemoryDrive}
use Rattle.zone_drive.specs.Stored.{fresh}
use Rattle.zone_drive.specs.declared.habit.Habit.{Habit}
use Rattle.zone_drive.specs.declared.habit.Habit.TheVariants.{Lazy}
use Rattle.drive_array.specs.Reserve.{most_size}
use Rattle.drive_survey.specs.declared.fault.MountFault.TheVariants as mounts
use Rattle.disk_files.specs.Output.{AppendsFront}
use Rattle.drive_journal.specs.File.{IsStored}
use Rattle.drive_journal.specs.FileFaults.{IsFileFault}
use Rattle.disk_runs.specs.RawLines.{raw}
use Rattle.disk_runs.specs.Run.{Exchange, Known, Runs}
use Rattle.disk_runs.specs.Taken.{disk_lines, flat_lines, unsynced}
use Rattle.disk_runs.specs.Trace.{RunGives, RunLeaves}
use Rattle.disk_runs.specs.declared.fault.RunFault.{RunFault}
use Rattle.disk_runs.specs.declared.fault.RunFault.TheVariants as runs
use Rattle.disk_runs.specs.declared.taking.Taking.{Taking}
use Rattle.disk_runs.specs.declared.taking.Taking.TheVariants.{All}
use Rattle.disk_jobs.specs.declared.fault.ProgramFault.{ProgramFault}
use Rattle.disk_jobs.specs.declared.fault.ProgramFault.TheVariants as program
use Rattle.job_drives.specs.Kept.{IsReadIn, IsRestarted}
use Rattle.job_drives.specs.Left.{IsHandedBack}
use Rattle.job_drives.specs.declared.kept_drive.Begun.{Begun}
use Rattle.job_drives.specs.declared.left.Left.{Left}
use Rattle.job_drives.specs.Stop.{stopping}
use Rattle.disk_jobs.specs.declared.job.Job.{Job}
use Rattle.disk_jobs.specs.declared.job.Job.TheVariants as jobs
use Rattle.disk_jobs.specs.declared.lines.Answered.{Answered}
use Rattle.disk_jobs.specs.Mounted.{TellsJob}

-- ---- the drive that a job begins with

abbrev pub fresh_drive : Geometry → Habit → MemoryDrive
fresh_drive geometry habit = record { state = fresh geometry; habit = habit }

abbrev pub BeginsOn : Job → Known → Begun → Type 0
BeginsOn (jobs.Format path geometry force) file begun = begun.drive ≡ fresh_drive geometry Lazy
BeginsOn (jobs.Run path blocks zones statistics stop habit sync read_only progress) file begun = IsRestarted file habit begun
BeginsOn (jobs.Report path) file begun = ⊥
BeginsOn (jobs.Nvme path explain habit sync) file begun = IsRestarted file habit begun
BeginsOn (jobs.Fresh geometry blocks shown statistics stop habit) file begun = begun.drive ≡ fresh_drive geometry habit
BeginsOn (jobs.FreshRaw geometry habit) file begun = begun.drive ≡ fresh_drive geometry habit

-- why there is no fresh drive: its geometry is out of range, or memory ran out
abbrev pub IsNotFresh : Geometry → ProgramFault → Type 0
IsNotFresh geometry (program.Run (runs.Geometry fault)) = first_failing (geometry_checks geometry) ≡ Some fault
IsNotFresh geometry (program.Run runs.Memory) = ⊤
IsNotFresh geometry fault = ⊥

-- why there is none in the file: its bytes hold no drive, by their first fault
abbrev pub IsNotRead : Known → ProgramFault → Type 0
IsNotRead file (program.Image fault) = IfSome file (λ bytes. IsFileFault bytes fault)
IsNotRead file fault = ⊥

-- ---- what is written of it

-- the text of a report of all zones
abbrev pub IsZonesText : DriveState → List ℕ → Type 0
IsZonesText drive text = IsTextOf (report drive.geometry drive.zones 0 AnyState false (16 * (drive.geometry.zones + 1))) text

-- the text of the zones of the drive in the file, as they were saved
pub record IsSavedText (file : Known) (text : List ℕ) : Type 0 where
  pub saved : DriveState
  pub is_read : IsReadIn file saved
  pub is_text : IsZonesText saved text

-- such a text is written, and nothing else
abbrev pub WritesText : (List ℕ → Type 0) → Known → Known → Type 0
WritesText IsText old new = (text : List ℕ) × IsText text × Appends old new text

-- Why such a text is not written: the writer failed within it, or memory ran out before it, or there is nothing to write it of. Nothing else is written.
abbrev pub FailsToWrite : (ProgramFault → Type 0) → (List ℕ → Type 0) → ProgramFault → Known → Known → Type 0
FailsToWrite Before IsText (program.Run runs.Output) old new = (text : List ℕ) × IsText text × AppendsFront old new text
FailsToWrite Before IsText (program.Run runs.Memory) old new = new ≡ old
FailsToWrite Before IsText fault old new = Before fault × (new ≡ old)

-- Why a job leaves no drive. A fault of the file comes before anything is written. Of a report a beginning may be written.
abbrev pub HasNoDrive : Job → Known → ProgramFault → Known → Known → Type 0
HasNoDrive (jobs.Format path geometry force) file fault old new = IsNotFresh geometry fault × (new ≡ old)
HasNoDrive (jobs.Run path blocks zones statistics stop habit sync read_only progress) file fault old new = IsNotRead file fault × (new ≡ old)
HasNoDrive (jobs.Report path) file fault old new = FailsToWrite (IsNotRead file) (IsSavedText file) fault old new
HasNoDrive (jobs.Nvme path explain habit sync) file fault old new = IsNotRead file fault × (new ≡ old)
HasNoDrive (jobs.Fresh geometry blocks shown statistics stop habit) file fault old new = IsNotFresh geometry fault × (new ≡ old)
HasNoDrive (jobs.FreshRaw geometry habit) file fault old new = IsNotFresh geometry fault × (new ≡ old)

-- only a report is done without a drive to save: it shows the zones of the drive in the file
abbrev pub ShowsReport : Job → Known → Known → Known → Type 0
ShowsReport (jobs.Report path) file old new = WritesText (IsSavedText file) old new
ShowsReport job file old new = ⊥

-- a job has this drive before its lines; a report has none, and is done
abbrev pub HasDrive : Job → Known → Option Begun → Known → Known → Type 0
HasDrive job file None old new = ShowsReport job file old new
HasDrive job file (Some begun) old new = BeginsOn job file begun × (new ≡ old)

-- ---- what the lines make of it

-- A trace is run over the device, mounted as that many blocks, and leaves the zones of this drive. It is said which lines are taken.
pub record RunsTrace (takes : Taking) (blocks : ℕ) (device : Stopping) (bytes : Exchange) (ended : Result (Unit {0}) RunFault)
    (new : DriveState) : Type 0 where
  pub seen : DriveState
  pub gives : RunGives (flat_lines takes) blocks bytes (drive_of device) ended seen
  pub leaves : RunLeaves (disk_lines takes) blocks bytes (drive_of device) ended seen
  pub geometry : new.geometry ≡ seen.geometry
  pub zones : new.zones ≡ seen.zones
  pub durable : new.durable ≡ seen.durable

-- After a run that was done some text is written; what it says is not promised.
abbrev pub ThenTells : Result (Unit {0}) RunFault → Known → Result (Unit {0}) RunFault → Known → Type 0
ThenTells (Ok done) old (Ok told) new = (text : List ℕ) × Appends old new text
ThenTells (Ok done) old (Err runs.Output) new = (text : List ℕ) × AppendsFront old new text
ThenTells (Ok done) old (Err runs.Memory) new = new ≡ old
ThenTells (Ok done) old (Err fault) new = ⊥
ThenTells ran old ended new = (ended ≡ ran) × (new ≡ old)

-- a trace is run over the device, whose commands are counted, and then it is told what was counted
pub record RunsCounted (takes : Taking) (blocks : ℕ) (device : Stopping) (bytes : Exchange) (ended : Result (Unit {0}) RunFault)
    (new : DriveState) : Type 0 where
  pub ran : Result (Unit {0}) RunFault
  pub middle : Known
  pub runs : RunsTrace takes blocks device (record bytes { contents = middle }) ran new
  pub tells : ThenTells ran middle ended bytes.contents

-- a run that was done is followed by the zones, if they are asked for
abbrev pub ThenShows : Bool → DriveState → Result (Unit {0}) RunFault → Known → Result (Unit {0}) RunFault → Known → Type 0
ThenShows true drive (Ok done) old (Ok shown) new = WritesText (IsZonesText drive) old new
ThenShows true drive (Ok done) old (Err runs.Output) new = (text : List ℕ) × IsZonesText drive text × AppendsFront old new text
ThenShows true drive (Ok done) old (Err runs.Memory) new = new ≡ old
ThenShows true drive (Ok done) old (Err fault) new = ⊥
ThenShows zones drive ran old ended new = (ended ≡ ran) × (new ≡ old)

-- what the lines of a job do over a drive
abbrev pub RunsLines : Job → Exchange → DriveState → Result (Unit {0}) RunFault → DriveState → Type 0
RunsLines (jobs.Run path blocks zones false stop habit sync read_only progress) bytes old ended new =
    RunsTrace (unsynced read_only) blocks (stopping stop old) bytes ended new
RunsLines (jobs.Run path blocks zones true stop habit sync read_only progress) bytes old ended new =
    RunsCounted (unsynced read_only) blocks (stopping stop old) bytes ended new
RunsLines (jobs.Fresh geometry blocks shown false stop habit) bytes old ended new = RunsTrace All blocks (stopping stop old) bytes ended new
RunsLines (jobs.Fresh geometry blocks shown true stop habit) bytes old ended new = RunsCounted All blocks (stopping stop old) bytes ended new
RunsLines (jobs.Nvme path explain habit sync) bytes old ended new = Runs raw bytes old ended new
RunsLines (jobs.FreshRaw geometry habit) bytes old ended new = Runs raw bytes old ended new
RunsLines job bytes old ended new = (ended ≡ Ok tt) × (bytes.contents ≡ bytes.written) × (new ≡ old)

-- whether the zones are shown after the replies
abbrev pub shows_zones : Job → Bool
shows_zones (jobs.Run path blocks zones statistics stop habit sync read_only progress) = zones
shows_zones (jobs.Fresh geometry blocks shown statistics stop habit) = shown
shows_zones job = false

-- The lines of a job are answered over its drive, and leave this one. Then the zones of the drive that is handed back are shown, if they are asked for.
pub record AnswersLines (job : Job) (bytes : Exchange) (old : DriveState) (ended : Result (Unit {0}) RunFault) (new back : DriveState) : Type 0 where
  pub ran : Result (Unit {0}) RunFault
  pub middle : Known
  pub runs : RunsLines job (record bytes { contents = middle }) old ran new
  pub shows : ThenShows (shows_zones job) back ran middle ended bytes.contents

-- the end of a run, by how the program tells it
abbrev pub ended_by : Result (Unit {0}) ProgramFault → Result (Unit {0}) RunFault
ended_by (Err (program.Run fault)) = Err fault
ended_by (Err (program.Reserve most)) = Err (runs.Mount mounts.Reserve)
ended_by result = Ok tt

-- A job that has a drive ends by a fault of its run. A number of blocks that the drive has no room for is told with the greatest that it has room for.
abbrev pub TellsRun : Geometry → ProgramFault → Type 0
TellsRun geometry (program.Run fault) = ⊤
TellsRun geometry (program.Reserve most) = most ≡ most_size geometry
TellsRun geometry fault = ⊥

-- ---- what the file holds

-- whether a job is a run that only reads: its drive is mounted and repaired in memory, and only lines that read are answered
abbrev pub reads_only : Job → Bool
reads_only (jobs.Run path blocks zones statistics stop habit sync read_only progress) = read_only
reads_only job = false

-- whether the changes of a job go to its file
abbrev pub has_changes : Job → Bool
has_changes (jobs.Run path blocks zones statistics stop habit sync read_only progress) = not read_only
has_changes (jobs.Nvme path explain habit sync) = true
has_changes job = false

-- The store of a job with a file stores the drive that the lines left. Other jobs do not use it, and neither does a run that only reads.
abbrev pub StoresDrive : Job → Known → Known → DriveState → Type 0
StoresDrive (jobs.Run path blocks zones statistics stop habit sync false progress) old new drive = IfSome new (λ bytes. IsStored bytes drive)
StoresDrive (jobs.Nvme path explain habit sync) old new drive = IfSome new (λ bytes. IsStored bytes drive)
StoresDrive job old new drive = new ≡ old

-- ---- the job

-- What the lines of a job leave of its drive, whatever ended them, and what its store holds then. Whether the store failed is told, and which disk
-- was mounted.
pub record LeavesDrive (job : Job) (bytes : Exchange) (old : DriveState) (ended : Result (Unit {0}) RunFault) (answered : Answered)
    (before held : Known) (failed : Bool) : Type 0 where
  pub drive : DriveState
  pub answers : AnswersLines job bytes old ended drive answered.left.drive.state
  pub failed_is : answered.left.failed ≡ failed
  pub back : IsHandedBack failed drive answered.left.drive.state
  pub stored : StoresDrive job before held drive
  pub mounting : TellsJob job old ended answered.mounting

-- What a job leaves of the drive that it began with. It is told whether the file was the image of that drive at rest.
pub record LeftByLines (job : Job) (file : Known) (bytes : Exchange) (ended : Result (Unit {0}) RunFault) (answered : Answered)
    (before held : Known) (failed : Bool) : Type 0 where
  pub first : Begun
  pub begins : BeginsOn job file first
  pub was_image : answered.left.was_image ≡ first.is_image
  pub leaves : LeavesDrive job bytes first.drive.state ended answered before held failed

-- ---- the file

-- what may be saved of a job with a file, also after a fault: what its lines left of the drive; nothing where the file was only read
abbrev pub left_to_save : Job → Option Answered → Option Left
left_to_save job None = None
left_to_save job (Some answered) = if reads_only job then None else Some answered.left
