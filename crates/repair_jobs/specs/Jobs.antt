-- What a job on a drive finds and does of which zones end in something foreign.
use Rattle.std.specs.Prelude.{◌≡◌, ◌==◌, ℕ, Bool, false, if◌then◌else◌, List, [], length, Option, None, Result, Ok, Err, IfErr, IfOk, IsTrue, is_none}
use Rattle.std.specs.List.{All}
use Rattle.disk_files.specs.Output.{AppendsFront}
use Rattle.drive_inspection.specs.Findings.{AreByReport, AreFindings}
use Rattle.drive_port.specs.Contents.{SameContents}
use Rattle.drive_port.specs.Drive.{DriveState}
use Rattle.drive_port.specs.Run.{restarted}
use Rattle.drive_port.specs.declared.device.Halt.TheVariants.{Memory}
use Rattle.drive_survey.specs.Reported.{KeepsZones}
use Rattle.job_drives.specs.Kept.{IsReadIn}
use Rattle.job_drives.specs.Left.{IsLeft, IsUnread, LeavesFile}
use Rattle.job_drives.specs.declared.left.Left.{Left}
use Rattle.tail_repair.specs.Repair.{AreRepaired, AreTails, AreWhereTold, FindFails, HaveLogs, IsElsewhere, KeepsBatches, KeepsDrive, LookFails, RepairFails, may_change}
use Rattle.tail_repair.specs.declared.fault.RepairFault.{RepairFault}
use Rattle.tail_repair.specs.declared.fault.RepairFault.TheVariants as repair
use Rattle.tail_repair.specs.declared.tails.ForeignTail.{ForeignTail}
use Rattle.drive_inspection.specs.declared.finding.Findings.{Findings}
use Rattle.tool_jobs.specs.Asked.{any_text}
use Rattle.tool_jobs.specs.Telling.{Bytes, TellsText}
use Rattle.tool_jobs.specs.declared.fault.ToolFault.{ToolFault}
use Rattle.tool_jobs.specs.declared.fault.ToolFault.TheVariants as tools
use Rattle.zone_drive.specs.declared.habit.Habit.TheVariants.{Lazy}
use Rattle.repair_jobs.specs.declared.fault.RepairJobFault.{RepairJobFault}
use Rattle.repair_jobs.specs.declared.fault.RepairJobFault.TheVariants.{File, Repair, Output}
use Rattle.repair_jobs.specs.declared.mending.Mended.{Mended}

-- ---- faults

-- why a text is not written
abbrev pub untold : ToolFault → RepairJobFault
untold tools.Output = Output
untold fault = Repair (repair.Halted Memory)

-- What is written until a fault: nothing; or a beginning of the text, where the output failed.
abbrev pub IsUntold : RepairJobFault → Bytes → Bytes → Type 0
IsUntold (File fault) old new = ⊥
IsUntold (Repair fault) old new = new ≡ old
IsUntold Output old new = (text : List ℕ) × AppendsFront old new text

-- ---- what is found

-- why no zones are told of a drive
abbrev pub ListFails : DriveState → DriveState → RepairJobFault → Type 0
ListFails old new (File fault) = ⊥
ListFails old new (Repair fault) = FindFails old new fault
ListFails old new Output = Unit {0}

-- this is whether no zone is told
abbrev pub SaysWhether : Bool → List ForeignTail → Type 0
SaysWhether none tails = none ≡ (length tails == 0)

-- just these zones end in something foreign, and this is whether there is none
abbrev pub AreTailsOf : DriveState → Bool → List ForeignTail → Type 0
AreTailsOf drive none tails = AreTails drive tails × SaysWhether none tails

-- they are those of the drive that the bytes of a file hold, restarted
pub record TailsInFile (file : Bytes) (none : Bool) (tails : List ForeignTail) : Type 0 where
  pub saved : DriveState
  pub is_read : IsReadIn file saved
  pub are : AreTailsOf (restarted saved) none tails

-- why no zones are told: the bytes hold no drive, by their first fault; or as above
abbrev pub ListsNone : Bytes → RepairJobFault → Bytes → Bytes → Type 0
ListsNone file (File fault) old new = IsUnread file fault × (new ≡ old)
ListsNone file fault old new = IsUntold fault old new

-- ---- what is done

-- A drive was repaired. While it is clean, each zone holds a log, and no batch is lost with which a zone began. Just the
-- zones are named that ended in something foreign, how many blocks their batches take, and where these are then. Those
-- are all faults that the drive has at the end; or the search for them has a cause to end. In any case nothing is changed
-- where no zone is named, what was moved is in another zone, and what reports tell is found.
pub record Mends (old : DriveState) (mended : Mended) (new : DriveState) : Type 0 where
  pub drive : DriveState
  pub keeps : KeepsDrive old drive
  pub logs : IsTrue drive.clean → HaveLogs drive
  pub moved : IsTrue drive.clean → AreRepaired old mended.moved.items
  pub idle : mended.moved.items ≡ [] → SameContents old drive
  pub elsewhere : All IsElsewhere mended.moved.items
  pub there : IsTrue drive.clean → All (AreWhereTold old drive) mended.moved.items
  pub faults : IsTrue new.clean → IfOk mended.found (AreFindings drive new 1)
  pub failed : IsTrue new.clean → IfErr mended.found (LookFails new)
  pub reported : IfOk mended.found (AreByReport drive)
  pub looks : KeepsZones drive new

-- All faults that a drive has after a repair are told, and whether it can be mounted.
abbrev pub TellsMended : Result Findings RepairFault → Bool → Bytes → Bytes → Type 0
TellsMended (Ok findings) mountable old new = (mountable ≡ is_none findings.refusal) × TellsText (any_text findings) old new
TellsMended (Err fault) mountable old new = ⊥

-- What a repair does to a drive, whatever ends it. While the drive is clean, a fault has its cause. A refused one changes
-- no zone.
abbrev pub MendsDrive : DriveState → Result Mended RepairJobFault → DriveState → Type 0
MendsDrive old (Ok mended) new = Mends old mended new
MendsDrive old (Err (Repair fault)) new = KeepsDrive old new × (IsTrue new.clean → RepairFails old new fault) × (may_change fault ≡ false → SameContents old new)
MendsDrive old (Err fault) new = ⊥

-- A drive that is always clean is repaired so without a condition.
pub record MendsClean (old : DriveState) (mended : Result Mended RepairJobFault) (new : DriveState) : Type 0 where
  pub mends : MendsDrive old mended new
  pub clean : IsTrue new.clean

-- what a repair leaves of the drive that the bytes of a file hold, whatever ended it
abbrev pub MendsFile : Bytes → Result Mended RepairJobFault → Left → Bytes → Bool → Type 0
MendsFile file mended left held failed = LeavesFile (λ (old new : DriveState). MendsClean old mended new) file Lazy left held failed

-- The batches with which a zone began of the drive in a file, some zone begins with of the drive that is left.
pub record KeepsFile (file : Bytes) (left : Left) (held : Bytes) (failed : Bool) : Type 0 where
  pub opened : DriveState
  pub is_read : IsReadIn file opened
  pub drive : DriveState
  pub keeps : KeepsBatches opened drive
  pub leaves : IsLeft drive left held failed

-- the file holds no drive
abbrev pub MendsNothing : Bytes → Result Mended RepairJobFault → Type 0
MendsNothing file (Err (File fault)) = IsUnread file fault
MendsNothing file mended = ⊥

-- What is saved: the drive that is left. After a refusal nothing is, and the file stays as it is.
abbrev pub left_to_save : Option Left → Result Mended RepairJobFault → Option Left
left_to_save left (Err (Repair fault)) = if may_change fault then left else None
left_to_save left mended = left
