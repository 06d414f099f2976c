-- What a run of a trace gives, and what it leaves of the drive.
use Rattle.std.specs.Prelude.{◌≡◌, ◌⊎◌, ℕ, zero, suc, ◌<◌, ◌≤◌, Bool, true, false, List, length, Option, Some, None}
use Rattle.std.specs.Prelude.{if◌then◌else◌, Result, Ok, Err, IfErr, OnOk, ⊤}
use Rattle.std.specs.Io.KnownBytes.{Keeps}
use Rattle.drive_port.specs.Drive.{DriveState}
use Rattle.drive_array.specs.ZoneLogs.{encoded}
use Rattle.drive_array.specs.Mountable.{IsMountable}
use Rattle.drive_array.specs.Reserve.{most_size}
use Rattle.drive_survey.specs.declared.fault.MountFault.{MountFault}
use Rattle.remount.specs.Kept.{KeepsMountable}
use Rattle.remount.specs.Mount.{IsToMount}
use Rattle.drive_survey.specs.Scan.{IsInterruption}
use Rattle.zone_cleaner.specs.Start.{TurnsFewer}
use Rattle.disk_files.specs.TraceLine.{is_skipped, trace_line}
use Rattle.disk_files.specs.declared.trace_line.TraceLine.{TraceLine}
use Rattle.disk_files.specs.declared.trace_line.TraceLine.TheVariants.{Read, Fill, Write, Trim, Idle, Grow, Remount}
use Rattle.zone_translator.specs.Answers.{CostsAtMost, KeepsClean, SaysSize, Stores, count_of_blocks, write_bytes}
use Rattle.zone_translator.specs.Calls.{IsTurn, is_known}
use Rattle.zone_translator.specs.Changes.{IsCause}
use Rattle.zone_translator.specs.Flat.{Call, FlatDisk, fill, grow, trim}
use Rattle.zone_translator.specs.Keeping.{KeepsServed}
use Rattle.zone_translator.specs.Mount.{GivesBack, MountsDisk}
use Rattle.zone_translator.specs.View.{CompletesAtMost, CostsBatches, DiskView, disk_size, disk_turns, flat_of, given_size}
use Rattle.zone_translator.specs.View.{most_batches, mounted_of, next_sequence}
use Rattle.zone_translator.specs.declared.fault.DiskFault.{DiskFault}
use Rattle.zone_translator.specs.declared.fault.DiskFault.TheVariants.{Unmounted}
use Rattle.zone_translator.specs.declared.status.DiskStatus.{DiskStatus}
use Rattle.zone_translator.specs.declared.status.DiskStatus.TheVariants as statuses
use Rattle.disk_runs.specs.FlatLines.{AnswersRequest, RefusesRequest, Request, is_legal, request_of}
use Rattle.disk_runs.specs.Run.{Exchange, Language, Runs}
use Rattle.disk_runs.specs.declared.fault.RunFault.{RunFault}
use Rattle.disk_runs.specs.declared.fault.RunFault.TheVariants.{Disk, Mount, Geometry, Memory}

-- ---- lines

-- the drive of a disk was mounted again, and no command was refused
pub record MountsAgain (old new : DiskView) : Type 0 where
  pub disk : MountsDisk old.drive (given_size old) new
  pub kept : KeepsMountable (given_size old) old.drive new.drive

-- A turn of cleaning is done. It is the next step of the clean that runs, which has fewer turns left then. If none
-- runs, it is the start of one that is due, or nothing changes.
pub record TakesOne (old new : DiskView) : Type 0 where
  pub served : KeepsServed old new
  pub turn : IsTurn old (Ok tt) new
  pub turns : TurnsFewer (mounted_of old) (mounted_of new) old.clean new.clean
  pub completed : CompletesAtMost old 2 new

-- that many turns are done, one after the other
abbrev pub TakesTurns : ℕ → DiskView → DiskView → Type 0
TakesTurns zero old new = new ≡ old
TakesTurns (suc n) old new = (middle : DiskView) × TakesOne old middle × TakesTurns n middle new

-- some of the turns are done, and the next one is refused, which leaves as many turns of a clean as before
pub record TakesFewer (n : ℕ) (fault : DiskFault) (old new : DiskView) : Type 0 where
  pub done : ℕ
  pub few : done < n
  pub middle : DiskView
  pub before : TakesTurns done old middle
  pub turn : middle.status ≡ statuses.Serving → IsTurn middle (Err fault) new
  pub turns : disk_turns new ≡ disk_turns middle
  pub completed : CompletesAtMost middle 2 new

-- turns by their answer
abbrev pub TurnsBy : Result (Unit {0}) DiskFault → ℕ → DiskView → DiskView → Type 0
TurnsBy (Ok done) n old new = TakesTurns n old new
TurnsBy (Err fault) n old new = TakesFewer n fault old new

-- n blocks are read: by n commands at most, and as many turns of a clean are left
pub record ReadsFew (n : ℕ) (old new : DiskView) : Type 0 where
  pub turns : disk_turns new ≡ disk_turns old
  pub completed : CompletesAtMost old n new

-- n blocks are written as one write, as data or by trims; a call whose answer is known beforehand changes nothing
pub record WritesOnce (call : Call) (trim : Bool) (first n : ℕ) (result : Result (Unit {0}) DiskFault)
    (old new : DiskView) : Type 0 where
  pub served : KeepsServed old new
  pub untouched : is_known (flat_of old) call ≡ true → new ≡ old
  pub stores : is_known (flat_of old) call ≡ false → Stores trim old first n result new
  pub costs : CostsAtMost old (most_batches trim old n) result new

-- a disk has this size, also if it had it before: a batch was appended, and the headers say the size
pub record GrowsOnce (size : ℕ) (result : Result (Unit {0}) DiskFault) (old new : DiskView) : Type 0 where
  pub served : KeepsServed old new
  pub untouched : is_known (flat_of old) (grow size) ≡ true → new ≡ old
  pub says : is_known (flat_of old) (grow size) ≡ false → OnOk result (SaysSize old size new)
  pub turns : OnOk result (disk_turns new ≤ disk_turns old)
  pub clean : KeepsClean old new
  pub completed : CostsBatches old 1 new

-- What a line does, by what it says and its data, and whether it was refused. A `fill` and a `write` leave data, a
-- `trim` leaves trims. A line that was refused costs no more than one that is done.
abbrev pub Does : TraceLine → List ℕ → Result (Unit {0}) DiskFault → DiskView → DiskView → Type 0
Does (Read first n) bytes result old new = KeepsServed old new × ReadsFew n old new
Does (Fill first n byte) bytes result old new =
    WritesOnce (fill old.drive.geometry.block first n byte) false first n result old new
Does (Write first) bytes result old new =
    WritesOnce (write_bytes old first bytes) false first (count_of_blocks old bytes) result old new
Does (Trim first n) bytes result old new =
    WritesOnce (trim old.drive.geometry.block first n) true first n result old new
Does (Idle n) bytes result old new = KeepsServed old new × TurnsBy result n old new
Does (Grow size) bytes result old new = GrowsOnce size result old new
Does Remount bytes result old new = OnOk result (MountsAgain old new)

-- What a line did that has no reply: where memory ran out for it, blocks were read. Of a remount that is refused
-- nothing more is said.
abbrev pub StopsBy : RunFault → TraceLine → List ℕ → DiskView → DiskView → Type 0
StopsBy (Disk fault) line bytes old new = Does line bytes (Err fault) old new
StopsBy Memory line bytes old new = ReadsFew (disk_size old) old new
StopsBy fault line bytes old new = ⊤

-- what a line says, and its data; a line that is skipped says nothing
abbrev pub said_by : List ℕ → Option (TraceLine × List ℕ)
said_by line = if is_skipped line then None else trace_line line

-- a line that is skipped does nothing
abbrev pub DoesSaid : Option (TraceLine × List ℕ) → DiskView → DiskView → Type 0
DoesSaid None old new = new ≡ old
DoesSaid (Some said) old new = Does said.0 said.1 (Ok tt) old new

-- and is never refused
abbrev pub StopsSaid : Option (TraceLine × List ℕ) → RunFault → DiskView → DiskView → Type 0
StopsSaid None fault old new = ⊥
StopsSaid (Some said) fault old new = StopsBy fault said.0 said.1 old new

-- what a disk keeps whose drive was not mounted again: a drive that can be mounted
pub record KeepsDrive (old new : DiskView) : Type 0 where
  pub given : given_size new ≡ given_size old
  pub geometry : new.drive.geometry ≡ old.drive.geometry
  pub mountable : IsMountable new.drive (given_size new)
  pub refused : new.drive.refused ≡ old.drive.refused

-- what a line keeps of a disk that ends a run by a fault
abbrev pub KeepsFault : RunFault → DiskView → DiskView → Type 0
KeepsFault (Mount fault) old new = IsMountable old.drive (given_size old) → KeepsDrive old new
KeepsFault fault old new = KeepsServed old new

-- why a disk ends a run; a drive that could be mounted is not mounted again only where an allocation failed or the
-- drive halted
abbrev pub EndCause : DiskView → RunFault → Type 0
EndCause disk (Disk Unmounted) = disk.status ≡ statuses.Unmounted
EndCause disk (Disk fault) = IsCause disk.drive (next_sequence disk) fault
EndCause disk (Mount fault) = IsInterruption disk.drive fault
EndCause disk fault = ⊥

-- the faults that a refused line ends a run with have a cause of their own
abbrev pub HasCause : (RunFault → Type 0) → RunFault → Type 0
HasCause Cause (Disk fault) = Cause (Disk fault)
HasCause Cause (Mount fault) = Cause (Mount fault)
HasCause Cause (Geometry fault) = Cause (Geometry fault)
HasCause Cause fault = ⊤

-- what a line asks for, of a disk whose drive has blocks of this many bytes
abbrev pub wanted_of : DiskView → List ℕ → Option Request
wanted_of disk line = request_of disk.drive.geometry.block line

-- a line is answered as a flat disk answers it, does to the disk and its drive what it says, and leaves what is durable
pub record AnswersLine (old : DiskView) (line reply : List ℕ) (new : DiskView) : Type 0 where
  pub flat : AnswersRequest (flat_of old) (wanted_of old line) reply (flat_of new)
  pub does : DoesSaid (said_by line) old new
  pub durable : new.drive.durable ≡ old.drive.durable

-- a line is refused as a flat disk refuses it, for a cause of its own, and costs no more than one that is done
pub record RefusesLine (old : DiskView) (line : List ℕ) (fault : RunFault) (new : DiskView) : Type 0 where
  pub flat : RefusesRequest (flat_of old) (wanted_of old line) fault (flat_of new)
  pub keeps : KeepsFault fault old new
  pub cause : EndCause new fault
  pub does : StopsSaid (said_by line) fault old new
  pub durable : new.drive.durable ≡ old.drive.durable

-- nothing came of a line, but that blocks of the disk were read
pub record ComesToNothing (old new : DiskView) : Type 0 where
  pub flat : flat_of new ≡ flat_of old
  pub keeps : KeepsServed old new
  pub reads : ReadsFew (disk_size old) old new
  pub durable : new.drive.durable ≡ old.drive.durable

-- the lines of a trace, as a disk above a drive answers them
abbrev pub trace : Language DiskView
trace = record {
  is_legal = λ disk line. is_legal disk.drive.geometry.block line;
  Answers = AnswersLine;
  Refuses = RefusesLine;
  Same = ComesToNothing;
}

-- ---- a run

-- The disk of this size that a drive keeps which was mounted as n blocks. After a stop inside a growth the array may
-- have more blocks than the size, by which calls are checked.
abbrev pub disk_on : ℕ → DriveState → ℕ → DiskStatus → FlatDisk
disk_on n drive size status = record {
  array = encoded drive n;
  size = size;
  status = status;
  block = drive.geometry.block;
  most = most_size drive.geometry;
}

-- the disk at first: it serves the array that its drive encodes, of n blocks if no header has a size
abbrev pub disk_at_first : ℕ → DriveState → FlatDisk
disk_at_first n drive = disk_on n drive (length (encoded drive n)) statuses.Serving

-- A run over the disk that a drive keeps, as a flat disk answers its lines in this language. It ends with a disk of
-- some size, which serves or does not.
abbrev pub RunsFlat : Language FlatDisk → ℕ → Exchange → DriveState → Result (Unit {0}) RunFault → DriveState → Type 0
RunsFlat language n bytes old ended new =
    (size : ℕ) × (status : DiskStatus) × Runs language bytes (disk_at_first n old) ended (disk_on n new size status)

-- The drive was not mounted, and is given back: nothing was written.
pub record IsNotMounted (n : ℕ) (bytes : Exchange) (old : DriveState) (fault : MountFault)
    (new : DriveState) : Type 0 where
  pub back : GivesBack old n fault new
  pub unwritten : Keeps bytes.written bytes.contents

-- The lines are answered by the disk that the drive keeps. Where the drive is not mounted at first, nothing is written.
abbrev pub RunGives : Language FlatDisk → ℕ → Exchange → DriveState → Result (Unit {0}) RunFault → DriveState → Type 0
RunGives language n bytes old (Err (Mount fault)) new =
    IsNotMounted n bytes old fault new ⊎ RunsFlat language n bytes old (Err (Mount fault)) new
RunGives language n bytes old ended new = RunsFlat language n bytes old ended new

-- why a disk refused a call: it is none that was refused by a remount
abbrev pub CallCause : DiskView → RunFault → Type 0
CallCause disk (Disk fault) = IsCause disk.drive (next_sequence disk) fault
CallCause disk fault = ⊤

-- The drive could be mounted, and can be mounted again, of the same shape; no command was refused. It was mounted as a
-- disk, and the lines that were answered led from that disk to one whose drive is handed back.
pub record RunKeeps (language : Language DiskView) (n : ℕ) (bytes : Exchange) (old : DriveState)
    (ended : Result (Unit {0}) RunFault)
    (new : DriveState) : Type 0 where
  pub can : IsToMount old n
  pub geometry : new.geometry ≡ old.geometry
  pub mountable : IsMountable new n
  pub refused : new.refused ≡ old.refused
  pub first : DiskView
  pub mounted : MountsDisk old n first
  pub kept : KeepsMountable n old first.drive
  pub last : DiskView
  pub runs : Runs language bytes first ended last
  pub cause : IfErr ended (CallCause last)
  pub drive : new ≡ last.drive

-- A drive after a run.
abbrev pub RunLeaves : Language DiskView → ℕ → Exchange → DriveState → Result (Unit {0}) RunFault → DriveState → Type 0
RunLeaves language n bytes old (Err (Mount fault)) new =
    IsNotMounted n bytes old fault new ⊎ RunKeeps language n bytes old (Err (Mount fault)) new
RunLeaves language n bytes old (Err (Geometry fault)) new = ⊥
RunLeaves language n bytes old ended new = RunKeeps language n bytes old ended new
