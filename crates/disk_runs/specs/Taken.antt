-- Which lines of a trace are taken, and after which of them the disk is flushed.
use Rattle.std.specs.Prelude.{◌≡◌, ◌⊎◌, ℕ, ◌||◌, Bool, true, false, not, List, Option, Some, None, Result, Ok, Err}
use Rattle.std.specs.Prelude.{is_some}
use Rattle.disk_files.specs.TraceLine.{is_skipped, trace_line}
use Rattle.disk_files.specs.declared.trace_line.TraceLine.{TraceLine}
use Rattle.disk_files.specs.declared.trace_line.TraceLine.TheVariants.{Read}
use Rattle.zone_translator.specs.Answers.{Answers}
use Rattle.zone_translator.specs.Flat.{FlatCall, FlatDisk, flush, with_nothing}
use Rattle.zone_translator.specs.View.{CompletesAtMost, DiskView, disk_turns}
use Rattle.zone_translator.specs.declared.fault.DiskFault.{DiskFault}
use Rattle.disk_runs.specs.FlatLines.{AnswersRequest, RefusesRequest, asked, flat, is_legal, request_of}
use Rattle.disk_runs.specs.Run.{Language}
use Rattle.disk_runs.specs.Trace.{AnswersLine, RefusesLine, trace}
use Rattle.disk_runs.specs.declared.fault.RunFault.{RunFault}
use Rattle.disk_runs.specs.declared.fault.RunFault.TheVariants.{Disk}
use Rattle.disk_runs.specs.declared.taking.Taking.{Taking}
use Rattle.disk_runs.specs.declared.taking.Taking.TheVariants.{All, Reads, Synced}

-- ---- which lines are taken

-- whether a line says `read`
abbrev pub is_read : TraceLine → Bool
is_read (Read first n) = true
is_read line = false

-- the same of the line's text
abbrev pub says_read : Option (TraceLine × List ℕ) → Bool
says_read (Some said) = is_read said.0
says_read None = false

-- a line that is skipped or says `read` changes nothing
abbrev pub only_looks : List ℕ → Bool
only_looks line = is_skipped line || says_read (trace_line line)

-- which lines are taken, over blocks of this many bytes: all that are legal, or only those that change nothing
abbrev pub takes : Taking → ℕ → List ℕ → Bool
takes All size line = is_legal size line
takes Reads size line = only_looks line
takes Synced size line = is_legal size line

-- the same of a line that is not skipped, by what it says and its data
abbrev pub takes_call : Taking → ℕ → TraceLine → List ℕ → Bool
takes_call All size line bytes = is_some (asked size line bytes)
takes_call Reads size line bytes = is_read line
takes_call Synced size line bytes = is_some (asked size line bytes)

-- what a run takes that is not synced: all lines, or only those that read
abbrev pub unsynced : Bool → Taking
unsynced true = Reads
unsynced false = All

-- ---- after which the disk is flushed

-- In a synced run the disk is flushed after each line but those that change nothing. Turns of cleaning and a remount
-- leave the array, but change the drive. They are flushed too: so a loss of power takes nothing back that was replied
-- to.
abbrev pub is_flushed : Taking → List ℕ → Bool
is_flushed All line = false
is_flushed Reads line = false
is_flushed Synced line = not (only_looks line)

-- the same of a line that is not skipped, by what it says
abbrev pub flushes : Taking → TraceLine → Bool
flushes All line = false
flushes Reads line = false
flushes Synced line = not (is_read line)

-- a disk is flushed, or that is refused
pub record FlushesDisk (old : DiskView) (result : Result (Unit {0}) DiskFault) (new : DiskView) : Type 0 where
  pub answers : Answers old flush result new
  pub turns : disk_turns new ≡ disk_turns old
  pub completed : CompletesAtMost old 1 new

-- it is flushed only if that is asked for
abbrev pub FlushesIf : Bool → DiskView → Result (Unit {0}) DiskFault → DiskView → Type 0
FlushesIf true old result new = FlushesDisk old result new
FlushesIf false old result new = (result ≡ Ok tt) × (new ≡ old)

-- ---- what is answered

-- a line is answered, and then the disk is flushed, or that is refused
pub record AnswersThenFlushes (old : DiskView) (line reply : List ℕ) (result : Result (Unit {0}) DiskFault)
    (new : DiskView) : Type 0 where
  pub middle : DiskView
  pub answers : AnswersLine old line reply middle
  pub flushed : FlushesDisk middle result new

-- a line is answered; where a flush follows it, the flush is done before the reply
abbrev pub AnswersWith : Bool → DiskView → List ℕ → List ℕ → DiskView → Type 0
AnswersWith false old line reply new = AnswersLine old line reply new
AnswersWith true old line reply new = AnswersThenFlushes old line reply (Ok tt) new

-- A line is refused. Where a flush follows it, it may also be answered, and the flush be refused: then the line is
-- done, and has no reply.
abbrev pub RefusesWith : Bool → DiskView → List ℕ → RunFault → DiskView → Type 0
RefusesWith false old line fault new = RefusesLine old line fault new
RefusesWith true old line (Disk fault) new =
    RefusesLine old line (Disk fault) new ⊎ ((reply : List ℕ) × AnswersThenFlushes old line reply (Err fault) new)
RefusesWith true old line fault new = RefusesLine old line fault new

-- the lines of a trace that are taken, as a disk above a drive answers them
abbrev pub disk_lines : Taking → Language DiskView
disk_lines taking = record trace {
  is_legal = λ disk line. takes taking disk.drive.geometry.block line;
  Answers = λ old line reply new. AnswersWith (is_flushed taking line) old line reply new;
  Refuses = λ old line fault new. RefusesWith (is_flushed taking line) old line fault new;
}

-- only the lines that are skipped or ask for a read: none of them changes the array
abbrev pub reads : Language DiskView
reads = disk_lines Reads

-- all lines, each of which is durable before its reply
abbrev pub synced : Language DiskView
synced = disk_lines Synced

-- ---- what a flat disk answers

-- a line is answered, and then the flush of the disk is refused
pub record AnswersThenFails (old : FlatDisk) (line : List ℕ) (fault : DiskFault) (new : FlatDisk) : Type 0 where
  pub reply : List ℕ
  pub middle : FlatDisk
  pub answers : AnswersRequest old (request_of old.block line) reply middle
  pub refused : FlatCall middle flush (with_nothing (Err fault)) new

abbrev pub FlatRefusesWith : Bool → FlatDisk → List ℕ → RunFault → FlatDisk → Type 0
FlatRefusesWith false old line fault new = RefusesRequest old (request_of old.block line) fault new
FlatRefusesWith true old line (Disk fault) new =
    RefusesRequest old (request_of old.block line) (Disk fault) new ⊎ AnswersThenFails old line fault new
FlatRefusesWith true old line fault new = RefusesRequest old (request_of old.block line) fault new

-- The same lines, as a flat disk answers them: a flush that is done changes nothing of it.
abbrev pub flat_lines : Taking → Language FlatDisk
flat_lines taking = record flat {
  is_legal = λ disk line. takes taking disk.block line;
  Refuses = λ old line fault new. FlatRefusesWith (is_flushed taking line) old line fault new;
}
