-- What holds of runs.
use Rattle.std.specs.Prelude.{◌≡◌, ◌⊎◌, ℕ, zero, suc, ◌+◌, ◌<◌, ◌≤◌, Bool, true, false, List, [], ◌∷◌, Contains, Option}
use Rattle.std.specs.Prelude.{Some, None, Result, Ok, Err, ⊤}
use Rattle.std.specs.List.{AllByRecursion}
use Rattle.zone_states.specs.Zone.{Zone}
use Rattle.drive_port.specs.Drive.{DriveState}
use Rattle.disk_files.specs.declared.trace_line.TraceLine.{TraceLine}
use Rattle.disk_files.specs.declared.trace_line.TraceLine.TheVariants.{Idle}
use Rattle.remount.specs.Kept.{KeepsMountable}
use Rattle.zone_choice.specs.Sane.{KeepsShape}
use Rattle.zone_translator.specs.Laws.{CanMountAgain, LeavesDisk}
use Rattle.zone_translator.specs.Mount.{MountsDisk}
use Rattle.zone_translator.specs.View.{CompletesAtMost, CostsMost, DiskView, disk_array, disk_size, disk_turns, given_size}
use Rattle.disk_runs.specs.AnyDevice.{NoneResizes, any_lines}
use Rattle.disk_runs.specs.Costs.{NoneMounts, all_commands, line_commands, mounts}
use Rattle.disk_runs.specs.Run.{AnswersAll, Exchange, IsNextLine, Known, Language, Runs, StopsAt}
use Rattle.disk_runs.specs.Taken.{AnswersWith, disk_lines, is_flushed, reads, synced}
use Rattle.disk_runs.specs.Trace.{AnswersLine, DoesSaid, RunKeeps, TakesTurns, said_by}
use Rattle.disk_runs.specs.declared.fault.RunFault.{RunFault}
use Rattle.disk_runs.specs.declared.fault.RunFault.TheVariants.{Disk, Mount, Output, Memory}
use Rattle.disk_runs.specs.declared.taking.Taking.{Taking}
use Rattle.disk_runs.specs.declared.taking.Taking.TheVariants.{Synced}

-- ---- runs of lines that read

-- a run of which only the lines are taken that read leaves the array as it was, however it ends
abbrev pub ReadsKeepArray : Type 0
ReadsKeepArray =
    (bytes : Exchange) (old new : DiskView) (ended : Result (Unit {0}) RunFault) → Runs reads bytes old ended new
    → disk_array new ≡ disk_array old

-- ---- progress

-- how many turns of cleaning it asks for
abbrev pub turns_asked : Option (TraceLine × List ℕ) → ℕ
turns_asked (Some (Idle n, bytes)) = n
turns_asked said = 0

abbrev pub all_turns : List (List ℕ) → ℕ
all_turns [] = 0
all_turns (line ∷ lines) = turns_asked (said_by line) + all_turns lines

-- Whatever lines of a run are answered, they take no more commands than each may, if none of them mounts the drive
-- again.
abbrev pub CommandsAreFew : (Taking → Language DiskView) → Type 0
CommandsAreFew lines_of =
    (taking : Taking) (old new : DiskView) (lines : List (List ℕ)) (text : List ℕ)
    → AnswersAll (lines_of taking) old lines text new → NoneMounts lines
    → CostsMost old (λ each. all_commands taking each old.drive.geometry lines) new

-- and the line that ends a run takes no more than one that is answered; nothing is said of one that mounts the drive
-- again
abbrev pub LastCosts : (language : Language DiskView) (taking : Taking) (fault : RunFault) (left : Known) (number : ℕ)
    (old : DiskView) (shown : List ℕ)
    (new : DiskView) → StopsAt language fault left number old shown new → Type 0
LastCosts language taking Output left number old shown new s =
    mounts (said_by s.line) ≡ false → CostsMost old (λ each. line_commands taking each old.drive.geometry s.line) new
LastCosts language taking (Disk fault) left number old shown new s =
    mounts (said_by s.1.line) ≡ false → CostsMost old (λ each. line_commands taking each old.drive.geometry s.1.line) new
LastCosts language taking (Mount fault) left number old shown new s = ⊤
LastCosts language taking Memory left number old shown new s = CompletesAtMost old (disk_size old) new
LastCosts language taking fault left number old shown new s = CompletesAtMost old 0 new

abbrev pub LastIsFew : (Taking → Language DiskView) → Type 0
LastIsFew lines_of =
    (taking : Taking) (fault : RunFault) (left : Known) (number : ℕ) (old : DiskView) (shown : List ℕ) (new : DiskView)
    (s : StopsAt (lines_of taking) fault left number old shown new)
    → LastCosts (lines_of taking) taking fault left number old shown new s

-- From a mount on, a clean that runs has always fewer turns left than a zone has blocks.
abbrev pub TurnsAreFew : Type 0
TurnsAreFew =
    (taking : Taking) (drive : DriveState) (n : ℕ) (first new : DiskView) (lines : List (List ℕ)) (text : List ℕ)
    → MountsDisk drive n first
    → KeepsMountable n drive first.drive → AnswersAll (disk_lines taking) first lines text new
    → disk_turns new < new.drive.geometry.capacity

-- at a moment before one of these turns no clean runs
abbrev pub PausesAmong : (n : ℕ) (old new : DiskView) → TakesTurns n old new → Type 0
PausesAmong zero old new taken = ⊥
PausesAmong (suc n) old new taken = (old.clean ≡ None) ⊎ PausesAmong n taken.0 new taken.2

-- the same of the turns that a line takes
abbrev pub PausesAt : (said : Option (TraceLine × List ℕ)) (old new : DiskView) → DoesSaid said old new → Type 0
PausesAt (Some (Idle n, bytes)) old new does = PausesAmong n old new does.1
PausesAt said old new does = ⊥

-- the same of a line that is answered
abbrev pub PausesWith : (flushed : Bool) (old : DiskView) (line reply : List ℕ) (new : DiskView)
    → AnswersWith flushed old line reply new → Type 0
PausesWith false old line reply new answers = PausesAt (said_by line) old new answers.does
PausesWith true old line reply new answers = PausesAt (said_by line) old answers.middle answers.answers.does

-- at a moment of these answers no clean runs: among the turns of a line, or when the lines end
abbrev pub Pauses : (taking : Taking) (old : DiskView) (lines : List (List ℕ)) (text : List ℕ) (new : DiskView)
    → AnswersAll (disk_lines taking) old lines text new → Type 0
Pauses taking old [] text new all = old.clean ≡ None
Pauses taking old (line ∷ lines) text new all =
    PausesWith (is_flushed taking line) old line all.reply all.middle all.answers
    ⊎ Pauses taking all.middle lines all.after new all.rest

-- A clean ends by its last turn, whatever lines fall between: where lines ask for as many turns as are left of the
-- clean that runs, then at a moment of them no clean runs.
abbrev pub CleansEnd : Type 0
CleansEnd =
    (taking : Taking) (old new : DiskView) (lines : List (List ℕ)) (text : List ℕ)
    (all : AnswersAll (disk_lines taking) old lines text new)
    → disk_turns old ≤ all_turns lines → Pauses taking old lines text new all

-- ---- over any device

-- A run keeps the shape of its drive, whatever the Reads of the drive returned, and however it ends.
abbrev pub RunKeepsShape : Type 0
RunKeepsShape =
    (taking : Taking) (bytes : Exchange) (old new : DiskView) (ended : Result (Unit {0}) RunFault)
    → Runs (any_lines taking) bytes old ended new
    → KeepsShape old.drive new.drive

-- the lines that it answers keep the size of the disk, if none of them is a growth or mounts the drive again
abbrev pub LinesKeepSize : Type 0
LinesKeepSize =
    (taking : Taking) (old new : DiskView) (lines : List (List ℕ)) (text : List ℕ)
    → AnswersAll (any_lines taking) old lines text new → NoneResizes lines
    → disk_size new ≡ disk_size old

-- ---- a loss of power in a synced run

-- A loss of power leaves these zones: those of a disk that was flushed, with the array of this one. A mount of them
-- finds that array.
pub record LeavesFlushed (disk : DiskView) (zones : List Zone) : Type 0 where
  pub flushed : DiskView
  pub leaves : LeavesDisk flushed zones
  pub geometry : flushed.drive.geometry ≡ disk.drive.geometry
  pub given : given_size flushed ≡ given_size disk
  pub array : disk_array flushed ≡ disk_array disk

-- no flush follows these lines
abbrev pub NoneFlushed : List (List ℕ) → Type 0
NoneFlushed lines = AllByRecursion (λ (line : List ℕ). is_flushed Synced line ≡ false) lines

-- What it leaves after lines that were answered: the array after the last of them. Where none was flushed, it may also
-- leave what it might have left before the first.
abbrev pub LossAfterLines : DiskView → List (List ℕ) → DiskView → List Zone → Type 0
LossAfterLines first lines last zones =
    LeavesFlushed last zones ⊎ (NoneFlushed lines × Contains first.drive.durable zones)

abbrev pub AnsweredIsDurable : Type 0
AnsweredIsDurable =
    (first last : DiskView) (lines : List (List ℕ)) (text : List ℕ) → CanMountAgain first
    → AnswersAll synced first lines text last
    → (zones : List Zone) → Contains last.drive.durable zones → LossAfterLines first lines last zones

-- The next line was done, but its reply was not written whole: its flush was refused, or the writer failed. The array
-- after it is left.
pub record LeavesDone (left : Known) (old : DiskView) (zones : List Zone) : Type 0 where
  pub line : List ℕ
  pub next : IsNextLine left line
  pub reply : List ℕ
  pub done : DiskView
  pub answers : AnswersLine old line reply done
  pub leaves : LeavesFlushed done zones

-- What it leaves after a run: the array after the last line that was answered or, where the line that ended the run was
-- done, the array after that one.
abbrev pub LossAfterRun : (bytes : Exchange) (first : DiskView) (ended : Result (Unit {0}) RunFault) (last : DiskView)
    → Runs synced bytes first ended last → List Zone → Type 0
LossAfterRun bytes first (Ok done) last ran zones = LossAfterLines first ran.lines last zones
LossAfterRun bytes first (Err fault) last ran zones =
    LossAfterLines first ran.lines ran.middle zones ⊎ LeavesDone ran.left ran.middle zones

abbrev pub RunIsDurable : Type 0
RunIsDurable =
    (bytes : Exchange) (first : DiskView) (ended : Result (Unit {0}) RunFault) (last : DiskView) → CanMountAgain first
    → (ran : Runs synced bytes first ended last) → (zones : List Zone) → Contains last.drive.durable zones
    → LossAfterRun bytes first ended last ran zones

-- the same of a drive that was mounted, and is given back
abbrev pub DriveIsDurable : Type 0
DriveIsDurable =
    (n : ℕ) (bytes : Exchange) (old : DriveState) (ended : Result (Unit {0}) RunFault) (new : DriveState)
    → (keeps : RunKeeps synced n bytes old ended new)
    → (zones : List Zone) → Contains new.durable zones
    → LossAfterRun bytes keeps.first ended keeps.last keeps.runs zones
