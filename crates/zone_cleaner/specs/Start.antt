-- When a clean starts, and what a turn and a whole clean leave.
use Rattle.std.specs.Prelude.{◌≡◌, ℕ, zero, suc, ◌+◌, ◌≤◌, ◌<◌, ◌⊎◌, Bool, true, false, IsFalse, IsTrue, List, [], ◌∷◌, map, Option, Some, None, is_some, Result, Ok, Err, IfErr}
use Rattle.zone_states.specs.declared.geometry.Geometry.{Geometry}
use Rattle.drive_port.specs.Drive.{DriveState}
use Rattle.logical_map.specs.Live.{live}
use Rattle.zone_choice.specs.Agreement.{Agrees, MountedView, mounted_array}
use Rattle.drive_array.specs.ZoneLogs.{drive_logs}
use Rattle.zone_choice.specs.Changes.{sequence_end}
use Rattle.drive_array.specs.Mountable.{IsMountable}
use Rattle.drive_array.specs.Reserve.{batch_most, move_blocks}
use Rattle.zone_choice.specs.Roles.{IsLowestEmpty, RolesView, empty_count, next_of, with_destination}
use Rattle.zone_choice.specs.declared.unreadable.Unreadable.{Unreadable}
use Rattle.zone_choice.specs.Tables.{IsLeastSealed, TablesView, is_left_out, size_of}
use Rattle.zone_cleaner.specs.declared.fault.CleanFault.{CleanFault}
use Rattle.zone_cleaner.specs.declared.fault.CleanFault.TheVariants as faults
use Rattle.zone_cleaner.specs.Clean.{CleanView, Cleans, started, trims, turns_left, turns_of}
use Rattle.zone_cleaner.specs.Turns.{OnlyMoves, StepLeaves, next_step}

-- A clean of this zone is due: there is no second zone, one or two zones are empty, it is the sealed zone with the
-- fewest live records, the lowest of equals, and with these a zone has two free blocks left.
pub record IsDue (geometry : Geometry) (tables : TablesView) (victim : ℕ) : Type 0 where
  pub alone : tables.roles.second ≡ None
  pub some : 1 ≤ empty_count tables.roles
  pub few : empty_count tables.roles ≤ 2
  pub least : IsLeastSealed tables victim
  pub fits : move_blocks (batch_most geometry) (live tables.map victim) + 2 ≤ geometry.capacity

abbrev pub NoneIsDue : Geometry → TablesView → Type 0
NoneIsDue geometry tables = (victim : ℕ) → IsDue geometry tables victim → ⊥

-- the zone of which a clean is due, if one is
abbrev pub FindsDue : Geometry → TablesView → Option ℕ → Type 0
FindsDue geometry tables (Some victim) = IsDue geometry tables victim
FindsDue geometry tables None = NoneIsDue geometry tables

-- the clean of a zone has begun: the lowest empty zone is its destination
pub record Starts (geometry : Geometry) (old new : TablesView) (clean : CleanView) : Type 0 where
  pub victim : ℕ
  pub due : IsDue geometry old victim
  pub destination : ℕ
  pub lowest : IsLowestEmpty old.roles destination
  pub tables : new ≡ record old { roles = with_destination old.roles destination }
  pub clean_is : clean ≡ started victim

-- after a turn if no clean runs: the clean that is due has begun, or none is due, and nothing changed
abbrev pub StartLeaves : Geometry → TablesView → TablesView → Option CleanView → Type 0
StartLeaves geometry old new (Some clean) = Starts geometry old new clean
StartLeaves geometry old new None = NoneIsDue geometry old × (new ≡ old)

-- after a turn, by its answer: it does the next step of the clean that runs; if none runs, no command is sent
abbrev pub TurnLeaves : MountedView → Option CleanView → Result (Unit {0}) CleanFault → MountedView → Option CleanView → Type 0
TurnLeaves before None (Ok done) after new = (after.drive ≡ before.drive) × StartLeaves before.drive.geometry before.tables after.tables new
TurnLeaves before None (Err fault) after new = ⊥
TurnLeaves before (Some clean) result after new = StepLeaves (next_step (batch_most before.drive.geometry) before.tables clean) before clean result after new

-- a turn that is done, or that failed at data which it has noted
abbrev pub IsPassed : Result (Unit {0}) CleanFault → Type 0
IsPassed (Ok done) = Unit {0}
IsPassed (Err faults.Failed) = Unit {0}
IsPassed (Err fault) = ⊥

-- a clean runs, or a command has failed
abbrev pub IsOn : MountedView → Option CleanView → Type 0
IsOn disk clean = (is_some clean ≡ true) ⊎ IsFalse disk.drive.unfailing

-- that many such turns, one after the other: while no command fails, they are of a clean that runs
abbrev pub AreMoreTurns : ℕ → MountedView → Option CleanView → MountedView → Option CleanView → Type 0
AreMoreTurns zero before old after new = (after ≡ before) × (new ≡ old)
AreMoreTurns (suc n) before old after new =
    IsOn before old
    × ((result : Result (Unit {0}) CleanFault) × IsPassed result
    × ((middle : MountedView) × (clean : Option CleanView) × TurnLeaves before old result middle clean × AreMoreTurns n middle clean after new))

-- and the first of them may start it
abbrev pub AreTurns : ℕ → MountedView → Option CleanView → MountedView → Option CleanView → Type 0
AreTurns zero before old after new = (after ≡ before) × (new ≡ old)
AreTurns (suc n) before old after new =
    (result : Result (Unit {0}) CleanFault) × IsPassed result
    × ((middle : MountedView) × (clean : Option CleanView) × TurnLeaves before old result middle clean × AreMoreTurns n middle clean after new)

-- the clean that runs, if one does, is to be undone
abbrev pub is_given_up : TablesView → Option CleanView → Bool
is_given_up tables None = false
is_given_up tables (Some clean) = is_left_out tables clean.victim

-- why a clean has not ended, by what could not be read: while all can be, each clean ends
abbrev pub why_unfinished : List Unreadable → CleanFault
why_unfinished [] = faults.Damaged
why_unfinished (lost ∷ more) = faults.Failed

abbrev pub unfinished : TablesView → CleanFault
unfinished tables = why_unfinished tables.unreadable

-- the drive is the same, and the tables but for what they note as unreadable
pub record SameButLost (before after : MountedView) : Type 0 where
  pub drive : after.drive ≡ before.drive
  pub tables : after.tables ≡ record before.tables { unreadable = after.tables.unreadable }

-- no turn more is taken: one was refused, or no zone is left to clean
abbrev pub EndsBy : CleanFault → MountedView → Option CleanView → MountedView → Option CleanView → Type 0
EndsBy faults.Failed before old after new = TurnLeaves before old (Err faults.Failed) after new ⊎ SameButLost before after × (new ≡ old)
EndsBy fault before old after new = TurnLeaves before old (Err fault) after new

-- what is left where turns are taken until a zone can be taken, by the answer: turns were taken, and nothing else
abbrev pub CleanLeaves : MountedView → Option CleanView → Result (Unit {0}) CleanFault → MountedView → Option CleanView → Type 0
CleanLeaves before old (Ok done) after new = (n : ℕ) × AreTurns n before old after new
CleanLeaves before old (Err fault) after new =
    (n : ℕ) × (middle : MountedView) × (clean : Option CleanView) × AreTurns n before old middle clean × EndsBy fault middle clean after new

-- tables and drive agree with each other, and with the clean that runs, if one does
abbrev pub AgreesWithClean : MountedView → Option CleanView → Type 0
AgreesWithClean disk clean = Agrees disk × Cleans disk clean

-- it does so after a turn, unless the drive has stopped
abbrev pub GoesOn : Result (Unit {0}) CleanFault → MountedView → Option CleanView → Type 0
GoesOn (Err faults.Stopped) disk clean = Unit {0}
GoesOn result disk clean = AgreesWithClean disk clean

-- why a turn was not done: the drive failed at a command or has stopped, or no sequence is left for a Move; of memory nothing can be said
abbrev pub IsCleaningCause : DriveState → ℕ → CleanFault → Type 0
IsCleaningCause drive next faults.OutOfMemory = Unit {0}
IsCleaningCause drive next faults.Failed = IsFalse drive.unfailing
IsCleaningCause drive next faults.Stopped = drive.stopped ≡ true
IsCleaningCause drive next faults.Spent = sequence_end drive.geometry ≤ next
IsCleaningCause drive next faults.Damaged = ⊥

-- What every turn keeps, whatever it answers: a drive that can be mounted, with the same array, in which a block that is
-- trimmed stays so. Only Moves are written; no command is refused, and the next sequence rises by one with each batch
-- that is appended.
pub record KeepsByCleaning (before after : MountedView) : Type 0 where
  pub mountable : IsMountable after.drive after.tables.given
  pub array : mounted_array after ≡ mounted_array before
  pub moves : OnlyMoves (drive_logs before.drive) (drive_logs after.drive)
  pub size : size_of after.tables ≡ size_of before.tables
  pub trimmed : map trims after.tables.map.places ≡ map trims before.tables.map.places
  pub given : after.tables.given ≡ before.tables.given
  pub geometry : after.drive.geometry ≡ before.drive.geometry
  pub refused : after.drive.refused ≡ before.drive.refused
  pub durable : after.drive.durable ≡ before.drive.durable
  pub next : after.tables.next + before.drive.appended ≡ before.tables.next + after.drive.appended
  pub appended : before.drive.appended ≤ after.drive.appended
  pub unfailing : IsTrue after.drive.unfailing → IsTrue before.drive.unfailing

-- After a turn that is done, a clean that ran has fewer turns left; and one that has begun fewer than the capacity.
pub record TurnsFewer (before after : MountedView) (old new : Option CleanView) : Type 0 where
  pub fewer : is_some old ≡ true → turns_left (batch_most before.drive.geometry) after.tables new < turns_of before old
  pub bound : is_some old ≡ false → turns_left (batch_most before.drive.geometry) after.tables new + 1 ≤ before.drive.geometry.capacity

-- What a turn that is done leaves of the zones being filled: where there was no host zone there is none; and a clean that
-- ran and has ended leaves the next zone, unless data of its victim could not be read.
pub record LeavesNextZone (before after : MountedView) (old new : Option CleanView) : Type 0 where
  pub host : before.tables.roles.host ≡ None → after.tables.roles.host ≡ None
  pub next : before.tables.unreadable ≡ [] → is_some old ≡ true → new ≡ None → is_some (next_of after.tables.roles.second) ≡ true

-- What turns leave, one or several, whatever they answer: the clean goes on, unless the drive has stopped; what every turn keeps; and why a turn was not done.
pub record CleaningLeaves (before : MountedView) (result : Result (Unit {0}) CleanFault) (after : MountedView) (new : Option CleanView) : Type 0 where
  pub goes_on : GoesOn result after new
  pub keeps : KeepsByCleaning before after
  pub cause : IfErr result (IsCleaningCause after.drive after.tables.next)

-- after a turn that is done
pub record TurnDone (before after : MountedView) (old new : Option CleanView) : Type 0 where
  pub turns : TurnsFewer before after old new
  pub room : LeavesNextZone before after old new

-- after a turn that is not done: as many are left
abbrev pub KeepsTurns : MountedView → MountedView → Option CleanView → Option CleanView → Type 0
KeepsTurns before after old new = turns_left (batch_most before.drive.geometry) after.tables new ≡ turns_of before old

-- there is neither a host zone nor a next zone, and no more than one empty zone
pub record LacksZones (roles : RolesView) : Type 0 where
  pub host : roles.host ≡ None
  pub next : next_of roles.second ≡ None
  pub few : empty_count roles < 2

-- a zone can be taken for the host: the next zone, or an empty one beside which another is empty
abbrev pub CanTake : RolesView → Type 0
CanTake roles = (is_some (next_of roles.second) ≡ true) ⊎ (2 ≤ empty_count roles)

-- after the clean of a disk that lacked them: no clean runs, and a zone can be taken
pub record HasZone (disk : MountedView) (clean : Option CleanView) : Type 0 where
  pub ended : clean ≡ None
  pub host : disk.tables.roles.host ≡ None
  pub zone : CanTake disk.tables.roles
