-- What the calls of the cleaner promise, whatever they answer.
use Rattle.std.specs.Prelude.{◌≡◌, ◌≢◌, ◌⊎◌, ℕ, ◌+◌, ◌*◌, ◌++◌, ◌≤◌, true, List, [], ◌∷◌, Option, None, is_some, Result, Ok, Err, IfErr, IsFalse, IsTrue, OnErr, OnOk}
use Rattle.zone_states.specs.declared.geometry.Geometry.{Geometry}
use Rattle.drive_port.specs.Drive.{DriveState}
use Rattle.zone_choice.specs.Agreement.{MountedView}
use Rattle.drive_array.specs.Reserve.{batch_most}
use Rattle.zone_choice.specs.Roles.{next_of}
use Rattle.zone_choice.specs.Sane.{IsSane, KeepsShape}
use Rattle.zone_choice.specs.Tables.{size_of}
use Rattle.zone_cleaner.specs.declared.fault.CleanFault.{CleanFault}
use Rattle.zone_cleaner.specs.declared.fault.CleanFault.TheVariants as faults
use Rattle.zone_cleaner.specs.Clean.{CleanView, turns_due, turns_left}
use Rattle.zone_cleaner.specs.LiveRecords.{LiveRecord}
use Rattle.zone_cleaner.specs.Reading.{AddsRecord, IsGatherFault, OnlyAsks, OnlyReads}
use Rattle.zone_cleaner.specs.Start.{AgreesWithClean, CleanLeaves, CleaningLeaves, KeepsByCleaning}
use Rattle.zone_cleaner.specs.Start.{HasZone, KeepsTurns, TurnDone, TurnLeaves}

-- What holds whatever the Reads returned: the shape and the size are the same, the numbers stay in range, and where there
-- was no host zone there is none.
pub record StaysSane (before after : MountedView) : Type 0 where
  pub shape : KeepsShape before.drive after.drive
  pub sane : IsSane after
  pub size : size_of after.tables ≡ size_of before.tables
  pub given : after.tables.given ≡ before.tables.given
  pub host : before.tables.roles.host ≡ None → after.tables.roles.host ≡ None

-- The record of a block is read: one Read was sent at most, and nothing else.
pub record GatherAnswers (before : MountedView) (gathered : List LiveRecord) (more : LiveRecord)
    (result : Result (Unit {0}) CleanFault)
    (after : MountedView) (now : List LiveRecord) : Type 0 where
  pub asks : OnlyAsks before after
  -- a record is after those that were gathered before, or these are the same
  pub adds : OnOk result (AddsRecord more.block gathered now)
  pub failed : OnErr result (now ≡ gathered)
  pub fails : result ≡ Err faults.Failed → IsFalse after.drive.unfailing
  -- while the drive is clean, the contents are the same, and it is this record
  pub reads : IsTrue after.drive.clean → OnlyReads before after
  pub ok : IsTrue after.drive.clean → OnOk result (now ≡ gathered ++ more ∷ [])
  pub err : IsTrue after.drive.clean → IfErr result (IsGatherFault after.drive)

-- One turn of cleaning.
pub record TurnAnswers (before : MountedView) (old : Option CleanView) (result : Result (Unit {0}) CleanFault)
    (after : MountedView) (new : Option CleanView) : Type 0 where
  -- it is exactly this step
  pub leaves : TurnLeaves before old result after new
  -- the clean continues, and the array is kept; each fault has its cause
  pub cleaning : CleaningLeaves before result after new
  -- fewer turns are left after one that is done, and as many after one that is refused
  pub done : OnOk result (TurnDone before after old new)
  pub refused : OnErr result (KeepsTurns before after old new)
  pub completed : after.drive.completed ≤ before.drive.completed + 2

-- A clean runs, or one was started if it was due: no command was sent. While all data could be read, one runs then.
pub record Readies (before : MountedView) (old : Option CleanView) (after : MountedView) (new : Option CleanView) : Type 0 where
  pub leaves : CleanLeaves before old (Ok tt) after new
  pub agrees : AgreesWithClean after new
  pub keeps : KeepsByCleaning before after
  pub lost : after.tables.unreadable ≡ before.tables.unreadable
  pub turns : before.tables.unreadable ≡ [] → is_some new ≡ true
      → turns_left (batch_most before.drive.geometry) after.tables new ≤ turns_due before old
  pub runs : before.tables.unreadable ≡ [] → is_some new ≡ true

-- After a turn of a clean that runs or was started: while all data could be read, fewer turns are left than before, or than
-- a zone has blocks; or the clean has ended, and there is a next zone.
pub record PassDone (before after : MountedView) (old new : Option CleanView) : Type 0 where
  pub lost : after.tables.unreadable ≡ [] → before.tables.unreadable ≡ []
  pub turns : after.tables.unreadable ≡ [] → is_some new ≡ true
      → turns_left (batch_most before.drive.geometry) after.tables new + 1 ≤ turns_due before old
  pub next : after.tables.unreadable ≡ [] → new ≡ None → is_some (next_of after.tables.roles.second) ≡ true

pub record PassAnswers (before : MountedView) (old : Option CleanView) (result : Result (Unit {0}) CleanFault)
    (after : MountedView) (new : Option CleanView) : Type 0 where
  pub leaves : CleanLeaves before old result after new
  pub cleaning : CleaningLeaves before result after new
  pub done : OnOk result (PassDone before after old new)

-- Turns until a zone can be taken for the host, as many as one clean has. While all data could be read, one can be.
pub record RoundAnswers (before : MountedView) (old : Option CleanView)
    (result : Result (Unit {0}) CleanFault) (after : MountedView) (new : Option CleanView) : Type 0 where
  pub leaves : CleanLeaves before old result after new
  pub cleaning : CleaningLeaves before result after new
  pub done : OnOk result (HasZone after new ⊎ (after.tables.unreadable ≢ []))

-- at most how many commands one clean takes, and those of a clean of each zone
abbrev pub clean_commands : Geometry → ℕ
clean_commands geometry = 2 * geometry.capacity

abbrev pub all_clean_commands : Geometry → ℕ
all_clean_commands geometry = geometry.zones * clean_commands geometry

-- What cleaning costs, whatever it answers: fewer commands than one clean takes, by so many. Once a command failed
-- it may go from zone to zone.
pub record CostsClean (spare : ℕ) (old new : DriveState) : Type 0 where
  pub unfailing : IsTrue new.unfailing → new.completed + spare ≤ old.completed + clean_commands old.geometry
  pub failing : new.completed + spare ≤ old.completed + all_clean_commands old.geometry

-- Cleaning until a zone can be taken for the host, of a disk that lacks zones.
pub record CleanAnswers (before : MountedView) (old : Option CleanView)
    (result : Result (Unit {0}) CleanFault) (after : MountedView) (new : Option CleanView) : Type 0 where
  -- it takes turns, and does nothing else
  pub leaves : CleanLeaves before old result after new
  pub cleaning : CleaningLeaves before result after new
  pub done : OnOk result (HasZone after new)
