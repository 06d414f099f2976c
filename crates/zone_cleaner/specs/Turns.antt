-- What each turn of a clean does.
use Rattle.std.specs.List.{AllByRecursion}
use Rattle.std.specs.Prelude.{◌≡◌, ◌⊎◌, ℕ, suc, ◌+◌, ◌<◌, ◌≤◌, nat_lt, if◌then◌else◌, true, IsFalse, IsTrue, List, [], ◌∷◌, ◌++◌, length, map, Option, Some, None, Result, Ok, Err}
use Rattle.drive_port.specs.declared.device.Halt.{Halt}
use Rattle.drive_port.specs.declared.device.Halt.TheVariants as halt
use Rattle.batch_log.specs.declared.header.Kind.TheVariants as kinds
use Rattle.batch_log.specs.Log.{Batch}
use Rattle.logical_map.specs.Live.{first_record}
use Rattle.logical_map.specs.Places.{place_address}
use Rattle.logical_map.specs.declared.place.Place.{Place}
use Rattle.zone_choice.specs.declared.roles.Filling.{Filling}
use Rattle.zone_choice.specs.declared.roles.Second.TheVariants.{Destination}
use Rattle.zone_choice.specs.Agreement.{Agrees, MountedView, mounted_array}
use Rattle.drive_array.specs.ZoneLogs.{drive_logs, log_at}
use Rattle.zone_choice.specs.Changes.{KeepsArray, Places, sequence_end, tables_closed}
use Rattle.drive_array.specs.Mountable.{IsMountable}
use Rattle.drive_array.specs.Records.{without}
use Rattle.drive_array.specs.Reserve.{batch_most}
use Rattle.zone_choice.specs.Roles.{clean_ended, clean_undone}
use Rattle.zone_choice.specs.Tables.{TablesView, is_left_out, size_of}
use Rattle.zone_cleaner.specs.declared.step.Step.{Step}
use Rattle.zone_cleaner.specs.declared.step.Step.TheVariants.{Gather, Move, Reset, Undo}
use Rattle.zone_cleaner.specs.declared.fault.CleanFault.{CleanFault}
use Rattle.zone_cleaner.specs.declared.fault.CleanFault.TheVariants as faults
use Rattle.zone_cleaner.specs.declared.moved.Moved.{Moved}
use Rattle.zone_cleaner.specs.Clean.{CleanView, IsClean, destination_written, place_among, trims}
use Rattle.zone_cleaner.specs.LiveRecords.{LiveRecord, live_content, gathered_move}

-- ---- which step is next

-- where all records are taken: the last Move, one in any case; and then the Reset
abbrev pub last_step : ℕ → List LiveRecord → Step
last_step (suc written) [] = Reset
last_step written records = Move

abbrev pub step_of : Option (ℕ × Place) → Step → Step
step_of None last = last
step_of (Some found) last = Gather found.0 found.1

-- A Move takes as many records as fit; before it they are gathered, in ascending order of their blocks.
abbrev pub forward_step : ℕ → TablesView → CleanView → Step
forward_step most tables clean =
    if nat_lt (length clean.gathered) most
    then step_of (first_record tables.map clean.victim clean.cursor) (last_step (destination_written tables.roles.second) clean.gathered)
    else Move

-- a clean whose victim has data that could not be read is undone
abbrev pub next_step : ℕ → TablesView → CleanView → Step
next_step most tables clean = if is_left_out tables clean.victim then Undo else forward_step most tables clean

abbrev pub step_due : MountedView → CleanView → Step
step_due disk clean = next_step (batch_most disk.drive.geometry) disk.tables clean

-- a clean runs, and this step of it is next
pub record IsAtStep (step : Step) (disk : MountedView) (clean : CleanView) : Type 0 where
  pub agrees : Agrees disk
  pub clean_is : IsClean disk clean
  pub due : step_due disk clean ≡ step

-- ---- what a step that is done leaves

abbrev pub with_record : CleanView → ℕ → Option (List ℕ) → CleanView
with_record clean block content =
    record { victim = clean.victim; cursor = block + 1; gathered = clean.gathered ++ record { block = block; content = content } ∷ []; moved = clean.moved }

-- what is noted of records that are moved: where their blocks were
abbrev pub moved_from : List Place → List LiveRecord → List Moved
moved_from all records = map (λ (r : LiveRecord). record { block = r.block; place = place_among all r.block }) records

abbrev pub after_move : TablesView → CleanView → CleanView
after_move tables clean =
    record { victim = clean.victim; cursor = clean.cursor; gathered = []; moved = clean.moved ++ moved_from tables.map.places clean.gathered }

-- the gathered records were appended to the destination as one Move, which says what the array has
pub record MovesRecords (before : MountedView) (clean : CleanView) (after : MountedView) : Type 0 where
  pub destination : Filling
  pub second : before.tables.roles.second ≡ Some (Destination destination)
  pub places : Places before after destination.zone (gathered_move (size_of before.tables) before.tables.next clean.victim clean.gathered)
  pub array : mounted_array after ≡ mounted_array before

-- the victim is empty, the destination is the next host zone, and the array is the same
pub record EmptiesVictim (before after : MountedView) (victim : ℕ) : Type 0 where
  pub agrees : Agrees after
  pub logs : drive_logs after.drive ≡ without (drive_logs before.drive) victim
  pub array : mounted_array after ≡ mounted_array before
  pub places : after.tables.map.places ≡ before.tables.map.places
  pub next : after.tables.next ≡ before.tables.next
  pub unreadable : after.tables.unreadable ≡ before.tables.unreadable
  pub given : after.tables.given ≡ before.tables.given
  pub roles : after.tables.roles ≡ clean_ended before.tables.roles victim
  pub geometry : after.drive.geometry ≡ before.drive.geometry
  pub refused : after.drive.refused ≡ before.drive.refused
  pub durable : after.drive.durable ≡ before.drive.durable
  pub appended : after.drive.appended ≡ before.drive.appended
  pub unfailing : IsTrue after.drive.unfailing → IsTrue before.drive.unfailing

-- The destination is empty again, and the array is the same: what was moved has its old place.
pub record UndoesClean (before after : MountedView) : Type 0 where
  pub destination : Filling
  pub second : before.tables.roles.second ≡ Some (Destination destination)
  pub agrees : Agrees after
  pub logs : drive_logs after.drive ≡ without (drive_logs before.drive) destination.zone
  pub array : mounted_array after ≡ mounted_array before
  pub trimmed : map trims after.tables.map.places ≡ map trims before.tables.map.places
  pub next : after.tables.next ≡ before.tables.next
  pub unreadable : after.tables.unreadable ≡ before.tables.unreadable
  pub given : after.tables.given ≡ before.tables.given
  pub roles : after.tables.roles ≡ clean_undone before.tables.roles
  pub lost : before.tables.unreadable ≡ [] → ⊥
  pub geometry : after.drive.geometry ≡ before.drive.geometry
  pub refused : after.drive.refused ≡ before.drive.refused
  pub durable : after.drive.durable ≡ before.drive.durable
  pub appended : after.drive.appended ≡ before.drive.appended
  pub unfailing : IsTrue after.drive.unfailing → IsTrue before.drive.unfailing

abbrev pub StepDone : Step → MountedView → CleanView → MountedView → Option CleanView → Type 0
StepDone (Gather block place) before clean after new =
    KeepsArray before after × (after.tables ≡ before.tables) × (new ≡ Some (with_record clean block (live_content (mounted_array before) block place)))
StepDone Move before clean after new = MovesRecords before clean after × (new ≡ Some (after_move before.tables clean))
StepDone Reset before clean after new = EmptiesVictim before after clean.victim × (new ≡ None)
StepDone Undo before clean after new = UndoesClean before after × (new ≡ None)

-- ---- which batches a clean writes

abbrev pub IsMove : Batch → Type 0
IsMove batch = batch.heading.kind ≡ kinds.Move

-- In each zone only Moves are new. They follow the batches that were there, or the zone was emptied before.
abbrev pub OnlyMoves : List (List Batch) → List (List Batch) → Type 0
OnlyMoves old new = (zone : ℕ) → (moves : List Batch) × AllByRecursion IsMove moves × ((log_at new zone ≡ moves) ⊎ (log_at new zone ≡ log_at old zone ++ moves))

-- ---- a step that is not done

-- the tables are the same but that, at an open limit of 1, they may say that the zone beside one was closed
abbrev pub MayClose : MountedView → TablesView → Type 0
MayClose before after = (after ≡ before.tables) ⊎ ((before.drive.geometry.open < 2) × ((zone : ℕ) × (after ≡ tables_closed before.tables zone)))

-- The drive stopped inside the step: it can be mounted, and its array is the same.
pub record StopsClean (before after : MountedView) : Type 0 where
  pub stopped : after.drive.stopped ≡ true
  pub moves : OnlyMoves (drive_logs before.drive) (drive_logs after.drive)
  pub mountable : IsMountable after.drive after.tables.given
  pub array : mounted_array after ≡ mounted_array before
  pub tables : MayClose before after.tables
  pub geometry : after.drive.geometry ≡ before.drive.geometry
  pub refused : after.drive.refused ≡ before.drive.refused
  pub durable : after.drive.durable ≡ before.drive.durable
  pub appended : after.drive.appended ≡ before.drive.appended
  pub unfailing : IsTrue after.drive.unfailing → IsTrue before.drive.unfailing

-- the tables are the same but that the data of a block, at this place, is noted as unreadable
abbrev pub NotesLost : ℕ → Place → TablesView → TablesView → Type 0
NotesLost block place old new = new ≡ record old { unreadable = old.unreadable ++ record { block = block; address = place_address place } ∷ [] }

-- What a step leaves that was not done, by its fault. Out of memory, or where a command failed, the array is the same.
-- Data that could not be read is noted. Only a Move needs a sequence; if none is left for it, nothing was sent.
abbrev pub StepFails : Step → CleanFault → MountedView → MountedView → Type 0
StepFails step faults.OutOfMemory before after = KeepsArray before after × MayClose before after.tables
StepFails (Gather block place) faults.Failed before after =
    KeepsArray before after × NotesLost block place before.tables after.tables × IsFalse after.drive.unfailing
StepFails step faults.Failed before after = KeepsArray before after × MayClose before after.tables × IsFalse after.drive.unfailing
StepFails step faults.Stopped before after = StopsClean before after
StepFails Move faults.Spent before after = (after ≡ before) × (sequence_end before.drive.geometry ≤ before.tables.next)
StepFails step faults.Spent before after = ⊥
StepFails step faults.Damaged before after = ⊥

-- after a step, by its answer: the clean continues from here, or it has ended; where the step was not done, it is unchanged
abbrev pub StepLeaves : Step → MountedView → CleanView → Result (Unit {0}) CleanFault → MountedView → Option CleanView → Type 0
StepLeaves step before clean (Ok done) after new = StepDone step before clean after new
StepLeaves step before clean (Err fault) after new = StepFails step fault before after × (new ≡ Some clean)

-- what a halt of the drive is to a clean
abbrev pub clean_fault : Halt → CleanFault
clean_fault halt.Memory = faults.OutOfMemory
clean_fault halt.Failed = faults.Failed
clean_fault halt.Stopped = faults.Stopped
