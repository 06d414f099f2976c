-- What a Reset or a Finish of a mount leaves of the drive, and of what is known of it.
use Rattle.std.specs.Prelude.{IsTrue}
use Rattle.std.specs.Prelude.{◌≡◌, ◌≢◌, ◌⊎◌, ℕ, ◌+◌, ◌<◌, ◌≤◌, ◌&&◌, ◌||◌, nat_lt, if◌then◌else◌, Bool, true, false}
use Rattle.std.specs.Prelude.{List, [], ◌∷◌, length, slice_get, slice_set, Some}
use Rattle.std.specs.List.{AllByRecursion}
use Rattle.nvme_wire.specs.declared.zone_state.ZoneState.TheVariants.{Empty, Full}
use Rattle.drive_port.specs.Contents.{Content, Finishes, content_at, contents, emptied, finished, is_active_usage}
use Rattle.drive_port.specs.Drive.{DriveState, IsLawful}
use Rattle.batch_log.specs.Log.{Batch}
use Rattle.zone_choice.specs.Agreement.{IsShut}
use Rattle.drive_array.specs.ZoneLogs.{drive_logs, log_at}
use Rattle.drive_array.specs.Mountable.{is_partly_written}
use Rattle.drive_array.specs.Records.{without}
use Rattle.drive_array.specs.Repair.{HasAtMost}
use Rattle.drive_array.specs.Reserve.{batch_most}
use Rattle.drive_array.specs.Spare.{IsLowest, IsVacant}
use Rattle.drive_survey.specs.declared.reported.ReportedZone.{ReportedZone}
use Rattle.drive_survey.specs.declared.survey.Survey.{Survey}
use Rattle.drive_survey.specs.Heads.{HeadsView}
use Rattle.drive_survey.specs.Scan.{AreKnown, heads_in, tails_in}
use Rattle.drive_survey.specs.Survey.{is_partly_reported}

-- The contents of the zones changed by one command, or, where the drive halted, not at all; and the command was not refused.
pub record MayChange (Changes : List Content → List Content → Type 0) (old new : DriveState) : Type 0 where
  pub geometry : new.geometry ≡ old.geometry
  pub lawful : IsLawful new
  pub refused : new.refused ≡ old.refused
  pub durable : new.durable ≡ old.durable
  pub trusted : IsTrue new.clean → IsTrue old.clean
  pub unfailing : IsTrue new.unfailing → IsTrue old.unfailing
  pub contents_are : (contents new.zones ≡ contents old.zones) ⊎ Changes (contents old.zones) (contents new.zones)

-- no zone was opened
abbrev pub OpensNoZone : DriveState → DriveState → Type 0
OpensNoZone old new = (zone : ℕ) → IsShut old.zones zone → IsShut new.zones zone

-- ---- Resets

abbrev pub reported_empty : ReportedZone
reported_empty = record { state = Empty; blocks = 0 }

-- the elements with these numbers are this one now
abbrev pub set_all : {X : Type 0} → List X → List ℕ → X → List X
set_all xs [] x = xs
set_all xs (i ∷ is) x = set_all (slice_set xs i x) is x

-- These zones are Empty now, and the survey says so; no zone was opened, and all else is unchanged.
pub record ResetsAll (old new : DriveState) (before after : Survey) (zones : List ℕ) : Type 0 where
  pub geometry : new.geometry ≡ old.geometry
  pub contents_are : contents new.zones ≡ set_all (contents old.zones) zones emptied
  pub opens : OpensNoZone old new
  pub known : AreKnown new after.zones.items
  pub reported : after.zones.items ≡ set_all before.zones.items zones reported_empty
  pub heads : heads_in after.scanned.items ≡ heads_in before.scanned.items
  pub tails : tails_in after.scanned.items ≡ set_all (tails_in before.scanned.items) zones false
  pub size : after.size ≡ before.size
  pub given : after.given ≡ before.given

-- These zones may be reset one after the other: each is vacant at its moment, or the lowest half clean one.
abbrev pub MayReset : ℕ → ℕ → List (List Batch) → List ℕ → Type 0
MayReset block_bytes n logs [] = Unit {0}
MayReset block_bytes n logs (zone ∷ zones) =
    (zone < length logs) × (IsVacant logs zone ⊎ IsLowest block_bytes n logs zone)
    × MayReset block_bytes n (without logs zone) zones

-- ---- Finishes

abbrev pub reported_full : ℕ → ReportedZone
reported_full capacity = record { state = Full; blocks = capacity }

-- a partly written zone that a disk does not continue with: fewer than two of its blocks are free, or a batch has more entries than ours
abbrev pub is_to_finish : ℕ → ℕ → ReportedZone → HeadsView → Bool
is_to_finish capacity most reported heads = is_partly_reported reported && (nat_lt capacity (reported.blocks + 2) || nat_lt most heads.most)

-- The zone is Full now, and the survey says so; no zone was opened, and all else is unchanged.
pub record FinishesOne (old new : DriveState) (before after : Survey) (zone : ℕ) : Type 0 where
  pub geometry : new.geometry ≡ old.geometry
  pub contents_are : Finishes (contents old.zones) (contents new.zones) zone
  pub opens : OpensNoZone old new
  pub known : AreKnown new after.zones.items
  pub reported : after.zones.items ≡ slice_set before.zones.items zone (reported_full old.geometry.capacity)
  pub scanned : after.scanned ≡ before.scanned
  pub size : after.size ≡ before.size
  pub given : after.given ≡ before.given

-- the test of a zone that was surveyed
abbrev pub IsTested : ℕ → ℕ → Survey → ℕ → Bool → Type 0
IsTested capacity most survey zone b = (r : ReportedZone) (heads : HeadsView)
    → slice_get survey.zones.items zone ≡ Some r → slice_get (heads_in survey.scanned.items) zone ≡ Some heads
    → is_to_finish capacity most r heads ≡ b

-- it is finished where it has to be
abbrev pub FinishesIf : DriveState → DriveState → Survey → Survey → ℕ → Type 0
FinishesIf old new before after zone =
    (IsTested old.geometry.capacity (batch_most old.geometry) before zone false × (new ≡ old) × (after ≡ before))
    ⊎ (IsTested old.geometry.capacity (batch_most old.geometry) before zone true × FinishesOne old new before after zone)

-- each zone that has a batch now holds what it held
abbrev pub KeepsWritten : DriveState → DriveState → Type 0
KeepsWritten old new = (zone : ℕ) → log_at (drive_logs new) zone ≢ [] → content_at (contents new.zones) zone ≡ content_at (contents old.zones) zone

-- A disk continues with a zone, if it is partly written: it has two free blocks, and no batch with more entries than ours.
abbrev pub CanBeFilled : DriveState → ℕ → Type 0
CanBeFilled drive zone =
    is_partly_written (content_at (contents drive.zones) zone) ≡ true
    → (length (content_at (contents drive.zones) zone).blocks + 2 ≤ drive.geometry.capacity)
    × AllByRecursion (HasAtMost (batch_most drive.geometry)) (log_at (drive_logs drive) zone)

-- each zone that a disk continues with, and each that is not partly written, holds what it held
abbrev pub KeepsGoing : DriveState → DriveState → Type 0
KeepsGoing old new = (zone : ℕ) → CanBeFilled old zone → content_at (contents new.zones) zone ≡ content_at (contents old.zones) zone

-- Zones that a disk does not continue with were finished, and no other one. No zone has other blocks, and none was opened.
pub record FinishesNeeded (old new : DriveState) : Type 0 where
  pub going : KeepsGoing old new
  pub blocks : (zone : ℕ) → (content_at (contents new.zones) zone).blocks ≡ (content_at (contents old.zones) zone).blocks
  pub opens : OpensNoZone old new

-- what is left of a zone that is finished if it is opened or Closed
abbrev pub finished_if_active : Content → Content
finished_if_active content = if is_active_usage content.usage then finished content else content
