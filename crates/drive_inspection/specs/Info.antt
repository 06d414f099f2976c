-- What a drive holds and what a mount does to it, as n logical blocks if no header says how many.
use Rattle.std.specs.Prelude.{◌≡◌, ◌≢◌, ◌⊎◌, ℕ, ◌+◌, ◌-◌, ◌<◌, ◌^◌, Bool, true, false, List, length, count_by}
use Rattle.std.specs.Prelude.{slice_get, Contains, Option, Some, None, is_none, is_some, Result, Ok, Err, IfErr, IfOk}
use Rattle.std.specs.List.{AllByRecursion, range_with_len}
use Rattle.zone_states.specs.declared.geometry.Geometry.{Geometry}
use Rattle.zone_states.specs.Geometry.{IsInRange}
use Rattle.zone_states.specs.Zone.{Zone}
use Rattle.drive_port.specs.Contents.{content_at, contents, empty}
use Rattle.drive_port.specs.Drive.{DriveState, IsClosing}
use Rattle.batch_log.specs.Log.{Batch}
use Rattle.drive_array.specs.Records.{Record, newest, records}
use Rattle.drive_array.specs.Repair.{IsTornAt, live_data, live_records, moves}
use Rattle.drive_array.specs.Reserve.{batch_most, most_size}
use Rattle.drive_array.specs.Sizes.{encoded_size, greatest}
use Rattle.drive_array.specs.Spare.{IsClearing, IsVacant, cleared}
use Rattle.drive_array.specs.ZoneLogs.{drive_logs, log_at, sequences, zone_tails}
use Rattle.zone_choice.specs.Tables.{TablesView}
use Rattle.drive_counter.specs.Counting.{commands_of}
use Rattle.drive_survey.specs.declared.fault.MountFault.{MountFault}
use Rattle.drive_survey.specs.declared.fault.MountFault.TheVariants.{Damaged}
use Rattle.drive_survey.specs.declared.reported.ReportedZone.{ReportedZone}
use Rattle.drive_survey.specs.Heads.{greatest_sequence}
use Rattle.drive_survey.specs.Reported.{AreReported, KeepsZones}
use Rattle.drive_survey.specs.Scan.{FailsBy, IsInterruption}
use Rattle.drive_survey.specs.Survey.{drive_size}
use Rattle.remount.specs.Mount.{IsOnlyTorn, IsToMount, MountFails, Mounts, NoneIsTorn}
use Rattle.drive_inspection.specs.declared.info.DriveInfo.{DriveInfo}
use Rattle.drive_inspection.specs.declared.info.Holdings.{Holdings}
use Rattle.drive_inspection.specs.declared.info.Info.{Info}
use Rattle.drive_inspection.specs.declared.info.InspectedDrive.{InspectedDrive}
use Rattle.drive_inspection.specs.declared.info.LiveCount.{LiveCount}
use Rattle.drive_inspection.specs.declared.info.MountWork.{MountWork}
use Rattle.drive_inspection.specs.declared.info.Rehearsal.{Rehearsal}
use Rattle.drive_inspection.specs.declared.info.TornRepair.{TornRepair}
use Rattle.drive_inspection.specs.declared.info.ZoneInfo.{ZoneInfo}
use Rattle.drive_inspection.specs.Findings.{AreByReport, ListsAll, Refuses}
use Rattle.drive_inspection.specs.Found.{IsTellable}

-- ---- live records

-- what the newest record of a block says: data, or that it is trimmed
abbrev pub shows_data : Option Record → Bool
shows_data None = false
shows_data (Some r) = is_some r.content

abbrev pub shows_trim : Option Record → Bool
shows_trim None = false
shows_trim (Some r) = is_none r.content

-- how many of the blocks below a size have a newest record that says so
abbrev pub newest_by : (Option Record → Bool) → ℕ → List (List Batch) → ℕ
newest_by says size logs = count_by (λ block. says (newest block (records 0 logs))) (range_with_len 0 size)

-- The live records of all zones. A trim is no live data.
pub record CountsLogs (size : ℕ) (logs : List (List Batch)) (live : LiveCount) : Type 0 where
  pub written : live.written ≡ newest_by shows_data size logs
  pub trimmed : live.trimmed ≡ newest_by shows_trim size logs

-- the live records of one zone
pub record CountsZone (size : ℕ) (logs : List (List Batch)) (zone : ℕ) (live : LiveCount) : Type 0 where
  pub written : live.written ≡ live_data size logs zone
  pub all : live.written + live.trimmed ≡ live_records size logs zone

-- ---- what a drive holds

-- A zone: how many batches it has, and which of its records are live. It is torn exactly where a mount has to repair it.
pub record HoldsZone (drive : DriveState) (n zone : ℕ) (info : ZoneInfo) : Type 0 where
  pub batches : info.batches ≡ length (log_at (drive_logs drive) zone)
  pub live : CountsZone (drive_size drive n) (drive_logs drive) zone info.live
  pub torn : info.is_torn ≡ true → IsTornAt (drive_logs drive) (zone_tails (contents drive.zones)) zone
  pub whole : info.is_torn ≡ false → IsTornAt (drive_logs drive) (zone_tails (contents drive.zones)) zone → ⊥

-- The drive: how many logical blocks it has and can have, its greatest sequence, and what its zones hold.
pub record AreHoldings (drive : DriveState) (n : ℕ) (holdings : Holdings) : Type 0 where
  pub most : holdings.most ≡ most_size drive.geometry
  pub said : holdings.said ≡ greatest (drive_logs drive)
  pub size : holdings.size ≡ drive_size drive n
  pub sequence : holdings.greatest ≡ greatest_sequence (sequences (drive_logs drive))
  pub live : CountsLogs (drive_size drive n) (drive_logs drive) holdings.live
  pub count : length holdings.zones.items ≡ length drive.zones
  pub zones : (zone : ℕ) (info : ZoneInfo) → slice_get holdings.zones.items zone ≡ Some info → HoldsZone drive n zone info

-- ---- what a mount does

-- These are the zones without a batch that are not Empty, all of them.
pub record EmptiesVacant (drive : DriveState) (zones : List ℕ) : Type 0 where
  pub vacant : AllByRecursion (λ zone. (zone < length drive.zones) × IsVacant (drive_logs drive) zone) zones
  pub needed : AllByRecursion (λ zone. (content_at (contents drive.zones) zone).usage ≢ empty) zones
  pub others : (zone : ℕ) → zone < length drive.zones → IsVacant (drive_logs drive) zone
      → ((content_at (contents drive.zones) zone).usage ≡ empty) ⊎ Contains zones zone

-- The only torn zone, and how many Moves take its live records.
pub record RepairsZone (geometry : Geometry) (size : ℕ) (logs : List (List Batch)) (tails : List Bool) (repair : TornRepair) : Type 0 where
  pub torn : IsOnlyTorn logs tails repair.zone
  pub records_are : repair.records ≡ live_records size logs repair.zone
  pub moves_are : repair.moves ≡ moves (batch_most geometry) repair.records

abbrev pub RepairsAny : Geometry → ℕ → List (List Batch) → List Bool → Option TornRepair → Type 0
RepairsAny geometry size logs tails None = NoneIsTorn logs tails
RepairsAny geometry size logs tails (Some repair) = RepairsZone geometry size logs tails repair

-- The zones that a mount resets, and the one that it repairs once the half clean ones are emptied.
pub record Foretells (drive : DriveState) (n : ℕ) (work : MountWork) : Type 0 where
  pub vacant : EmptiesVacant drive work.vacant.items
  pub clearing : IsClearing drive.geometry.block n (drive_logs drive) work.half_clean.items
  pub torn : RepairsAny drive.geometry (encoded_size n (cleared (drive_logs drive) work.half_clean.items))
      (cleared (drive_logs drive) work.half_clean.items) (zone_tails (contents drive.zones)) work.torn

-- ---- what is found

-- The drive can be mounted, and this is what it holds and what a mount does.
pub record IsInfo (drive : DriveState) (n : ℕ) (info : Info) : Type 0 where
  pub can : IsToMount drive n
  pub holds : AreHoldings drive n info.holdings
  pub foretells : Foretells drive n info.work

-- so it is; or a mount is refused, or the drive failed at a command
abbrev pub InfoOrRefusal : DriveState → DriveState → ℕ → Result Info MountFault → Type 0
InfoOrRefusal drive last n (Ok info) = IsInfo drive n info
InfoOrRefusal drive last n (Err fault) = Refuses drive last n (Some fault)

-- the refusal of a mount that is told, if one is
abbrev pub refusal_of : Result Info MountFault → Option MountFault
refusal_of (Ok info) = None
refusal_of (Err fault) = Some fault

-- the zones were reported so at some moment: as they are, except that a controller may have closed some
pub record WereReported (drive : DriveState) (reported : List ReportedZone) : Type 0 where
  pub zones : List Zone
  pub before : IsClosing drive.zones zones
  pub are : AreReported drive.geometry zones reported

-- What is known of it whatever the Reads returned: its geometry and, if that is in range, its zones, and what a report
-- tells of its faults.
pub record IsReportInfo (drive : DriveState) (info : DriveInfo) : Type 0 where
  pub geometry_is : info.geometry ≡ drive.geometry
  pub reported : IsInRange drive.geometry → WereReported drive info.zones.items
  pub tells : IfErr info.found IsTellable
  pub refusal : info.faults.refusal ≡ refusal_of info.found
  pub faults : AreByReport drive info.faults

-- that, and what the drive holds, or all of its faults; the drive is `last` then
pub record IsDriveInfo (drive last : DriveState) (n : ℕ) (info : DriveInfo) : Type 0 where
  pub report : IsReportInfo drive info
  pub found : InfoOrRefusal drive last n info.found
  pub faults : ListsAll drive last n info.faults

-- ---- a rehearsal

-- how many batches the host can write before the sequences that are kept for repairs, from this sequence on
abbrev pub batches_left : Geometry → ℕ → ℕ
batches_left geometry next = 2 ^ 63 - geometry.capacity - next

-- So many commands a mount took, and so many batches are left from the sequence that is told as the next one.
pub record CountsMount (old new : DriveState) (rehearsal : Rehearsal) : Type 0 where
  pub commands : rehearsal.commands ≡ new.completed - old.completed
  pub left : rehearsal.left ≡ batches_left old.geometry rehearsal.next

-- The drive was mounted, and this is the next sequence.
pub record Rehearses (old new : DriveState) (n : ℕ) (rehearsal : Rehearsal) : Type 0 where
  pub tables : TablesView
  pub mounts : Mounts old new n tables
  pub counts : CountsMount old new rehearsal
  pub next : rehearsal.next ≡ tables.next

-- so it was; or the mount was refused
abbrev pub IsRehearsed : DriveState → DriveState → ℕ → Result Rehearsal MountFault → Type 0
IsRehearsed old new n (Ok rehearsal) = Rehearses old new n rehearsal
IsRehearsed old new n (Err fault) = FailsBy (MountFails old n) new fault

-- The drive was looked at, and then mounted. As many commands were counted as that mount completed.
pub record IsInspected (drive : DriveState) (n : ℕ) (inspected : InspectedDrive) : Type 0 where
  pub looked : DriveState
  pub info : IsDriveInfo drive looked n inspected.info
  pub seen : DriveState
  pub uncounted : seen ≡ record looked { completed = 0 }
  pub keeps : KeepsZones drive seen
  pub last : DriveState
  pub mounted : IsRehearsed seen last n inspected.mounted
  pub counted : commands_of inspected.counts ≡ last.completed - seen.completed

-- Whatever the Reads returned: the report is true. Of a mount that was done as many commands were counted as it is told
-- to take. One that was refused was not refused for what does not fit together.
pub record CountsInspected (drive : DriveState) (inspected : InspectedDrive) : Type 0 where
  pub report : IsReportInfo drive inspected.info
  pub counted : IfOk inspected.mounted (λ rehearsal. commands_of inspected.counts ≡ rehearsal.commands)
  pub left : IfOk inspected.mounted (λ rehearsal. rehearsal.left ≡ batches_left drive.geometry rehearsal.next)
  pub fits : IfErr inspected.mounted (λ fault. fault ≢ Damaged)

-- the look was given up: memory ran out, or the drive halted
pub record IsGivenUp (drive : DriveState) (fault : MountFault) : Type 0 where
  pub last : DriveState
  pub keeps : KeepsZones drive last
  pub interrupted : IsInterruption last fault
