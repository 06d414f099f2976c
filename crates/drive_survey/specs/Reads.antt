-- How many commands a look at a drive completes: it reads the header of each batch once, and no block twice.
use Rattle.std.specs.Prelude.{◌≡◌, ℕ, ◌+◌, ◌*◌, ◌<◌, ◌≤◌, Bool, List, length, Option, Some, None, Result, Ok, Err, Vec}
use Rattle.std.specs.List.{sum_by}
use Rattle.std.specs.declared.alloc.Global.{Global}
use Rattle.drive_port.specs.Contents.{Content, contents}
use Rattle.drive_port.specs.Drive.{DriveState}
use Rattle.drive_array.specs.ZoneLogs.{readable}
use Rattle.drive_survey.specs.declared.fault.MountFault.{MountFault}
use Rattle.drive_survey.specs.declared.fault.MountFault.TheVariants.{NoSpare}
use Rattle.drive_survey.specs.declared.reported.ReportedZone.{ReportedZone}
use Rattle.drive_survey.specs.declared.scan.ScannedZone.{ScannedZone}
use Rattle.drive_survey.specs.declared.survey.Survey.{Survey}
use Rattle.drive_survey.specs.Heads.{HeadsView}

-- how many blocks a host reads of all zones
abbrev pub readable_count : DriveState → ℕ
readable_count drive = sum_by (λ (zone : Content). length (readable drive.geometry zone)) (contents drive.zones)

-- the same, as the zones were reported
abbrev pub blocks_reported : List ReportedZone → ℕ
blocks_reported zones = sum_by (λ (zone : ReportedZone). zone.blocks) zones

-- how many batches have their headers kept, and how many blocks these batches take
abbrev pub batches_kept : List ScannedZone → ℕ
batches_kept scanned = sum_by (λ (zone : ScannedZone). length zone.heads.heads) scanned

abbrev pub blocks_taken : List ScannedZone → ℕ
blocks_taken scanned = sum_by (λ (zone : ScannedZone). zone.heads.blocks) scanned

-- how many entries they have
abbrev pub entries_kept : List ScannedZone → ℕ
entries_kept scanned = sum_by (λ (zone : ScannedZone). length zone.heads.entries) scanned

-- A look at the block where the next batch may begin. One Read takes a batch. If none is taken, no block is read
-- that was read before.
abbrev pub ReadsNext : ReportedZone → HeadsView → Result (Option Bool) MountFault → HeadsView → DriveState → DriveState → Type 0
ReadsNext zone old (Ok None) new before after =
    (after.completed ≤ before.completed + 1) × (length new.heads ≡ length old.heads + 1) × (old.blocks < new.blocks) × (new.blocks ≤ zone.blocks)
ReadsNext zone old (Ok (Some is_torn)) new before after =
    (after.completed + old.blocks ≤ before.completed + zone.blocks) × (new ≡ old)
ReadsNext zone old (Err fault) new before after = after.completed + old.blocks ≤ before.completed + zone.blocks

-- of a zone: one Read for each batch, and at most one for each block after the last batch
abbrev pub ReadsOfZone : ReportedZone → HeadsView → DriveState → DriveState → Type 0
ReadsOfZone zone heads old new = new.completed + heads.blocks ≤ old.completed + length heads.heads + zone.blocks

-- and so of these zones
abbrev pub ReadsOfZones : List ReportedZone → List ScannedZone → DriveState → DriveState → Type 0
ReadsOfZones zones scanned old new =
    new.completed + blocks_taken scanned ≤ old.completed + batches_kept scanned + blocks_reported zones

-- A survey: one report; one Read for each batch, and at most one for each block after the last batch of its zone.
abbrev pub ReadsOnce : DriveState → DriveState → Survey → Type 0
ReadsOnce old new survey =
    new.completed + blocks_taken survey.scanned.items
    ≤ old.completed + 1 + batches_kept survey.scanned.items + blocks_reported survey.zones.items

-- A search for half clean zones goes over all zones once for each that it finds, and once more. It reads two blocks at
-- most for each entry of a zone that it looks at.
abbrev pub SearchesBy : List ScannedZone → Result (Vec ℕ Global) MountFault → DriveState → DriveState → Type 0
SearchesBy scanned (Ok resets) old new = new.completed ≤ old.completed + 2 * ((length resets.items + 1) * entries_kept scanned)
SearchesBy scanned (Err NoSpare) old new = new.completed ≤ old.completed + 2 * entries_kept scanned
SearchesBy scanned (Err fault) old new = Unit {0}
