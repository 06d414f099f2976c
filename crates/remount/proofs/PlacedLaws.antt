-- The headers that are kept of a known drive place the newest record of each block.
use Rattle.std.proofs.Common.{◌≡◌, ◌⊎◌, inl, inr, ℕ, ◌<◌, ◌≤◌, ◌^◌, min, ◌++◌, List, [], length, map, get_or, sym, ap, subst, ◌∙◌, arith}
use Rattle.std.specs.List.{AllByRecursion, flat_map}
use Rattle.std.proofs.lemmas.Bool.{cases_lt}
use Rattle.std.proofs.lemmas.List.{get_or_past, length-append, length-map}
use Rattle.nvme_wire.specs.declared.zone_state.ZoneState.TheVariants.{Empty}
use Rattle.zone_states.specs.declared.geometry.Geometry.{Geometry}
use Rattle.batch_log.specs.Log.{Batch, IsBatch, batch_blocks, log_size}
use Rattle.batch_log.proofs.LogLaws.{encoded_length}
use Rattle.logical_map.specs.declared.place.Place.{Place}
use Rattle.drive_port.specs.Contents.{content_at, content_of, contents, nothing}
use Rattle.drive_port.specs.Drive.{DriveState}
use Rattle.drive_array.specs.ZoneLogs.{HasLog, drive_logs, log_at, readable, zone_log}
use Rattle.drive_array.specs.Records.{records}
use Rattle.drive_array.specs.Sizes.{encoded_size, map_of}
use Rattle.drive_array.proofs.AllLaws.{all-at}
use Rattle.drive_array.proofs.SizeLaws.{inside-more}
use Rattle.drive_array.proofs.ZoneLogLaws.{log_at-zone}
use Rattle.drive_survey.specs.declared.reported.ReportedZone.{ReportedZone}
use Rattle.drive_survey.specs.declared.survey.Survey.{Survey}
use Rattle.drive_survey.specs.Heads.{HeadsView, heads_of}
use Rattle.drive_survey.specs.declared.scan.ScannedZone.{ScannedZone}
use Rattle.std.specs.Prelude.{IsPermutation}
use Rattle.drive_survey.specs.declared.records.KeptRecord.{KeptRecord}
use Rattle.drive_survey.specs.KeptRecords.{kept_record, kept_records}
use Rattle.drive_survey.specs.Known.{Knows}
use Rattle.remount.specs.declared.tables.batches.ListedBatch.{ListedBatch}
use Rattle.remount.specs.Placing.{AreInOrder, ListsAll, PlacesNewest, all_listed}
use Rattle.drive_survey.specs.Scan.{AreKnown, heads_in}
use Rattle.drive_survey.proofs.AllScanLaws.{there-is}
use Rattle.remount.proofs.HeadPlaceLaws.{all-in-order, all-read}
use Rattle.drive_survey.proofs.HeadRecordLaws.{kept-are}
use Rattle.drive_survey.proofs.RecordKeyLaws.{knows-apart}
use Rattle.remount.proofs.PlacingLaws.{placed-listed, placed-newest}
use Rattle.drive_survey.proofs.ReadLaws.{known-few}

-- ---- a zone's log fits in the zone

has-short : (geometry : Geometry) (blocks : List (List ℕ)) (log : List Batch) (tail : List (List ℕ)) → blocks ≡ flat_map (batch_blocks geometry.block) log ++ tail → AllByRecursion (IsBatch geometry.block) log → log_size log ≤ length blocks
has-short geometry blocks log tail encoded batches =
    omega (arith, ap length encoded, length-append (flat_map (batch_blocks geometry.block) log) tail, encoded_length geometry.block log batches)

drive-short : (drive : DriveState) (reported : List ReportedZone) (zone : ℕ) → AreKnown drive reported → AllByRecursion (HasLog drive.geometry) (contents drive.zones) → log_size (log_at (drive_logs drive) zone) ≤ drive.geometry.size
drive-short drive reported zone known all = by (cases_lt zone (length drive.zones))
  where
    by : (zone < length drive.zones) ⊎ (length drive.zones ≤ zone) → log_size (log_at (drive_logs drive) zone) ≤ drive.geometry.size
    by (inr le) =
        let long : length (drive_logs drive) ≤ zone = omega (arith, le, length-map (contents drive.zones) (zone_log drive.geometry), length-map drive.zones content_of) in
        let none : log_at (drive_logs drive) zone ≡ [] = get_or_past (drive_logs drive) zone [] long in
        rw none (omega arith)
    by (inl lt) =
        let d : ReportedZone = get_or reported zone (record { state = Empty; blocks = 0 }) in
        let k = known.each zone d (there-is reported zone (record { state = Empty; blocks = 0 }) (omega (arith, lt, known.count))) in
        let has = all-at (HasLog drive.geometry) (contents drive.zones) zone nothing all (omega (arith, lt, length-map drive.zones content_of)) in
        let fits = has-short drive.geometry (readable drive.geometry (content_at (contents drive.zones) zone)) (zone_log drive.geometry (content_at (contents drive.zones) zone)) has.tail has.front.encoded has.front.batches in
        rw (log_at-zone drive.geometry (contents drive.zones) zone) (omega (arith, fits, k.blocks, known-few drive zone d k, known.geometry.capacity))

part-short : (drive : DriveState) (n : ℕ) (logs : List (List Batch)) (survey : Survey) (zone : ℕ) → Knows drive n logs survey → log_size (log_at logs zone) ≤ drive.geometry.size
part-short drive n logs survey zone knows = by (knows.part zone)
  where
    by : (log_at logs zone ≡ log_at (drive_logs drive) zone) ⊎ (log_at logs zone ≡ []) → log_size (log_at logs zone) ≤ drive.geometry.size
    by (inl same) = rw same (drive-short drive survey.zones.items zone knows.zones knows.all_logs)
    by (inr none) = rw none (omega arith)

-- ---- the records are placed

-- the placed records make the map of a drive
pub places-are : (drive : DriveState) (geometry : Geometry) (n : ℕ) (logs : List (List Batch)) (survey : Survey) (size : ℕ) (batches listed : List ListedBatch) (table : List Place) → drive.geometry ≡ geometry → Knows drive n logs survey → size ≡ min survey.size (2 ^ 31)
    → length table ≡ size → IsPermutation listed batches → ListsAll (heads_in survey.scanned.items) listed → PlacesNewest geometry.size (all_listed (heads_in survey.scanned.items) batches) table
    → table ≡ map_of geometry.size n logs
places-are drive geometry n logs survey size batches listed table same knows is long shuffled lists placed =
    let views = heads_in survey.scanned.items in
    let most = knows.reserve.1 in
    let size_is : length table ≡ encoded_size n logs = omega (arith, long, is, knows.size_is, most) in
    let g_size : drive.geometry.size ≡ geometry.size = ap (λ (g : Geometry). g.size) same in
    let few : length logs ≤ 2 ^ 16 = omega (arith, knows.count, knows.zones.lawful.count, knows.zones.geometry.zones) in
    let small : geometry.size ≤ 2 ^ 20 = omega (arith, knows.zones.geometry.size, g_size) in
    let short : (zone : ℕ) → log_size (log_at logs zone) ≤ geometry.size = λ zone. omega (arith, part-short drive n logs survey zone knows, g_size) in
    let order : AreInOrder views = subst AreInOrder (sym knows.heads) (all-in-order logs) in
    let kept = kept-are 0 logs (inside-more (encoded_size n logs) (2 ^ 31) logs most knows.sound.inside) in
    let records_are : all_listed views listed ≡ map kept_record (records 0 logs) = lists order ∙ ap (kept_records 0) knows.heads ∙ kept in
    let here = subst (λ (rs : List KeptRecord). PlacesNewest geometry.size rs table) records_are (placed-listed geometry.size views listed batches table shuffled placed) in
    placed-newest geometry.size (encoded_size n logs) (records 0 logs) table (knows-apart drive n logs survey knows) (all-read geometry.size logs small few short) size_is here

-- a survey has as many zones as the drive
pub few-zones : (drive : DriveState) (geometry : Geometry) (n : ℕ) (logs : List (List Batch)) (survey : Survey) → drive.geometry ≡ geometry → Knows drive n logs survey → length survey.scanned.items ≤ geometry.zones
few-zones drive geometry n logs survey same knows =
    let zones : drive.geometry.zones ≡ geometry.zones = ap (λ (g : Geometry). g.zones) same in
    let long : length (heads_in survey.scanned.items) ≡ length (map heads_of logs) = ap (λ (views : List HeadsView). length views) knows.heads in
    omega (arith, zones, long, length-map survey.scanned.items (λ (z : ScannedZone). z.heads), length-map logs heads_of, knows.count, knows.zones.lawful.count)
