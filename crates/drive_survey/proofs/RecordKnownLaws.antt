-- A table of the records of a drive, as a mount knows it.
use Rattle.std.proofs.Common.{◌≡◌, ℕ, ◌^◌, ◌<◌, List, length, get_or, Some, sym, ap, subst, ◌∙◌, arith}
use Rattle.std.specs.Prelude.{slice_get}
use Rattle.std.proofs.lemmas.List.{length-map}
use Rattle.batch_log.specs.Log.{Batch}
use Rattle.drive_port.specs.Drive.{DriveState}
use Rattle.drive_array.specs.Mountable.{IsInside}
use Rattle.drive_array.specs.Records.{without}
use Rattle.drive_array.specs.ZoneLogs.{log_at}
use Rattle.drive_survey.specs.declared.clearing.block_records.BlockRecords.{BlockRecords}
use Rattle.drive_survey.specs.declared.scan.ScannedZone.{ScannedZone}
use Rattle.drive_survey.specs.declared.survey.Survey.{Survey}
use Rattle.drive_survey.specs.BlockRecords.{HasNoRecord, HoldsMore, HoldsRecords, NotesNewest, forgets, own_of}
use Rattle.drive_survey.specs.Clearing.{AreOf, CoversHeads, CoversMoved, CoversZone}
use Rattle.drive_survey.specs.Heads.{HeadsView, heads_of}
use Rattle.drive_survey.specs.KeptRecords.{kept_of_zone}
use Rattle.drive_survey.specs.NewestRecords.{AreNewest, AreNewestOfAll}
use Rattle.drive_survey.specs.declared.records.KeptRecord.{KeptRecord}
use Rattle.drive_survey.specs.Known.{Knows}
use Rattle.drive_survey.specs.Scan.{heads_in}
use Rattle.drive_survey.proofs.HeadRecordLaws.{kept-is}
use Rattle.drive_survey.proofs.MovedLaws.{found-heads, there}
use Rattle.drive_survey.proofs.NewestListLaws.{newest-list}
use Rattle.drive_survey.proofs.OwnLaws.{log-inside}
use Rattle.drive_survey.proofs.RecordHoldLaws.{heads-more, same-own}
use Rattle.drive_survey.proofs.RecordKeyLaws.{knows-apart}
use Rattle.drive_survey.proofs.RecordMapLaws.{holds-forgotten, holds-noted}
use Rattle.drive_survey.proofs.RecordTableLaws.{Changes}
use Rattle.drive_survey.proofs.SpareLaws.{knows-small}

few-zones : (drive : DriveState) (n : ℕ) (logs : List (List Batch)) (survey : Survey) → Knows drive n logs survey → length survey.scanned.items < 2 ^ 32
few-zones drive n logs survey known =
    let count : length survey.scanned.items ≡ length logs = sym (length-map survey.scanned.items (λ (z : ScannedZone). z.heads)) ∙ ap length known.heads ∙ length-map logs heads_of in
    omega (arith, count, known.count, known.zones.lawful.count, known.zones.geometry.zones.1)

-- the table covers all zones of Moves, in all logs with the survey's headers
abbrev pub CoversAll : Survey → BlockRecords → Type 0
CoversAll survey table = length survey.scanned.items < 2 ^ 32 → (logs : List (List Batch)) → AreOf survey.scanned.items logs → CoversMoved logs survey.scanned.items table

-- all records are noted
abbrev pub NotesAll : Survey → BlockRecords → BlockRecords → Type 0
NotesAll survey old new = length survey.scanned.items < 2 ^ 32 → NotesNewest (heads_in survey.scanned.items) old new

-- a table that holds more and keeps the same still covers the zones of Moves
pub known-covers : (drive : DriveState) (n : ℕ) (logs : List (List Batch)) (survey : Survey) (old new : BlockRecords) → CoversAll survey old → HoldsMore old new → new.own ≡ old.own → Knows drive n logs survey → CoversMoved logs survey.scanned.items new
known-covers drive n logs survey old new covers more same known zone moved found there =
    heads-more old new zone found.heads more (same-own old new zone same) (covers (few-zones drive n logs survey known) logs known.heads zone moved found there)

-- a table that covers a scanned zone's headers, and then only grows, covers the zone
pub covers-one : (survey : Survey) (zone : ℕ) (one : ScannedZone) (old new : BlockRecords) → slice_get survey.scanned.items zone ≡ Some one → CoversHeads old zone one.heads → HoldsMore old new → new.own ≡ old.own → CoversZone survey.scanned.items new zone
covers-one survey zone one old new there covers more kept found found_is =
    let same : one ≡ found = (let e = sym there ∙ found_is in cc) in
    subst (λ (z : ScannedZone). CoversHeads new zone z.heads) same (heads-more old new zone one.heads more (same-own old new zone kept) covers)

-- a table with no record that took all newest records holds the records of the logs
pub known-holds : (drive : DriveState) (n : ℕ) (logs : List (List Batch)) (survey : Survey) (old new : BlockRecords) → HasNoRecord old → NotesAll survey old new → Knows drive n logs survey → HoldsRecords logs new
known-holds drive n logs survey old new none noted known =
    let done = noted (few-zones drive n logs survey known) in
    let apart = knows-apart drive n logs survey known in
    let newest = newest-list logs done.0 (knows-small drive n logs survey known) apart (subst (λ (views : List HeadsView). AreNewestOfAll 0 views done.0) known.heads done.1) in
    holds-noted logs old new done.0 apart newest none done.2

-- ---- a zone is forgotten

-- a scanned zone that was read at its number is the one that the survey holds
pub scanned-at : (items : List ScannedZone) (survey : Survey) (zone : ℕ) (found : ScannedZone) → items ≡ survey.scanned.items → zone < length items → found ≡ get_or items zone found → slice_get survey.scanned.items zone ≡ Some found
scanned-at items survey zone found same lt is = subst (λ (xs : List ScannedZone). slice_get xs zone ≡ Some found) same (there items zone found lt is)

-- a table without a zone's newest records holds the records of the logs without the zone
pub known-forgets : (drive : DriveState) (n : ℕ) (logs : List (List Batch)) (survey : Survey) (zone : ℕ) (found : ScannedZone) (own : List KeptRecord) (old new : BlockRecords) → own ≡ own_of old zone → Changes forgets old new own
    → Knows drive n logs survey → slice_get survey.scanned.items zone ≡ Some found → CoversHeads old zone found.heads → HoldsRecords logs old → HoldsRecords (without logs zone) new
known-forgets drive n logs survey zone found own old new listed_is forgot known there covers holds =
    let of_log = ap (kept_of_zone zone) (found-heads survey.scanned.items logs zone found known.heads there) ∙ kept-is zone (log_at logs zone) (log-inside (IsInside (2 ^ 31)) logs zone (knows-small drive n logs survey known)) in
    let newest = subst (λ (rs : List KeptRecord). AreNewest rs own) of_log (subst (AreNewest (kept_of_zone zone found.heads)) (sym listed_is) covers.0) in
    holds-forgotten logs zone own old new (knows-apart drive n logs survey known) newest holds forgot
