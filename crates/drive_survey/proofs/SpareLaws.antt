-- When nothing is lost with a zone.
use Rattle.std.proofs.Common.{◌≡◌, ◌≢◌, ◌⊎◌, inl, inr, ℕ, suc, ◌+◌, ◌^◌, ◌<◌, ◌≤◌, List, [], ◌∷◌, length, map, get_or, Option, Some, None, refl, sym, ap, subst, ◌∙◌, arith}
use Rattle.std.specs.List.{AllByRecursion, range_with_len}
use Rattle.std.proofs.lemmas.Bool.{cases_eq}
use Rattle.std.proofs.lemmas.List.{length-map}
use Rattle.std.proofs.lemmas.List.FromFn.{get_or-map-range_with_len}
use Rattle.drive_port.specs.Contents.{Content, content_at, content_of, contents, is_full, nothing}
use Rattle.drive_port.specs.Drive.{DriveState}
use Rattle.drive_port.proofs.ClosingLaws.{length-closing}
use Rattle.batch_log.specs.declared.header.Entry.{Entry}
use Rattle.batch_log.specs.Log.{Batch}
use Rattle.drive_array.specs.ZoneLogs.{HasLog, drive_logs, log_at, readable, zone_log}
use Rattle.drive_array.specs.Mountable.{IsInside}
use Rattle.drive_array.specs.Records.{IsNewest, Record, log_records, newest, records, shown, without}
use Rattle.drive_array.specs.Sizes.{encoded_size}
use Rattle.drive_array.specs.Spare.{IsSpare}
use Rattle.drive_array.proofs.AllLaws.{all-append, all-at, all-weaker}
use Rattle.drive_array.proofs.NewestLaws.{all-among, map_same, newest-is}
use Rattle.zone_choice.proofs.ReadLaws.{StandsIn, zone_stands}
use Rattle.drive_array.proofs.SizeLaws.{inside-records}
use Rattle.drive_array.proofs.ZoneLogLaws.{log_at-zone}
use Rattle.drive_survey.specs.declared.survey.Survey.{Survey}
use Rattle.drive_survey.specs.Clearing.{AllStand, ShowsSame, StandsAt}
use Rattle.drive_survey.specs.declared.records.KeptRecord.{KeptRecord}
use Rattle.drive_survey.specs.Heads.{heads_of}
use Rattle.drive_survey.specs.KeptRecords.{kept_of_zone}
use Rattle.drive_survey.specs.NewestRecords.{AreNewest}
use Rattle.drive_survey.specs.Known.{Knows}
use Rattle.drive_survey.specs.Reported.{KeepsZones}
use Rattle.drive_survey.proofs.OwnLaws.{own-named}
use Rattle.drive_survey.proofs.OutsideLaws.{none-outside, outside-is, stays-outside}
use Rattle.drive_survey.proofs.ReadLaws.{kept-contents}
use Rattle.drive_survey.proofs.SurveyLaws.{known-kept}

-- ---- what is known stays so

-- what a survey knows of a drive is still known after a look at it
pub knows-kept : (old new : DriveState) (n : ℕ) (logs : List (List Batch)) (survey : Survey) → KeepsZones old new → Knows old n logs survey → Knows new n logs survey
knows-kept old new n logs survey kept known =
    let same = kept-contents old new kept in
    record {
      all_logs = rw (kept.geometry, same) known.all_logs;
      count = known.count ∙ sym (length-closing old.zones new.zones kept.closing);
      part = rw (kept.geometry, same) known.part;
      sound = known.sound;
      reserve = rw kept.geometry known.reserve;
      size_is = known.size_is;
      given_is = known.given_is;
      zones = known-kept old new survey.zones.items kept known.zones;
      heads = known.heads;
      tails = rw same known.tails;
    }

-- all blocks can be kept
pub knows-small : (drive : DriveState) (n : ℕ) (logs : List (List Batch)) (survey : Survey) → Knows drive n logs survey → AllByRecursion (AllByRecursion (IsInside (2 ^ 31))) logs
knows-small drive n logs survey known =
    let size = encoded_size n logs in
    let most = known.reserve.1 in
    all-weaker (AllByRecursion (IsInside size)) (AllByRecursion (IsInside (2 ^ 31))) logs
    (λ log. all-weaker (IsInside size) (IsInside (2 ^ 31)) log (λ batch. all-weaker (λ (e : Entry). e.block < size) (λ (e : Entry). e.block < 2 ^ 31) batch.heading.entries (λ e lt. omega (arith, lt, most)))) known.sound.inside

-- ---- the data of records

records-stand : (drive : DriveState) (first : ℕ) (logs : List (List Batch)) → AllByRecursion (HasLog drive.geometry) (contents drive.zones) → first + length logs ≤ length drive.zones
    → ((k : ℕ) → (log_at logs k ≡ log_at (drive_logs drive) (first + k)) ⊎ (log_at logs k ≡ [])) → AllByRecursion (StandsAt drive) (records first logs)
records-stand drive first [] has le part = tt
records-stand drive first (log ∷ logs) has le part =
    all-append (StandsAt drive) (log_records first 0 log) (records (suc first) logs) (here (part 0))
    (records-stand drive (suc first) logs has (omega (arith, le)) (λ k. let same : first + suc k ≡ suc first + k = omega arith in subst (λ (i : ℕ). (log_at logs k ≡ log_at (drive_logs drive) i) ⊎ (log_at logs k ≡ [])) same (part (suc k))))
  where
    content : Content
    content = content_at (contents drive.zones) first

    one : (r : Record) → StandsIn (readable drive.geometry content) [] first r → StandsAt drive r
    one r stands bytes some =
        let at = stands.stands bytes some in
        rw stands.zone_is (omega (arith, le), at.0, at.1)

    here : (log ≡ log_at (drive_logs drive) (first + 0)) ⊎ (log ≡ []) → AllByRecursion (StandsAt drive) (log_records first 0 log)
    here (inr none) = rw none tt
    here (inl same) =
        let zero_more : first + 0 ≡ first = omega arith in
        let log_is : log ≡ zone_log drive.geometry content = same ∙ ap (λ (i : ℕ). log_at (drive_logs drive) i) zero_more ∙ log_at-zone drive.geometry (contents drive.zones) first in
        let is_log = all-at (HasLog drive.geometry) (contents drive.zones) first nothing has (omega (arith, le, length-map drive.zones content_of)) in
        rw log_is (all-weaker (StandsIn (readable drive.geometry content) [] first) (StandsAt drive) (log_records first 0 (zone_log drive.geometry content)) one
        (zone_stands drive.geometry.block first (is_full content.usage) (readable drive.geometry content) (zone_log drive.geometry content) [] is_log))

-- the data of all records that a survey knows is at its place
pub knows-stand : (drive : DriveState) (n : ℕ) (logs : List (List Batch)) (survey : Survey) → Knows drive n logs survey → AllStand drive logs
knows-stand drive n logs survey known = records-stand drive 0 logs known.all_logs (omega (arith, known.count)) (λ k. let same : 0 + k ≡ k = omega arith in rw same (known.part k))

-- ---- a block shows the same

-- its newest record is in another zone
pub same-other : (block_bytes : ℕ) (logs : List (List Batch)) (zone block : ℕ) (r : Record) → newest block (records 0 logs) ≡ Some r → r.zone ≢ zone → ShowsSame block_bytes logs zone block
same-other block_bytes logs zone block r is apart =
    ap (shown block_bytes) (ap (newest block) (sym (outside-is 0 zone zone logs (omega arith))) ∙ stays-outside block zone (records 0 logs) r is apart ∙ sym is)

-- it has none
pub same-none : (block_bytes : ℕ) (logs : List (List Batch)) (zone block : ℕ) → newest block (records 0 logs) ≡ None → ShowsSame block_bytes logs zone block
same-none block_bytes logs zone block none =
    ap (shown block_bytes) (ap (newest block) (sym (outside-is 0 zone zone logs (omega arith))) ∙ none-outside block zone (records 0 logs) none ∙ sym none)

-- a block that shows something else has a record, and so is one of the disk's
pub needed-inside : (block_bytes size : ℕ) (logs : List (List Batch)) (zone block : ℕ) → AllByRecursion (AllByRecursion (IsInside size)) logs → (ShowsSame block_bytes logs zone block → ⊥) → block < size
needed-inside block_bytes size logs zone block inside differs = by (newest block (records 0 logs)) refl (newest-is block (records 0 logs))
  where
    by : (x : Option Record) → newest block (records 0 logs) ≡ x → IsNewest (records 0 logs) block x → block < size
    by None e is = absurd (differs (same-none block_bytes logs zone block e))
    by (Some r) e is = let lt = all-among (λ (x : Record). x.block < size) (records 0 logs) r (inside-records size 0 logs inside) is.1.among in omega (arith, lt, is.0)

-- a zone is not needed where each of its blocks shows the same
pub all-same : (block_bytes : ℕ) (logs : List (List Batch)) (zone : ℕ) (own : List KeptRecord) → AllByRecursion (AllByRecursion (IsInside (2 ^ 31))) logs → AreNewest (kept_of_zone zone (heads_of (log_at logs zone))) own
    → AllByRecursion (λ (r : KeptRecord). ShowsSame block_bytes logs zone r.block) own → (block : ℕ) → ShowsSame block_bytes logs zone block
all-same block_bytes logs zone own inside newest_own all block = by (newest block (records 0 logs)) refl (newest-is block (records 0 logs))
  where
    P : ℕ → Type 0
    P k = ShowsSame block_bytes logs zone k

    by : (x : Option Record) → newest block (records 0 logs) ≡ x → IsNewest (records 0 logs) block x → ShowsSame block_bytes logs zone block
    by None e is = same-none block_bytes logs zone block e
    by (Some r) e is = elim (cases_eq r.zone zone) as (λ _. ShowsSame block_bytes logs zone block) [
      | inl same ↦ subst P is.0 (all-among (λ (x : Record). x.zone ≡ zone → P x.block) (records 0 logs) r (own-named P zone logs own inside newest_own all) is.1.among same)
      | inr other ↦ same-other block_bytes logs zone block r e other
    ]

-- ---- the array

-- the array is the same without a zone if the size and each block are
pub spare-all : (block_bytes n : ℕ) (logs : List (List Batch)) (zone : ℕ) → encoded_size n (without logs zone) ≡ encoded_size n logs → ((block : ℕ) → ShowsSame block_bytes logs zone block) → IsSpare block_bytes n logs zone
spare-all block_bytes n logs zone same each =
    ap (λ (size : ℕ). map (λ block. shown block_bytes (newest block (records 0 (without logs zone)))) (range_with_len 0 size)) same
    ∙ map_same (λ block. shown block_bytes (newest block (records 0 (without logs zone)))) (λ block. shown block_bytes (newest block (records 0 logs))) each (range_with_len 0 (encoded_size n logs))

-- if the array and the size are the same without a zone, so is each block
pub spare-at : (block_bytes n : ℕ) (logs : List (List Batch)) (zone block : ℕ) → encoded_size n (without logs zone) ≡ encoded_size n logs → IsSpare block_bytes n logs zone → block < encoded_size n logs → ShowsSame block_bytes logs zone block
spare-at block_bytes n logs zone block size spare lt =
    let less = without logs zone in
    let before = get_or-map-range_with_len (λ (b : ℕ). shown block_bytes (newest b (records 0 less))) 0 (encoded_size n less) block block [] (omega (arith, lt, size)) (omega arith) in
    let after = get_or-map-range_with_len (λ (b : ℕ). shown block_bytes (newest b (records 0 logs))) 0 (encoded_size n logs) block block [] lt (omega arith) in
    sym before ∙ ap (λ (xs : List (List ℕ)). get_or xs block []) spare ∙ after
