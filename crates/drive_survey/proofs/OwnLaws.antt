-- What holds of a zone's newest records holds of all records that are in it.
use Rattle.std.proofs.Common.{◌≡◌, ℕ, zero, suc, ◌^◌, List, [], ◌∷◌, sym, subst, arith}
use Rattle.std.specs.List.{AllByRecursion, Contains}
use Rattle.batch_log.specs.Log.{Batch}
use Rattle.drive_array.specs.Mountable.{IsInside}
use Rattle.drive_array.specs.Records.{Record, log_records, records}
use Rattle.drive_array.specs.ZoneLogs.{log_at}
use Rattle.drive_survey.specs.declared.records.KeptRecord.{KeptRecord}
use Rattle.drive_survey.specs.Heads.{heads_of}
use Rattle.drive_survey.specs.KeptRecords.{kept_of_zone, kept_record}
use Rattle.drive_survey.specs.NewestRecords.{AreNewest}
use Rattle.drive_survey.proofs.HeadRecordLaws.{kept-is}
use Rattle.drive_survey.proofs.NewestListLaws.{among-map}
use Rattle.drive_survey.proofs.RecordMapLaws.{all-self, kept-among, zone-own}

-- what holds of all batches holds of the batches of one zone
pub log-inside : (P : Batch → Type 0) (logs : List (List Batch)) (zone : ℕ) → AllByRecursion (AllByRecursion P) logs → AllByRecursion P (log_at logs zone)
log-inside P [] zone all = tt
log-inside P (log ∷ logs) zero all = all.0
log-inside P (log ∷ logs) (suc zone) all = log-inside P logs zone all.1

-- what holds of the blocks of a zone's newest records holds of all blocks that it names
pub own-named : (P : ℕ → Type 0) (zone : ℕ) (logs : List (List Batch)) (own : List KeptRecord) → AllByRecursion (AllByRecursion (IsInside (2 ^ 31))) logs → AreNewest (kept_of_zone zone (heads_of (log_at logs zone))) own
    → AllByRecursion (λ (k : KeptRecord). P k.block) own → AllByRecursion (λ (r : Record). r.zone ≡ zone → P r.block) (records 0 logs)
own-named P zone logs own inside newest all = zone-own (λ (r : Record). P r.block) 0 zone zone logs (omega arith) (all-self (λ (r : Record). P r.block) zone_records each)
  where
    zone_records : List Record
    zone_records = log_records zone 0 (log_at logs zone)

    each : (r : Record) → Contains zone_records r → P r.block
    each r c =
        let there = subst (λ (ks : List KeptRecord). Contains ks (kept_record r)) (sym (kept-is zone (log_at logs zone) (log-inside (IsInside (2 ^ 31)) logs zone inside))) (among-map zone_records r c) in
        let k = newest.covers (kept_record r) there in
        subst P k.2 (kept-among (λ (x : KeptRecord). P x.block) own k.0 all k.1)
