-- The headers of logs, and where the records of logs are.
use Rattle.std.proofs.Common.{◌≡◌, ℕ, suc, ◌+◌, ◌-◌, ◌*◌, ◌^◌, ◌<◌, ◌≤◌, min, Bool, true, false, List, [], ◌∷◌, length, map, Option, Some, None, refl, sym, subst, arith}
use Rattle.std.specs.List.{AllByRecursion}
use Rattle.std.proofs.lemmas.Nat.{mul-le}
use Rattle.batch_log.specs.declared.header.Entry.{Entry}
use Rattle.batch_log.specs.Log.{Batch, batch_size, data_count, log_size, one_unless}
use Rattle.drive_array.specs.Records.{Record, batch_records, entry_offset, entry_records, log_records, place, records}
use Rattle.drive_array.specs.ZoneLogs.{log_at}
use Rattle.drive_array.proofs.AllLaws.{all-append, all-weaker}
use Rattle.drive_survey.specs.declared.heads.Head.{Head}
use Rattle.drive_survey.specs.Heads.{heads_of}
use Rattle.drive_survey.specs.KeptRecords.{kept_record}
use Rattle.remount.specs.Placing.{AreEndsInOrder, AreInOrder, kept_place}
use Rattle.drive_survey.proofs.HeadRecordLaws.{heads-are, heads_from}

-- ---- the headers are in the order of their entries

ends-from : (offset from : ℕ) (log : List Batch) → AreEndsInOrder from (heads_from offset from log)
ends-from offset from [] = tt
ends-from offset from (b ∷ bs) = (omega arith, ends-from (offset + 1 + data_count b.heading.entries) (from + length b.heading.entries) bs)

-- the headers of logs are in the order of their entries
pub all-in-order : (logs : List (List Batch)) → AreInOrder (map heads_of logs)
all-in-order [] = tt
all-in-order (log ∷ logs) = (subst (λ (hs : List Head). AreEndsInOrder 0 hs) (sym (heads-are log)) (ends-from 0 0 log), all-in-order logs)

-- ---- where records are

-- a record of a zone's log, whose first batch is at an offset
record IsOfLog (zone offset : ℕ) (log : List Batch) (r : Record) : Type 0 where
  zone_is : r.zone ≡ zone
  below : r.offset < offset + log_size log

record IsOfBatch (zone header size : ℕ) (r : Record) : Type 0 where
  zone_is : r.zone ≡ zone
  below : r.offset < header + 1 + size

of-entries : (sequence : ℕ) (body : List (List ℕ)) (zone header k size : ℕ) (es : List Entry) → k + data_count es ≤ size → AllByRecursion (IsOfBatch zone header size) (entry_records sequence body zone header k es)
of-entries sequence body zone header k size [] le = tt
of-entries sequence body zone header k size (e ∷ es) le = (
  record { zone_is = refl; below = below e.trim (omega (arith, le)) },
  of-entries sequence body zone header (k + one_unless e.trim) size es (omega (arith, le)),
)
  where
    below : (t : Bool) → k + one_unless t ≤ size → entry_offset t header k < header + 1 + size
    below true le = omega arith
    below false le = omega (arith, le)

of-batch : (zone header : ℕ) (b : Batch) → AllByRecursion (IsOfBatch zone header (data_count b.heading.entries)) (batch_records zone header b)
of-batch zone header b = of-entries b.heading.sequence b.body zone header 0 (data_count b.heading.entries) b.heading.entries (omega arith)

of-log : (zone offset : ℕ) (log : List Batch) → AllByRecursion (IsOfLog zone offset log) (log_records zone offset log)
of-log zone offset [] = tt
of-log zone offset (b ∷ bs) =
    all-append (IsOfLog zone offset (b ∷ bs)) (batch_records zone offset b) (log_records zone (offset + batch_size b) bs)
    (all-weaker (IsOfBatch zone offset (data_count b.heading.entries)) (IsOfLog zone offset (b ∷ bs)) (batch_records zone offset b) (λ r is. record { zone_is = is.zone_is; below = omega (arith, is.below) }) (of-batch zone offset b))
    (all-weaker (IsOfLog zone (offset + batch_size b) bs) (IsOfLog zone offset (b ∷ bs)) (log_records zone (offset + batch_size b) bs) (λ r is. record { zone_is = is.zone_is; below = omega (arith, is.below) }) (of-log zone (offset + batch_size b) bs))

-- A record of logs, the first of which is a zone's: its zone is one of these, and it is in the zone's log.
record IsOfLogs (first : ℕ) (logs : List (List Batch)) (r : Record) : Type 0 where
  above : first ≤ r.zone
  in_range : r.zone < first + length logs
  below : r.offset < log_size (log_at logs (r.zone - first))

of-logs : (first : ℕ) (logs : List (List Batch)) → AllByRecursion (IsOfLogs first logs) (records first logs)
of-logs first [] = tt
of-logs first (log ∷ logs) =
    all-append (IsOfLogs first (log ∷ logs)) (log_records first 0 log) (records (suc first) logs)
    (all-weaker (IsOfLog first 0 log) (IsOfLogs first (log ∷ logs)) (log_records first 0 log) here (of-log first 0 log))
    (all-weaker (IsOfLogs (suc first) logs) (IsOfLogs first (log ∷ logs)) (records (suc first) logs) behind (of-logs (suc first) logs))
  where
    here : (r : Record) → IsOfLog first 0 log r → IsOfLogs first (log ∷ logs) r
    here r is =
        let none : r.zone - first ≡ 0 = omega (arith, is.zone_is) in
        record { above = omega (arith, is.zone_is); in_range = omega (arith, is.zone_is); below = rw none (omega (arith, is.below)) }

    behind : (r : Record) → IsOfLogs (suc first) logs r → IsOfLogs first (log ∷ logs) r
    behind r is =
        let more : r.zone - first ≡ suc (r.zone - suc first) = omega (arith, is.above) in
        record { above = omega (arith, is.above); in_range = omega (arith, is.in_range); below = rw more is.below }

-- ---- its place

-- a record's place is found by what is kept of it
abbrev pub IsRead : ℕ → Record → Type 0
IsRead zone_size r = kept_place zone_size (kept_record r) ≡ place zone_size (Some r)

-- and so of all records of logs that fit in their zones
pub all-read : (zone_size : ℕ) (logs : List (List Batch)) → zone_size ≤ 2 ^ 20 → length logs ≤ 2 ^ 16 → ((zone : ℕ) → log_size (log_at logs zone) ≤ zone_size) → AllByRecursion (IsRead zone_size) (records 0 logs)
all-read zone_size logs small few short = all-weaker (IsOfLogs 0 logs) (IsRead zone_size) (records 0 logs) read (of-logs 0 logs)
  where
    read : (r : Record) → IsOfLogs 0 logs r → IsRead zone_size r
    read r is =
        let here : r.zone - 0 ≡ r.zone = omega arith in
        let inside : r.offset < log_size (log_at logs r.zone) = rw here at is.below in
        let most_size = short r.zone in
        let below : r.offset < zone_size = omega (arith, inside, most_size) in
        let most = mul-le r.zone zone_size (2 ^ 16) (2 ^ 20) (omega (arith, is.in_range, few)) small in
        let low : r.zone * zone_size + r.offset ≤ 2 ^ 63 - 2 = omega (arith, most, below, small) in
        let fits : min (r.zone * zone_size + r.offset) (2 ^ 63 - 2) ≡ r.zone * zone_size + r.offset = omega (arith, low) in
        by r.content refl fits
      where
        by : (content : Option (List ℕ)) → r.content ≡ content → min (r.zone * zone_size + r.offset) (2 ^ 63 - 2) ≡ r.zone * zone_size + r.offset → IsRead zone_size r
        by None is' fits = rw (is', fits) refl
        by (Some bytes) is' fits = rw (is', fits) refl
