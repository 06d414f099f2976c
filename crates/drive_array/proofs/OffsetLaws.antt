-- The records of a log are below where it ends.
use Rattle.std.proofs.Common.{ℕ, suc, ◌+◌, ◌<◌, ◌≤◌, Bool, true, false, List, [], ◌∷◌, arith}
use Rattle.std.specs.List.{AllByRecursion}
use Rattle.batch_log.specs.declared.header.Entry.{Entry}
use Rattle.batch_log.specs.Log.{Batch, batch_size, data_count, log_size, one_unless}
use Rattle.drive_array.specs.Records.{Record, batch_records, entry_offset, entry_records, log_records, records}
use Rattle.drive_array.specs.ZoneLogs.{log_at}
use Rattle.drive_array.proofs.AllLaws.{all-append}

-- the records of the entries of one batch
entries-below : (limit sequence zone header k : ℕ) (body : List (List ℕ)) (es : List Entry) → header + 1 + k + data_count es ≤ limit → AllByRecursion (λ (r : Record). r.offset < limit) (entry_records sequence body zone header k es)
entries-below limit sequence zone header k body [] le = tt
entries-below limit sequence zone header k body (e ∷ es) le = (one e.trim le, entries-below limit sequence zone header (k + one_unless e.trim) body es (omega (arith, le)))
  where
    one : (t : Bool) → header + 1 + k + (one_unless t + data_count es) ≤ limit → entry_offset t header k < limit
    one true le = omega (arith, le)
    one false le = omega (arith, le)

-- those of a log that begins at an offset
pub log-below : (limit zone offset : ℕ) (log : List Batch) → offset + log_size log ≤ limit → AllByRecursion (λ (r : Record). r.offset < limit) (log_records zone offset log)
log-below limit zone offset [] le = tt
log-below limit zone offset (b ∷ bs) le =
    all-append (λ (r : Record). r.offset < limit) (batch_records zone offset b) (log_records zone (offset + batch_size b) bs)
    (entries-below limit b.heading.sequence zone offset 0 b.body b.heading.entries (omega (arith, le)))
    (log-below limit zone (offset + batch_size b) bs (omega (arith, le)))

-- those of all logs, each of which ends by the limit
pub records-below : (limit first : ℕ) (logs : List (List Batch)) → ((zone : ℕ) → log_size (log_at logs zone) ≤ limit) → AllByRecursion (λ (r : Record). r.offset < limit) (records first logs)
records-below limit first [] few = tt
records-below limit first (log ∷ logs) few =
    all-append (λ (r : Record). r.offset < limit) (log_records first 0 log) (records (suc first) logs) (log-below limit first 0 log (omega (arith, few 0))) (records-below limit (suc first) logs (λ zone. few (suc zone)))
