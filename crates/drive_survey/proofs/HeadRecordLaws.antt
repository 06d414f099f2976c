-- The records of a zone's log, read back from the headers that are kept.
use Rattle.std.proofs.Common.{◌≡◌, ℕ, zero, suc, ◌+◌, ◌-◌, ◌^◌, ◌<◌, Bool, true, false, List, [], ◌∷◌, ◌++◌, length, map, take, drop, refl, sym, ap, ◌∙◌, arith, append_assoc, append-nil}
use Rattle.std.specs.List.{AllByRecursion}
use Rattle.std.proofs.lemmas.Bool.{lt-ltb}
use Rattle.std.proofs.lemmas.Bool.Decides.{nat_tests}
use Rattle.std.proofs.lemmas.List.{length-append, length-map, map-append}
use Rattle.batch_log.specs.declared.header.Entry.{Entry}
use Rattle.batch_log.specs.Log.{Batch, batch_size, data_count, one_unless}
use Rattle.drive_array.specs.Mountable.{IsInside}
use Rattle.drive_array.specs.Records.{batch_records, entry_content, entry_offset, entry_records, log_records, record_of, records}
use Rattle.drive_survey.specs.declared.heads.Head.{Head}
use Rattle.drive_survey.specs.declared.records.KeptRecord.{KeptRecord}
use Rattle.drive_survey.specs.Heads.{HeadsView, heads_after, heads_of, kept_bit, kept_block, kept_entry, no_heads, with_heading}
use Rattle.drive_survey.specs.KeptRecords.{block_of_kept, entry_record, is_absent, is_kept_trim, kept_batches, kept_entries, kept_of_zone, kept_record, kept_records}

-- ---- what is kept of a log

-- the entries of all batches
abbrev pub entries_of : List Batch → List ℕ
entries_of [] = []
entries_of (batch ∷ log) = map kept_entry batch.heading.entries ++ entries_of log

-- the headers, where the first batch is at an offset, and its entries after the first ones, as many as `from`
abbrev pub heads_from : ℕ → ℕ → List Batch → List Head
heads_from offset from [] = []
heads_from offset from (batch ∷ log) =
    record { sequence = batch.heading.sequence; offset = offset; end = from + length batch.heading.entries } ∷ heads_from (offset + 1 + data_count batch.heading.entries) (from + length batch.heading.entries) log

entries-after : (view : HeadsView) (log : List Batch) → (heads_after view log).entries ≡ view.entries ++ entries_of log
entries-after view [] = sym (append-nil view.entries)
entries-after view (b ∷ bs) = entries-after (with_heading view b.heading) bs ∙ append_assoc view.entries (map kept_entry b.heading.entries) (entries_of bs)

-- the headers of a log keep the entries of all its batches
pub entries-are : (log : List Batch) → (heads_of log).entries ≡ entries_of log
entries-are log = entries-after no_heads log

heads-after : (view : HeadsView) (from : ℕ) (log : List Batch) → from ≡ length view.entries → (heads_after view log).heads ≡ view.heads ++ heads_from view.blocks from log
heads-after view from [] e = sym (append-nil view.heads)
heads-after view from (b ∷ bs) e =
    let es = b.heading.entries in
    let next : from + length es ≡ length (view.entries ++ map kept_entry es) = omega (arith, e, length-append view.entries (map kept_entry es), length-map es kept_entry) in
    let head : Head = record { sequence = b.heading.sequence; offset = view.blocks; end = length view.entries + length es } in
    let rest = heads_from (view.blocks + 1 + data_count es) (from + length es) bs in
    heads-after (with_heading view b.heading) (from + length es) bs next ∙ append_assoc view.heads (head ∷ []) rest
    ∙ ap (λ (n : ℕ). view.heads ++ record { sequence = b.heading.sequence; offset = view.blocks; end = n + length es } ∷ rest) (sym e)

-- the headers that are kept of a log have their places counted from the zone's start
pub heads-are : (log : List Batch) → (heads_of log).heads ≡ heads_from 0 0 log
heads-are log = heads-after no_heads 0 log refl

-- ---- an entry is read back

kept-block : (block : ℕ) → block < 2 ^ 31 → kept_block block ≡ block
kept-block block lt = rw (lt-ltb block (2 ^ 31) lt) refl

-- a kept entry tells whether it is a trim, if its block is below 2^31
pub trim-is : (e : Entry) → e.block < 2 ^ 31 → is_kept_trim (kept_entry e) ≡ e.trim
trim-is e lt = rw (kept-block e.block lt) (at e.trim)
  where
    at : (t : Bool) → is_kept_trim (e.block + kept_bit t) ≡ t
    at true = grind (arith, nat_tests)
    at false = grind (arith, nat_tests)

-- a kept entry tells its block, if the block is below 2^31
pub block-is : (e : Entry) → e.block < 2 ^ 31 → block_of_kept (kept_entry e) ≡ e.block
block-is e lt = rw (kept-block e.block lt) (at e.trim)
  where
    at : (t : Bool) → block_of_kept (e.block + kept_bit t) ≡ e.block
    at true = grind (arith, nat_tests)
    at false = grind (arith, nat_tests)

absent-is : (t : Bool) (body : List (List ℕ)) (k : ℕ) → is_absent (entry_content t body k) ≡ t
absent-is true body k = refl
absent-is false body k = refl

abbrev kept_with : ℕ → ℕ → ℕ → ℕ → ℕ → Bool → Bool → KeptRecord
kept_with sequence zone header k block t trim = record { block = block; sequence = sequence; zone = zone; offset = entry_offset t header k; trim = trim }

entry-is : (sequence zone header k : ℕ) (body : List (List ℕ)) (e : Entry) → e.block < 2 ^ 31 → entry_record sequence zone header k (kept_entry e) ≡ kept_record (record_of sequence body zone header k e)
entry-is sequence zone header k body e lt =
    let t = is_kept_trim (kept_entry e) in
    ap (λ (block : ℕ). kept_with sequence zone header k block t t) (block-is e lt)
    ∙ ap (λ (trim : Bool). kept_with sequence zone header k e.block trim trim) (trim-is e lt)
    ∙ ap (λ (trim : Bool). kept_with sequence zone header k e.block e.trim trim) (sym (absent-is e.trim body k))

entries-kept : (sequence zone header k : ℕ) (body : List (List ℕ)) (es : List Entry) → AllByRecursion (λ (e : Entry). e.block < 2 ^ 31) es → kept_entries sequence zone header k (map kept_entry es) ≡ map kept_record (entry_records sequence body zone header k es)
entries-kept sequence zone header k body [] all = refl
entries-kept sequence zone header k body (e ∷ es) all =
    let rest = entries-kept sequence zone header (k + one_unless e.trim) body es all.1 in
    let first = entry-is sequence zone header k body e all.0 in
    ap (λ (x : KeptRecord). x ∷ kept_entries sequence zone header (k + one_unless (is_kept_trim (kept_entry e))) (map kept_entry es)) first
    ∙ ap (λ (t : Bool). kept_record (record_of sequence body zone header k e) ∷ kept_entries sequence zone header (k + one_unless t) (map kept_entry es)) (trim-is e all.0)
    ∙ ap (λ (xs : List KeptRecord). kept_record (record_of sequence body zone header k e) ∷ xs) rest

-- ---- the records are read back

take-front : {X : Type 0} (n : ℕ) (xs ys : List X) → n ≡ length xs → take n (xs ++ ys) ≡ xs
take-front zero [] ys e = refl
take-front zero (x ∷ xs) ys e = absurd (omega (arith, e))
take-front (suc n) [] ys e = absurd (omega (arith, e))
take-front (suc n) (x ∷ xs) ys e = ap (λ zs. x ∷ zs) (take-front n xs ys (omega (arith, e)))

drop-front : {X : Type 0} (n : ℕ) (xs ys : List X) → n ≡ length xs → drop n (xs ++ ys) ≡ ys
drop-front zero [] ys e = refl
drop-front zero (x ∷ xs) ys e = absurd (omega (arith, e))
drop-front (suc n) [] ys e = absurd (omega (arith, e))
drop-front (suc n) (x ∷ xs) ys e = drop-front n xs ys (omega (arith, e))

batches-kept : (zone offset from : ℕ) (log : List Batch) → AllByRecursion (IsInside (2 ^ 31)) log → kept_batches zone from (heads_from offset from log) (entries_of log) ≡ map kept_record (log_records zone offset log)
batches-kept zone offset from [] all = refl
batches-kept zone offset from (b ∷ bs) all =
    let es = b.heading.entries in
    let own = map kept_entry es in
    let count : from + length es - from ≡ length own = omega (arith, length-map es kept_entry) in
    let end = from + length es in
    let next : offset + 1 + data_count es ≡ offset + batch_size b = omega arith in
    let first = entries-kept b.heading.sequence zone offset 0 b.body es all.0 in
    let rest = batches-kept zone (offset + 1 + data_count es) end bs all.1 in
    ap (λ (xs : List ℕ). kept_entries b.heading.sequence zone offset 0 xs ++ kept_batches zone end (heads_from (offset + 1 + data_count es) end bs) (drop (from + length es - from) (own ++ entries_of bs))) (take-front (from + length es - from) own (entries_of bs) count)
    ∙ ap (λ (xs : List ℕ). kept_entries b.heading.sequence zone offset 0 own ++ kept_batches zone end (heads_from (offset + 1 + data_count es) end bs) xs) (drop-front (from + length es - from) own (entries_of bs) count)
    ∙ ap (λ (xs : List KeptRecord). xs ++ kept_batches zone end (heads_from (offset + 1 + data_count es) end bs) (entries_of bs)) first
    ∙ ap (λ (xs : List KeptRecord). map kept_record (batch_records zone offset b) ++ xs) (rest ∙ ap (λ (o : ℕ). map kept_record (log_records zone o bs)) next)
    ∙ sym (map-append kept_record (batch_records zone offset b) (log_records zone (offset + batch_size b) bs))

-- of a zone
pub kept-is : (zone : ℕ) (log : List Batch) → AllByRecursion (IsInside (2 ^ 31)) log → kept_of_zone zone (heads_of log) ≡ map kept_record (log_records zone 0 log)
kept-is zone log all = ap (λ (hs : List Head). kept_batches zone 0 hs (heads_of log).entries) (heads-are log) ∙ ap (λ (xs : List ℕ). kept_batches zone 0 (heads_from 0 0 log) xs) (entries-are log) ∙ batches-kept zone 0 0 log all

-- of all zones
pub kept-are : (zone : ℕ) (logs : List (List Batch)) → AllByRecursion (AllByRecursion (IsInside (2 ^ 31))) logs → kept_records zone (map heads_of logs) ≡ map kept_record (records zone logs)
kept-are zone [] all = refl
kept-are zone (log ∷ logs) all =
    ap (λ (xs : List KeptRecord). xs ++ kept_records (suc zone) (map heads_of logs)) (kept-is zone log all.0)
    ∙ ap (λ (xs : List KeptRecord). map kept_record (log_records zone 0 log) ++ xs) (kept-are (suc zone) logs all.1)
    ∙ sym (map-append kept_record (log_records zone 0 log) (records (suc zone) logs))
