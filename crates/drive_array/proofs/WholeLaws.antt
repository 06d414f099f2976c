-- The array that a drive encodes has the drive's size, and each of its blocks is a whole block.
use Rattle.std.proofs.Common.{◌≡◌, ℕ, zero, suc, ◌+◌, ◌-◌, ◌≤◌, Bool, true, false, List, [], ◌∷◌, map, length, replicate, Option, Some, None, subst, arith}
use Rattle.std.specs.List.{AllByRecursion, flat_map, range_with_len}
use Rattle.std.proofs.lemmas.List.{length-replicate}
use Rattle.zone_states.specs.declared.geometry.Geometry.{Geometry}
use Rattle.zone_states.specs.Zone.{IsLawfulZone, Zone}
use Rattle.drive_port.specs.Drive.{DriveState}
use Rattle.drive_port.specs.Contents.{Content, content_of, contents, is_full}
use Rattle.batch_log.specs.declared.header.Entry.{Entry}
use Rattle.batch_log.specs.Log.{Batch, IsBatch, batch_blocks, batch_size, data_count, one_unless, zero_block}
use Rattle.drive_array.specs.Records.{IsNewest, Record, batch_records, entry_content, entry_records, log_records, newest, records, shown, shown_content}
use Rattle.drive_array.specs.ZoneLogs.{HasLog, drive_logs, encoded, padding, readable, encoded_array, zone_log, zone_logs}
use Rattle.drive_array.specs.Sizes.{encoded_size}
use Rattle.drive_array.specs.Laws.{EncodedWhole}
use Rattle.drive_array.proofs.AllLaws.{all-append, all-at, all-parts}
use Rattle.drive_array.proofs.NewestLaws.{all-among, newest-is}
use Rattle.drive_array.proofs.SizeLaws.{array_length}

-- ---- its size

-- an encoded array has the size of the disk
pub length-encoded : (drive : DriveState) (n : ℕ) → length (encoded drive n) ≡ encoded_size n (drive_logs drive)
unfolding encoded_array
length-encoded drive n = array_length drive.geometry.block n (drive_logs drive)

abbrev AreWhole : ℕ → List (List ℕ) → Type 0
AreWhole size blocks = AllByRecursion (λ block. length block ≡ size) blocks

-- what a record says of its block is a whole block
abbrev SaysWhole : ℕ → Record → Type 0
SaysWhole size r = length (shown size (Some r)) ≡ size

-- ---- in one zone

entries-whole : (size sequence zone header k : ℕ) (body : List (List ℕ)) (es : List Entry) → AreWhole size body → k + data_count es ≤ length body → AllByRecursion (SaysWhole size) (entry_records sequence body zone header k es)
entries-whole size sequence zone header k body [] whole le = tt
entries-whole size sequence zone header k body (e ∷ es) whole le =
    (one e.trim le, entries-whole size sequence zone header (k + one_unless e.trim) body es whole (omega (arith, le)))
  where
    one : (t : Bool) → k + (one_unless t + data_count es) ≤ length body → length (shown_content size (entry_content t body k)) ≡ size
    one true le = length-replicate size 0
    one false le = all-at (λ block. length block ≡ size) body k [] whole (omega (arith, le))

log-whole : (size zone offset : ℕ) (log : List Batch) → AreWhole size (flat_map (batch_blocks size) log) → AllByRecursion (IsBatch size) log → AllByRecursion (SaysWhole size) (log_records zone offset log)
log-whole size zone offset [] whole fits = tt
log-whole size zone offset (b ∷ bs) whole fits =
    let parts = all-parts (λ block. length block ≡ size) (batch_blocks size b) (flat_map (batch_blocks size) bs) whole in
    all-append (SaysWhole size) (batch_records zone offset b) (log_records zone (offset + batch_size b) bs)
    (entries-whole size b.heading.sequence zone offset 0 b.body b.heading.entries parts.0.1 (omega (arith, fits.0.body)))
    (log-whole size zone (offset + batch_size b) bs parts.1 fits.1)

all-replicate : (size n : ℕ) → AreWhole size (replicate n (zero_block size))
all-replicate size zero = tt
all-replicate size (suc n) = (length-replicate size 0, all-replicate size n)

readable-whole : (geometry : Geometry) (content : Content) → AreWhole geometry.block content.blocks → AreWhole geometry.block (readable geometry content)
readable-whole geometry content whole =
    all-append (λ block. length block ≡ geometry.block) content.blocks (padding geometry (is_full content.usage) (length content.blocks)) whole (behind (is_full content.usage))
  where
    behind : (b : Bool) → AreWhole geometry.block (padding geometry b (length content.blocks))
    behind true = all-replicate geometry.block (geometry.capacity - length content.blocks)
    behind false = tt

-- ---- on the drive

records-whole : (geometry : Geometry) (first : ℕ) (zones : List Zone) → AllByRecursion (IsLawfulZone geometry) zones → AllByRecursion (HasLog geometry) (contents zones)
    → AllByRecursion (SaysWhole geometry.block) (records first (zone_logs geometry (contents zones)))
records-whole geometry first [] lawful logs = tt
records-whole geometry first (z ∷ zs) lawful logs =
    let size = geometry.block in
    let log = zone_log geometry (content_of z) in
    let blocks = subst (AreWhole size) logs.0.front.encoded (readable-whole geometry (content_of z) lawful.0.whole) in
    let batches = all-parts (λ block. length block ≡ size) (flat_map (batch_blocks size) log) logs.0.tail blocks in
    all-append (SaysWhole size) (log_records first 0 log) (records (suc first) (zone_logs geometry (contents zs)))
    (log-whole size first 0 log batches.0 logs.0.front.batches) (records-whole geometry (suc first) zs lawful.1 logs.1)

shown-whole : (size block : ℕ) (rs : List Record) (r : Option Record) → AllByRecursion (SaysWhole size) rs → IsNewest rs block r → length (shown size r) ≡ size
shown-whole size block rs None all found = length-replicate size 0
shown-whole size block rs (Some r) all found = all-among (SaysWhole size) rs r all found.1.among

all-mapped : {X Y : Type 0} (P : Y → Type 0) (f : X → Y) (xs : List X) → ((x : X) → P (f x)) → AllByRecursion P (map f xs)
all-mapped P f [] each = tt
all-mapped P f (x ∷ xs) each = (each x, all-mapped P f xs each)

-- and each of its blocks is whole
pub whole-encoded : EncodedWhole
unfolding encoded_array
whole-encoded drive n mountable =
    let size = drive.geometry.block in
    let rs = records 0 (drive_logs drive) in
    let all = records-whole drive.geometry 0 drive.zones mountable.lawful.zones mountable.holds.disk.logs in
    all-mapped (λ block. length block ≡ size) (λ block. shown size (newest block rs)) (range_with_len 0 (encoded_size n (drive_logs drive))) (λ block. shown-whole size block rs (newest block rs) all (newest-is block rs))
