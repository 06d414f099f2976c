-- The sizes and the arrays of logs in which a vacant zone got a log.
use Rattle.std.proofs.Common.{◌≡◌, ◌≢◌, ℕ, zero, suc, ◌<◌, List, [], ◌∷◌, map, length, set, get_or, Option, refl, sym, ap, ◌∙◌, arith}
use Rattle.std.specs.List.{range_with_len}
use Rattle.std.proofs.lemmas.List.{get_or-set_same, length-set, set-set}
use Rattle.std.proofs.lemmas.List.FromFn.{get_or-map-range_with_len}
use Rattle.batch_log.specs.Log.{Batch}
use Rattle.drive_array.specs.Records.{newest, records, shown}
use Rattle.drive_array.specs.Repairing.{IsWithin}
use Rattle.drive_array.specs.Sizes.{array_of, encoded_size, greatest, larger, log_greatest}
use Rattle.drive_array.specs.Spare.{IsVacant}
use Rattle.drive_array.specs.ZoneLogs.{log_at}
use Rattle.drive_array.proofs.DeadLaws.{greatest-absorbs, greatest-split, map-range_same}
use Rattle.drive_array.proofs.RepairingRecords.{put-none}
use Rattle.drive_array.proofs.SizeLaws.{larger-assoc, same-size}

-- ---- sizes

-- a zone that has a batch is one of the drive
pub in-range : (logs : List (List Batch)) (zone : ℕ) → log_at logs zone ≢ [] → zone < length logs
in-range [] zone some = absurd (some refl)
in-range (log ∷ logs) zero some = omega arith
in-range (log ∷ logs) (suc zone) some = let lt = in-range logs zone some in omega arith

-- the greatest size, with a log put in a zone that had none
pub greatest-put : (logs : List (List Batch)) (zone : ℕ) (log : List Batch) → zone < length logs → IsVacant logs zone → greatest (set logs zone log) ≡ larger (log_greatest log) (greatest logs)
greatest-put logs zone log lt vacant =
    greatest-split (set logs zone log) zone (omega (arith, lt, length-set logs zone log))
    ∙ ap (λ (l : List Batch). larger (log_greatest l) (greatest (set (set logs zone log) zone []))) (get_or-set_same logs zone log [] lt)
    ∙ ap (λ (ls : List (List Batch)). larger (log_greatest log) (greatest ls)) (set-set logs zone log [] ∙ put-none logs zone vacant)

-- a log that says no size above another zone's does not change the greatest
pub greatest-within : (logs : List (List Batch)) (zone other : ℕ) (log : List Batch) → zone < length logs → other < length logs → IsVacant logs zone → IsWithin (log_greatest log) (log_greatest (log_at logs other))
    → greatest (set logs zone log) ≡ greatest logs
greatest-within logs zone other log lt lt' vacant within =
    let m = log_greatest log in
    let t = log_greatest (log_at logs other) in
    let g = greatest logs in
    let absorbs = greatest-absorbs logs other lt' in
    greatest-put logs zone log lt vacant ∙ ap (larger m) (sym absorbs) ∙ larger-assoc m t g ∙ ap (λ (s : Option ℕ). larger s g) within ∙ absorbs

-- ---- arrays, block by block

-- arrays are the same if their sizes are, and each block is
pub array-same : (block_bytes n : ℕ) (a b : List (List Batch)) → encoded_size n a ≡ encoded_size n b
    → ((block : ℕ) → block < encoded_size n b → shown block_bytes (newest block (records 0 a)) ≡ shown block_bytes (newest block (records 0 b))) → array_of block_bytes n a ≡ array_of block_bytes n b
array-same block_bytes n a b e each =
    ap (λ (k : ℕ). map (λ block. shown block_bytes (newest block (records 0 a))) (range_with_len 0 k)) e
    ∙ map-range_same (λ block. shown block_bytes (newest block (records 0 a))) (λ block. shown block_bytes (newest block (records 0 b))) 0 (encoded_size n b) (λ block le lt. each block (omega arith))

block-at : (block_bytes n block : ℕ) (a : List (List Batch)) → block < encoded_size n a → get_or (array_of block_bytes n a) block [] ≡ shown block_bytes (newest block (records 0 a))
block-at block_bytes n block a lt = get_or-map-range_with_len (λ k. shown block_bytes (newest k (records 0 a))) 0 (encoded_size n a) block block [] lt (omega arith)

-- the same array shows the same of each block
pub block-same : (block_bytes n block : ℕ) (a b : List (List Batch)) → array_of block_bytes n a ≡ array_of block_bytes n b → block < encoded_size n b
    → shown block_bytes (newest block (records 0 a)) ≡ shown block_bytes (newest block (records 0 b))
block-same block_bytes n block a b e lt =
    sym (block-at block_bytes n block a (omega (arith, lt, same-size block_bytes n a b e))) ∙ ap (λ (xs : List (List ℕ)). get_or xs block []) e ∙ block-at block_bytes n block b lt
