-- What records say of a block, heard one after the other.
use Rattle.std.proofs.Common.{◌≡◌, ℕ, suc, ◌+◌, ◌<◌, Bool, true, false, ◌&&◌, cond, ltb, eqb, List, [], ◌∷◌, ◌++◌, length, drop, Option, Some, None, Vec, refl, sym, ap, ◌∙◌, arith}
use Rattle.std.specs.Option.{option_map}
use Rattle.std.proofs.lemmas.List.{drop_more, length-set, map-id, map_push}
use Rattle.std.specs.List.{range_with_len, sum_by}
use Rattle.std.proofs.lemmas.List.FromFn.{map-range_with_len_more, sum_by-map-range_with_len_more}
use Rattle.std.specs.declared.alloc.Global.{Global}
use Rattle.batch_log.specs.declared.header.Entry.{Entry}
use Rattle.yardsticks.specs.declared.batches.Batch as yardstick
use Rattle.batch_log.specs.Log.{Batch, batch_size, one_unless}
use Rattle.yardsticks.specs.Batches.{batch_of, held_blocks}
use Rattle.drive_array.specs.Records.{Record, batch_records, entry_records, log_records, newer, newest, record_of, records, shown, told}
use Rattle.drive_array.specs.Repair.{is_any, is_data, kept_in, live_by}
use Rattle.yardsticks.specs.Zones.{Saying, logs_but, heard, is_data_in, is_said_in, later, held_log, saying, said_block}
use Rattle.drive_array.specs.ZoneLogs.{log_at}
use Rattle.drive_array.proofs.NewestLaws.{newer-assoc, newer-none}

heard-append : (block : ℕ) (found : Option Saying) (xs ys : List Record) → heard block found (xs ++ ys) ≡ heard block (heard block found xs) ys
heard-append block found [] ys = refl
heard-append block found (x ∷ xs) ys = heard-append block (cond (eqb x.block block) (later found (saying x)) found) xs ys

-- ---- where in its zone a batch stands does not matter

-- what is heard of a block does not depend on where the headers are
pub heard-entries : (block : ℕ) (found : Option Saying) (sequence : ℕ) (body : List (List ℕ)) (zone header k : ℕ) (es : List Entry)
    → heard block found (entry_records sequence body zone 0 k es) ≡ heard block found (entry_records sequence body zone header k es)
heard-entries block found sequence body zone header k [] = refl
heard-entries block found sequence body zone header k (e ∷ es) =
    heard-entries block (cond (eqb e.block block) (later found (saying (record_of sequence body zone header k e))) found) sequence body zone header (k + one_unless e.trim) es

heard-log : (block : ℕ) (found : Option Saying) (zone first offset : ℕ) (log : List Batch) → heard block found (log_records zone first log) ≡ heard block found (log_records zone offset log)
heard-log block found zone first offset [] = refl
heard-log block found zone first offset (b ∷ bs) =
    let s = b.heading.sequence in
    let es = b.heading.entries in
    let here : heard block found (batch_records zone first b) ≡ heard block found (batch_records zone offset b) =
    sym (heard-entries block found s b.body zone first 0 es) ∙ heard-entries block found s b.body zone offset 0 es in
    heard-append block found (batch_records zone first b) (log_records zone (first + batch_size b) bs)
    ∙ ap (λ (f : Option Saying). heard block f (log_records zone (first + batch_size b) bs)) here
    ∙ heard-log block (heard block found (batch_records zone offset b)) zone (first + batch_size b) (offset + batch_size b) bs
    ∙ sym (heard-append block found (batch_records zone offset b) (log_records zone (offset + batch_size b) bs))

-- ---- the latest is what the newest record says

later-newer : (b : Bool) (found : Option Record) (r : Record) → cond b (later (option_map saying found) (saying r)) (option_map saying found) ≡ option_map saying (newer found (cond b (Some r) None))
later-newer false found r = sym (ap (option_map saying) (newer-none found))
later-newer true None r = refl
later-newer true (Some x) r = elim (ltb x.sequence r.sequence) as (λ b. cond b (Some (saying r)) (Some (saying x)) ≡ option_map saying (cond b (Some r) (Some x))) [ true ↦ refl | false ↦ refl ]

heard-newer : (block : ℕ) (found : Option Record) (rs : List Record) → heard block (option_map saying found) rs ≡ option_map saying (newer found (newest block rs))
heard-newer block found [] = sym (ap (option_map saying) (newer-none found))
heard-newer block found (r ∷ rs) =
    let one : Option Record = cond (eqb r.block block) (Some r) None in
    ap (λ (f : Option Saying). heard block f rs) (later-newer (eqb r.block block) found r)
    ∙ heard-newer block (newer found one) rs
    ∙ ap (option_map saying) (sym (newer-assoc found one (newest block rs)))

-- what is heard of it in the end is what its newest record says
pub heard-newest : (block : ℕ) (rs : List Record) → heard block None rs ≡ option_map saying (newest block rs)
heard-newest block rs = heard-newer block None rs

-- and that is the block of the array
pub shown_by-shown : (block_bytes : ℕ) (r : Option Record) → said_block block_bytes (option_map saying r) ≡ shown block_bytes r
shown_by-shown block_bytes None = refl
shown_by-shown block_bytes (Some r) = refl

-- so it says whether this is in a zone, and is data
pub said_in-kept : (zone : ℕ) (r : Option Record) → is_said_in zone (option_map saying r) ≡ kept_in is_any zone r
said_in-kept zone None = refl
said_in-kept zone (Some r) = by (eqb r.zone zone)
  where
    by : (b : Bool) → b ≡ (b && true)
    by true = refl
    by false = refl

-- whether it has data in a zone
pub data_in-kept : (zone : ℕ) (r : Option Record) → is_data_in zone (option_map saying r) ≡ kept_in is_data zone r
data_in-kept zone None = refl
data_in-kept zone (Some r) = refl

-- ---- one step of a loop

-- one entry more is heard
pub entry-step : (block sequence zone k next index : ℕ) (body : List (List ℕ)) (es : List Entry) (found now whole : Option Saying) (e : Entry) → drop index es ≡ e ∷ drop (index + 1) es
    → heard block found (entry_records sequence body zone 0 k (drop index es)) ≡ whole
    → now ≡ heard block found (record_of sequence body zone 0 k e ∷ []) → next ≡ k + one_unless e.trim
    → heard block now (entry_records sequence body zone 0 next (drop (index + 1) es)) ≡ whole
entry-step block sequence zone k next index body es found now whole e split so_far here count = rw (here, count) (rw split at so_far)

-- one batch more
pub log-step : (block zone index : ℕ) (log : List yardstick.Batch) (found now whole : Option Saying) (b : yardstick.Batch) → drop index log ≡ b ∷ drop (index + 1) log
    → heard block found (log_records zone 0 (held_log (drop index log))) ≡ whole
    → ((header : ℕ) → now ≡ heard block found (batch_records zone header (batch_of b)))
    → heard block now (log_records zone 0 (held_log (drop (index + 1) log))) ≡ whole
log-step block zone index log found now whole b split so_far here =
    let rest = held_log (drop (index + 1) log) in
    let behind : ℕ = 0 + batch_size (batch_of b) in
    rw (here 0) (heard-log block (heard block found (batch_records zone 0 (batch_of b))) zone 0 behind rest ∙ sym (heard-append block found (batch_records zone 0 (batch_of b)) (log_records zone behind rest)) ∙ (rw split at so_far))

-- one zone more
pub zone-step : (block zone : ℕ) (logs : List (List Batch)) (log : List Batch) (found now whole : Option Saying) → zone < length logs → log ≡ log_at logs zone
    → heard block found (records zone (drop zone logs)) ≡ whole
    → now ≡ heard block found (log_records zone 0 log)
    → heard block now (records (zone + 1) (drop (zone + 1) logs)) ≡ whole
zone-step block zone logs log found now whole lt is so_far here =
    let rest = drop (zone + 1) logs in
    let split : drop zone logs ≡ log ∷ rest = drop_more logs zone [] lt ∙ ap (λ (l : List Batch). l ∷ rest) (sym is) in
    let next : heard block (heard block found (log_records zone 0 log)) (records (suc zone) rest) ≡ whole = sym (heard-append block found (log_records zone 0 log) (records (suc zone) rest)) ∙ (rw split at so_far) in
    let count : zone + 1 ≡ suc zone = omega arith in
    rw here (ap (λ (n : ℕ). heard block (heard block found (log_records zone 0 log)) (records n rest)) count ∙ next)

-- there are as many logs, if one is left out
pub length-logs_but : (left_out : Option ℕ) (logs : List (List Batch)) → length (logs_but left_out logs) ≡ length logs
length-logs_but None logs = refl
length-logs_but (Some zone) logs = length-set logs zone []

-- one block more of the array
pub array-step : (block_bytes block : ℕ) (rs : List Record) (blocks now : List (Vec ℕ Global)) (bytes : Vec ℕ Global) → held_blocks blocks ≡ told (shown block_bytes) block rs
    → now ≡ blocks ++ bytes ∷ [] → bytes.items ≡ shown block_bytes (newest block rs) → held_blocks now ≡ told (shown block_bytes) (block + 1) rs
array-step block_bytes block rs blocks now bytes so_far more is =
    ap held_blocks more ∙ map_push (λ (b : Vec ℕ Global). b.items) blocks bytes
    ∙ rw (so_far, is) (sym (map-range_with_len_more (λ (block : ℕ). shown block_bytes (newest block rs)) 0 block block (omega arith)))

-- ---- live records

live-more : (keep : Record → Bool) (block : ℕ) (logs : List (List Batch)) (zone : ℕ)
    → live_by keep (block + 1) logs zone ≡ live_by keep block logs zone + cond (kept_in keep zone (newest block (records 0 logs))) 1 0
live-more keep block logs zone =
    let one : ℕ → ℕ = λ x. cond (kept_in keep zone (newest x (records 0 logs))) 1 0 in
    sym (ap (sum_by one) (map-id (range_with_len 0 (block + 1)))) ∙ sum_by-map-range_with_len_more one (λ x. x) 0 block block (omega arith) ∙ ap (λ (xs : List ℕ). sum_by one xs + one block) (map-id (range_with_len 0 block))

-- a block more, whose newest record is not counted, or is
pub live-same : (keep : Record → Bool) (block : ℕ) (logs : List (List Batch)) (zone count : ℕ) → count ≡ live_by keep block logs zone → kept_in keep zone (newest block (records 0 logs)) ≡ false
    → count ≡ live_by keep (block + 1) logs zone
live-same keep block logs zone count so_far here = let more = live-more keep block logs zone in let none = ap {B = ℕ} (λ (b : Bool). cond b 1 0) here in omega (arith, so_far, more, none)

-- one live record more
pub live-one : (keep : Record → Bool) (block : ℕ) (logs : List (List Batch)) (zone count : ℕ) → count ≡ live_by keep block logs zone → kept_in keep zone (newest block (records 0 logs)) ≡ true
    → count + 1 ≡ live_by keep (block + 1) logs zone
live-one keep block logs zone count so_far here = let more = live-more keep block logs zone in let one = ap {B = ℕ} (λ (b : Bool). cond b 1 0) here in omega (arith, so_far, more, one)
