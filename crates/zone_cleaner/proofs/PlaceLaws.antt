-- In which zone a block is, by its place and by its newest record.
use Rattle.std.proofs.Common.{◌≡◌, ℕ, suc, ◌+◌, ◌*◌, ◌/◌, ◌<◌, ◌≤◌, Bool, true, false, cond, eqb, List, [], ◌∷◌, length, get_or, Option, Some, None, is_some, refl, ap, ◌∙◌, arith}
use Rattle.std.specs.List.{AllByRecursion, count_by, flat_map}
use Rattle.std.proofs.lemmas.Bool.{eq-eqb}
use Rattle.std.proofs.lemmas.List.{length-append, length-map}
use Rattle.std.proofs.lemmas.List.FromFn.{get_or-map-range_with_len}
use Rattle.std.proofs.lemmas.List.Sums.{get_or-le-sum_by}
use Rattle.std.proofs.lemmas.Nat.{div-mul-add}
use Rattle.zone_states.specs.declared.geometry.Geometry.{Geometry}
use Rattle.drive_port.specs.Drive.{DriveState}
use Rattle.drive_port.specs.Contents.{Content, content_of, contents, nothing}
use Rattle.batch_log.specs.Log.{batch_blocks, log_size}
use Rattle.batch_log.proofs.LogLaws.{encoded_length}
use Rattle.logical_map.specs.Live.{lies_in, live}
use Rattle.logical_map.specs.declared.place.Place.TheVariants as places
use Rattle.zone_choice.specs.Agreement.{Agrees, mounted}
use Rattle.drive_array.specs.ZoneLogs.{HasLog, drive_logs, readable, zone_log, zone_logs}
use Rattle.drive_array.specs.Records.{Record, log_records, newest, place, records}
use Rattle.drive_array.specs.Sizes.{encoded_size}
use Rattle.zone_choice.specs.Tables.{TablesView}
use Rattle.zone_choice.proofs.AgreementLaws.{size-encoded}
use Rattle.drive_array.proofs.AllLaws.{all-append, all-from, all-weaker}
use Rattle.zone_choice.proofs.CommandLaws.{zone-few}
use Rattle.zone_choice.proofs.ReadLaws.{length-readable}
use Rattle.drive_array.proofs.DeadLaws.{NotIn, OnRecord, on-newest}
use Rattle.drive_array.proofs.OffsetLaws.{log-below}

-- ---- records are within their zone

-- a zone's batches take no more than its capacity
log-few : (geometry : Geometry) (content : Content) → HasLog geometry content → length content.blocks ≤ geometry.capacity → log_size (zone_log geometry content) ≤ geometry.capacity
log-few geometry content has le =
    let log = zone_log geometry content in
    let total : length (readable geometry content) ≡ log_size log + length has.tail = ap length has.front.encoded ∙ omega (arith, length-append (flat_map (batch_blocks geometry.block) log) has.tail, encoded_length geometry.block log has.front.batches) in
    omega (arith, total, length-readable geometry content le)

records-within : (geometry : Geometry) (first : ℕ) (zones : List Content) → AllByRecursion (HasLog geometry) zones → AllByRecursion (λ (c : Content). length c.blocks ≤ geometry.capacity) zones
    → AllByRecursion (λ (r : Record). r.offset < geometry.capacity) (records first (zone_logs geometry zones))
records-within geometry first [] has few = tt
records-within geometry first (c ∷ cs) has few =
    all-append (λ (r : Record). r.offset < geometry.capacity) (log_records first 0 (zone_log geometry c)) (records (suc first) (zone_logs geometry cs))
    (log-below geometry.capacity first 0 (zone_log geometry c) (omega (arith, log-few geometry c has.0 few.0))) (records-within geometry (suc first) cs has.1 few.1)

pub drive-within : (drive : DriveState) (tables : TablesView) → Agrees (mounted drive tables) → AllByRecursion (λ (r : Record). r.offset < drive.geometry.size) (records 0 (drive_logs drive))
drive-within drive tables agrees =
    let g = drive.geometry in
    let few = all-from (λ (c : Content). length c.blocks ≤ g.capacity) (contents drive.zones) nothing (λ i lt. zone-few drive i agrees.lawful (omega (arith, lt, length-map drive.zones content_of))) in
    all-weaker (λ (r : Record). r.offset < g.capacity) (λ (r : Record). r.offset < g.size) (records 0 (drive_logs drive)) (λ r lt. omega (arith, lt, agrees.geometry.capacity)) (records-within g 0 (contents drive.zones) agrees.logs few)

-- ---- the zone of a place

pub lies-record : (size zone : ℕ) (r : Record) → r.offset < size → lies_in size zone (place size (Some r)) ≡ eqb r.zone zone
lies-record size zone r lt = by (is_some r.content)
  where
    at : (r.zone * size + r.offset) / size ≡ r.zone
    at = div-mul-add r.zone size r.offset lt

    by : (b : Bool) → lies_in size zone (cond b (places.At (r.zone * size + r.offset)) (places.Trimmed (r.zone * size + r.offset))) ≡ eqb r.zone zone
    by true = ap (λ (k : ℕ). eqb k zone) at
    by false = ap (λ (k : ℕ). eqb k zone) at

count-none : {X : Type 0} (p : X → Bool) (xs : List X) (i : ℕ) (d : X) → count_by p xs ≡ 0 → i < length xs → p (get_or xs i d) ≡ false
count-none {X} p xs i d none lt = by (p (get_or xs i d)) refl
  where
    by : (b : Bool) → p (get_or xs i d) ≡ b → b ≡ false
    by false e = refl
    by true e =
        let one : cond {A = ℕ} (p (get_or xs i d)) 1 0 ≡ 1 = rw e refl in
        absurd (omega (arith, one, none, get_or-le-sum_by (λ (x : X). cond {A = ℕ} (p x) 1 0) xs i d lt))

-- where no block lies in a zone, no newest record does
pub dead-zone : (drive : DriveState) (tables : TablesView) (zone : ℕ) → Agrees (mounted drive tables) → live tables.map zone ≡ 0 → (block : ℕ) → block < encoded_size tables.given (drive_logs drive) → NotIn zone (newest block (records 0 (drive_logs drive)))
dead-zone drive tables zone agrees none block below =
    let g = drive.geometry in
    let rs = records 0 (drive_logs drive) in
    let size = encoded_size tables.given (drive_logs drive) in
    let mapped : get_or tables.map.places block places.None ≡ place g.size (newest block rs) = rw agrees.places (get_or-map-range_with_len (λ (l : ℕ). place g.size (newest l rs)) 0 size block block places.None below (omega arith)) in
    let out : lies_in tables.map.zone_size zone (get_or tables.map.places block places.None) ≡ false = count-none (lies_in tables.map.zone_size zone) tables.map.places block places.None none (omega (arith, below, size-encoded (mounted drive tables) agrees)) in
    by (newest block rs) (on-newest (λ (r : Record). r.offset < g.size) block rs (drive-within drive tables agrees)) (rw (mapped, agrees.zone_size) at out)
  where
    by : (o : Option Record) → OnRecord (λ (r : Record). r.offset < drive.geometry.size) o → lies_in drive.geometry.size zone (place drive.geometry.size o) ≡ false → NotIn zone o
    by None within out = tt
    by (Some r) within out = λ same. (let yes = lies-record drive.geometry.size zone r within ∙ eq-eqb r.zone zone same in absurd (cc))
