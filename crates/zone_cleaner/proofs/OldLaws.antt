-- Where blocks are without the batches of one zone.
use Rattle.std.proofs.Common.{◌≡◌, ◌≢◌, ◌⊎◌, ℕ, zero, suc, ◌+◌, ◌-◌, ◌*◌, ◌<◌, ◌≤◌, ◌^◌, Bool, true, false, cond, eqb, is_some, List, [], ◌∷◌, ◌++◌, length, set, get_or, replicate, Option, Some, None, refl, sym, ap, subst, ◌∙◌, inl, inr, arith}
use Rattle.std.specs.List.{AllByRecursion}
use Rattle.std.proofs.lemmas.Bool.{cases_eq, cases_lt, eq-eqb, ne_eqb}
use Rattle.std.proofs.lemmas.Nat.{mul-le}
use Rattle.std.proofs.lemmas.List.{get_or_past, get_or-set_other, get_or-set_same, length-set, set_comm, set-set}
use Rattle.std.proofs.lemmas.List.FromFn.{get_or-map-range_with_len}
use Rattle.zone_states.specs.declared.geometry.Geometry.{Geometry}
use Rattle.drive_port.specs.Drive.{DriveState}
use Rattle.batch_log.specs.declared.header.Entry.{Entry}
use Rattle.batch_log.specs.Log.{Batch, batch_size, log_size, one_unless}
use Rattle.logical_map.specs.Live.{lies_in}
use Rattle.logical_map.specs.Places.{place_address}
use Rattle.logical_map.specs.declared.place.Place.{Place}
use Rattle.logical_map.specs.declared.place.Place.TheVariants as places
use Rattle.drive_array.specs.Laws.{IsNext}
use Rattle.drive_array.specs.Mountable.{AreSound}
use Rattle.drive_array.specs.Records.{Record, append_log, batch_records, entry_records, log_records, new_records, newest, over, place, records, without}
use Rattle.drive_array.specs.Sizes.{encoded_size, extended, map_of}
use Rattle.drive_array.specs.Spare.{IsSpare}
use Rattle.drive_array.specs.ZoneLogs.{drive_logs, log_at}
use Rattle.drive_array.proofs.AllLaws.{all-append, all-parts, all-weaker}
use Rattle.drive_array.proofs.DeadLaws.{NotIn, OnRecord, log-zone, newest-without, on-newest}
use Rattle.drive_array.proofs.SizeLaws.{append_writes, empty_spare, next_is_last, same-size, told-length, without-numbers}
use Rattle.zone_choice.specs.Agreement.{Agrees, MountedView, mounted}
use Rattle.zone_choice.specs.Tables.{TablesView, size_of}
use Rattle.zone_choice.proofs.AgreementLaws.{size-encoded}
use Rattle.zone_cleaner.specs.Clean.{is_in, place_among, places_without}
use Rattle.zone_cleaner.proofs.PlaceLaws.{drive-within, lies-record}

-- ---- sizes

-- as many blocks
pub length-without : (disk : MountedView) (zone : ℕ) → Agrees disk → IsSpare disk.drive.geometry.block disk.tables.given (drive_logs disk.drive) zone → length (places_without disk zone) ≡ size_of disk.tables
length-without disk zone agrees spare =
    told-length (place disk.drive.geometry.size) disk.tables.given (without (drive_logs disk.drive) zone)
    ∙ same-size disk.drive.geometry.block disk.tables.given (without (drive_logs disk.drive) zone) (drive_logs disk.drive) spare ∙ sym (size-encoded disk agrees)

-- ---- a block that is elsewhere

get_or-told : (size n : ℕ) (logs : List (List Batch)) (block : ℕ) → block < encoded_size n logs → get_or (map_of size n logs) block places.None ≡ place size (newest block (records 0 logs))
get_or-told size n logs block lt = get_or-map-range_with_len (λ (l : ℕ). place size (newest l (records 0 logs))) 0 (encoded_size n logs) block block places.None lt (omega arith)

-- it is there without the zone, too
pub other-without : (disk : MountedView) (zone block : ℕ) → Agrees disk → zone < length (drive_logs disk.drive) → IsSpare disk.drive.geometry.block disk.tables.given (drive_logs disk.drive) zone
    → is_in disk.tables zone block ≡ false → place_among (places_without disk zone) block ≡ place_among disk.tables.map.places block
other-without disk zone block agrees lt spare out = elim (cases_lt block (size_of disk.tables)) as (λ _. place_among (places_without disk zone) block ≡ place_among disk.tables.map.places block) [
  | inl below ↦ inside below
  | inr past ↦ get_or_past (places_without disk zone) block places.None (omega (arith, past, length-without disk zone agrees spare)) ∙ sym (get_or_past disk.tables.map.places block places.None past)
]
  where
    g : Geometry
    g = disk.drive.geometry

    logs : List (List Batch)
    logs = drive_logs disk.drive

    by : (o : Option Record) → OnRecord (λ (r : Record). r.offset < disk.drive.geometry.size) o → lies_in disk.drive.geometry.size zone (place disk.drive.geometry.size o) ≡ false → NotIn zone o
    by None within out = tt
    by (Some r) within out = λ same. (let yes = lies-record disk.drive.geometry.size zone r within ∙ eq-eqb r.zone zone same in absurd (cc))

    inside : block < size_of disk.tables → place_among (places_without disk zone) block ≡ place_among disk.tables.map.places block
    inside below =
        let here : block < encoded_size disk.tables.given (drive_logs disk.drive) = omega (arith, below, size-encoded disk agrees) in
        let there : block < encoded_size disk.tables.given (without (drive_logs disk.drive) zone) = omega (arith, here, same-size disk.drive.geometry.block disk.tables.given (without (drive_logs disk.drive) zone) (drive_logs disk.drive) spare) in
        let mapped : place_among disk.tables.map.places block ≡ place disk.drive.geometry.size (newest block (records 0 (drive_logs disk.drive))) = ap (λ (all : List Place). get_or all block places.None) agrees.places ∙ get_or-told disk.drive.geometry.size disk.tables.given (drive_logs disk.drive) block here in
        let away = by (newest block (records 0 (drive_logs disk.drive))) (on-newest (λ (r : Record). r.offset < disk.drive.geometry.size) block (records 0 (drive_logs disk.drive)) (drive-within disk.drive disk.tables agrees)) (rw (mapped, agrees.zone_size) at out) in
        get_or-told disk.drive.geometry.size disk.tables.given (without (drive_logs disk.drive) zone) block there ∙ ap (place disk.drive.geometry.size) (newest-without block zone (drive_logs disk.drive) lt away) ∙ sym mapped

-- ---- a zone without a batch

log-elsewhere : (zone other offset : ℕ) (log : List Batch) → other ≢ zone → AllByRecursion (λ (r : Record). r.zone ≢ zone) (log_records other offset log)
log-elsewhere zone other offset log apart = all-weaker (λ (r : Record). r.zone ≡ other) (λ (r : Record). r.zone ≢ zone) (log_records other offset log) (λ r at same. apart (sym at ∙ same)) (log-zone other offset log)

-- no record is in it
pub records-elsewhere : (zone first : ℕ) (logs : List (List Batch)) → (zone < first ⊎ log_at logs (zone - first) ≡ []) → AllByRecursion (λ (r : Record). r.zone ≢ zone) (records first logs)
records-elsewhere zone first [] none = tt
records-elsewhere zone first (log ∷ logs) none = elim (cases_eq first zone) as (λ _. AllByRecursion (λ (r : Record). r.zone ≢ zone) (records first (log ∷ logs))) [
  | inl same ↦ (
      let here : log ≡ [] = elim none as (λ _. log ≡ []) [ inl past ↦ absurd (omega (arith, past, same)) | inr there ↦ (let spot : zone - first ≡ 0 = omega (arith, same) in rw spot at there) ] in
      rw here (records-elsewhere zone (suc first) logs (inl (omega (arith, same)))))
  | inr other ↦
      all-append (λ (r : Record). r.zone ≢ zone) (log_records first 0 log) (records (suc first) logs) (log-elsewhere zone first 0 log other) (records-elsewhere zone (suc first) logs (rest other (cases_lt zone first) none))
]
  where
    rest : first ≢ zone → (zone < first) ⊎ (first ≤ zone) → (zone < first ⊎ log_at (log ∷ logs) (zone - first) ≡ []) → (zone < suc first ⊎ log_at logs (zone - suc first) ≡ [])
    rest other (inl past) none = inl (omega (arith, past))
    rest other (inr le) (inl past) = inl (omega (arith, past))
    rest other (inr le) (inr there) = inr (let spot : zone - first ≡ suc (zone - suc first) = omega (arith, le, other) in rw spot at there)

-- so no block is
pub away-told : (size n zone block : ℕ) (logs : List (List Batch)) → AllByRecursion (λ (r : Record). r.offset < size) (records 0 logs) → log_at logs zone ≡ [] → lies_in size zone (place_among (map_of size n logs) block) ≡ false
away-told size n zone block logs within none = elim (cases_lt block (encoded_size n logs)) as (λ _. lies_in size zone (place_among (map_of size n logs) block) ≡ false) [
  | inl below ↦ rw (get_or-told size n logs block below) (by (newest block (records 0 logs)) (on-newest (λ (r : Record). r.offset < size) block (records 0 logs) within) (on-newest (λ (r : Record). r.zone ≢ zone) block (records 0 logs) away))
  | inr past ↦ rw (get_or_past (map_of size n logs) block places.None (omega (arith, past, told-length (place size) n logs))) refl
]
  where
    away : AllByRecursion (λ (r : Record). r.zone ≢ zone) (records 0 logs)
    away = let spot : zone - 0 ≡ zone = omega arith in records-elsewhere zone 0 logs (inr (rw spot none))

    by : (o : Option Record) → OnRecord (λ (r : Record). r.offset < size) o → NotIn zone o → lies_in size zone (place size o) ≡ false
    by None within out = refl
    by (Some r) within out = lies-record size zone r within ∙ ne_eqb r.zone zone out

pub none-in_vacant : (drive : DriveState) (tables : TablesView) (zone block : ℕ) → Agrees (mounted drive tables) → log_at (drive_logs drive) zone ≡ [] → lies_in tables.map.zone_size zone (get_or tables.map.places block places.None) ≡ true → ⊥
none-in_vacant drive tables zone block agrees none there =
    let out = away-told drive.geometry.size tables.given zone block (drive_logs drive) (drive-within drive tables agrees) none in
    let here = rw (agrees.zone_size, agrees.places) at there in
    absurd (cc)

-- ---- addresses

records-below : (first : ℕ) (logs : List (List Batch)) → AllByRecursion (λ (r : Record). r.zone < first + length logs) (records first logs)
records-below first [] = tt
records-below first (log ∷ logs) =
    all-append (λ (r : Record). r.zone < first + length (log ∷ logs)) (log_records first 0 log) (records (suc first) logs)
    (all-weaker (λ (r : Record). r.zone ≡ first) (λ (r : Record). r.zone < first + length (log ∷ logs)) (log_records first 0 log) (λ r at. omega (arith, at)) (log-zone first 0 log))
    (all-weaker (λ (r : Record). r.zone < suc first + length logs) (λ (r : Record). r.zone < first + length (log ∷ logs)) (records (suc first) logs) (λ r lt. omega (arith, lt)) (records-below (suc first) logs))

-- a zone's records less
pub records-without : (P : Record → Type 0) (first zone : ℕ) (logs : List (List Batch)) → AllByRecursion P (records first logs) → AllByRecursion P (records first (without logs zone))
records-without P first zone [] all = all
records-without P first zero (log ∷ logs) all = (all-parts P (log_records first 0 log) (records (suc first) logs) all).1
records-without P first (suc zone) (log ∷ logs) all =
    let parts = all-parts P (log_records first 0 log) (records (suc first) logs) all in
    all-append P (log_records first 0 log) (records (suc first) (without logs zone)) parts.0 (records-without P (suc first) zone logs parts.1)

-- a map can hold each place
pub fits-told : (size n block : ℕ) (logs : List (List Batch)) → size ≤ 2 ^ 20 → length logs ≤ 65536 → AllByRecursion (λ (r : Record). r.offset < size) (records 0 logs) → place_address (place_among (map_of size n logs) block) + 1 < 2 ^ 63
fits-told size n block logs small few within = elim (cases_lt block (encoded_size n logs)) as (λ _. place_address (place_among (map_of size n logs) block) + 1 < 2 ^ 63) [
  | inl below ↦ rw (get_or-told size n logs block below) (by (newest block (records 0 logs)) (on-newest (λ (r : Record). r.offset < size) block (records 0 logs) within) (on-newest (λ (r : Record). r.zone < 0 + length logs) block (records 0 logs) (records-below 0 logs)))
  | inr past ↦ rw (get_or_past (map_of size n logs) block places.None (omega (arith, past, told-length (place size) n logs))) (omega arith)
]
  where
    at : (r : Record) → r.offset < size → r.zone < length logs → r.zone * size + r.offset + 1 < 2 ^ 63
    at r within lt = omega (arith, within, small, mul-le r.zone size 65536 (2 ^ 20) (omega (arith, lt, few)) small)

    kind : (b : Bool) (address : ℕ) → address + 1 < 2 ^ 63 → place_address (cond b (places.At address) (places.Trimmed address)) + 1 < 2 ^ 63
    kind true address lt = lt
    kind false address lt = lt

    by : (o : Option Record) → OnRecord (λ (r : Record). r.offset < size) o → OnRecord (λ (r : Record). r.zone < 0 + length logs) o → place_address (place size o) + 1 < 2 ^ 63
    by None within lt = omega arith
    by (Some r) within lt = kind (is_some r.content) (r.zone * size + r.offset) (at r within (omega (arith, lt)))

-- ---- a batch more

-- a block that these records do not name
unnamed-over : (size sequence zone header k j : ℕ) (body : List (List ℕ)) (es : List Entry) (all : List Place) → AllByRecursion (λ (e : Entry). e.block ≢ j) es → get_or (over (place size) (entry_records sequence body zone header k es) all) j places.None ≡ get_or all j places.None
unnamed-over size sequence zone header k j body [] all out = refl
unnamed-over size sequence zone header k j body (e ∷ es) all out =
    get_or-set_other (over (place size) (entry_records sequence body zone header (k + one_unless e.trim) es) all) e.block j _ places.None (λ same. out.0 (sym same)) ∙ unnamed-over size sequence zone header (k + one_unless e.trim) j body es all out.1

get_or-more : (n j : ℕ) (all : List Place) → get_or (all ++ replicate n places.None) j places.None ≡ get_or all j places.None
get_or-more n j [] = none n j
  where
    none : (n j : ℕ) → get_or (replicate n places.None) j places.None ≡ places.None
    none zero j = refl
    none (suc n) zero = refl
    none (suc n) (suc j) = none n j
get_or-more n zero (p ∷ all) = refl
get_or-more n (suc j) (p ∷ all) = get_or-more n j all

-- new blocks are nowhere
pub get_or-extended : (size j : ℕ) (all : List Place) → get_or (extended places.None size all) j places.None ≡ get_or all j places.None
get_or-extended size j all = get_or-more (size - length all) j all

without-next : (limit n size zone : ℕ) (logs : List (List Batch)) (b : Batch) → encoded_size n (without logs zone) ≡ encoded_size n logs → IsNext limit n logs size b → IsNext limit n (without logs zone) size b
without-next limit n size zone logs b same next = record {
  has = next.has;
  grows = omega (arith, same, next.grows);
  inside = next.inside;
  number = next.number;
  greatest = without-numbers (λ s. s < b.heading.sequence) logs zone next.greatest;
}

-- a batch in another zone leaves the place of a block that it does not name
pub unnamed-without : (block_bytes zone_size limit n zone spare size j : ℕ) (logs : List (List Batch)) (b : Batch) → zone < length logs → zone ≢ spare → AreSound limit n logs → IsNext limit n logs size b → IsSpare block_bytes n logs spare
    → AllByRecursion (λ (e : Entry). e.block ≢ j) b.heading.entries
    → place_among (map_of zone_size n (without (append_log logs zone b) spare)) j ≡ place_among (map_of zone_size n (without logs spare)) j
unnamed-without block_bytes zone_size limit n zone spare size j logs b lt apart sound next is out =
    let less = without logs spare in
    let emptied = empty_spare block_bytes limit n spare logs sound is in
    let log = get_or logs zone [] in
    let here : get_or less zone [] ≡ log = get_or-set_other logs spare zone [] [] apart in
    let range : zone < length less = omega (arith, lt, length-set logs spare []) in
    let swapped : without (append_log logs zone b) spare ≡ append_log less zone b = set_comm logs zone spare (log ++ b ∷ []) [] apart ∙ ap (λ (l : List Batch). set less zone (l ++ b ∷ [])) (sym here) in
    let writes = append_writes block_bytes zone_size limit n zone size less b range emptied.sound (next_is_last limit n zone size less b range (without-next limit n size spare logs b emptied.size_is next)) in
    let map_is = writes.map_is in
    ap (λ (ls : List (List Batch)). get_or (map_of zone_size n ls) j places.None) swapped ∙ ap (λ (all : List Place). get_or all j places.None) map_is
    ∙ unnamed-over zone_size b.heading.sequence zone (log_size (get_or less zone [])) 0 j b.body b.heading.entries (extended places.None size (map_of zone_size n less)) out
    ∙ get_or-extended size j (map_of zone_size n less)

-- and one in the zone itself leaves all
pub own-without : (zone_size n zone : ℕ) (logs : List (List Batch)) (b : Batch) → map_of zone_size n (without (append_log logs zone b) zone) ≡ map_of zone_size n (without logs zone)
own-without zone_size n zone logs b = ap (map_of zone_size n) (set-set logs zone (log_at logs zone ++ b ∷ []) [])
