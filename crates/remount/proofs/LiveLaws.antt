-- Where the newest records of blocks are, and what is said there.
use Rattle.std.proofs.Common.{◌≡◌, inl, inr, ℕ, suc, ◌+◌, ◌-◌, ◌*◌, ◌/◌, ◌<◌, ◌≤◌, Bool, true, false, cond, eqb, ◌&&◌, List, [], ◌∷◌, map, length, get_or, Option, Some, None, is_some, refl, sym, ap, subst, ◌∙◌, arith}
use Rattle.std.specs.List.{AllByRecursion, count_by, flat_map, range_with_len}
use Rattle.std.proofs.lemmas.Bool.{cases_lt, eq-eqb, eqb-true, and_parts}
use Rattle.std.proofs.lemmas.List.{get_or_default, get_or_past, length-append, length-map}
use Rattle.std.proofs.lemmas.List.FromFn.{get_or-map-range_with_len, length-range_with_len}
use Rattle.std.proofs.lemmas.List.Sums.{sum_by-cons}
use Rattle.std.proofs.lemmas.Nat.{div-mul-add}
use Rattle.std.proofs.lemmas.Option.{slice_get-get_or}
use Rattle.std.proofs.Math.ListN.{get_or-map}
use Rattle.drive_port.specs.Contents.{content_at, content_of, contents, nothing}
use Rattle.drive_port.specs.Drive.{DriveState}
use Rattle.nvme_wire.specs.declared.zone_state.ZoneState.TheVariants as states
use Rattle.batch_log.specs.Log.{Batch, batch_blocks, log_size, zero_block}
use Rattle.batch_log.proofs.LogLaws.{encoded_length}
use Rattle.logical_map.specs.Live.{blocks_in, lies_in}
use Rattle.logical_map.specs.declared.place.Place.{Place}
use Rattle.logical_map.specs.declared.place.Place.TheVariants as places
use Rattle.drive_array.specs.ZoneLogs.{HasLog, drive_logs, log_at, readable, zone_log}
use Rattle.drive_array.specs.Records.{IsNewest, Record, newest, place, records}
use Rattle.drive_array.specs.Repair.{is_any, is_data, kept_in, live_records, live_data}
use Rattle.drive_array.specs.Repairing.{LiesIn}
use Rattle.drive_array.specs.Sizes.{encoded_size, map_of}
use Rattle.drive_array.proofs.AllLaws.{all-at, all-weaker}
use Rattle.drive_array.proofs.NewestLaws.{all-among, newest-is}
use Rattle.drive_array.proofs.OffsetLaws.{records-below}
use Rattle.zone_choice.proofs.ReadLaws.{StandsOn, records_stand}
use Rattle.drive_survey.specs.declared.reported.ReportedZone.{ReportedZone}
use Rattle.drive_survey.specs.declared.survey.Survey.{Survey}
use Rattle.drive_survey.specs.Known.{Knows}
use Rattle.remount.specs.Moving.{IsBlockAt, said_at}
use Rattle.drive_survey.specs.Scan.{readable_at}
use Rattle.drive_survey.proofs.ReadLaws.{known-few}
use Rattle.remount.proofs.OrderedLaws.{total}

-- ---- records are within their zone

abbrev none_reported : ReportedZone
none_reported = record { state = states.Empty; blocks = 0 }

-- a log takes no more than its zone's capacity
drive-few : (drive : DriveState) (n : ℕ) (logs : List (List Batch)) (survey : Survey) (zone : ℕ) → Knows drive n logs survey → zone < length drive.zones → log_size (log_at (drive_logs drive) zone) ≤ drive.geometry.capacity
unfolding zone_log
drive-few drive n logs survey zone known lt =
    let g = drive.geometry in
    let content = content_at (contents drive.zones) zone in
    let has = all-at (HasLog g) (contents drive.zones) zone nothing known.all_logs (omega (arith, lt, length-map drive.zones content_of)) in
    let r = get_or survey.zones.items zone none_reported in
    let one = known.zones.each zone r (slice_get-get_or survey.zones.items zone none_reported (omega (arith, lt, known.zones.count))) in
    let few = known-few drive zone r one in
    let same : log_at (drive_logs drive) zone ≡ zone_log g content = get_or-map (zone_log g) (contents drive.zones) zone nothing in
    let total : length (readable g content) ≡ log_size (zone_log g content) + length has.tail = ap length has.front.encoded ∙ omega (arith, length-append (flat_map (batch_blocks g.block) (zone_log g content)) has.tail, encoded_length g.block (zone_log g content) has.front.batches) in
    omega (arith, total, few, one.blocks, ap log_size same)

-- the records that are known are within their zones
pub known-below : (drive : DriveState) (n : ℕ) (logs : List (List Batch)) (survey : Survey) → Knows drive n logs survey → AllByRecursion (λ (r : Record). r.offset < drive.geometry.size) (records 0 logs)
known-below drive n logs survey known =
    all-weaker (λ (r : Record). r.offset < drive.geometry.capacity) (λ (r : Record). r.offset < drive.geometry.size) (records 0 logs) (λ r lt. omega (arith, lt, known.zones.geometry.capacity)) (records-below drive.geometry.capacity 0 logs few)
  where
    few : (zone : ℕ) → log_size (log_at logs zone) ≤ drive.geometry.capacity
    few zone = elim (cases_lt zone (length drive.zones)) as (λ _. log_size (log_at logs zone) ≤ drive.geometry.capacity) [
      | inl lt ↦ (elim (known.part zone) as (λ _. log_size (log_at logs zone) ≤ drive.geometry.capacity) [
        | inl same ↦ omega (arith, ap log_size same, drive-few drive n logs survey zone known lt)
        | inr gone ↦ omega (arith, ap log_size gone)
      ])
      | inr past ↦ omega (arith, ap log_size (get_or_past logs zone [] (omega (arith, past, known.count))))
    ]

-- ---- live records, by their places

-- a record, if any, is within its zone
abbrev pub Within : ℕ → Option Record → Type 0
Within size None = Unit {0}
Within size (Some r) = r.offset < size

-- so does the newest one
pub newest-within : (size block : ℕ) (rs : List Record) (o : Option Record) → AllByRecursion (λ (r : Record). r.offset < size) rs → IsNewest rs block o → Within size o
newest-within size block rs None all is = tt
newest-within size block rs (Some r) all is = all-among (λ (x : Record). x.offset < size) rs r all is.1.among

-- by its place it is in the zone where it is kept
pub lies-kept : (size zone : ℕ) (o : Option Record) → Within size o → lies_in size zone (place size o) ≡ kept_in is_any zone o
lies-kept size zone None within = refl
lies-kept size zone (Some r) within = by (is_some r.content)
  where
    at : (r.zone * size + r.offset) / size ≡ r.zone
    at = div-mul-add r.zone size r.offset within

    and-true : (b : Bool) → b ≡ (b && true)
    and-true true = refl
    and-true false = refl

    by : (b : Bool) → lies_in size zone (cond b (places.At (r.zone * size + r.offset)) (places.Trimmed (r.zone * size + r.offset))) ≡ (eqb r.zone zone && true)
    by true = ap (λ (k : ℕ). eqb k zone) at ∙ and-true (eqb r.zone zone)
    by false = ap (λ (k : ℕ). eqb k zone) at ∙ and-true (eqb r.zone zone)

-- whether a record there has data
abbrev pub data_blocks : Place → ℕ
data_blocks places.None = 0
data_blocks (places.Trimmed address) = 0
data_blocks (places.At address) = 1

data-kept : (size zone : ℕ) (o : Option Record) → Within size o → cond (lies_in size zone (place size o)) (data_blocks (place size o)) 0 ≡ cond {A = ℕ} (kept_in is_data zone o) 1 0
data-kept size zone None within = refl
data-kept size zone (Some r) within = by (is_some r.content)
  where
    at : (r.zone * size + r.offset) / size ≡ r.zone
    at = div-mul-add r.zone size r.offset within

    zero-either : (b : Bool) → cond {A = ℕ} b 0 0 ≡ cond {A = ℕ} (b && false) 1 0
    zero-either true = refl
    zero-either false = refl

    one-if : (b : Bool) → cond {A = ℕ} b 1 0 ≡ cond {A = ℕ} (b && true) 1 0
    one-if true = refl
    one-if false = refl

    by : (b : Bool) → cond {A = ℕ} (lies_in size zone (cond b (places.At (r.zone * size + r.offset)) (places.Trimmed (r.zone * size + r.offset)))) (data_blocks (cond b (places.At (r.zone * size + r.offset)) (places.Trimmed (r.zone * size + r.offset)))) 0 ≡ cond {A = ℕ} (eqb r.zone zone && b) 1 0
    by true = ap (λ (k : ℕ). cond {A = ℕ} (eqb k zone) 1 0) at ∙ one-if (eqb r.zone zone)
    by false = ap (λ (k : ℕ). cond {A = ℕ} (eqb k zone) 0 0) at ∙ zero-either (eqb r.zone zone)

-- ---- how many there are

-- what is added up over the places that are in a zone
abbrev total_in : (Place → ℕ) → ℕ → ℕ → List Place → ℕ
total_in f size zone [] = 0
total_in f size zone (p ∷ ps) = cond (lies_in size zone p) (f p) 0 + total_in f size zone ps

blocks-total : (f : Place → ℕ) (size zone first : ℕ) (all ps : List Place) → ((k : ℕ) → get_or all (first + k) places.None ≡ get_or ps k places.None) → total (λ b. f (get_or all b places.None)) (blocks_in size zone first ps) ≡ total_in f size zone ps
blocks-total f size zone first all [] same = refl
blocks-total f size zone first all (p ∷ ps) same = by (lies_in size zone p) (blocks-total f size zone (first + 1) all ps (λ k. ap (λ (i : ℕ). get_or all i places.None) (omega arith) ∙ same (suc k)))
  where
    here : f (get_or all first places.None) ≡ f p
    here = ap f (ap (λ (i : ℕ). get_or all i places.None) (omega arith) ∙ same 0)

    by : (b : Bool) → total (λ b. f (get_or all b places.None)) (blocks_in size zone (first + 1) ps) ≡ total_in f size zone ps
        → total (λ b. f (get_or all b places.None)) (cond b (first ∷ blocks_in size zone (first + 1) ps) (blocks_in size zone (first + 1) ps)) ≡ cond b (f p) 0 + total_in f size zone ps
    by true rest = omega (arith, rest, here)
    by false rest = omega (arith, rest)

total-told : (f : Place → ℕ) (size zone : ℕ) (g : ℕ → Place) (q : ℕ → Bool) (xs : List ℕ) → ((x : ℕ) → cond (lies_in size zone (g x)) (f (g x)) 0 ≡ cond {A = ℕ} (q x) 1 0) → total_in f size zone (map g xs) ≡ count_by q xs
total-told f size zone g q [] same = refl
total-told f size zone g q (x ∷ xs) same = omega (arith, same x, total-told f size zone g q xs same, sum_by-cons (λ (y : ℕ). cond {A = ℕ} (q y) 1 0) x xs)

-- how many live records a zone has, and how many with data, counted by places
pub record CountsLive (drive : DriveState) (n : ℕ) (logs : List (List Batch)) (zone : ℕ) : Type 0 where
  pub count : total (λ b. 1) (blocks_in drive.geometry.size zone 0 (map_of drive.geometry.size n logs)) ≡ live_records (encoded_size n logs) logs zone
  pub with_data : total (λ b. data_blocks (get_or (map_of drive.geometry.size n logs) b places.None)) (blocks_in drive.geometry.size zone 0 (map_of drive.geometry.size n logs)) ≡ live_data (encoded_size n logs) logs zone

-- the map of a known drive counts a zone's live records, and the ones with data
pub counts-live : (drive : DriveState) (n : ℕ) (logs : List (List Batch)) (survey : Survey) (zone : ℕ) → Knows drive n logs survey → CountsLive drive n logs zone
counts-live drive n logs survey zone known =
    let size = drive.geometry.size in
    let rs = records 0 logs in
    let map_is = map_of size n logs in
    let all = known-below drive n logs survey known in
    let f : ℕ → Place = λ block. place size (newest block rs) in
    let start : (k : ℕ) → get_or map_is (0 + k) places.None ≡ get_or map_is k places.None = λ k. ap (λ (i : ℕ). get_or map_is i places.None) (omega arith) in
    record {
      count = blocks-total (λ p. 1) size zone 0 map_is map_is start
          ∙ total-told (λ p. 1) size zone f (λ block. kept_in is_any zone (newest block rs)) (range_with_len 0 (encoded_size n logs)) (λ block. ap (λ (b : Bool). cond {A = ℕ} b 1 0) (lies-kept size zone (newest block rs) (newest-within size block rs (newest block rs) all (newest-is block rs))));
      with_data = blocks-total data_blocks size zone 0 map_is map_is start
          ∙ total-told data_blocks size zone f (λ block. kept_in is_data zone (newest block rs)) (range_with_len 0 (encoded_size n logs)) (λ block. data-kept size zone (newest block rs) (newest-within size block rs (newest block rs) all (newest-is block rs)));
    }

-- ---- a block's place

-- in the map a block below the size has the place of its newest record
pub place-at : (size n block : ℕ) (logs : List (List Batch)) → block < encoded_size n logs → get_or (map_of size n logs) block places.None ≡ place size (newest block (records 0 logs))
place-at size n block logs lt = get_or-map-range_with_len (λ (l : ℕ). place size (newest l (records 0 logs))) 0 (encoded_size n logs) block block places.None lt (omega arith)

-- the map has a place for each block below the size
pub map-length : (size n : ℕ) (logs : List (List Batch)) → length (map_of size n logs) ≡ encoded_size n logs
map-length size n logs = omega (arith, length-map (range_with_len 0 (encoded_size n logs)) (λ block. place size (newest block (records 0 logs))), length-range_with_len 0 (encoded_size n logs))

kept-lies : (zone : ℕ) (o : Option Record) → kept_in is_any zone o ≡ true → LiesIn zone o
kept-lies zone None e = absurd (cc)
kept-lies zone (Some r) e = eqb-true r.zone zone (and_parts (eqb r.zone zone) true e).0

lies-any : (zone : ℕ) (o : Option Record) → LiesIn zone o → kept_in is_any zone o ≡ true
lies-any zone None is = absurd is
lies-any zone (Some r) is = rw (eq-eqb r.zone zone is) refl

-- a block lies in a zone where its newest record does
pub lies-there : (drive : DriveState) (n : ℕ) (logs : List (List Batch)) (survey : Survey) (zone block : ℕ) → Knows drive n logs survey → LiesIn zone (newest block (records 0 logs)) → lies_in drive.geometry.size zone (place drive.geometry.size (newest block (records 0 logs))) ≡ true
lies-there drive n logs survey zone block known is =
    let rs = records 0 logs in
    let size = drive.geometry.size in
    lies-kept size zone (newest block rs) (newest-within size block rs (newest block rs) (known-below drive n logs survey known) (newest-is block rs)) ∙ lies-any zone (newest block rs) is

-- the newest record of a block is in the zone where its place is
pub there-lies : (drive : DriveState) (n : ℕ) (logs : List (List Batch)) (survey : Survey) (zone block : ℕ) → Knows drive n logs survey → lies_in drive.geometry.size zone (place drive.geometry.size (newest block (records 0 logs))) ≡ true → LiesIn zone (newest block (records 0 logs))
there-lies drive n logs survey zone block known is =
    let rs = records 0 logs in
    let size = drive.geometry.size in
    kept-lies zone (newest block rs) (sym (lies-kept size zone (newest block rs) (newest-within size block rs (newest block rs) (known-below drive n logs survey known) (newest-is block rs))) ∙ is)

-- ---- what is said of it there

-- the data of a record is at its place
pub record IsSaid (drive : DriveState) (zone : ℕ) (r : Record) : Type 0 where
  pub content : r.content ≡ said_at (readable_at drive zone) (zone * drive.geometry.size) (place drive.geometry.size (Some r))
  pub block : IsBlockAt (zone * drive.geometry.size) (length (readable_at drive zone)) (place drive.geometry.size (Some r))

is-said : (drive : DriveState) (zone : ℕ) (r : Record) → r.zone ≡ zone → StandsOn drive.geometry (contents drive.zones) 0 r → IsSaid drive zone r
is-said drive zone r is stands = at r.content refl
  where
    at : (o : Option (List ℕ)) → r.content ≡ o → IsSaid drive zone r
    at None e = record { content = rw e refl; block = rw e tt }
    at (Some bytes) e =
        let g = drive.geometry in
        let blocks = readable_at drive zone in
        let same : r.zone - 0 ≡ zone = omega (arith, is) in
        let there = rw same at (stands.stands bytes e) in
        let less : zone * g.size + r.offset - zone * g.size ≡ r.offset = omega arith in
        let shown : get_or blocks r.offset [] ≡ bytes = get_or_default blocks r.offset [] (zero_block g.block) there.0 ∙ there.1 in
        record {
          content = rw (e, is, less) (ap Some (sym shown));
          block = rw (e, is) (omega arith, omega (arith, there.0));
        }

-- the newest record of a block says what is read at its place
pub newest-said : (drive : DriveState) (n : ℕ) (survey : Survey) (zone block : ℕ) (r : Record) → Knows drive n (drive_logs drive) survey → newest block (records 0 (drive_logs drive)) ≡ Some r → r.zone ≡ zone → IsSaid drive zone r
newest-said drive n survey zone block r known e is =
    let rs = records 0 (drive_logs drive) in
    let newest_is : IsNewest rs block (Some r) = subst (IsNewest rs block) e (newest-is block rs) in
    is-said drive zone r is (all-among (StandsOn drive.geometry (contents drive.zones) 0) rs r (records_stand drive.geometry (contents drive.zones) 0 known.all_logs) newest_is.1.among)
