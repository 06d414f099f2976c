-- Which zone is torn, and whether it can be repaired.
use Rattle.std.proofs.Common.{◌≡◌, ◌≢◌, inl, inr, ℕ, ◌+◌, ◌*◌, ◌/◌, ◌<◌, ◌≤◌, ◌^◌, Bool, true, false, cond, eqb, not, ◌&&◌, List, [], ◌∷◌, ◌++◌, map, length, get_or, Option, Some, None, is_some, refl, sym, ap, subst, ◌∙◌, arith, append-nil, append_assoc}
use Rattle.std.specs.Prelude.{IfNone, IfSome, slice_get}
use Rattle.std.specs.List.{AllByRecursion, count_by, range_with_len}
use Rattle.std.specs.Option.{option_map}
use Rattle.std.proofs.lemmas.Bool.{cases_lt, eq-eqb, ne_eqb}
use Rattle.std.proofs.lemmas.List.{get_or_past, length-map, map-append}
use Rattle.std.proofs.lemmas.List.FromFn.{length-range_with_len}
use Rattle.std.proofs.lemmas.List.Sums.{sum_by-cons}
use Rattle.std.proofs.lemmas.Nat.{div-mul-add}
use Rattle.std.proofs.lemmas.Option.{get_or_from_slice_get, slice_get-get_or, slice_get-map}
use Rattle.std.proofs.Math.ListN.{get_or-map}
use Rattle.zone_states.specs.declared.geometry.Geometry.{Geometry}
use Rattle.zone_states.specs.Geometry.{IsInRange}
use Rattle.drive_port.specs.Contents.{contents}
use Rattle.drive_port.specs.Drive.{DriveState}
use Rattle.batch_log.specs.Log.{Batch, log_size}
use Rattle.logical_map.specs.Live.{blocks_in, lies_in}
use Rattle.logical_map.specs.declared.place.Place.{Place}
use Rattle.logical_map.specs.declared.place.Place.TheVariants as places
use Rattle.drive_array.specs.ZoneLogs.{log_at, log_sequences, sequences, zone_tails}
use Rattle.drive_array.specs.Records.{Record, newest, place, records}
use Rattle.drive_array.specs.Repair.{Fits, IsTornAt, is_any, is_data, kept_in, live_records, live_data, moves}
use Rattle.drive_array.specs.Reserve.{batch_most}
use Rattle.drive_array.specs.Sizes.{encoded_size, map_of}
use Rattle.zone_choice.specs.Tables.{TablesView, size_of}
use Rattle.drive_array.proofs.NewestLaws.{newest-is}
use Rattle.drive_survey.specs.declared.heads.Head.{Head}
use Rattle.drive_survey.specs.declared.scan.ScannedZone.{ScannedZone}
use Rattle.drive_survey.specs.declared.survey.Survey.{Survey}
use Rattle.drive_survey.specs.Heads.{HeadsView, greatest_sequence, head_sequences, heads_after, heads_of, no_heads, sequences_in, with_heading}
use Rattle.drive_survey.specs.Known.{Knows}
use Rattle.remount.specs.declared.repair.Repair.{Repair}
use Rattle.remount.specs.Mount.{IsOnlyTorn, IsPastRepair, IsPlaced, IsRepairPlan, LacksSequences, NoneIsTorn}
use Rattle.drive_survey.specs.Scan.{heads_in}
use Rattle.remount.specs.Torn.{IsNextTorn, WasSurveyed, data_in, is_torn_in, is_torn_zone}
use Rattle.drive_survey.proofs.TakeLaws.{blocks-are}
use Rattle.remount.proofs.FinishLaws.{and-both}
use Rattle.remount.proofs.TornLaws.{has_data}
use Rattle.remount.proofs.LiveLaws.{known-below, Within, newest-within, lies-kept}

-- ---- torn zones

-- as many zones were scanned as there are logs
pub scanned-long : (drive : DriveState) (n : ℕ) (logs : List (List Batch)) (survey : Survey) → Knows drive n logs survey → length survey.scanned.items ≡ length logs
scanned-long drive n logs survey known = omega (arith, ap length known.heads, length-map survey.scanned.items (λ (z : ScannedZone). z.heads), length-map logs heads_of)

-- what is kept of a zone
record KeptAt (drive : DriveState) (logs : List (List Batch)) (zone : ℕ) (z : ScannedZone) : Type 0 where
  blocks : z.heads.blocks ≡ log_size (log_at logs zone)
  tail : get_or (zone_tails (contents drive.zones)) zone false ≡ z.is_torn

kept-at : (drive : DriveState) (n : ℕ) (logs : List (List Batch)) (survey : Survey) (zone : ℕ) (z : ScannedZone) → Knows drive n logs survey → slice_get survey.scanned.items zone ≡ Some z → KeptAt drive logs zone z
kept-at drive n logs survey zone z known there =
    let heads : slice_get (map heads_of logs) zone ≡ Some z.heads = ap (λ (hs : List HeadsView). slice_get hs zone) (sym known.heads) ∙ slice_get-map (λ (x : ScannedZone). x.heads) survey.scanned.items zone ∙ ap (λ (o : Option ScannedZone). option_map (λ (x : ScannedZone). x.heads) o) there in
    let tails : slice_get (zone_tails (contents drive.zones)) zone ≡ Some z.is_torn = ap (λ (ts : List Bool). slice_get ts zone) (sym known.tails) ∙ slice_get-map (λ (x : ScannedZone). x.is_torn) survey.scanned.items zone ∙ ap (λ (o : Option ScannedZone). option_map (λ (x : ScannedZone). x.is_torn) o) there in
    let same : heads_of (log_at logs zone) ≡ z.heads = sym (get_or-map heads_of logs zone []) ∙ get_or_from_slice_get (map heads_of logs) zone z.heads no_heads heads in
    record {
      blocks = ap (λ (h : HeadsView). h.blocks) (sym same) ∙ blocks-are (log_at logs zone);
      tail = get_or_from_slice_get (zone_tails (contents drive.zones)) zone z.is_torn false tails;
    }

some-size : (log : List Batch) → log ≢ [] → log_size log ≡ 0 → ⊥
some-size [] some none = some refl
some-size (b ∷ bs) some none = omega (arith, none)

-- a zone that was scanned as torn is torn
pub torn-at : (drive : DriveState) (n : ℕ) (logs : List (List Batch)) (survey : Survey) (zone : ℕ) → Knows drive n logs survey → zone < length survey.scanned.items → is_torn_in survey.scanned.items zone ≡ true → IsTornAt logs (zone_tails (contents drive.zones)) zone
torn-at drive n logs survey zone known lt torn =
    let none : ScannedZone = record { heads = no_heads; is_torn = false } in
    let z = get_or survey.scanned.items zone none in
    let there = slice_get-get_or survey.scanned.items zone none lt in
    let is : is_torn_zone z ≡ true = rw there at torn in
    let both = and-both z.is_torn (not (eqb z.heads.blocks 0)) is in
    let kept = kept-at drive n logs survey zone z known there in
    record {
      batch = λ empty. (let zero_blocks : z.heads.blocks ≡ 0 = kept.blocks ∙ ap log_size empty in let yes : eqb z.heads.blocks 0 ≡ true = eq-eqb z.heads.blocks 0 zero_blocks in let bad : false ≡ true = rw yes at both.1 in absurd (cc));
      tail = kept.tail ∙ both.0;
    }

-- a zone that was not scanned as torn is not torn
pub not-torn : (drive : DriveState) (n : ℕ) (logs : List (List Batch)) (survey : Survey) (zone : ℕ) → Knows drive n logs survey → is_torn_in survey.scanned.items zone ≡ false → IsTornAt logs (zone_tails (contents drive.zones)) zone → ⊥
not-torn drive n logs survey zone known never torn = elim (cases_lt zone (length survey.scanned.items)) as (λ _. ⊥) [ inl lt ↦ within lt | inr past ↦ torn.batch (get_or_past logs zone [] (omega (arith, past, scanned-long drive n logs survey known))) ]
  where
    within : zone < length survey.scanned.items → ⊥
    within lt =
        let none : ScannedZone = record { heads = no_heads; is_torn = false } in
        let z = get_or survey.scanned.items zone none in
        let there = slice_get-get_or survey.scanned.items zone none lt in
        let is : is_torn_zone z ≡ false = rw there at never in
        let kept = kept-at drive n logs survey zone z known there in
        let tail : z.is_torn ≡ true = sym kept.tail ∙ torn.tail in
        let some : eqb z.heads.blocks 0 ≡ false = ne_eqb z.heads.blocks 0 (λ none'. some-size (log_at logs zone) torn.batch (sym kept.blocks ∙ none')) in
        let bad : true ≡ false = rw (tail, some) at is in
        absurd (cc)

-- none is torn
pub none-torn : (drive : DriveState) (n : ℕ) (logs : List (List Batch)) (survey : Survey) → Knows drive n logs survey → ((zone : ℕ) → 0 ≤ zone → is_torn_in survey.scanned.items zone ≡ false) → NoneIsTorn logs (zone_tails (contents drive.zones))
none-torn drive n logs survey known none zone torn = not-torn drive n logs survey zone known (none zone (omega arith)) torn

-- one is torn, and there is none after it
only-torn : (drive : DriveState) (n : ℕ) (logs : List (List Batch)) (survey : Survey) (zone : ℕ) → Knows drive n logs survey → IsNextTorn survey.scanned.items 0 zone → ((other : ℕ) → zone + 1 ≤ other → is_torn_in survey.scanned.items other ≡ false) → IsOnlyTorn logs (zone_tails (contents drive.zones)) zone
only-torn drive n logs survey zone known next none = record {
  torn = torn-at drive n logs survey zone known next.in_range next.torn;
  only = λ other torn. elim (cases_lt other zone) as (λ _. other ≡ zone) [
    | inl before ↦ absurd (not-torn drive n logs survey other known (next.lowest other (omega arith) before) torn)
    | inr from ↦ (elim (cases_lt zone other) as (λ _. other ≡ zone) [
      | inl after ↦ absurd (not-torn drive n logs survey other known (none other (omega (arith, after))) torn)
      | inr same ↦ omega (arith, from, same)
    ])
  ];
}

-- if an option has a value, some number has the property that its value has
pub some-of : (P : ℕ → Type 0) (o : Option ℕ) → is_some o ≡ true → IfSome o P → (k : ℕ) × P k
some-of P None is holds = absurd (cc)
some-of P (Some k) is holds = (k, holds)

none-of : (P : Type 0) (o : Option ℕ) → is_some o ≡ false → IfNone o P → P
none-of P None is holds = holds
none-of P (Some k) is holds = absurd (cc)

-- two are torn
two-torn : (drive : DriveState) (n size : ℕ) (logs : List (List Batch)) (survey : Survey) (zone other : ℕ) → Knows drive n logs survey → IsNextTorn survey.scanned.items 0 zone → IsNextTorn survey.scanned.items (zone + 1) other → IsPastRepair drive.geometry size logs (zone_tails (contents drive.zones)) zone
two-torn drive n size logs survey zone other known next second = record {
  torn = torn-at drive n logs survey zone known next.in_range next.torn;
  lowest = λ k before. not-torn drive n logs survey k known (next.lowest k (omega arith) before);
  why = inl (other, omega (arith, second.after), torn-at drive n logs survey other known second.in_range second.torn);
}

-- ---- live records, by their places

data-kept : (size zone : ℕ) (o : Option Record) → Within size o → has_data size zone (place size o) ≡ kept_in is_data zone o
data-kept size zone None within = refl
data-kept size zone (Some r) within = by (is_some r.content)
  where
    at : (r.zone * size + r.offset) / size ≡ r.zone
    at = div-mul-add r.zone size r.offset within

    by : (b : Bool) → has_data size zone (cond b (places.At (r.zone * size + r.offset)) (places.Trimmed (r.zone * size + r.offset))) ≡ (eqb r.zone zone && b)
    by true = ap (λ (k : ℕ). eqb k zone && true) at
    by false = ap (λ (k : ℕ). eqb k zone && false) at

count-told : (p : Place → Bool) (q : ℕ → Bool) (f : ℕ → Place) (xs : List ℕ) → ((x : ℕ) → p (f x) ≡ q x) → count_by p (map f xs) ≡ count_by q xs
count-told p q f [] same = refl
count-told p q f (x ∷ xs) same =
    let one : ◌≡◌ {A = ℕ} (cond (p (f x)) 1 0) (cond (q x) 1 0) = ap (λ (b : Bool). cond {A = ℕ} b 1 0) (same x) in
    omega (arith, one, count-told p q f xs same, sum_by-cons (λ (y : Place). cond {A = ℕ} (p y) 1 0) (f x) (map f xs), sum_by-cons (λ (y : ℕ). cond {A = ℕ} (q y) 1 0) x xs)

length-blocks : (size zone first : ℕ) (all : List Place) → length (blocks_in size zone first all) ≡ count_by (lies_in size zone) all
length-blocks size zone first [] = refl
length-blocks size zone first (p ∷ ps) = by (lies_in size zone p) refl (length-blocks size zone (first + 1) ps)
  where
    by : (b : Bool) → lies_in size zone p ≡ b → length (blocks_in size zone (first + 1) ps) ≡ count_by (lies_in size zone) ps → length (cond b (first ∷ blocks_in size zone (first + 1) ps) (blocks_in size zone (first + 1) ps)) ≡ count_by (lies_in size zone) (p ∷ ps)
    by true here rest = let one : ◌≡◌ {A = ℕ} (cond (lies_in size zone p) 1 0) 1 = rw here refl in omega (arith, one, rest, sum_by-cons (λ (y : Place). cond {A = ℕ} (lies_in size zone y) 1 0) p ps)
    by false here rest = let one : ◌≡◌ {A = ℕ} (cond (lies_in size zone p) 1 0) 0 = rw here refl in omega (arith, one, rest, sum_by-cons (λ (y : Place). cond {A = ℕ} (lies_in size zone y) 1 0) p ps)

-- how many live records the zone has, and how many of them have data
pub record CountsLive (drive : DriveState) (n : ℕ) (logs : List (List Batch)) (zone : ℕ) : Type 0 where
  pub count : length (blocks_in drive.geometry.size zone 0 (map_of drive.geometry.size n logs)) ≡ live_records (encoded_size n logs) logs zone
  pub with_data : data_in drive.geometry.size zone (map_of drive.geometry.size n logs) ≡ live_data (encoded_size n logs) logs zone

-- the map of a known drive counts a zone's live records, and the ones with data
pub counts-live : (drive : DriveState) (n : ℕ) (logs : List (List Batch)) (survey : Survey) (zone : ℕ) → Knows drive n logs survey → CountsLive drive n logs zone
counts-live drive n logs survey zone known =
    let size = drive.geometry.size in
    let rs = records 0 logs in
    let all = known-below drive n logs survey known in
    let f : ℕ → Place = λ block. place size (newest block rs) in
    record {
      count = length-blocks size zone 0 (map_of size n logs) ∙ count-told (lies_in size zone) (λ block. kept_in is_any zone (newest block rs)) f (range_with_len 0 (encoded_size n logs)) (λ block. lies-kept size zone (newest block rs) (newest-within size block rs (newest block rs) all (newest-is block rs)));
      with_data = count-told (has_data size zone) (λ block. kept_in is_data zone (newest block rs)) f (range_with_len 0 (encoded_size n logs)) (λ block. data-kept size zone (newest block rs) (newest-within size block rs (newest block rs) all (newest-is block rs)));
    }

-- ---- sequences

after-sequences : (view : HeadsView) (log : List Batch) → head_sequences (heads_after view log).heads ≡ head_sequences view.heads ++ log_sequences log
after-sequences view [] = sym (append-nil (head_sequences view.heads))
after-sequences view (b ∷ bs) =
    let head : Head = record { sequence = b.heading.sequence; offset = view.blocks; end = length view.entries + length b.heading.entries } in
    after-sequences (with_heading view b.heading) bs ∙ ap (λ (ss : List ℕ). ss ++ log_sequences bs) (map-append (λ (h : Head). h.sequence) view.heads (head ∷ [])) ∙ append_assoc (head_sequences view.heads) (b.heading.sequence ∷ []) (log_sequences bs)

-- the sequences in the headers of logs are the sequences of their batches
pub sequences-kept : (logs : List (List Batch)) → sequences_in (map heads_of logs) ≡ sequences logs
sequences-kept [] = refl
sequences-kept (log ∷ logs) = rw (after-sequences no_heads log, sequences-kept logs) refl

-- if the greatest sequence is far enough below a limit, all sequences are
pub all-greatest : (limit count : ℕ) (ss : List ℕ) → greatest_sequence ss + count < limit → AllByRecursion (λ s. s + count < limit) ss
all-greatest limit count [] lt = tt
all-greatest limit count (s ∷ ss) lt = (omega (arith, lt), all-greatest limit count ss (omega (arith, lt)))

-- if all sequences are far enough below a limit, the greatest one is
pub greatest-all : (limit count : ℕ) (ss : List ℕ) → count < limit → AllByRecursion (λ s. s + count < limit) ss → greatest_sequence ss + count < limit
greatest-all limit count [] few all = omega (arith, few)
greatest-all limit count (s ∷ ss) few all = let rest = greatest-all limit count ss few all.1 in omega (arith, all.0, rest)

-- ---- the plan

-- the live blocks of a torn zone, and how many Moves they take
pub record Counted (geometry : Geometry) (n : ℕ) (tables : TablesView) (zone count : ℕ) (blocks : List ℕ) (with_data : ℕ) : Type 0 where
  pub blocks_are : blocks ≡ blocks_in tables.map.zone_size zone 0 tables.map.places
  pub data_is : with_data ≡ data_in tables.map.zone_size zone tables.map.places
  pub count_is : count ≡ moves (batch_most geometry) (length blocks)

record CountedBy (drive : DriveState) (n : ℕ) (logs : List (List Batch)) (zone count : ℕ) (blocks : List ℕ) (with_data : ℕ) : Type 0 where
  blocks_are : blocks ≡ blocks_in drive.geometry.size zone 0 (map_of drive.geometry.size n logs)
  data_is : with_data ≡ live_data (encoded_size n logs) logs zone
  count_is : count ≡ moves (batch_most drive.geometry) (live_records (encoded_size n logs) logs zone)

counted-by : (drive : DriveState) (n : ℕ) (logs : List (List Batch)) (survey : Survey) (tables : TablesView) (zone count : ℕ) (blocks : List ℕ) (with_data : ℕ) → Knows drive n logs survey → IsPlaced drive.geometry n logs tables → Counted drive.geometry n tables zone count blocks with_data
    → CountedBy drive n logs zone count blocks with_data
counted-by drive n logs survey tables zone count blocks with_data known placed counted =
    let lives = counts-live drive n logs survey zone known in
    let blocks_are : blocks ≡ blocks_in drive.geometry.size zone 0 (map_of drive.geometry.size n logs) = counted.blocks_are ∙ rw (placed.zone_size, placed.places) refl in
    record {
      blocks_are = blocks_are;
      data_is = counted.data_is ∙ rw (placed.zone_size, placed.places) lives.with_data;
      count_is = counted.count_is ∙ ap (moves (batch_most drive.geometry)) (ap length blocks_are ∙ lives.count);
    }

-- a torn zone is past repair if its live records do not fit in a zone
past-repair : (drive : DriveState) (n : ℕ) (logs : List (List Batch)) (survey : Survey) (tables : TablesView) (zone count : ℕ) (blocks : List ℕ) (with_data : ℕ) → Knows drive n logs survey → IsPlaced drive.geometry n logs tables → Counted drive.geometry n tables zone count blocks with_data
    → IsNextTorn survey.scanned.items 0 zone → drive.geometry.capacity < count + with_data → IsPastRepair drive.geometry (encoded_size n logs) logs (zone_tails (contents drive.zones)) zone
past-repair drive n logs survey tables zone count blocks with_data known placed counted next more =
    let by = counted-by drive n logs survey tables zone count blocks with_data known placed counted in
    record {
      torn = torn-at drive n logs survey zone known next.in_range next.torn;
      lowest = λ k before. not-torn drive n logs survey k known (next.lowest k (omega arith) before);
      why = inr (omega (arith, more, by.count_is, by.data_is));
    }

-- a torn zone lacks sequences if too few are left after the greatest one
lacks-sequences : (drive : DriveState) (n : ℕ) (logs : List (List Batch)) (survey : Survey) (tables : TablesView) (zone count : ℕ) (blocks : List ℕ) (with_data greatest : ℕ) → Knows drive n logs survey → IsPlaced drive.geometry n logs tables → Counted drive.geometry n tables zone count blocks with_data
    → IsNextTorn survey.scanned.items 0 zone → ((other : ℕ) → zone + 1 ≤ other → is_torn_in survey.scanned.items other ≡ false) → count + with_data ≤ drive.geometry.capacity
    → greatest ≡ greatest_sequence (sequences_in (heads_in survey.scanned.items)) → 2 ^ 63 ≤ greatest + count → LacksSequences drive.geometry (encoded_size n logs) logs (zone_tails (contents drive.zones))
lacks-sequences drive n logs survey tables zone count blocks with_data greatest known placed counted next none room greatest-is late =
    let by = counted-by drive n logs survey tables zone count blocks with_data known placed counted in
    let same : greatest ≡ greatest_sequence (sequences logs) = greatest-is ∙ ap (λ (hs : List HeadsView). greatest_sequence (sequences_in hs)) known.heads ∙ ap greatest_sequence (sequences-kept logs) in
    record {
      zone = zone;
      torn = only-torn drive n logs survey zone known next none;
      room = omega (arith, room, by.count_is, by.data_is);
      lacks = λ all. (let lt = greatest-all (2 ^ 63) (moves (batch_most drive.geometry) (live_records (encoded_size n logs) logs zone)) (sequences logs) (omega (arith, room, by.count_is, known.zones.geometry.capacity, known.zones.geometry.size)) all in omega (arith, lt, late, same, by.count_is));
    }

-- the only torn zone can be repaired, and its live blocks are known
pub record PlansFit (drive : DriveState) (n : ℕ) (logs : List (List Batch)) (zone : ℕ) (blocks : List ℕ) : Type 0 where
  pub torn : IsOnlyTorn logs (zone_tails (contents drive.zones)) zone
  pub fits : Fits drive.geometry (2 ^ 63) (encoded_size n logs) logs zone
  pub blocks_are : blocks ≡ blocks_in drive.geometry.size zone 0 (map_of drive.geometry.size n logs)

-- the only torn zone can be repaired if its records fit and the sequences last
plans-fit : (drive : DriveState) (n : ℕ) (logs : List (List Batch)) (survey : Survey) (tables : TablesView) (zone count : ℕ) (blocks : List ℕ) (with_data greatest : ℕ) → Knows drive n logs survey → IsPlaced drive.geometry n logs tables → Counted drive.geometry n tables zone count blocks with_data
    → IsNextTorn survey.scanned.items 0 zone → ((other : ℕ) → zone + 1 ≤ other → is_torn_in survey.scanned.items other ≡ false) → count + with_data ≤ drive.geometry.capacity
    → greatest ≡ greatest_sequence (sequences_in (heads_in survey.scanned.items)) → greatest + count < 2 ^ 63 → PlansFit drive n logs zone blocks
plans-fit drive n logs survey tables zone count blocks with_data greatest known placed counted next none room greatest-is early =
    let by = counted-by drive n logs survey tables zone count blocks with_data known placed counted in
    let same : greatest ≡ greatest_sequence (sequences logs) = greatest-is ∙ ap (λ (hs : List HeadsView). greatest_sequence (sequences_in hs)) known.heads ∙ ap greatest_sequence (sequences-kept logs) in
    record {
      torn = only-torn drive n logs survey zone known next none;
      fits = record {
        room = omega (arith, room, by.count_is, by.data_is);
        numbers = all-greatest (2 ^ 63) (moves (batch_most drive.geometry) (live_records (encoded_size n logs) logs zone)) (sequences logs) (omega (arith, early, same, by.count_is));
      };
      blocks_are = by.blocks_are;
    }

-- ---- what the calls need

-- the geometry is in range, and each zone was scanned
pub record CanPlan (geometry : Geometry) (survey : Survey) : Type 0 where
  pub range : IsInRange geometry
  pub long : length survey.scanned.items ≡ geometry.zones

-- if some drive was surveyed, its geometry is in range, and each zone was scanned
pub can-plan : (geometry : Geometry) (n : ℕ) (survey : Survey) → WasSurveyed geometry n survey → CanPlan geometry survey
can-plan geometry n survey was =
    let known = was.knows in
    record {
      range = subst IsInRange was.geometry_is known.zones.geometry;
      long = omega (arith, scanned-long was.drive n was.logs survey known, known.count, known.zones.lawful.count, ap (λ (g : Geometry). g.zones) was.geometry_is);
    }

-- the tables have at most 2 ^ 31 blocks, and the zones of the drive
pub record CanCount (geometry : Geometry) (tables : TablesView) : Type 0 where
  pub few : size_of tables ≤ 2 ^ 31
  pub zones : tables.map.zones ≡ geometry.zones

-- tables that place the records of a survey have few blocks, and the drive's zones
pub can-count : (geometry : Geometry) (n : ℕ) (survey : Survey) (tables : TablesView) → WasSurveyed geometry n survey → ((drive : DriveState) (logs : List (List Batch)) → drive.geometry ≡ geometry → Knows drive n logs survey → IsPlaced geometry n logs tables) → CanCount geometry tables
can-count geometry n survey tables was places =
    let placed = places was.drive was.logs was.geometry_is was.knows in
    let size = encoded_size n was.logs in
    record {
      few = omega (arith, ap length placed.places, length-map (range_with_len 0 size) (λ block. place geometry.size (newest block (records 0 was.logs))), length-range_with_len 0 size, was.knows.reserve.1);
      zones = placed.zones;
    }

-- ---- what the plan answers

-- a zone is torn, and no other
pub record IsReady (geometry : Geometry) (n : ℕ) (survey : Survey) (tables : TablesView) (zone count : ℕ) (blocks : List ℕ) (with_data : ℕ) : Type 0 where
  pub next : IsNextTorn survey.scanned.items 0 zone
  pub none : (other : ℕ) → zone + 1 ≤ other → is_torn_in survey.scanned.items other ≡ false
  pub placed : (drive : DriveState) (logs : List (List Batch)) → drive.geometry ≡ geometry → Knows drive n logs survey → IsPlaced geometry n logs tables
  pub counted : Counted geometry n tables zone count blocks with_data

-- it is so by what two searches found, and by the count of its live records
pub is-ready : (geometry : Geometry) (n : ℕ) (survey : Survey) (tables : TablesView) (zone count most long : ℕ) (blocks : List ℕ) (with_data : ℕ) (rest : List ScannedZone) (found : Option ℕ) → IsNextTorn survey.scanned.items 0 zone
    → rest ≡ survey.scanned.items → false ≡ is_some found → IfNone found ((other : ℕ) → zone + 1 ≤ other → is_torn_in rest other ≡ false) → ((drive : DriveState) (logs : List (List Batch)) → drive.geometry ≡ geometry → Knows drive n logs survey → IsPlaced geometry n logs tables)
    → blocks ≡ blocks_in tables.map.zone_size zone 0 tables.map.places → with_data ≡ data_in tables.map.zone_size zone tables.map.places → count ≡ moves most long → most ≡ batch_most geometry → long ≡ length blocks → IsReady geometry n survey tables zone count blocks with_data
is-ready geometry n survey tables zone count most long blocks with_data rest found next same not none placed blocks_are data_is count_is most_is long_is = record {
  next = next;
  none = subst (λ (zs : List ScannedZone). (other : ℕ) → zone + 1 ≤ other → is_torn_in zs other ≡ false) same (none-of ((other : ℕ) → zone + 1 ≤ other → is_torn_in rest other ≡ false) found (sym not) none);
  placed = placed;
  counted = record { blocks_are = blocks_are; data_is = data_is; count_is = count_is ∙ ap (λ (m : ℕ). moves m long) most_is ∙ ap (moves (batch_most geometry)) long_is };
}

record ReadyAt (drive : DriveState) (n : ℕ) (logs : List (List Batch)) (tables : TablesView) (zone count : ℕ) (blocks : List ℕ) (with_data : ℕ) : Type 0 where
  placed : IsPlaced drive.geometry n logs tables
  counted : Counted drive.geometry n tables zone count blocks with_data

ready-at : (geometry : Geometry) (n : ℕ) (survey : Survey) (tables : TablesView) (zone count : ℕ) (blocks : List ℕ) (with_data : ℕ) (drive : DriveState) (logs : List (List Batch)) → IsReady geometry n survey tables zone count blocks with_data → drive.geometry ≡ geometry → Knows drive n logs survey
    → ReadyAt drive n logs tables zone count blocks with_data
ready-at geometry n survey tables zone count blocks with_data drive logs ready same known = record {
  placed = subst (λ (g : Geometry). IsPlaced g n logs tables) (sym same) (ready.placed drive logs same known);
  counted = subst (λ (g : Geometry). Counted g n tables zone count blocks with_data) (sym same) ready.counted;
}

-- the lowest torn zone is past repair if another one is torn, too
pub answer-two : (geometry : Geometry) (n : ℕ) (survey : Survey) (zone other : ℕ) → IsNextTorn survey.scanned.items 0 zone → IsNextTorn survey.scanned.items (zone + 1) other
    → (drive : DriveState) (logs : List (List Batch)) → drive.geometry ≡ geometry → Knows drive n logs survey → IsPastRepair geometry (encoded_size n logs) logs (zone_tails (contents drive.zones)) zone
answer-two geometry n survey zone other next second drive logs same known =
    subst (λ (g : Geometry). IsPastRepair g (encoded_size n logs) logs (zone_tails (contents drive.zones)) zone) same (two-torn drive n (encoded_size n logs) logs survey zone other known next second)

-- the torn zone is past repair if its live records do not fit in a zone
pub answer-past : (geometry : Geometry) (n : ℕ) (survey : Survey) (tables : TablesView) (zone count : ℕ) (blocks : List ℕ) (with_data : ℕ) → IsReady geometry n survey tables zone count blocks with_data → geometry.capacity < count + with_data
    → (drive : DriveState) (logs : List (List Batch)) → drive.geometry ≡ geometry → Knows drive n logs survey → IsPastRepair geometry (encoded_size n logs) logs (zone_tails (contents drive.zones)) zone
answer-past geometry n survey tables zone count blocks with_data ready more drive logs same known =
    let at = ready-at geometry n survey tables zone count blocks with_data drive logs ready same known in
    let more' : drive.geometry.capacity < count + with_data = subst (λ (g : Geometry). g.capacity < count + with_data) (sym same) more in
    subst (λ (g : Geometry). IsPastRepair g (encoded_size n logs) logs (zone_tails (contents drive.zones)) zone) same (past-repair drive n logs survey tables zone count blocks with_data known at.placed at.counted ready.next more')

-- the torn zone lacks sequences if too few are left for its Moves
pub answer-spent : (geometry : Geometry) (n : ℕ) (survey : Survey) (tables : TablesView) (zone count : ℕ) (blocks : List ℕ) (with_data greatest : ℕ) → IsReady geometry n survey tables zone count blocks with_data → count + with_data ≤ geometry.capacity
    → greatest ≡ greatest_sequence (sequences_in (heads_in survey.scanned.items)) → 2 ^ 63 ≤ greatest + count
    → (drive : DriveState) (logs : List (List Batch)) → drive.geometry ≡ geometry → Knows drive n logs survey → LacksSequences geometry (encoded_size n logs) logs (zone_tails (contents drive.zones))
answer-spent geometry n survey tables zone count blocks with_data greatest ready room is late drive logs same known =
    let at = ready-at geometry n survey tables zone count blocks with_data drive logs ready same known in
    let room' : count + with_data ≤ drive.geometry.capacity = subst (λ (g : Geometry). count + with_data ≤ g.capacity) (sym same) room in
    subst (λ (g : Geometry). LacksSequences g (encoded_size n logs) logs (zone_tails (contents drive.zones))) same (lacks-sequences drive n logs survey tables zone count blocks with_data greatest known at.placed at.counted ready.next ready.none room' is late)

-- the repair is right for its zone if the records fit and the sequences last
pub answer-plan : (geometry : Geometry) (n : ℕ) (survey : Survey) (tables : TablesView) (zone count : ℕ) (blocks : List ℕ) (with_data greatest : ℕ) (repair : Repair) → repair.zone ≡ zone → repair.blocks.items ≡ blocks → repair.tables ≡ tables
    → IsReady geometry n survey tables zone count blocks with_data → count + with_data ≤ geometry.capacity → greatest ≡ greatest_sequence (sequences_in (heads_in survey.scanned.items)) → greatest + count < 2 ^ 63
    → (drive : DriveState) (logs : List (List Batch)) → drive.geometry ≡ geometry → Knows drive n logs survey → IsRepairPlan geometry n logs (zone_tails (contents drive.zones)) repair
answer-plan geometry n survey tables zone count blocks with_data greatest repair zone-is blocks-is tables-is ready room is early drive logs same known =
    let at = ready-at geometry n survey tables zone count blocks with_data drive logs ready same known in
    let room' : count + with_data ≤ drive.geometry.capacity = subst (λ (g : Geometry). count + with_data ≤ g.capacity) (sym same) room in
    let fits = plans-fit drive n logs survey tables zone count blocks with_data greatest known at.placed at.counted ready.next ready.none room' is early in
    let plan : IsRepairPlan drive.geometry n logs (zone_tails (contents drive.zones)) repair = record {
      torn = rw zone-is fits.torn;
      fits = rw zone-is fits.fits;
      blocks = rw (zone-is, blocks-is) fits.blocks_are;
      placed = rw tables-is at.placed;
    } in
    subst (λ (g : Geometry). IsRepairPlan g n logs (zone_tails (contents drive.zones)) repair) same plan
