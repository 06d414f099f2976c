-- What headers and places say of a drive.
use Rattle.std.proofs.Common.{◌≡◌, ℕ, zero, suc, ◌+◌, ◌*◌, Bool, true, false, cond, List, [], ◌∷◌, ◌++◌, map, length, Option, Some, None, is_some, refl, sym, ap, subst, ◌∙◌, arith}
use Rattle.std.specs.Prelude.{is_none, slice_get}
use Rattle.std.specs.List.{count_by, range_with_len}
use Rattle.std.specs.Option.{option_map}
use Rattle.std.proofs.lemmas.List.{length-append, length-map}
use Rattle.std.proofs.lemmas.Option.{get_or_from_slice_get, slice_get-map, slice_get_within}
use Rattle.std.proofs.Math.ListN.{get_or-map}
use Rattle.drive_port.specs.Drive.{DriveState}
use Rattle.drive_port.proofs.ClosingLaws.{length-closing}
use Rattle.batch_log.specs.Log.{Batch}
use Rattle.logical_map.specs.Places.{MapView}
use Rattle.logical_map.specs.declared.place.Place.{Place}
use Rattle.logical_map.specs.declared.place.Place.TheVariants as places
use Rattle.drive_array.specs.Records.{Record, newest, place, records}
use Rattle.drive_array.specs.Reserve.{most_size}
use Rattle.drive_array.specs.Sizes.{encoded_size, map_of}
use Rattle.drive_array.specs.ZoneLogs.{drive_logs, log_at, log_sequences}
use Rattle.drive_array.proofs.AllLaws.{count-cons}
use Rattle.zone_choice.specs.Tables.{TablesView}
use Rattle.drive_survey.specs.declared.heads.Head.{Head}
use Rattle.drive_survey.specs.declared.scan.ScannedZone.{ScannedZone}
use Rattle.drive_survey.specs.declared.survey.Survey.{Survey}
use Rattle.drive_survey.specs.Heads.{HeadsView, greatest_sequence, head_sequences, heads_of, no_heads, sequences_in}
use Rattle.drive_survey.specs.Known.{Knows}
use Rattle.drive_survey.specs.Reported.{KeepsZones}
use Rattle.drive_survey.specs.Scan.{heads_in}
use Rattle.drive_survey.specs.Survey.{greatest_in}
use Rattle.drive_survey.proofs.ReadLaws.{kept-contents}
use Rattle.drive_survey.proofs.SurveyLaws.{greatest-heads}
use Rattle.remount.specs.Mount.{IsPlaced}
use Rattle.remount.specs.Torn.{is_data_place, is_torn_in}
use Rattle.remount.proofs.TornPlanLaws.{counts-live, not-torn, scanned-long, sequences-kept, torn-at}
use Rattle.drive_inspection.specs.declared.info.Holdings.{Holdings}
use Rattle.drive_inspection.specs.declared.info.LiveCount.{LiveCount}
use Rattle.drive_inspection.specs.declared.info.ZoneInfo.{ZoneInfo}
use Rattle.drive_inspection.specs.Found.{TellZones, TellsZone, is_trim_place}
use Rattle.drive_inspection.specs.Info.{CountsLogs, AreHoldings, HoldsZone, shows_data, shows_trim}

-- ---- all live records

count-told : (p : Place → Bool) (q : ℕ → Bool) (f : ℕ → Place) (xs : List ℕ) → ((x : ℕ) → p (f x) ≡ q x) → count_by p (map f xs) ≡ count_by q xs
count-told p q f [] same = refl
count-told p q f (x ∷ xs) same =
    let one : ◌≡◌ {A = ℕ} (cond (p (f x)) 1 0) (cond (q x) 1 0) = ap (λ (b : Bool). cond {A = ℕ} b 1 0) (same x) in
    omega (arith, one, count-told p q f xs same, count-cons p (f x) (map f xs), count-cons q x xs)

data-shown : (size : ℕ) (o : Option Record) → is_data_place (place size o) ≡ shows_data o
data-shown size None = refl
data-shown size (Some r) = by (is_some r.content)
  where
    by : (b : Bool) → is_data_place (cond b (places.At (r.zone * size + r.offset)) (places.Trimmed (r.zone * size + r.offset))) ≡ b
    by true = refl
    by false = refl

trim-shown : (size : ℕ) (o : Option Record) → is_trim_place (place size o) ≡ shows_trim o
trim-shown size None = refl
trim-shown size (Some r) = by r.content
  where
    by : (c : Option (List ℕ)) → is_trim_place (cond (is_some c) (places.At (r.zone * size + r.offset)) (places.Trimmed (r.zone * size + r.offset))) ≡ is_none c
    by None = refl
    by (Some bytes) = refl

counts-logs : (drive : DriveState) (n : ℕ) (logs : List (List Batch)) (all : List Place) (live : LiveCount) → all ≡ map_of drive.geometry.size n logs → live.written ≡ count_by is_data_place all → live.trimmed ≡ count_by is_trim_place all
    → CountsLogs (encoded_size n logs) logs live
counts-logs drive n logs all live are written trimmed =
    let size = drive.geometry.size in
    let f : ℕ → Place = λ block. place size (newest block (records 0 logs)) in
    let xs = range_with_len 0 (encoded_size n logs) in
    record {
      written = written ∙ ap (count_by is_data_place) are ∙ count-told is_data_place (λ block. shows_data (newest block (records 0 logs))) f xs (λ block. data-shown size (newest block (records 0 logs)));
      trimmed = trimmed ∙ ap (count_by is_trim_place) are ∙ count-told is_trim_place (λ block. shows_trim (newest block (records 0 logs))) f xs (λ block. trim-shown size (newest block (records 0 logs)));
    }

-- ---- a zone

heads-long : (log : List Batch) → length (heads_of log).heads ≡ length log
heads-long log =
    let same : head_sequences (heads_of log).heads ++ [] ≡ log_sequences log ++ [] = sequences-kept (log ∷ []) in
    omega (arith, ap length same, length-append (head_sequences (heads_of log).heads) [], length-append (log_sequences log) [], length-map (heads_of log).heads (λ (head : Head). head.sequence), length-map log (λ (batch : Batch). batch.heading.sequence))

heads-here : (logs : List (List Batch)) (scanned : List ScannedZone) (zone : ℕ) (z : ScannedZone) → heads_in scanned ≡ map heads_of logs → slice_get scanned zone ≡ Some z → heads_of (log_at logs zone) ≡ z.heads
heads-here logs scanned zone z are there =
    let heads : slice_get (map heads_of logs) zone ≡ Some z.heads = ap (λ (hs : List HeadsView). slice_get hs zone) (sym are) ∙ slice_get-map (λ (x : ScannedZone). x.heads) scanned zone ∙ ap (λ (o : Option ScannedZone). option_map (λ (x : ScannedZone). x.heads) o) there in
    sym (get_or-map heads_of logs zone []) ∙ get_or_from_slice_get (map heads_of logs) zone z.heads no_heads heads

holds-zone : (drive : DriveState) (n : ℕ) (survey : Survey) (tables : TablesView) (zone : ℕ) (info : ZoneInfo) → Knows drive n (drive_logs drive) survey → IsPlaced drive.geometry n (drive_logs drive) tables
    → TellsZone survey.scanned.items tables.map zone info → HoldsZone drive n zone info
holds-zone drive n survey tables zone info known placed tells =
    let counts = counts-live drive n (drive_logs drive) survey zone known in
    let same = heads-here (drive_logs drive) survey.scanned.items zone tells.kept known.heads tells.there in
    let torn_is : is_torn_in survey.scanned.items zone ≡ info.is_torn = rw tells.there (sym tells.torn) in
    record {
      batches = tells.batches ∙ ap (λ (h : HeadsView). length h.heads) (sym same) ∙ heads-long (log_at (drive_logs drive) zone);
      live = record {
        written = tells.written ∙ rw (placed.zone_size, placed.places) counts.with_data;
        all = tells.all ∙ rw (placed.zone_size, placed.places) counts.count;
      };
      torn = λ yes. torn-at drive n (drive_logs drive) survey zone known (slice_get_within survey.scanned.items zone tells.kept tells.there) (torn_is ∙ yes);
      whole = λ no. not-torn drive n (drive_logs drive) survey zone known (torn_is ∙ no);
    }

-- ---- zone after zone

-- each info in a list tells of the zone with its number
abbrev pub EachTold : List ScannedZone → MapView → List ZoneInfo → Type 0
EachTold scanned map infos = (zone : ℕ) (info : ZoneInfo) → slice_get infos zone ≡ Some info → TellsZone scanned map zone info

each-append : {X : Type 0} (P : ℕ → X → Type 0) (xs : List X) (x : X) → ((z : ℕ) (y : X) → slice_get xs z ≡ Some y → P z y) → P (length xs) x
    → (z : ℕ) (y : X) → slice_get (xs ++ x ∷ []) z ≡ Some y → P z y
each-append P [] x all here zero y there = let same : x ≡ y = cc in subst (P 0) same here
each-append P [] x all here (suc z) y there = absurd (cc)
each-append P (w ∷ ws) x all here zero y there = all zero y there
each-append P (w ∷ ws) x all here (suc z) y there = each-append (λ k. P (suc k)) ws x (λ k v h. all (suc k) v h) here z y there

-- the zones below a number are told, with one info for each
pub record ToldTo (scanned : List ScannedZone) (map : MapView) (infos : List ZoneInfo) (zone : ℕ) : Type 0 where
  pub count : length infos ≡ zone
  pub each : EachTold scanned map infos

-- once one zone more is told, all zones below the next number are told
pub told-next : (scanned : List ScannedZone) (map : MapView) (infos more : List ZoneInfo) (zone : ℕ) (info : ZoneInfo) → length infos ≡ zone → EachTold scanned map infos → TellsZone scanned map zone info → more ≡ infos ++ info ∷ []
    → ToldTo scanned map more (zone + 1)
told-next scanned map infos more zone info count each one is = rw is (record {
  count = omega (arith, length-append infos (info ∷ []), count);
  each = each-append (TellsZone scanned map) infos info each (subst (λ (k : ℕ). TellsZone scanned map k info) (sym count) one);
})

-- ---- the drive

-- what is counted from a survey and its tables is what the drive holds
pub holds-drive : (drive : DriveState) (n : ℕ) (survey : Survey) (tables : TablesView) (holdings : Holdings) → Knows drive n (drive_logs drive) survey → IsPlaced drive.geometry n (drive_logs drive) tables
    → holdings.most ≡ most_size drive.geometry → holdings.said ≡ greatest_in (heads_in survey.scanned.items) → holdings.size ≡ survey.size
    → holdings.greatest ≡ greatest_sequence (sequences_in (heads_in survey.scanned.items))
    → holdings.live.written ≡ count_by is_data_place tables.map.places → holdings.live.trimmed ≡ count_by is_trim_place tables.map.places
    → TellZones survey.scanned.items tables.map holdings.zones.items → AreHoldings drive n holdings
holds-drive drive n survey tables holdings known placed most said size sequence written trimmed tell = record {
  most = most;
  said = said ∙ ap greatest_in known.heads ∙ greatest-heads (drive_logs drive);
  size = size ∙ known.size_is;
  sequence = sequence ∙ ap (λ (hs : List HeadsView). greatest_sequence (sequences_in hs)) known.heads ∙ ap greatest_sequence (sequences-kept (drive_logs drive));
  live = counts-logs drive n (drive_logs drive) tables.map.places holdings.live placed.places written trimmed;
  count = omega (arith, tell.count, scanned-long drive n (drive_logs drive) survey known, known.count);
  zones = λ zone info there. holds-zone drive n survey tables zone info known placed (tell.each zone info there);
}

-- what is told of a drive holds of it before controllers closed zones
pub holds-before : (old new : DriveState) (n : ℕ) (holdings : Holdings) → KeepsZones old new → AreHoldings new n holdings → AreHoldings old n holdings
holds-before old new n holdings k is = record {
  most = rw k.geometry at is.most;
  said = rw (k.geometry, kept-contents old new k) at is.said;
  size = rw (k.geometry, kept-contents old new k) at is.size;
  sequence = rw (k.geometry, kept-contents old new k) at is.sequence;
  live = rw (k.geometry, kept-contents old new k) at is.live;
  count = is.count ∙ length-closing old.zones new.zones k.closing;
  zones = λ zone info there. zone-before zone info (is.zones zone info there);
}
  where
    zone-before : (zone : ℕ) (info : ZoneInfo) → HoldsZone new n zone info → HoldsZone old n zone info
    zone-before zone info h = record {
      batches = rw (k.geometry, kept-contents old new k) at h.batches;
      live = rw (k.geometry, kept-contents old new k) at h.live;
      torn = rw (k.geometry, kept-contents old new k) at h.torn;
      whole = rw (k.geometry, kept-contents old new k) at h.whole;
    }
