-- What a report and the headers tell of a drive.
use Rattle.std.proofs.Common.{◌≡◌, ◌⊎◌, inl, inr, ℕ, zero, suc, ◌<◌, ◌≤◌, ◌^◌, if◌then◌else◌, cond, Bool, true, false, List, [], ◌∷◌, length, map, take, get_or, Option, Some, None, refl, sym, ap, subst, ◌∙◌, arith, append-nil}
use Rattle.std.specs.Prelude.{count_by, nat_le, slice_get}
use Rattle.std.specs.List.{AllByRecursion, list_any}
use Rattle.std.specs.Ordering.{nat_cmp}
use Rattle.std.specs.BTreeSet.{insert_key}
use Rattle.std.specs.BTreeMap.{is_at}
use Rattle.std.proofs.lemmas.List.{length-map}
use Rattle.std.proofs.lemmas.List.Sums.{sum_by-cons}
use Rattle.nvme_wire.specs.declared.zone_state.ZoneState.{ZoneState}
use Rattle.nvme_wire.specs.declared.zone_state.ZoneState.TheVariants as states
use Rattle.zone_states.specs.declared.geometry.Geometry.{Geometry}
use Rattle.zone_states.specs.Geometry.{IsInRange}
use Rattle.zone_states.specs.Transition.{is_open}
use Rattle.zone_states.specs.Zone.{Zone}
use Rattle.batch_log.specs.declared.fault.LogFault.{LogFault}
use Rattle.batch_log.specs.Ending.{Ending, ended, torn, failed, ending_of}
use Rattle.batch_log.specs.Log.{Batch, BeginsWithNoBatch, log_size}
use Rattle.drive_port.specs.Contents.{Content, content_at, content_of, contents, is_active_usage, is_full, is_usable, usage_of}
use Rattle.drive_port.specs.Drive.{DriveState, IsLawful}
use Rattle.drive_port.specs.Step.{zone_at}
use Rattle.drive_port.proofs.ClosingLaws.{contents-closing, length-closing}
use Rattle.zone_choice.proofs.OpenLaws.{closing-opens}
use Rattle.drive_array.specs.Mountable.{AreSound, IsInside, is_partly_written}
use Rattle.drive_array.specs.Reserve.{FitsReserve}
use Rattle.drive_array.specs.Sizes.{encoded_size, greatest, size_or}
use Rattle.drive_array.specs.ZoneLogs.{readable, zone_logs}
use Rattle.drive_survey.specs.declared.fault.MountFault.{MountFault}
use Rattle.drive_survey.specs.declared.fault.MountFault.TheVariants as faults
use Rattle.drive_survey.specs.declared.reported.ReportedZone.{ReportedZone}
use Rattle.drive_survey.specs.declared.scan.ScannedZone.{ScannedZone}
use Rattle.drive_survey.specs.Heads.{HeadsView, heads_of}
use Rattle.drive_survey.specs.Reported.{AreReported, IsKnown, IsReported, KeepsZones, ReportsZones}
use Rattle.drive_survey.specs.Scan.{AreKnown, FailsBy, FailsFirst, ScansAll, ending_fault, heading_fault, heads_in, log_fault, fault_or, seen_after}
use Rattle.drive_survey.specs.Survey.{AreBelow, AreReportedUsable, AreUsable, CanScan, HoldLogs, IsLowestReported, IsLowestUnusable, SurveyFails, TellsShut, drive_size, greatest_in, is_partly_reported}
use Rattle.drive_survey.proofs.ReadLaws.{kept-contents, kept-known}
use Rattle.drive_survey.proofs.AllScanLaws.{there-is}
use Rattle.drive_survey.proofs.HeadLaws.{highest-inside, inside-highest, size-is}
use Rattle.drive_survey.proofs.NextLaws.{fails-more}
use Rattle.drive_survey.proofs.SoundLaws.{sound-sequences}

-- ---- zones and what is reported of them

same-count : (geometry : Geometry) (zones : List Zone) (reported : List ReportedZone) → AreReported geometry zones reported → length reported ≡ length zones
same-count geometry [] [] are = refl
same-count geometry [] (r ∷ rs) are = absurd are
same-count geometry (z ∷ zs) [] are = absurd are
same-count geometry (z ∷ zs) (r ∷ rs) are = ap suc (same-count geometry zs rs are.1)

-- a zone that is reported
record Found (geometry : Geometry) (zones : List Zone) (i : ℕ) (r : ReportedZone) : Type 0 where
  in_range : i < length zones
  zone : Zone
  content : content_at (contents zones) i ≡ content_of zone
  here : zone_at zones i ≡ zone
  is : IsReported geometry zone r

found-at : (geometry : Geometry) (zones : List Zone) (reported : List ReportedZone) (i : ℕ) (r : ReportedZone) → AreReported geometry zones reported → slice_get reported i ≡ Some r → Found geometry zones i r
found-at geometry [] [] i r are there = absurd (cc)
found-at geometry [] (x ∷ xs) i r are there = absurd are
found-at geometry (z ∷ zs) [] i r are there = absurd are
found-at geometry (z ∷ zs) (x ∷ xs) zero r are there = let same : x ≡ r = cc in record { in_range = omega arith; zone = z; content = refl; here = refl; is = rw (← same) are.0 }
found-at geometry (z ∷ zs) (x ∷ xs) (suc i) r are there =
    let rest = found-at geometry zs xs i r are.1 there in
    record { in_range = omega (arith, rest.in_range); zone = rest.zone; content = rest.content; here = rest.here; is = rest.is }

found-usage : (geometry : Geometry) (zones : List Zone) (i : ℕ) (r : ReportedZone) → (f : Found geometry zones i r) → (content_at (contents zones) i).usage ≡ usage_of r.state
found-usage geometry zones i r f = ap (λ (c : Content). c.usage) f.content ∙ ap usage_of (sym f.is.state)

-- if all reported zones are usable, each of them is known after the report
pub known-all : (old new : DriveState) (reported : List ReportedZone) → IsInRange old.geometry → KeepsZones old new → ReportsZones old reported new → AreReportedUsable reported → AreKnown new reported
known-all old new reported range kept reports usable = record {
  geometry = rw kept.geometry range;
  lawful = kept.lawful;
  count = same-count old.geometry reports.zones reported reports.are ∙ sym (length-closing reports.zones new.zones reports.after);
  each = each;
}
  where
    usable-at : (zs : List ReportedZone) (i : ℕ) (r : ReportedZone) → AllByRecursion (λ (z : ReportedZone). is_usable (usage_of z.state) ≡ true) zs → slice_get zs i ≡ Some r → is_usable (usage_of r.state) ≡ true
    usable-at [] i r all there = absurd (cc)
    usable-at (z ∷ zs) zero r all there = let same : z ≡ r = cc in rw (← same) all.0
    usable-at (z ∷ zs) (suc i) r all there = usable-at zs i r all.1 there

    each : (zone : ℕ) (r : ReportedZone) → slice_get reported zone ≡ Some r → IsKnown new zone r
    each zone r there =
        let f = found-at old.geometry reports.zones reported zone r reports.are there in
        let same = contents-closing reports.zones new.zones reports.after in
        let can = usable-at reported zone r usable there in
        record {
          geometry = rw kept.geometry range;
          lawful = kept.lawful;
          in_range = omega (arith, f.in_range, length-closing reports.zones new.zones reports.after);
          usage = rw same (found-usage old.geometry reports.zones zone r f);
          usable = can;
          blocks = f.is.blocks (rw f.is.state at can) ∙ sym (rw (same, kept.geometry, f.content) refl);
          shut = λ told. closing-opens reports.zones new.zones reports.after zone (ap (λ (z : Zone). is_open z.state) f.here ∙ ap is_open (sym f.is.state) ∙ told);
        }

-- a zone that was not open before the report is not reported open
pub tells-shut : (old new : DriveState) (reported : List ReportedZone) → ReportsZones old reported new → TellsShut old reported
tells-shut old new reported reports zone r there shut =
    let f = found-at old.geometry reports.zones reported zone r reports.are there in
    let now = closing-opens old.zones reports.zones reports.before zone shut in
    ap is_open f.is.state ∙ sym (ap (λ (z : Zone). is_open z.state) f.here) ∙ now

-- ---- usable zones

-- zones that are reported usable were usable before the report
pub usable-old : (old new : DriveState) (reported : List ReportedZone) → ReportsZones old reported new → AreReportedUsable reported → AreUsable (contents old.zones)
usable-old old new reported reports usable = rw (← contents-closing old.zones reports.zones reports.before) (at reports.zones reported reports.are usable)
  where
    at : (zones : List Zone) (rs : List ReportedZone) → AreReported old.geometry zones rs → AreReportedUsable rs → AreUsable (contents zones)
    at [] [] are all = tt
    at [] (r ∷ rs) are all = absurd are
    at (z ∷ zs) [] are all = absurd are
    at (z ∷ zs) (r ∷ rs) are all = (rw are.0.state at all.0, at zs rs are.1 all.1)

-- the lowest zone reported Read Only or Offline was the lowest one before the report
pub unusable-old : (old new : DriveState) (reported : List ReportedZone) (zone : ℕ) → ReportsZones old reported new → IsLowestReported reported zone → IsLowestUnusable (contents old.zones) zone
unusable-old old new reported zone reports lowest =
    let same = contents-closing old.zones reports.zones reports.before in
    let count = same-count old.geometry reports.zones reported reports.are in
    let none : ReportedZone = record { state = states.Offline; blocks = 0 } in
    let there = there-is reported zone none lowest.in_range in
    let f = found-at old.geometry reports.zones reported zone (get_or reported zone none) reports.are there in
    record {
      in_range = omega (arith, lowest.in_range, count, length-closing old.zones reports.zones reports.before, length-map old.zones content_of);
      unusable = rw (← same, found-usage old.geometry reports.zones zone (get_or reported zone none) f) (lowest.each (get_or reported zone none) there);
      lowest = λ other lt.
          let at = there-is reported other none (omega (arith, lt, lowest.in_range)) in
          let g = found-at old.geometry reports.zones reported other (get_or reported other none) reports.are at in
          rw (← same, found-usage old.geometry reports.zones other (get_or reported other none) g) (lowest.lowest other (get_or reported other none) lt at);
    }

-- ---- partly written zones

partly-same : (geometry : Geometry) (zone : Zone) (r : ReportedZone) → IsReported geometry zone r → is_usable (usage_of r.state) ≡ true → is_partly_reported r ≡ is_partly_written (content_of zone)
partly-same geometry zone r is usable = at zone.state refl (is.blocks (rw is.state at usable))
  where
    open-same : is_active_usage (usage_of zone.state) ≡ true → r.blocks ≡ length zone.blocks → is_partly_reported r ≡ is_partly_written (content_of zone)
    open-same active blocks = rw (is.state, blocks) refl

    shut-same : is_active_usage (usage_of zone.state) ≡ false → is_partly_reported r ≡ is_partly_written (content_of zone)
    shut-same shut = rw (is.state, shut) refl

    at : (s : ZoneState) → zone.state ≡ s → r.blocks ≡ length (readable geometry (content_of zone)) → is_partly_reported r ≡ is_partly_written (content_of zone)
    at states.Empty s blocks = shut-same (rw s refl)
    at states.ImplicitlyOpened s blocks = open-same (rw s refl) ((rw s at blocks) ∙ ap length (append-nil zone.blocks))
    at states.ExplicitlyOpened s blocks = open-same (rw s refl) ((rw s at blocks) ∙ ap length (append-nil zone.blocks))
    at states.Closed s blocks = open-same (rw s refl) ((rw s at blocks) ∙ ap length (append-nil zone.blocks))
    at states.ReadOnly s blocks = shut-same (rw s refl)
    at states.Full s blocks = shut-same (rw s refl)
    at states.Offline s blocks = shut-same (rw s refl)

count-both : {X Y : Type 0} (p : X → Bool) (q : Y → Bool) (x : X) (y : Y) (xs : List X) (ys : List Y) → p x ≡ q y → count_by p xs ≡ count_by q ys → count_by p (x ∷ xs) ≡ count_by q (y ∷ ys)
count-both p q x y xs ys one rest = let here : cond {A = ℕ} (p x) 1 0 ≡ cond (q y) 1 0 = rw one refl in omega (arith, here, rest, sum_by-cons (λ z. cond {A = ℕ} (p z) 1 0) x xs, sum_by-cons (λ z. cond {A = ℕ} (q z) 1 0) y ys)

-- a report of usable zones tells how many of them are partly written
pub partly-old : (old new : DriveState) (reported : List ReportedZone) → ReportsZones old reported new → AreReportedUsable reported → count_by is_partly_reported reported ≡ count_by is_partly_written (contents old.zones)
partly-old old new reported reports usable = at reports.zones reported reports.are usable ∙ ap (λ (cs : List Content). count_by is_partly_written cs) (contents-closing old.zones reports.zones reports.before)
  where
    at : (zones : List Zone) (rs : List ReportedZone) → AreReported old.geometry zones rs → AreReportedUsable rs → count_by is_partly_reported rs ≡ count_by is_partly_written (contents zones)
    at [] [] are all = refl
    at [] (r ∷ rs) are all = absurd are
    at (z ∷ zs) [] are all = absurd are
    at (z ∷ zs) (r ∷ rs) are all = count-both is_partly_reported is_partly_written r (content_of z) rs (contents zs) (partly-same old.geometry z r are.0 all.0) (at zs rs are.1 all.1)

-- ---- the headers

-- the greatest size in the headers is the greatest in the logs
pub greatest-heads : (logs : List (List Batch)) → greatest_in (map heads_of logs) ≡ greatest logs
greatest-heads [] = refl
greatest-heads (log ∷ logs) = rw (size-is log, greatest-heads logs) refl

-- the size found in the headers of a scan is the one that the logs encode
pub size-found : (geometry : Geometry) (zones : List Content) (scanned : List ScannedZone) (n size : ℕ) → ScansAll geometry zones scanned → size ≡ size_or n (greatest_in (heads_in scanned)) → size ≡ encoded_size n (zone_logs geometry zones)
size-found geometry zones scanned n size scans is = is ∙ ap (size_or n) (ap greatest_in scans.heads ∙ greatest-heads (zone_logs geometry zones))

below-heads : (size : ℕ) (scanned : List ScannedZone) → AreBelow size scanned → AllByRecursion (λ (h : HeadsView). h.highest < size) (heads_in scanned)
below-heads size [] all = tt
below-heads size (z ∷ zs) all = (all.0, below-heads size zs all.1)

heads-below : (size : ℕ) (scanned : List ScannedZone) → AllByRecursion (λ (h : HeadsView). h.highest < size) (heads_in scanned) → AreBelow size scanned
heads-below size [] all = tt
heads-below size (z ∷ zs) all = (all.0, heads-below size zs all.1)

inside-all : (size : ℕ) (logs : List (List Batch)) → AllByRecursion (λ (h : HeadsView). h.highest < size) (map heads_of logs) → AllByRecursion (AllByRecursion (IsInside size)) logs
inside-all size [] all = tt
inside-all size (log ∷ logs) all = (highest-inside size log all.0, inside-all size logs all.1)

all-inside : (size : ℕ) (logs : List (List Batch)) → 1 ≤ size → AllByRecursion (AllByRecursion (IsInside size)) logs → AllByRecursion (λ (h : HeadsView). h.highest < size) (map heads_of logs)
all-inside size [] some all = tt
all-inside size (log ∷ logs) some all = (inside-highest size log some all.0, all-inside size logs some all.1)

-- if all scanned headers name blocks below a size, so do all batches
inside-found : (geometry : Geometry) (zones : List Content) (scanned : List ScannedZone) (size : ℕ) → ScansAll geometry zones scanned → AreBelow size scanned → AllByRecursion (AllByRecursion (IsInside size)) (zone_logs geometry zones)
inside-found geometry zones scanned size scans below = inside-all size (zone_logs geometry zones) (rw scans.heads at (below-heads size scanned below))

-- if not all scanned headers are below a size, not all batches are inside it
outside-found : (geometry : Geometry) (zones : List Content) (scanned : List ScannedZone) (size : ℕ) → 1 ≤ size → ScansAll geometry zones scanned → (AreBelow size scanned → ⊥) → AllByRecursion (AllByRecursion (IsInside size)) (zone_logs geometry zones) → ⊥
outside-found geometry zones scanned size some scans never all = never (heads-below size scanned (subst (λ (hs : List HeadsView). AllByRecursion (λ (h : HeadsView). h.highest < size) hs) (sym scans.heads) (all-inside size (zone_logs geometry zones) some all)))

-- scanned logs that name only blocks below their size are sound
pub sound-found : (geometry : Geometry) (zones : List Content) (scanned : List ScannedZone) (n size : ℕ) → ScansAll geometry zones scanned → size ≡ encoded_size n (zone_logs geometry zones) → AreBelow size scanned → AreSound (2 ^ 63) n (zone_logs geometry zones)
sound-found geometry zones scanned n size scans is below =
    let h = sound-sequences (zone_logs geometry zones) scans.none in
    record { numbers = h.numbers; inside = rw is at (inside-found geometry zones scanned size scans below); distinct = h.distinct }

-- ---- as the drive was before

-- what a scan found after a look at the drive holds of the drive before it
pub scans-kept : (old new : DriveState) (scanned : List ScannedZone) → KeepsZones old new → ScansAll new.geometry (contents new.zones) scanned → ScansAll old.geometry (contents old.zones) scanned
scans-kept old new scanned kept scans = rw (kept.geometry, kept-contents old new kept) at scans

-- a fault that a scan meets
scan-fails : (old : DriveState) (n : ℕ) (fault : MountFault) → CanScan old n → FailsFirst old.geometry (contents old.zones) fault → ((fault ≡ faults.Spent) ⊎ (fault ≡ faults.SequenceRepeated) ⊎ ((zone : ℕ) × ((offset : ℕ) × ((cause : _) × (fault ≡ faults.Log zone offset cause))))) → SurveyFails old n fault
scan-fails old n fault can fails (inl is) = let there = rw is at fails in rw is (can, there)
scan-fails old n fault can fails (inr (inl is)) = let there = rw is at fails in rw is (can, there)
scan-fails old n fault can fails (inr (inr is)) = let there = rw is.1.1.1 at fails in rw is.1.1.1 (can, there)

abbrev IsScanFault : MountFault → Type 0
IsScanFault fault = (fault ≡ faults.Spent) ⊎ (fault ≡ faults.SequenceRepeated) ⊎ ((zone : ℕ) × ((offset : ℕ) × ((cause : LogFault) × (fault ≡ faults.Log zone offset cause))))

heading-kind : (p q : Bool) (fault : MountFault) → (if p then Some faults.Spent else if q then Some faults.SequenceRepeated else None) ≡ Some fault → IsScanFault fault
heading-kind true q fault is = inl (cc)
heading-kind false true fault is = inr (inl (cc))
heading-kind false false fault is = absurd (cc)

log-kind : (seen : List ℕ) (log : List Batch) (fault : MountFault) → log_fault seen log ≡ Some fault → IsScanFault fault
log-kind seen [] fault is = absurd (cc)
log-kind seen (b ∷ bs) fault is = at (heading_fault seen b.heading) refl is (λ rest. log-kind (insert_key nat_cmp seen b.heading.sequence) bs fault rest)
  where
    at : (f : Option MountFault) → heading_fault seen b.heading ≡ f → fault_or f (log_fault (insert_key nat_cmp seen b.heading.sequence) bs) ≡ Some fault
        → (log_fault (insert_key nat_cmp seen b.heading.sequence) bs ≡ Some fault → IsScanFault fault) → IsScanFault fault
    at None is' rest more = more rest
    at (Some f) is' rest more = heading-kind (nat_le (2 ^ 63) b.heading.sequence) (list_any (is_at (nat_cmp b.heading.sequence)) seen) fault (is' ∙ rest)

ending-kind : (zone offset : ℕ) (ending : Ending) (fault : MountFault) → ending_fault zone offset ending ≡ Some fault → IsScanFault fault
ending-kind zone offset ended fault is = absurd (cc)
ending-kind zone offset torn fault is = absurd (cc)
ending-kind zone offset (failed cause) fault is = inr (inr (zone, (offset, (cause, cc))))

fails-kind : (geometry : Geometry) (zones : List Content) (fault : MountFault) → FailsFirst geometry zones fault → IsScanFault fault
fails-kind geometry zones fault fails = at fails.fails.first
  where
    at : (log_fault (seen_after [] (zone_logs geometry (take fails.zone zones))) fails.fails.log ≡ Some fault)
        ⊎ ((log_fault (seen_after [] (zone_logs geometry (take fails.zone zones))) fails.fails.log ≡ None) × BeginsWithNoBatch geometry.block fails.fails.rest × (ending_fault fails.zone (log_size fails.fails.log) (ending_of (is_full (content_at zones fails.zone).usage) fails.fails.rest) ≡ Some fault))
        → IsScanFault fault
    at (inl is) = log-kind (seen_after [] (zone_logs geometry (take fails.zone zones))) fails.fails.log fault is
    at (inr is) = ending-kind fails.zone (log_size fails.fails.log) (ending_of (is_full (content_at zones fails.zone).usage) fails.fails.rest) fault is.2

-- if the scan fails, the survey fails by the same fault
pub scan-refused : (old middle last : DriveState) (n : ℕ) (fault : MountFault) → KeepsZones old middle → CanScan old n → FailsBy (FailsFirst middle.geometry (contents middle.zones)) last fault → FailsBy (SurveyFails old n) last fault
scan-refused old middle last n fault kept can fails = fails-more _ _ last fault more fails
  where
    more : (f : MountFault) → FailsFirst middle.geometry (contents middle.zones) f → SurveyFails old n f
    more f there =
        let here : FailsFirst old.geometry (contents old.zones) f = rw (kept.geometry, kept-contents old middle kept) at there in
        scan-fails old n f can here (fails-kind old.geometry (contents old.zones) f here)

-- a report of a lawful drive names fewer than 2^32 zones
pub few-zones : (old new : DriveState) (reported : List ReportedZone) → IsInRange old.geometry → IsLawful old → ReportsZones old reported new → length reported < 2 ^ 32
few-zones old new reported range lawful reports =
    omega (arith, same-count old.geometry reports.zones reported reports.are, length-closing old.zones reports.zones reports.before, lawful.count, range.zones)

-- a drive in range whose zones are usable, with two partly written at most, can be scanned
pub can-scan : (old new : DriveState) (n : ℕ) (reported : List ReportedZone) → IsInRange old.geometry → FitsReserve old.geometry n → ReportsZones old reported new → AreReportedUsable reported → count_by is_partly_reported reported ≤ 2 → CanScan old n
can-scan old new n reported range reserve reports usable few = record {
  geometry = range;
  reserve = reserve;
  usable = usable-old old new reported reports usable;
  few = omega (arith, few, partly-old old new reported reports usable);
}

-- ---- what is after the scan

-- the zones of a drive that was scanned hold logs without a fault
hold-logs : (old : DriveState) (scanned : List ScannedZone) → ScansAll old.geometry (contents old.zones) scanned → HoldLogs old.geometry (contents old.zones)
hold-logs old scanned scans = record { logs = scans.logs; none = scans.none }

-- a drive is refused if its reserve does not allow the size that was found
pub reserve-refused : (old last : DriveState) (n size : ℕ) (scanned : List ScannedZone) → CanScan old n → ScansAll old.geometry (contents old.zones) scanned → size ≡ drive_size old n → (FitsReserve old.geometry size → ⊥) → FailsBy (SurveyFails old n) last faults.Reserve
reserve-refused old last n size scanned can scans is never = inr (inr (can.geometry, inr (can, hold-logs old scanned scans, λ fits. never (subst (λ (k : ℕ). FitsReserve old.geometry k) (sym is) fits))))

-- a drive is refused if a batch names a block that is not below the size
pub block-refused : (old last : DriveState) (n size : ℕ) (scanned : List ScannedZone) → CanScan old n → ScansAll old.geometry (contents old.zones) scanned → size ≡ drive_size old n → FitsReserve old.geometry size → (AreBelow size scanned → ⊥)
    → FailsBy (SurveyFails old n) last faults.BlockOutOfRange
block-refused old last n size scanned can scans is fits never =
    let outside = outside-found old.geometry (contents old.zones) scanned size fits.0 scans never in
    inr (inr (can, hold-logs old scanned scans, subst (λ (k : ℕ). FitsReserve old.geometry k) is fits, λ all. outside (subst (λ (k : ℕ). AllByRecursion (AllByRecursion (IsInside k)) (zone_logs old.geometry (contents old.zones))) (sym is) all)))

-- zones that are known are still known after a look at the drive
pub known-kept : (old new : DriveState) (reported : List ReportedZone) → KeepsZones old new → AreKnown old reported → AreKnown new reported
known-kept old new reported kept known = record {
  geometry = rw kept.geometry known.geometry;
  lawful = kept.lawful;
  count = known.count ∙ sym (length-closing old.zones new.zones kept.closing);
  each = λ zone r there. kept-known old new zone r kept (known.each zone r there);
}
