-- Zone after zone is scanned.
use Rattle.std.proofs.Common.{◌≡◌, ℕ, zero, suc, ◌+◌, ◌<◌, ◌≤◌, Bool, List, [], ◌∷◌, ◌++◌, length, map, take, get_or, Some, None, refl, sym, ap, subst, ◌∙◌, arith}
use Rattle.std.specs.Prelude.{slice_get}
use Rattle.std.specs.List.{AllByRecursion}
use Rattle.std.proofs.lemmas.List.{length-map, map-append, take_all, take_more}
use Rattle.zone_states.specs.declared.geometry.Geometry.{Geometry}
use Rattle.batch_log.specs.Log.{Batch}
use Rattle.drive_port.specs.Contents.{Content, content_at, content_of, contents, nothing}
use Rattle.drive_port.specs.Drive.{DriveState}
use Rattle.drive_array.proofs.AllLaws.{all-append}
use Rattle.drive_array.specs.ZoneLogs.{HasLog, has_torn_tail, zone_log, zone_logs, zone_tails}
use Rattle.drive_survey.specs.declared.fault.MountFault.{MountFault}
use Rattle.drive_survey.specs.declared.reported.ReportedZone.{ReportedZone}
use Rattle.drive_survey.specs.declared.scan.ScannedZone.{ScannedZone}
use Rattle.drive_survey.specs.Heads.{HeadsView, heads_of}
use Rattle.drive_survey.specs.Reported.{IsKnown, KeepsZones}
use Rattle.drive_survey.specs.Scan.{AreKnown, FailsBy, FailsFirst, FailsIn, HaveNoFault, Scans, ScansAll, heads_in, log_fault, seen_after, seen_with, tails_in}
use Rattle.drive_survey.proofs.ReadLaws.{kept-contents, kept-known}
use Rattle.drive_survey.proofs.NextLaws.{fails-more}

-- ---- one zone more

none-more : (seen : List ℕ) (logs : List (List Batch)) (log : List Batch) → HaveNoFault seen logs → log_fault (seen_after seen logs) log ≡ None → HaveNoFault seen (logs ++ log ∷ [])
none-more seen [] log none one = (one, tt)
none-more seen (l ∷ ls) log none one = (none.0, none-more (seen_with seen l) ls log none.1 one)

after-more : (seen : List ℕ) (logs : List (List Batch)) (log : List Batch) → seen_after seen (logs ++ log ∷ []) ≡ seen_with (seen_after seen logs) log
after-more seen [] log = refl
after-more seen (l ∷ ls) log = after-more (seen_with seen l) ls log

-- the first zones were scanned
pub record ScansFirst (geometry : Geometry) (zones : List Content) (scanned : List ScannedZone) (seen : List ℕ) : Type 0 where
  pub logs : AllByRecursion (HasLog geometry) zones
  pub none : HaveNoFault [] (zone_logs geometry zones)
  pub heads : heads_in scanned ≡ map heads_of (zone_logs geometry zones)
  pub tails : tails_in scanned ≡ zone_tails zones
  pub seen_are : seen ≡ seen_after [] (zone_logs geometry zones)

scans-one : (geometry : Geometry) (zones : List Content) (zone : Content) (scanned : List ScannedZone) (one : ScannedZone) (seen seen' : List ℕ) → ScansFirst geometry zones scanned seen → Scans geometry zone seen one.heads one.is_torn seen'
    → ScansFirst geometry (zones ++ zone ∷ []) (scanned ++ one ∷ []) seen'
scans-one geometry zones zone scanned one seen seen' s there =
    let logs = zone_logs geometry zones in
    let log = zone_log geometry zone in
    let all : zone_logs geometry (zones ++ zone ∷ []) ≡ logs ++ log ∷ [] = map-append (zone_log geometry) zones (zone ∷ []) in
    let fault : log_fault (seen_after [] logs) log ≡ None = ap (λ (x : List ℕ). log_fault x log) (sym s.seen_are) ∙ there.none in
    record {
      logs = all-append (HasLog geometry) zones (zone ∷ []) s.logs (there.has, tt);
      none = subst (λ (ls : List (List Batch)). HaveNoFault [] ls) (sym all) (none-more [] logs log s.none fault);
      heads = map-append (λ (z : ScannedZone). z.heads) scanned (one ∷ []) ∙ ap (λ (hs : List HeadsView). hs ++ one.heads ∷ []) s.heads ∙ ap (λ (h : HeadsView). map heads_of logs ++ h ∷ []) there.heads_are ∙ sym (map-append heads_of logs (log ∷ [])) ∙ ap (λ (ls : List (List Batch)). map heads_of ls) (sym all);
      tails = map-append (λ (z : ScannedZone). z.is_torn) scanned (one ∷ []) ∙ ap (λ (ts : List Bool). ts ++ one.is_torn ∷ []) s.tails ∙ ap (λ (t : Bool). zone_tails zones ++ t ∷ []) there.torn_is ∙ sym (map-append has_torn_tail zones (zone ∷ []));
      seen_are = there.seen_are ∙ ap (λ (x : List ℕ). seen_with x log) s.seen_are ∙ sym (after-more [] logs log) ∙ ap (λ (ls : List (List Batch)). seen_after [] ls) (sym all);
    }

-- ---- the drive

-- each zone of a report is still known after a look at the drive
pub all-known : (old new : DriveState) (reported : List ReportedZone) (zone : ℕ) (r : ReportedZone) → AreKnown old reported → KeepsZones old new → slice_get reported zone ≡ Some r → IsKnown new zone r
all-known old new reported zone r known kept there = kept-known old new zone r kept (known.each zone r there)

-- the zones of a drive below this number were scanned
abbrev pub ScansTo : DriveState → List ScannedZone → ℕ → List ℕ → Type 0
ScansTo drive scanned zone seen = ScansFirst drive.geometry (take zone (contents drive.zones)) scanned seen

-- at the start no zone was scanned, and no sequence was met
pub scans-none : (drive : DriveState) → ScansTo drive [] 0 []
scans-none drive = record { logs = tt; none = tt; heads = refl; tails = refl; seen_are = refl }

-- scanning the next zone keeps what is known of the zones before it
pub scans-more : (first now : DriveState) (scanned more : List ScannedZone) (one : ScannedZone) (seen seen' : List ℕ) (zone : ℕ) → KeepsZones first now → zone < length first.zones → more ≡ scanned ++ one ∷ []
    → ScansTo first scanned zone seen → Scans now.geometry (content_at (contents now.zones) zone) seen one.heads one.is_torn seen' → ScansTo first more (zone + 1) seen'
scans-more first now scanned more one seen seen' zone kept lt pushed s there =
    let here : Scans first.geometry (content_at (contents first.zones) zone) seen one.heads one.is_torn seen' = rw (kept.geometry, kept-contents first now kept) at there in
    let split = take_more (contents first.zones) zone nothing (omega (arith, lt, length-map first.zones content_of)) in
    let done = scans-one first.geometry (take zone (contents first.zones)) (content_at (contents first.zones) zone) scanned one seen seen' s here in
    subst (λ (zs : List Content). ScansFirst first.geometry zs more seen') (sym split) (subst (λ (sc : List ScannedZone). ScansFirst first.geometry (take zone (contents first.zones) ++ content_at (contents first.zones) zone ∷ []) sc seen') (sym pushed) done)

-- the next zone's fault is the drive's first, as the zones before it have none
pub scans-fail : (first now last : DriveState) (scanned : List ScannedZone) (seen : List ℕ) (zone : ℕ) (fault : MountFault) → KeepsZones first now → zone < length first.zones → ScansTo first scanned zone seen
    → FailsBy (FailsIn now.geometry (content_at (contents now.zones) zone) zone seen) last fault → FailsBy (FailsFirst first.geometry (contents first.zones)) last fault
scans-fail first now last scanned seen zone fault kept lt s fails = fails-more _ _ last fault more fails
  where
    more : (f : MountFault) → FailsIn now.geometry (content_at (contents now.zones) zone) zone seen f → FailsFirst first.geometry (contents first.zones) f
    more f there =
        let here : FailsIn first.geometry (content_at (contents first.zones) zone) zone seen f = rw (kept.geometry, kept-contents first now kept) at there in
        record { zone = zone; in_range = omega (arith, lt, length-map first.zones content_of); logs = s.logs; none = s.none; fails = subst (λ (x : List ℕ). FailsIn first.geometry (content_at (contents first.zones) zone) zone x f) s.seen_are here }

-- with no zone left, all logs of the drive have no fault, and their headers are kept
pub scans-all : (first : DriveState) (scanned : List ScannedZone) (seen : List ℕ) (zone : ℕ) → length first.zones ≤ zone → ScansTo first scanned zone seen → ScansAll first.geometry (contents first.zones) scanned
scans-all first scanned seen zone le s =
    let whole : take zone (contents first.zones) ≡ contents first.zones = take_all zone (contents first.zones) (omega (arith, le, length-map first.zones content_of)) in
    let all = subst (λ (zs : List Content). ScansFirst first.geometry zs scanned seen) whole s in
    record { logs = all.logs; none = all.none; heads = all.heads; tails = all.tails }

-- reading a list at an index below its length gives the element there
pub there-is : {X : Type 0} (xs : List X) (i : ℕ) (d : X) → i < length xs → slice_get xs i ≡ Some (get_or xs i d)
there-is [] i d lt = absurd (omega arith)
there-is (x ∷ xs) zero d lt = refl
there-is (x ∷ xs) (suc i) d lt = there-is xs i d (omega arith)
