-- Zones that were reported, and which of them are not Empty.
use Rattle.std.proofs.Common.{◌≡◌, ℕ, zero, suc, ◌<◌, Bool, true, false, cond, List, [], ◌∷◌, length, Some, refl, sym, ap, subst, ◌∙◌, arith}
use Rattle.std.specs.Prelude.{slice_get, count_by, IfNone, IfSome, None, Option}
use Rattle.std.proofs.lemmas.List.Sums.{sum_by-cons}
use Rattle.nvme_wire.specs.declared.zone_state.ZoneState.{ZoneState}
use Rattle.zone_states.specs.declared.geometry.Geometry.{Geometry}
use Rattle.zone_states.specs.Geometry.{IsInRange}
use Rattle.zone_states.specs.Zone.{Zone}
use Rattle.drive_array.specs.Reserve.{most_size}
use Rattle.drive_port.specs.Contents.{Content, Usage, active, content_at, content_of, contents, empty, full, unusable, usage_of}
use Rattle.drive_port.specs.Drive.{DriveState, IsLawful}
use Rattle.drive_port.proofs.ClosingLaws.{contents-closing}
use Rattle.drive_survey.specs.declared.reported.ReportedZone.{ReportedZone}
use Rattle.drive_survey.specs.Reported.{AreReported}
use Rattle.drive_survey.proofs.ReadLaws.{keeps-none}
use Rattle.drive_inspection.specs.Info.{IsDriveInfo, IsReportInfo, WereReported}
use Rattle.drive_inspection.specs.Written.{AreAllEmpty, CountsWritten, IsWritten, ShowsWritten, is_used, is_written, written_count}
use Rattle.drive_inspection.specs.declared.info.DriveInfo.{DriveInfo}
use Rattle.drive_inspection.specs.declared.written.Written.{Written}

pub reported-count : (geometry : Geometry) (zones : List Zone) (reported : List ReportedZone) → AreReported geometry zones reported → length reported ≡ length zones
reported-count geometry [] [] are = refl
reported-count geometry [] (r ∷ rs) are = absurd are
reported-count geometry (z ∷ zs) [] are = absurd are
reported-count geometry (z ∷ zs) (r ∷ rs) are = ap suc (reported-count geometry zs rs are.1)

-- a zone is used as it was reported
pub reported-usage : (geometry : Geometry) (zones : List Zone) (reported : List ReportedZone) (i : ℕ) (r : ReportedZone) → AreReported geometry zones reported → slice_get reported i ≡ Some r
    → (content_at (contents zones) i).usage ≡ usage_of r.state
reported-usage geometry [] [] i r are there = absurd (cc)
reported-usage geometry [] (x ∷ xs) i r are there = absurd are
reported-usage geometry (z ∷ zs) [] i r are there = absurd are
reported-usage geometry (z ∷ zs) (x ∷ xs) zero r are there = let same : x ≡ r = cc in rw (← same) (ap usage_of (sym are.0.state))
reported-usage geometry (z ∷ zs) (x ∷ xs) (suc i) r are there = reported-usage geometry zs xs i r are.1 there

-- one more of each is counted, or none
count-both : (x : ReportedZone) (y : Content) (xs : List ReportedZone) (ys : List Content) → is_written x ≡ is_used y.usage → count_by is_written xs ≡ count_by (λ (c : Content). is_used c.usage) ys
    → count_by is_written (x ∷ xs) ≡ count_by (λ (c : Content). is_used c.usage) (y ∷ ys)
count-both x y xs ys one rest =
    let here : cond {A = ℕ} (is_written x) 1 0 ≡ cond (is_used y.usage) 1 0 = rw one refl in
    omega (arith, here, rest, sum_by-cons (λ z. cond {A = ℕ} (is_written z) 1 0) x xs, sum_by-cons (λ (z : Content). cond {A = ℕ} (is_used z.usage) 1 0) y ys)

-- as many zones are not Empty as were reported so
pub reported-written : (geometry : Geometry) (zones : List Zone) (reported : List ReportedZone) → AreReported geometry zones reported
    → count_by is_written reported ≡ count_by (λ (c : Content). is_used c.usage) (contents zones)
reported-written geometry [] [] are = refl
reported-written geometry [] (r ∷ rs) are = absurd are
reported-written geometry (z ∷ zs) [] are = absurd are
reported-written geometry (z ∷ zs) (r ∷ rs) are = count-both r (content_of z) rs (contents zs) (ap (λ (s : ZoneState). is_used (usage_of s)) are.0.state) (reported-written geometry zs rs are.1)

pub were-written : (drive : DriveState) (reported : List ReportedZone) → WereReported drive reported → count_by is_written reported ≡ written_count drive
were-written drive reported were = reported-written drive.geometry were.zones reported were.are
    ∙ ap (λ (c : List Content). count_by (λ (one : Content). is_used one.usage) c) (contents-closing drive.zones were.zones were.before)

-- a zone that is not used is Empty
pub unused : (usage : Usage) → is_used usage ≡ false → usage ≡ empty
unused empty none = refl
unused active none = absurd (cc none)
unused full none = absurd (cc none)
unused unusable none = absurd (cc none)

-- where none is counted, each is Empty
none-counted : (zones : List Zone) → count_by (λ (c : Content). is_used c.usage) (contents zones) ≡ 0 → (zone : ℕ) → zone < length zones → (content_at (contents zones) zone).usage ≡ empty
none-counted [] none zone lt = absurd (omega (arith, lt))
none-counted (z ∷ zs) none zero lt =
    let counted = sum_by-cons (λ (c : Content). cond {A = ℕ} (is_used c.usage) 1 0) (content_of z) (contents zs) in
    unused (content_of z).usage (at (is_used (content_of z).usage) refl (omega (arith, none, counted)))
  where
    at : (b : Bool) → is_used (content_of z).usage ≡ b → cond {A = ℕ} (is_used (content_of z).usage) 1 0 ≡ 0 → is_used (content_of z).usage ≡ false
    at true is zero_is = absurd (omega (arith, subst (λ (b : Bool). cond {A = ℕ} b 1 0 ≡ 0) is zero_is))
    at false is zero_is = is
none-counted (z ∷ zs) none (suc zone) lt =
    let counted = sum_by-cons (λ (c : Content). cond {A = ℕ} (is_used c.usage) 1 0) (content_of z) (contents zs) in
    none-counted zs (omega (arith, none, counted)) zone (omega (arith, lt))

pub all-empty : (drive : DriveState) → written_count drive ≡ 0 → AreAllEmpty drive
all-empty drive none = none-counted drive.zones none

-- ---- a drive that was looked at

pub is-written : (drive last : DriveState) (blocks : ℕ) (info : DriveInfo) → IsInRange drive.geometry → IsLawful drive → blocks ≡ most_size drive.geometry → IsDriveInfo drive last blocks info
    → (found : Option Written) → IfSome found (ShowsWritten info) → IfSome found (IsWritten drive last)
is-written drive last blocks info range lawful most is None shows = shows
is-written drive last blocks info range lawful most is (Some written) shows = record {
  count = shows.count ∙ were-written drive info.zones.items (is.report.reported range);
  some = shows.some;
  seen = drive;
  keeps = keeps-none drive lawful;
  holding = record { info = info; holds = record { blocks = blocks; most = λ _. most; is_info = is }; shows = shows.shows };
}

-- by the report alone, so many zones are not Empty
pub counts-written : (drive : DriveState) (info : DriveInfo) → IsInRange drive.geometry → IsReportInfo drive info → (found : Option Written) → IfSome found (ShowsWritten info) → IfSome found (CountsWritten drive)
counts-written drive info range is None shows = shows
counts-written drive info range is (Some written) shows = record { count = shows.count ∙ were-written drive info.zones.items (is.reported range); some = shows.some }

pub none-written : (drive : DriveState) (info : DriveInfo) → IsInRange drive.geometry → IsReportInfo drive info
    → (found : Option Written) → IfNone found (count_by is_written info.zones.items ≡ 0) → IfNone found (AreAllEmpty drive)
none-written drive info range is None none = all-empty drive (sym (were-written drive info.zones.items (is.reported range)) ∙ none)
none-written drive info range is (Some written) none = none
