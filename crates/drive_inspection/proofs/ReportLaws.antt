-- What a report of all zones tells, also of a drive with zones that cannot be used.
use Rattle.std.proofs.Common.{◌≡◌, ℕ, zero, suc, ◌<◌, Bool, true, false, cond, List, [], ◌∷◌, length, Some, refl, sym, ap, ◌∙◌, arith, append-nil}
use Rattle.std.specs.Prelude.{count_by, slice_get}
use Rattle.std.proofs.lemmas.List.Sums.{sum_by-cons}
use Rattle.nvme_wire.specs.declared.zone_state.ZoneState.{ZoneState}
use Rattle.nvme_wire.specs.declared.zone_state.ZoneState.TheVariants as states
use Rattle.zone_states.specs.declared.geometry.Geometry.{Geometry}
use Rattle.zone_states.specs.Geometry.{IsInRange}
use Rattle.zone_states.specs.Transition.{is_open}
use Rattle.zone_states.specs.Zone.{Zone}
use Rattle.drive_port.specs.Contents.{Content, content_at, content_of, contents, is_active_usage, is_usable, usage_of}
use Rattle.drive_port.specs.Drive.{DriveState}
use Rattle.drive_port.specs.Step.{zone_at}
use Rattle.drive_port.proofs.ClosingLaws.{contents-closing, length-closing}
use Rattle.drive_array.specs.Mountable.{is_partly_written}
use Rattle.drive_array.specs.ZoneLogs.{readable}
use Rattle.zone_choice.proofs.OpenLaws.{closing-opens}
use Rattle.drive_survey.specs.declared.reported.ReportedZone.{ReportedZone}
use Rattle.drive_survey.specs.Reported.{AreReported, IsKnown, IsReported, KeepsZones, ReportsZones}
use Rattle.drive_survey.specs.Survey.{is_partly_reported}
use Rattle.drive_inspection.proofs.WrittenLaws.{reported-count, reported-usage}

-- ---- one zone

-- a zone that is reported
record Found (geometry : Geometry) (zones : List Zone) (i : ℕ) (r : ReportedZone) : Type 0 where
  in_range : i < length zones
  zone : Zone
  content : content_at (contents zones) i ≡ content_of zone
  here : zone_at zones i ≡ zone
  is : IsReported geometry zone r

found-at : (geometry : Geometry) (zones : List Zone) (reported : List ReportedZone) (i : ℕ) (r : ReportedZone) → AreReported geometry zones reported → slice_get reported i ≡ Some r → Found geometry zones i r
found-at geometry [] [] i r are there = absurd (cc)
found-at geometry [] (x ∷ xs) i r are there = absurd are
found-at geometry (z ∷ zs) [] i r are there = absurd are
found-at geometry (z ∷ zs) (x ∷ xs) zero r are there = let same : x ≡ r = cc in record { in_range = omega arith; zone = z; content = refl; here = refl; is = rw (← same) are.0 }
found-at geometry (z ∷ zs) (x ∷ xs) (suc i) r are there =
    let rest = found-at geometry zs xs i r are.1 there in
    record { in_range = omega (arith, rest.in_range); zone = rest.zone; content = rest.content; here = rest.here; is = rest.is }

-- all zones are reported
pub all-reported : (old new : DriveState) (reported : List ReportedZone) → ReportsZones old reported new → length reported ≡ length new.zones
all-reported old new reported reports = reported-count old.geometry reports.zones reported reports.are ∙ sym (length-closing reports.zones new.zones reports.after)

-- each is used after the report as it was reported
pub used-as-reported : (old new : DriveState) (reported : List ReportedZone) (zone : ℕ) (r : ReportedZone) → ReportsZones old reported new → slice_get reported zone ≡ Some r → (content_at (contents new.zones) zone).usage ≡ usage_of r.state
used-as-reported old new reported zone r reports there =
    rw (contents-closing reports.zones new.zones reports.after) (reported-usage old.geometry reports.zones reported zone r reports.are there)

-- one that was reported usable is known after the report
pub known-one : (old new : DriveState) (reported : List ReportedZone) (zone : ℕ) (r : ReportedZone) → IsInRange old.geometry → KeepsZones old new → ReportsZones old reported new → slice_get reported zone ≡ Some r
    → is_usable (usage_of r.state) ≡ true → IsKnown new zone r
known-one old new reported zone r range kept reports there can =
    let f = found-at old.geometry reports.zones reported zone r reports.are there in
    let same = contents-closing reports.zones new.zones reports.after in
    record {
      geometry = rw kept.geometry range;
      lawful = kept.lawful;
      in_range = omega (arith, f.in_range, length-closing reports.zones new.zones reports.after);
      usage = used-as-reported old new reported zone r reports there;
      usable = can;
      blocks = f.is.blocks (rw f.is.state at can) ∙ sym (rw (same, kept.geometry, f.content) refl);
      shut = λ told. closing-opens reports.zones new.zones reports.after zone (ap (λ (z : Zone). is_open z.state) f.here ∙ ap is_open (sym f.is.state) ∙ told);
    }

-- ---- partly written zones

partly-same : (geometry : Geometry) (zone : Zone) (r : ReportedZone) → IsReported geometry zone r → is_partly_reported r ≡ is_partly_written (content_of zone)
partly-same geometry zone r is = at zone.state refl
  where
    open-same : is_active_usage (usage_of zone.state) ≡ true → r.blocks ≡ length zone.blocks → is_partly_reported r ≡ is_partly_written (content_of zone)
    open-same active blocks = rw (is.state, blocks) refl

    shut-same : is_active_usage (usage_of zone.state) ≡ false → is_partly_reported r ≡ is_partly_written (content_of zone)
    shut-same shut = rw (is.state, shut) refl

    blocks-are : is_usable (usage_of zone.state) ≡ true → r.blocks ≡ length (readable geometry (content_of zone))
    blocks-are = is.blocks

    at : (s : ZoneState) → zone.state ≡ s → is_partly_reported r ≡ is_partly_written (content_of zone)
    at states.Empty s = shut-same (rw s refl)
    at states.ImplicitlyOpened s = open-same (rw s refl) ((rw s at (blocks-are (rw s refl))) ∙ ap length (append-nil zone.blocks))
    at states.ExplicitlyOpened s = open-same (rw s refl) ((rw s at (blocks-are (rw s refl))) ∙ ap length (append-nil zone.blocks))
    at states.Closed s = open-same (rw s refl) ((rw s at (blocks-are (rw s refl))) ∙ ap length (append-nil zone.blocks))
    at states.ReadOnly s = shut-same (rw s refl)
    at states.Full s = shut-same (rw s refl)
    at states.Offline s = shut-same (rw s refl)

count-both : (x : ReportedZone) (y : Content) (xs : List ReportedZone) (ys : List Content) → is_partly_reported x ≡ is_partly_written y → count_by is_partly_reported xs ≡ count_by is_partly_written ys
    → count_by is_partly_reported (x ∷ xs) ≡ count_by is_partly_written (y ∷ ys)
count-both x y xs ys one rest =
    let here : cond {A = ℕ} (is_partly_reported x) 1 0 ≡ cond (is_partly_written y) 1 0 = rw one refl in
    omega (arith, here, rest, sum_by-cons (λ z. cond {A = ℕ} (is_partly_reported z) 1 0) x xs, sum_by-cons (λ z. cond {A = ℕ} (is_partly_written z) 1 0) y ys)

partly-zones : (geometry : Geometry) (zones : List Zone) (reported : List ReportedZone) → AreReported geometry zones reported → count_by is_partly_reported reported ≡ count_by is_partly_written (contents zones)
partly-zones geometry [] [] are = refl
partly-zones geometry [] (r ∷ rs) are = absurd are
partly-zones geometry (z ∷ zs) [] are = absurd are
partly-zones geometry (z ∷ zs) (r ∷ rs) are = count-both r (content_of z) rs (contents zs) (partly-same geometry z r are.0) (partly-zones geometry zs rs are.1)

-- a report tells how many zones are partly written
pub partly-told : (old new : DriveState) (reported : List ReportedZone) → ReportsZones old reported new → count_by is_partly_reported reported ≡ count_by is_partly_written (contents new.zones)
partly-told old new reported reports =
    partly-zones old.geometry reports.zones reported reports.are ∙ ap (λ (cs : List Content). count_by is_partly_written cs) (sym (contents-closing reports.zones new.zones reports.after))
