-- What a first report shows of a drive.
use Rattle.std.proofs.Common.{◌≡◌, ℕ, ◌+◌, ◌*◌, ◌≤◌, true, List, [], ap, arith}
use Rattle.std.specs.Prelude.{IfOk, IfSome, Result, Ok, Err}
use Rattle.std.specs.Result.{result_ok}
use Rattle.nvme_wire.specs.declared.command.ReportingOptions.TheVariants.{AnyState}
use Rattle.zone_states.specs.declared.geometry.Geometry.{Geometry}
use Rattle.zone_states.specs.Geometry.{IsInRange}
use Rattle.zone_states.specs.Zone.{Zone}
use Rattle.drive_port.specs.Calls.{Reported}
use Rattle.drive_port.specs.Drive.{DriveState, IsClosing, IsLawful}
use Rattle.drive_port.proofs.ClosingLaws.{active_count-closing, length-closing, open_count-closing}
use Rattle.drive_survey.proofs.ReportLaws.{lawful-closing}
use Rattle.passthrough.specs.Premise.{AreLawful, ShowsZones}
use Rattle.passthrough.specs.Seen.{AreSeen}
use Rattle.passthrough.specs.declared.seen_zone.SeenZone.{SeenZone}
use Rattle.passthrough.proofs.SeenLaws.{seen-closing}
use Rattle.passthrough.proofs.ShowLaws.{reports}

-- the zones of a lawful drive, and those after a closing
closed-lawful : (old : DriveState) (zones : List Zone) → IsLawful old → IsClosing old.zones zones → AreLawful old.geometry zones
closed-lawful old zones lawful closing = record {
  count = omega (arith, length-closing old.zones zones closing, lawful.count);
  each = lawful-closing old.geometry old.zones zones closing lawful.zones;
  active = omega (arith, active_count-closing old.zones zones closing, lawful.active);
  open_zones = omega (arith, open_count-closing old.zones zones closing, lawful.open_zones);
}

-- what bytes show, for the same geometry and the same bytes
rows-of : (geometry other : Geometry) (zones : List Zone) (items bytes : List ℕ) (rows : List SeenZone) → geometry ≡ other → bytes ≡ items
    → ((shown : List Zone) → AreLawful geometry shown → ShowsZones geometry shown 0 bytes → AreSeen shown rows)
    → AreLawful other zones → ShowsZones other zones 0 items → AreSeen zones rows
rows-of geometry other zones items bytes rows shape same sees lawful shows = sees zones (rw shape lawful) (rw (shape, same) shows)

-- what a report of all zones shows is true of them
pub report-seen : (old new : DriveState) (geometry : Geometry) (dwords : ℕ) (items bytes : List ℕ) (rows : List SeenZone) → geometry ≡ old.geometry → bytes ≡ items
    → IsInRange geometry → IsLawful old → dwords ≡ 16 + 16 * geometry.zones → Reported old new 0 AnyState true dwords items
    → ((zones : List Zone) → AreLawful geometry zones → ShowsZones geometry zones 0 bytes → AreSeen zones rows)
    → AreSeen new.zones rows
report-seen old new geometry dwords items bytes rows shape same range lawful whole told sees =
    let size : geometry.size ≡ old.geometry.size = ap (λ (g : Geometry). g.size) shape in
    let count : geometry.zones ≡ old.geometry.zones = ap (λ (g : Geometry). g.zones) shape in
    let some : 1 ≤ old.geometry.size = omega (arith, range.size.0, size) in
    let shown = reports old.geometry old.zones told.zones new.zones 0 0 old.geometry.zones dwords items lawful.geometry lawful.count lawful.zones some
    (omega arith) (omega arith) (omega (arith, whole, count)) told.before told.after told.length_is told.bytes_are in
    let middle = rows-of geometry old.geometry shown.middle items bytes rows shape same sees (closed-lawful old shown.middle lawful shown.before) shown.shows in
    seen-closing shown.middle new.zones rows middle shown.after

-- what holds of a result holds of its value
pub some-of-ok : {T E : Type 0} (result : Result T E) (P Q : T → Type 0) → IfOk result P → ((value : T) → P value → Q value) → IfSome (result_ok result) Q
some-of-ok (Ok value) P Q held gives = gives value held
some-of-ok (Err fault) P Q held gives = tt
