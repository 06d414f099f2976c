use Rattle.std.proofs.Common.{◌≡◌, length, sym, arith}
use Rattle.zone_drive.proofs.ZonesLaws.{are-zones, not-zones}
use Rattle.zone_drive.proofs.drive.Drive.from_zones.Goals as goal

pub returns-then-not-all_lawful-clause-err : goal.returns-then-not-all_lawful-clause-err
returns-then-not-all_lawful-clause-err c =
    let in_range = c.in_default.ensures.ok in
    (in_range, not-zones c.args.geometry c.args.zones.items in_range (sym (rw c.deref.ensures.value at c.if-not-all_lawful.ensures)))

pub unused-requires-clause-zones : goal.unused-requires-clause-zones
unused-requires-clause-zones c =
    let count : length c.args.zones.items ≡ c.args.geometry.zones = omega arith in
    let all = sym (rw c.deref.ensures.value at c.if-not-all_lawful.ensures) in
    let same = c.new-zones.ensures in
    rw same
    (are-zones c.args.geometry c.args.zones.items _ _ c.in_default.ensures.ok count all (rw same at c.active_zones.ensures) (rw same at c.open_zones.ensures) c.if-active_zones-geometry.false c.if-open_zones-geometry.false)

pub returns-clause-lawful : goal.returns-clause-lawful
returns-clause-lawful c = (c.in_default.ensures.ok, rw c.new-zones.ensures at (unused-requires-clause-zones c.before))
