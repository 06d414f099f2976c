use Rattle.std.proofs.Common.{◌≡◌, subst}
use Rattle.zone_states.specs.declared.geometry.Geometry.{Geometry}
use Rattle.zone_states.specs.Geometry.{IsInRange}
use Rattle.drive_array.specs.Reserve.{most_size}
use Rattle.drive_survey.proofs.ReadLaws.{keeps-none}
use Rattle.drive_inspection.proofs.WrittenLaws.{counts-written, is-written, none-written}
use Rattle.drive_inspection.proofs.written.find_written.Goals as goal

pub returns-in_default-clause-kept : goal.returns-in_default-clause-kept
returns-in_default-clause-kept g c = keeps-none _ c.geometry-geometry.ensures.lawful

pub returns-clause-some : goal.returns-clause-some
returns-clause-some g c clean =
    let old = g.D.Device.drive c.args.device.now in
    let range : IsInRange old.geometry = subst IsInRange c.geometry-geometry.ensures.value c.in-Ok.ensures.ok in
    is-written old (g.D.Device.drive c.inspect_drive.new.device) c.most_blocks-given.result c.in_ok-info.info range c.geometry-geometry.ensures.lawful
    (subst (λ (one : Geometry). c.most_blocks-given.result ≡ most_size one) c.geometry-geometry.ensures.value c.most_blocks-given.ensures.is)
    (c.in_ok-info.ensures.ok clean) c.written_of.result c.written_of.ensures.some

pub returns-clause-none : goal.returns-clause-none
returns-clause-none g c =
    let old = g.D.Device.drive c.args.device.now in
    let range : IsInRange old.geometry = subst IsInRange c.geometry-geometry.ensures.value c.in-Ok.ensures.ok in
    none-written old c.in_ok-info.info range c.in_ok-info.ensures.reported c.written_of.result c.written_of.ensures.none

pub returns-clause-counts : goal.returns-clause-counts
returns-clause-counts g c =
    let old = g.D.Device.drive c.args.device.now in
    let range : IsInRange old.geometry = subst IsInRange c.geometry-geometry.ensures.value c.in-Ok.ensures.ok in
    counts-written old c.in_ok-info.info range c.in_ok-info.ensures.reported c.written_of.result c.written_of.ensures.some
