use Rattle.std.proofs.Common.{◌≤◌, length, sym, subst, ap, arith}
use Rattle.std.proofs.lemmas.List.{length-map, take_all}
use Rattle.zone_states.specs.Stored.{zone_stored}
use Rattle.zone_states.specs.Zone.{IsLawfulZone, Zone}
use Rattle.zone_states.proofs.ListLaws.{all-at}
use Rattle.std.specs.Io.KnownBytes.{Appends}
use Rattle.disk_files.specs.Output.{AppendsFront}
use Rattle.disk_files.proofs.OutputLaws.{on_err}
use Rattle.drive_images.specs.Image.{zone_bytes}
use Rattle.drive_images.proofs.WritingLaws.{head_written, stored-less, zone_fails, zone_here, zone_written}
use Rattle.drive_images.proofs.write.write_image.Goals as goal

pub loop-zone-init : goal.loop-zone-init
loop-zone-init g c = head_written c.args.drive.now.state.geometry c.args.drive.now.state.zones _ _ (g.W.Write.contents c.args.writer.now) (rw (c.head_bytes.ensures, c.geometry-geometry.ensures.value) at c.in_ok-write_out.ensures.ok)

pub write_zone-requires-clause-lawful : goal.write_zone-requires-clause-lawful
write_zone-requires-clause-lawful g c =
    let drive = c.args.drive.now.state in
    let i = c.loop-zone.zone-index in
    let zone = zone_stored drive.geometry.block c.zone-item.result in
    let here = zone_here drive.geometry.block c.zones-zone-items.result.now drive.zones i c.zone-item.result c.zones-zone-items.ensures.zones c.zone-item.is (omega arith) in
    let more = stored-less drive.geometry.block c.zones-zone-items.result.now drive.zones i c.zones-zone-items.ensures.zones (omega arith) in
    rw c.geometry-geometry.ensures.value (subst (IsLawfulZone drive.geometry) (sym here) (all-at (IsLawfulZone drive.geometry) drive.zones i zone c.geometry-geometry.ensures.lawful.zones more))

pub returns-in_err-write_zone-clause-err : goal.returns-in_err-write_zone-clause-err
returns-in_err-write_zone-clause-err g c =
    let drive = c.args.drive.now.state in
    let i = c.loop-zone.zone-index in
    let zone = zone_stored drive.geometry.block c.zone-item.result in
    let here = zone_here drive.geometry.block c.zones-zone-items.result.now drive.zones i c.zone-item.result c.zones-zone-items.ensures.zones c.zone-item.is (omega arith) in
    let more = stored-less drive.geometry.block c.zones-zone-items.result.now drive.zones i c.zones-zone-items.ensures.zones (omega arith) in
    let old = g.W.Write.contents c.args.writer.now in
    let mid = g.W.Write.contents c.loop-zone.writer in
    let new = g.W.Write.contents c.write_zone.new.writer in
    on_err c.from_residual-in_err-write_zone.result _
    (zone_fails drive.geometry drive.zones old mid new i zone more c.loop-zone.invariant (subst (λ (z : Zone). AppendsFront mid new (zone_bytes z)) here (rw c.geometry-geometry.ensures.value at c.in_err-write_zone.ensures.err)))

pub loop-zone-preserved : goal.loop-zone-preserved
loop-zone-preserved g c =
    let drive = c.args.drive.now.state in
    let i = c.loop-zone.zone-index in
    let zone = zone_stored drive.geometry.block c.zone-item.result in
    let here = zone_here drive.geometry.block c.zones-zone-items.result.now drive.zones i c.zone-item.result c.zones-zone-items.ensures.zones c.zone-item.is (omega arith) in
    let more = stored-less drive.geometry.block c.zones-zone-items.result.now drive.zones i c.zones-zone-items.ensures.zones (omega arith) in
    let old = g.W.Write.contents c.args.writer.now in
    let mid = g.W.Write.contents c.loop-zone.writer in
    let new = g.W.Write.contents c.write_zone.new.writer in
    zone_written drive.geometry drive.zones old mid new i zone more c.loop-zone.invariant (subst (λ (z : Zone). Appends mid new (zone_bytes z)) here (rw c.geometry-geometry.ensures.value at c.in_ok-write_zone.ensures.ok))

pub returns-clause-ok : goal.returns-clause-ok
returns-clause-ok g c =
    let drive = c.args.drive.now.state in
    let count = ap length c.zones-zone-items.ensures.zones in
    let done : length drive.zones ≤ c.loop-zone.zone-index = omega (arith, length-map c.zones-zone-items.result.now (zone_stored drive.geometry.block)) in
    rw (take_all c.loop-zone.zone-index drive.zones done) at c.loop-zone.invariant
