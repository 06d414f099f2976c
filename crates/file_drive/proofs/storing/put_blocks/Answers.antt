use Rattle.std.proofs.Common.{◌≡◌, ◌/◌, ◌-◌, ◌∙◌, ap, arith, length}
use Rattle.sqlite_disk.specs.Disk.{Holds}
use Rattle.zone_states.specs.Stored.{StoredZone}
use Rattle.zone_drive.specs.Table.{stored_at}
use Rattle.file_bytes.specs.Changes.{SameBeside}
use Rattle.file_drive.specs.Layout.{at_zones, file_length}
use Rattle.file_drive.proofs.PartLaws.{beside-both}
use Rattle.file_drive.proofs.ServedLaws.{small-capacity}
use Rattle.file_drive.proofs.StoringLaws.{block-at, blocks-beside, blocks-end, blocks-high, blocks-next, few-at, stored_place, unnamed-beside, zone-read, zones-put}
use Rattle.file_drive.proofs.storing.put_blocks.Goals as goal

pub stored_entry-entry-requires : goal.stored_entry-entry-requires
stored_entry-entry-requires g c =
    let geometry = c.args.geometry.now in
    let zones = c.args.zones.now in
    let zone = zone-read zones c.loop-index.index c.index-zones-index.result c.loop-index-test.true c.index-zones-index.is in
    omega (arith, ap (λ (z : StoredZone). length z.bytes / geometry.block) zone, few-at geometry zones c.requires.zones c.loop-index.index c.loop-index-test.true, small-capacity geometry c.requires.in_range)

pub write-requires : goal.write-requires
write-requires g c =
    let geometry = c.args.geometry.now in
    let zones = c.args.zones.now in
    let index = c.loop-index.index in
    let zone = zone-read zones index c.index-zones-index.result c.loop-index-test.true c.index-zones-index.is in
    let at = block-at geometry zones c.requires.zones index c.index-zones-index.result c.stored_entry-entry.result c.place.result c.at_place-at.result c.written.result.now zone c.stored_entry-entry.ensures c.place.ensures c.at_place-at.ensures c.written.ensures in
    record { within = omega (arith, at.0, ap length at.1, blocks-end geometry zones c.requires.zones index c.loop-index-test.true, c.loop-index.invariant.beside.long, c.requires.long) }

pub returns-in_err-write-clause-beside : goal.returns-in_err-write-clause-beside
returns-in_err-write-clause-beside g c =
    let geometry = c.args.geometry.now in
    let zones = c.args.zones.now in
    let index = c.loop-index.index in
    let zone = zone-read zones index c.index-zones-index.result c.loop-index-test.true c.index-zones-index.is in
    let at = block-at geometry zones c.requires.zones index c.index-zones-index.result c.stored_entry-entry.result c.place.result c.at_place-at.result c.written.result.now zone c.stored_entry-entry.ensures c.place.ensures c.at_place-at.ensures c.written.ensures in
    beside-both (at_zones geometry) (file_length geometry - at_zones geometry) (g.F.FileBytes.seen c.args.file.now) (g.F.FileBytes.seen c.loop-index.file) (g.F.FileBytes.seen c.write.new.self) c.loop-index.invariant.beside
    (blocks-beside geometry zones c.requires.zones (g.F.FileBytes.seen c.loop-index.file) (g.F.FileBytes.seen c.write.new.self) index (rw (at.0, at.1) at c.write.ensures.others) c.loop-index-test.true)

pub returns-in_err-write-clause-unnamed : goal.returns-in_err-write-clause-unnamed
returns-in_err-write-clause-unnamed g c unnamed =
    let geometry = c.args.geometry.now in
    let zones = c.args.zones.now in
    let index = c.loop-index.index in
    let zone = zone-read zones index c.index-zones-index.result c.loop-index-test.true c.index-zones-index.is in
    let at = block-at geometry zones c.requires.zones index c.index-zones-index.result c.stored_entry-entry.result c.place.result c.at_place-at.result c.written.result.now zone c.stored_entry-entry.ensures c.place.ensures c.at_place-at.ensures c.written.ensures in
    unnamed-beside c.at_place-at.result (length c.written.result.now) (g.F.FileBytes.may_leave c.loop-index.file) (g.F.FileBytes.may_leave c.write.new.self) c.write.ensures.leaves (omega (arith, at.0, blocks-high geometry zones c.requires.zones index)) (c.loop-index.invariant.unnamed unnamed)

pub loop-index-preserved : goal.loop-index-preserved
loop-index-preserved g c =
    let geometry = c.args.geometry.now in
    let zones = c.args.zones.now in
    let index = c.loop-index.index in
    let old = g.F.FileBytes.seen c.loop-index.file in
    let new = g.F.FileBytes.seen c.write.new.self in
    let zone = zone-read zones index c.index-zones-index.result c.loop-index-test.true c.index-zones-index.is in
    let at = block-at geometry zones c.requires.zones index c.index-zones-index.result c.stored_entry-entry.result c.place.result c.at_place-at.result c.written.result.now zone c.stored_entry-entry.ensures c.place.ensures c.at_place-at.ensures c.written.ensures in
    let beside : SameBeside (stored_place geometry zones c.requires.zones index) (length (stored_at zones index).bytes) old new = rw (at.0, at.1) at c.write.ensures.others in
    let holds : Holds new (stored_place geometry zones c.requires.zones index) (stored_at zones index).bytes = rw (at.0, at.1) at c.in_ok-write.ensures.written in
    record {
      put = blocks-next geometry zones c.requires.zones old new index beside holds c.loop-index-test.true c.loop-index.invariant.put;
      beside = beside-both (at_zones geometry) (file_length geometry - at_zones geometry) (g.F.FileBytes.seen c.args.file.now) old new c.loop-index.invariant.beside
          (blocks-beside geometry zones c.requires.zones old new index beside c.loop-index-test.true);
      unnamed = λ unnamed. unnamed-beside c.at_place-at.result (length c.written.result.now) (g.F.FileBytes.may_leave c.loop-index.file) (g.F.FileBytes.may_leave c.write.new.self) c.write.ensures.leaves
          (omega (arith, at.0, blocks-high geometry zones c.requires.zones index)) (c.loop-index.invariant.unnamed unnamed);
      usable = c.write.ensures.usable ∙ c.loop-index.invariant.usable;
    }

pub returns-clause-ok : goal.returns-clause-ok
returns-clause-ok g c =
    let last : c.loop-index.index ≡ length c.args.zones.now = omega (arith, c.loop-index-test.false, c.loop-index.auto.index-end) in
    zones-put c.args.geometry.now (g.F.FileBytes.seen c.loop-index.file) c.args.zones.now (rw last at c.loop-index.invariant.put)
