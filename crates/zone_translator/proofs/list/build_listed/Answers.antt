use Rattle.std.proofs.Common.{◌*◌, arith, subst}
use Rattle.std.specs.Prelude.{IsTrue}
use Rattle.drive_port.specs.Drive.{DriveState}
use Rattle.std.proofs.lemmas.List.{length-take}
use Rattle.zone_translator.proofs.ListedLaws.{distinct-front}
use Rattle.zone_translator.proofs.ListedWriteLaws.{build-listed, enough-bytes}
use Rattle.zone_translator.proofs.SendLaws.{may-list, range-ready}
use Rattle.zone_translator.proofs.list.build_listed.Goals as goal

pub start_listed-requires-clause-distinct : goal.start_listed-requires-clause-distinct
start_listed-requires-clause-distinct g c = distinct-front c.listed_count-taken.result.entries c.args.left.entries.now c.requires.can.distinct

pub slice_bounds-copy-end : goal.slice_bounds-copy-end
slice_bounds-copy-end g c =
    let enough = enough-bytes c.args.disk.now.drive.geometry.block c.listed_count-taken.result.entries c.args.left c.listed_count-taken.result c.listed_count-taken.ensures.front.data_is c.requires.can.whole in
    rw c.geometry-geometry.ensures (omega (arith, enough, length-take (c.listed_count-taken.result.blocks * c.args.disk.now.drive.geometry.block) c.args.left.bytes.now))

pub returns-clause-ok : goal.returns-clause-ok
returns-clause-ok g c = λ clean.
    build-listed c.args.disk.now c.reserve_listed.new.disk c.args.host c.args.left c.listed_count-taken.result c.start_listed.new.batch c.copy.new.self c.geometry-geometry.result c.reserve_listed.ensures.drive
    c.geometry-geometry.ensures (c.requires.agrees (subst (λ (d : DriveState). IsTrue d.clean) c.reserve_listed.ensures.drive clean)) c.requires.room c.requires.can c.listed_count-taken.ensures c.reserve_listed.ensures.kept c.in_ok-reserve_listed.ensures.ok
    c.in_ok-start_listed.ensures.heading c.in_ok-start_listed.ensures.bytes c.copy.ensures.heading c.in_ok-copy.ensures.bytes

pub returns-clause-may : goal.returns-clause-may
returns-clause-may g c =
    let sane = (range-ready c.args.disk.now c.reserve_listed.new.disk c.reserve_listed.ensures.drive c.reserve_listed.ensures.kept c.requires.sane).range.sane in
    may-list c.args.disk.now c.reserve_listed.new.disk c.args.host c.args.left c.listed_count-taken.result c.start_listed.new.batch c.copy.new.self c.geometry-geometry.result c.reserve_listed.ensures.drive
    c.geometry-geometry.ensures sane (rw c.reserve_listed.ensures.kept.roles c.requires.apart) c.requires.room c.requires.can c.listed_count-taken.ensures c.reserve_listed.ensures.kept c.in_ok-reserve_listed.ensures.ok
    c.in_ok-start_listed.ensures.heading c.in_ok-start_listed.ensures.bytes c.copy.ensures.heading c.in_ok-copy.ensures.bytes
