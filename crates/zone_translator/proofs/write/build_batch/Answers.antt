use Rattle.std.proofs.Common.{refl}
use Rattle.zone_choice.specs.Agreement.{mounted}
use Rattle.zone_choice.specs.Roles.{AreApart}
use Rattle.zone_translator.proofs.SendLaws.{may-write, range-ready}
use Rattle.zone_translator.proofs.WriteLaws.{build-next}
use Rattle.zone_translator.proofs.write.build_batch.Goals as goal

pub returns-clause-ok : goal.returns-clause-ok
returns-clause-ok g c = λ clean.
    let view = c.disk.view_is in
    let here = mounted (g.D.Device.drive c.disk.inside.device) c.disk.inside.tables in
    build-next here (mounted (g.D.Device.drive c.disk.inside.device) c.reserve.new.self) c.args.host c.args.rest c.batch_count-count.result c.start_batch.new.batch c.add_content.new.batch c.geometry-geometry.result c.is_trim-trim.result refl
    (rw (← c.disk.view_is) at c.geometry-geometry.ensures) c.is_trim-trim.ensures ((rw (← c.disk.view_is) at c.requires.agrees) clean) (rw (← c.disk.view_is) at c.requires.room) (rw (← c.disk.view_is) at c.requires.can) c.batch_count-count.ensures c.reserve.ensures.kept c.in_ok-reserve.ensures.ok
    (rw (← c.disk.view_is) at c.in_ok-start_batch.ensures.heading) (rw (← c.disk.view_is) at c.in_ok-start_batch.ensures.bytes) c.add_content.ensures.heading c.in_ok-add_content.ensures.bytes

pub returns-clause-may : goal.returns-clause-may
returns-clause-may g c =
    let here = mounted (g.D.Device.drive c.disk.inside.device) c.disk.inside.tables in
    let now = mounted (g.D.Device.drive c.disk.inside.device) c.reserve.new.self in
    let sane = (range-ready here now refl c.reserve.ensures.kept (rw (← c.disk.view_is) at c.requires.sane)).range.sane in
    let was = rw (← c.disk.view_is) at c.requires.apart in
    let apart : AreApart c.reserve.new.self.roles = rw c.reserve.ensures.kept.roles was in
    may-write here now c.args.host c.args.rest c.batch_count-count.result c.start_batch.new.batch c.add_content.new.batch c.geometry-geometry.result c.is_trim-trim.result refl
    (rw (← c.disk.view_is) at c.geometry-geometry.ensures) c.is_trim-trim.ensures sane apart (rw (← c.disk.view_is) at c.requires.room) (rw (← c.disk.view_is) at c.requires.can) c.batch_count-count.ensures c.reserve.ensures.kept c.in_ok-reserve.ensures.ok
    (rw (← c.disk.view_is) at c.in_ok-start_batch.ensures.heading) (rw (← c.disk.view_is) at c.in_ok-start_batch.ensures.bytes) c.add_content.ensures.heading c.in_ok-add_content.ensures.bytes
