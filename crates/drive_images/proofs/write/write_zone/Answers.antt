use Rattle.std.proofs.KnownBytes.{Appends-trans}
use Rattle.disk_files.proofs.OutputLaws.{err-so, front_second}
use Rattle.drive_images.proofs.WritingLaws.{ok_so, zone_text}
use Rattle.drive_images.proofs.write.write_zone.Goals as goal

pub returns-clause-ok : goal.returns-clause-ok
returns-clause-ok g c =
    let zone = c.args.zone.now in
    let head = rw (c.encode.ensures, c.state.ensures, c.blocks-2.ensures.value) at c.in_ok-write_out.ensures.ok in
    rw (zone_text c.args.geometry.now.block zone c.requires.whole)
    (ok_so c.write_out-2.result _ _ (λ rest. Appends-trans _ _ _ _ zone.bytes head rest) (rw c.written.ensures at c.write_out-2.ensures.ok))

pub returns-clause-err : goal.returns-clause-err
returns-clause-err g c =
    let zone = c.args.zone.now in
    let head = rw (c.encode.ensures, c.state.ensures, c.blocks-2.ensures.value) at c.in_ok-write_out.ensures.ok in
    rw (zone_text c.args.geometry.now.block zone c.requires.whole)
    (err-so c.write_out-2.result _ _ (λ front. front_second _ _ _ _ zone.bytes head front) (rw c.written.ensures at c.write_out-2.ensures.err))
