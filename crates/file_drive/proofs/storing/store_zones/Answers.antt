use Rattle.std.proofs.Common.{◌*◌, ◌∙◌, arith, map}
use Rattle.zone_drive.specs.Held.{restarted_stored}
use Rattle.file_drive.specs.Finds.{Finds}
use Rattle.file_drive.specs.Layout.{at_table}
use Rattle.file_drive.specs.Storing.{HasHead}
use Rattle.file_drive.specs.declared.boot.Boot.{Boot}
use Rattle.file_drive.proofs.PartLaws.{words-beside}
use Rattle.file_drive.proofs.PlaceLaws.{whole-apart}
use Rattle.file_drive.proofs.StoringLaws.{on-ok, stored-finds, table-empty}
use Rattle.file_drive.proofs.storing.store_zones.Goals as goal

pub put_table-requires-clause-zeros : goal.put_table-requires-clause-zeros
put_table-requires-clause-zeros g c =
    table-empty c.args.geometry.now (g.F.FileBytes.seen c.put_zeros.new.file) (g.F.FileBytes.seen c.put_blocks.new.file) 0 c.in_ok-put_zeros.ensures.zeros c.put_blocks.ensures.beside (omega arith)

pub put_table-requires-2-clause-zeros : goal.put_table-requires-2-clause-zeros
put_table-requires-2-clause-zeros g c =
    let geometry = c.args.geometry.now in
    words-beside (at_table geometry 0) (8 * geometry.zones) (at_table geometry 2) geometry.zones (g.F.FileBytes.seen c.put_blocks.new.file) (g.F.FileBytes.seen c.put_table.new.file) c.put_table.ensures.beside
    (whole-apart geometry 0 2 (λ e. absurd (omega (arith, e))))
    ∙ table-empty geometry (g.F.FileBytes.seen c.put_zeros.new.file) (g.F.FileBytes.seen c.put_blocks.new.file) 2 c.in_ok-put_zeros.ensures.zeros c.put_blocks.ensures.beside (omega arith)

pub returns-in_err-put_table-2-clause-whole : goal.returns-in_err-put_table-2-clause-whole
returns-in_err-put_table-2-clause-whole g c unnamed bytes may named =
    absurd (c.put_table-2.ensures.unnamed (c.put_table.ensures.unnamed (c.put_blocks.ensures.unnamed (c.put_zeros.ensures.unnamed unnamed))) bytes may named)

pub returns-clause-stored : goal.returns-clause-stored
returns-clause-stored g c =
    let geometry = c.args.geometry.now in
    let zones = c.args.zones.now in
    on-ok c.put_head.result (HasHead geometry (g.F.FileBytes.seen c.put_table-2.new.file) (g.F.FileBytes.seen c.put_head.new.file))
    ((boot : Boot) → Finds geometry boot (g.F.FileBytes.seen c.put_head.new.file) (map restarted_stored zones))
    (λ head. stored-finds geometry zones c.requires.in_range c.requires.zones (g.F.FileBytes.seen c.put_zeros.new.file) (g.F.FileBytes.seen c.put_blocks.new.file) (g.F.FileBytes.seen c.put_table.new.file) (g.F.FileBytes.seen c.put_table-2.new.file)
    c.in_ok-put_zeros.ensures.zeros c.put_blocks.ensures.beside c.in_ok-put_blocks.ensures.ok c.put_table.ensures.beside c.in_ok-put_table.ensures.ok c.put_table-2.ensures.beside c.in_ok-put_table-2.ensures.ok (g.F.FileBytes.seen c.put_head.new.file) head)
    c.put_head.ensures.head

pub returns-clause-whole : goal.returns-clause-whole
returns-clause-whole g c unnamed bytes may named =
    stored-finds c.args.geometry.now c.args.zones.now c.requires.in_range c.requires.zones (g.F.FileBytes.seen c.put_zeros.new.file) (g.F.FileBytes.seen c.put_blocks.new.file) (g.F.FileBytes.seen c.put_table.new.file) (g.F.FileBytes.seen c.put_table-2.new.file)
    c.in_ok-put_zeros.ensures.zeros c.put_blocks.ensures.beside c.in_ok-put_blocks.ensures.ok c.put_table.ensures.beside c.in_ok-put_table.ensures.ok c.put_table-2.ensures.beside c.in_ok-put_table-2.ensures.ok bytes
    (c.put_head.ensures.left (c.put_table-2.ensures.unnamed (c.put_table.ensures.unnamed (c.put_blocks.ensures.unnamed (c.put_zeros.ensures.unnamed unnamed)))) bytes may named)

pub returns-in_err-put_zeros-clause-whole : goal.returns-in_err-put_zeros-clause-whole
returns-in_err-put_zeros-clause-whole g c unnamed bytes may named = absurd (c.put_zeros.ensures.unnamed unnamed bytes may named)

pub returns-in_err-put_table-clause-whole : goal.returns-in_err-put_table-clause-whole
returns-in_err-put_table-clause-whole g c unnamed bytes may named =
    absurd (c.put_table.ensures.unnamed (c.put_blocks.ensures.unnamed (c.put_zeros.ensures.unnamed unnamed)) bytes may named)
