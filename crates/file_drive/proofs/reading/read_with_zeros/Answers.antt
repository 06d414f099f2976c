use Rattle.std.proofs.Common.{rules, ◌≡◌, length, sym, ap, ◌∙◌, arith}
use Rattle.file_drive.specs.Layout.{part}
use Rattle.file_drive.proofs.PartLaws.{part-held}
use Rattle.file_drive.proofs.ReadLaws.{room-filled}
use Rattle.file_drive.proofs.reading.read_with_zeros.Goals as goal

pub returns-clause-ok : goal.returns-clause-ok
returns-clause-ok g c =
    let file = g.F.FileBytes.seen c.args.file.now in
    let total = c.in-Some.ensures.1 in
    let room : length c.read.new.room ≡ c.args.count = omega (arith, c.read.auto.room, c.deref_mut.ensures.len, c.in_ok-resize.ensures.len, total, c.requires.few) in
    let is : part file c.args.at c.args.count ≡ c.read.new.room = ap (part file c.args.at) (sym room) ∙ part-held file c.args.at c.read.new.room (search rules) in
    rw (c.in_ok-resize.ensures.len, c.deref_mut.ensures.value, is)
    (room-filled c.args.into.now.items c.resize.new.self.items c.read.new.room c.in-Some.total c.len-held.result _ c.args.count c.args.len
    (omega arith) c.len-held.ensures total c.requires.few room c.in_ok-resize.ensures.items)
