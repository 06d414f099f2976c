use Rattle.std.proofs.Common.{◌≡◌}
use Rattle.std.proofs.Common.{lit<}
use Rattle.file_drive.specs.Head.{magic}
use Rattle.file_drive.specs.Layout.{word_in}
use Rattle.file_drive.proofs.PartLaws.{word-held}
use Rattle.file_drive.proofs.fresh.put_magic.Goals as goal

pub returns-clause-ok : goal.returns-clause-ok
returns-clause-ok g c =
    let put : word_in (g.F.FileBytes.seen c.write_word.new.self) 0 ≡ magic = word-held (g.F.FileBytes.seen c.write_word.new.self) 0 magic (lit< tt) c.in_ok-write_word.ensures.written in
    rw c.sync.ensures.seen put
