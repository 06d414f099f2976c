use Rattle.std.proofs.Common.{rules, ◌≡◌, ◌∙◌, ap, arith}
use Rattle.std.specs.Int.{w64, to_le_bytes}
use Rattle.sqlite_disk.specs.Disk.{Holds}
use Rattle.file_drive.specs.Mark.{mark_in}
use Rattle.file_drive.proofs.MarkLaws.{then-ok}
use Rattle.file_drive.proofs.PartLaws.{word-held}
use Rattle.file_drive.proofs.mark.unmark.Goals as goal

pub returns-clause-ok : goal.returns-clause-ok
returns-clause-ok g c =
    let middle = g.F.FileBytes.seen c.write_word.new.self in
    let last = g.F.FileBytes.seen c.sync_or_forget.new.file in
    let put : Holds middle 80 (to_le_bytes w64 0) = search rules in
    let is : mark_in middle ≡ 0 = word-held middle 80 0 (omega arith) put in
    then-ok c.sync_or_forget.result (last ≡ middle) (mark_in last ≡ 0) (λ same. ap mark_in same ∙ is) c.sync_or_forget.ensures.seen
