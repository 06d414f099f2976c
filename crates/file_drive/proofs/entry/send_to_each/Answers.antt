use Rattle.std.proofs.Common.{◌≡◌, ◌∙◌, Some, get_or, ap, arith}
use Rattle.file_drive.specs.InFile.{flushed_at}
use Rattle.file_drive.specs.Tables.{next_entry}
use Rattle.file_drive.specs.declared.entry.Entry.{Entry}
use Rattle.file_drive.proofs.ApartLaws.{next-more}
use Rattle.file_drive.proofs.entry.send_to_each.Goals as goal

pub loop-index-preserved : goal.loop-index-preserved
loop-index-preserved c =
    let words = c.args.flushed.now in
    let index = c.loop-index.index in
    let items = c.loop-index.entries.items in
    let action = Some c.args.action in
    let is : c.next.result ≡ next_entry action (flushed_at words index) (get_or items index c.index.result.now) =
    c.next.ensures ∙ ap (λ (last : Entry). next_entry action last c.index.result.now) c.of_word.ensures ∙ ap (next_entry action (flushed_at words index)) c.index.ensures in
    rw (is, c.loop-index.invariant) (next-more action words c.args.entries.now.items index c.index.result.now c.loop-index-test.true (omega (arith, c.loop-index-test.true, c.requires)))
