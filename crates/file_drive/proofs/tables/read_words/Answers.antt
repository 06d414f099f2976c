use Rattle.std.proofs.Common.{rules, ◌≡◌, ◌*◌, ◌∙◌, length, drop, arith}
use Rattle.sqlite_disk.specs.Disk.{Holds}
use Rattle.file_drive.specs.Faults.{IsReadFault}
use Rattle.file_drive.proofs.FaultLaws.{err-of, no-memory}
use Rattle.file_drive.proofs.PartLaws.{words-read}
use Rattle.file_drive.proofs.ReadLaws.{room-whole}
use Rattle.file_drive.proofs.tables.read_words.Goals as goal

pub returns-in_err-resize-clause-err : goal.returns-in_err-resize-clause-err
returns-in_err-resize-clause-err g c = no-memory c.from_residual.result IsReadFault tt c.from_residual.ensures.1

pub returns-in_err-read-clause-err : goal.returns-in_err-read-clause-err
returns-in_err-read-clause-err g c = err-of c.from_residual-in_err-read.result _ IsReadFault (λ fault e. rw e tt) c.from_residual-in_err-read.ensures.1

pub returns-in_err-words_of-clause-err : goal.returns-in_err-words_of-clause-err
returns-in_err-words_of-clause-err g c = no-memory c.from_residual-in_err-words_of.result IsReadFault tt c.from_residual-in_err-words_of.ensures.1

pub returns-clause-ok : goal.returns-clause-ok
returns-clause-ok g c =
    let holds : Holds (g.F.FileBytes.seen c.args.file.now) c.args.at c.read.new.room = search rules in
    let long : length c.read.new.room ≡ 8 * c.args.count = omega (arith, c.read.auto.room, c.deref_mut.ensures.len, c.in_ok-resize.ensures.len) in
    let whole = room-whole c.read.new.room (drop (length c.read.new.room) c.resize.new.self.items) c.resize.new.self.len (omega (arith, long, c.in_ok-resize.ensures.len)) in
    (rw (c.deref.ensures.value, whole) at c.in_ok-words_of.ensures)
    ∙ words-read (g.F.FileBytes.seen c.args.file.now) c.read.new.room c.args.at c.args.count long holds
