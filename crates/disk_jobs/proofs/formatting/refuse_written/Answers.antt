use Rattle.std.proofs.Common.{◌≡◌, None, Some}
use Rattle.zone_drive.specs.declared.habit.Habit.TheVariants.{Lazy}
use Rattle.disk_jobs.proofs.FormattingLaws.{holds-drive, holds-empty, unread-held}
use Rattle.disk_jobs.proofs.formatting.refuse_written.Goals as goal

pub returns-in-Ok-None-clause-ok : goal.returns-in-Ok-None-clause-ok
returns-in-Ok-None-clause-ok g c =
    let none : c.in-Ok-None.field-0 ≡ None = rw c.in-Ok-None.is at c.in-Ok-None.field-0-is in
    holds-empty (g.I.Read.remaining c.args.bytes.now) Lazy c.in-Ok.begun c.in-Ok.ensures.ok (rw none at (rw c.in-Ok-None.is at c.find_written-found.ensures.none))

pub returns-in-Ok-Some-clause-err : goal.returns-in-Ok-Some-clause-err
returns-in-Ok-Some-clause-err g c =
    let some : c.in-Ok-Some.field-0 ≡ Some c.in-Ok-Some.written = rw c.in-Ok-Some.is at c.in-Ok-Some.field-0-is in
    holds-drive (g.I.Read.remaining c.args.bytes.now) Lazy c.in-Ok.begun c.find_written-found.new.device.state c.in-Ok-Some.written c.in-Ok.ensures.ok (rw some at (rw c.in-Ok-Some.is at (c.find_written-found.ensures.some c.vouch.ensures)))

pub returns-in-Err-clause-err : goal.returns-in-Err-clause-err
returns-in-Err-clause-err g c = rw c.unread.ensures (unread-held (g.I.Read.remaining c.args.bytes.now) c.in-Err.fault c.in-Err.ensures.err)
