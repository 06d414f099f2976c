use Rattle.zone_drive.specs.declared.habit.Habit.TheVariants.{Lazy}
use Rattle.tool_jobs.proofs.CheckLaws.{faults-found, not-asked}
use Rattle.tool_jobs.proofs.checking.find_faults.Goals as goal

pub returns-in-Ok-clause-ok : goal.returns-in-Ok-clause-ok
returns-in-Ok-clause-ok g c = faults-found (g.I.Read.remaining c.args.bytes.now) Lazy c.in_ok-drive.field-0 c.in_ok-drive.ensures.ok c.check_drive-checked.new.device.state c.args.blocks c.in-Ok.findings c.in-Ok.ensures.kept (c.in-Ok.ensures.ok c.vouch.ensures)

pub returns-clause-err : goal.returns-clause-err
returns-clause-err g c =
    not-asked (g.I.Read.remaining c.args.bytes.now) Lazy c.in_ok-drive.field-0 c.in_ok-drive.ensures.ok
    c.check_drive-checked.new.device.state c.in-Err.fault c.interrupted.result c.in-Err.ensures.kept c.interrupted.ensures.told (c.in-Err.ensures.err c.vouch.ensures)
